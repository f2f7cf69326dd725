use Rattle.std.proofs.Common.{◌≡◌, map, ap, ◌∙◌, rules}
use Rattle.std.specs.List.{flat_map}
use Rattle.nm_model_answer.specs.Search.{part_asked, threads_of}
use Rattle.nm_model_answer.specs.Summary.{members_of, summary_by, summary_line, summary_of}
use Rattle.nm_render.specs.Groups.{listed}
use Rattle.nm_render.proofs.GroupLemmas.{told_within}
use Rattle.nm_render.proofs.summary.summary_lines.Goals as goal

pub returns : goal.returns
returns c =
    let index = c.args.snapshot.now in
    let ids = c.args.ids.now in
    let matched = c.in_ok-matched.matched in
    let asked = c.as_slice-names.result.now in
    let names : asked ≡ part_asked c.args.ask.now (threads_of index ids) = search rules in
    c.in_ok-lines.ensures
    ∙ told_within (λ name. summary_line (summary_by index name (listed matched name) (members_of index name))) (summary_of index ids) summary_line asked
    (λ name among. ap (λ these. summary_line (summary_by index name these (members_of index name))) (c.in_ok-matched.ensures name among))
    ∙ ap (λ told. flat_map summary_line (map (summary_of index ids) told)) names
