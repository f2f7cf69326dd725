use Rattle.std.proofs.Common.{◌≡◌, rules, ap, ◌∙◌, ◌++◌, to_z, of_z, w64}
use Rattle.nm_model_answer.specs.Summary.{shown_day}
use Rattle.nm_render.proofs.summary.push_day.Goals as goal

pub returns : goal.returns
returns c =
    let same : to_z w64 (of_z w64 c.args.date) ≡ c.args.date = search rules in
    c.in_ok-extend_from_slice.ensures.ok ∙ ap (λ day. c.args.line.now ++ day) c.shown_day-day.ensures ∙ ap (λ date. c.args.line.now ++ shown_day date) same
