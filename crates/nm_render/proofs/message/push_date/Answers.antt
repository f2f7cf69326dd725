use Rattle.std.proofs.Common.{◌≡◌, rules, ap, ◌∙◌, ◌++◌, codes, to_z, of_z, w64}
use Rattle.nm_model_answer.specs.Search.{item_line}
use Rattle.nm_model_answer.specs.Summary.{shown_day}
use Rattle.nm_render.proofs.message.push_date.Goals as goal

pub returns : goal.returns
returns c =
    let same : to_z w64 (of_z w64 c.args.date) ≡ c.args.date = search rules in
    c.in_ok-push_line.ensures ∙ ap (λ day. c.args.text.now ++ item_line (codes "date ") day) c.shown_day-day.ensures
    ∙ ap (λ date. c.args.text.now ++ item_line (codes "date ") (shown_day date)) same
