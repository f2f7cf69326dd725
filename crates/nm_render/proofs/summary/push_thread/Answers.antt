use Rattle.std.proofs.Common.{◌≡◌, rules, ap, ◌∙◌, ◌++◌, to_z, of_z, w64}
use Rattle.nm_model_answer.specs.Summary.{name_told, shown_day}
use Rattle.nm_render.proofs.ShowTextLemmas.{two_puts}
use Rattle.nm_render.proofs.summary.push_thread.Goals as goal

pub returns : goal.returns
returns c =
    let date = c.args.summary.now.date in
    let same : to_z w64 (of_z w64 date) ≡ date = search rules in
    two_puts c.args.line.now (name_told c.args.summary.now) (shown_day date) c.push_name.new.line c.push_day.new.line c.in_ok-push_name.ensures
    (c.in_ok-push_day.ensures ∙ ap (λ day. c.push_name.new.line ++ shown_day day) same)
