use Rattle.std.proofs.Common.{ap, subst, sym, ◌∙◌, arith, IsUtf8}
use Rattle.std.proofs.lemmas.List.{take_all}
use Rattle.nm_model_answer.specs.Summary.{shown}
use Rattle.nm_render.proofs.Utf8Lemmas.{shown_utf8}
use Rattle.nm_render.proofs.shown.shown.Goals as goal

pub returns-clause-utf8 : goal.returns-clause-utf8
returns-clause-utf8 c u =
    let text = c.args.text.now in
    let value = c.bytes.invariant ∙ ap shown (take_all c.bytes.byte-index text (omega (arith, c.bytes-test.false, c.bytes.auto.byte-index-end))) in
    subst IsUtf8 (sym value) (shown_utf8 text u)
