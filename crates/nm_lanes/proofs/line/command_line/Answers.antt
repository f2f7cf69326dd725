use Rattle.std.proofs.Common.{◌≡◌, Bool, true, false, [], refl, sym, ◌∙◌, ap, cond}
use Rattle.std.specs.Str.{is_utf8}
use Rattle.std.proofs.lemmas.Result.{IfOk-weaker}
use Rattle.std.proofs.lemmas.Str.{is_utf8-from_IsUtf8, IsUtf8-from_is_utf8}
use Rattle.nm_base.specs.declared.refusals.UsageKind.TheVariants.{Utf8}
use Rattle.nm_lanes.specs.Lines.{flawed, line_of_words}
use Rattle.nm_lanes.specs.Words.{words_of}
use Rattle.nm_lanes.proofs.line.command_line.Goals as goal

is_false : (b : Bool) → (b ≡ true → ⊥) → b ≡ false
is_false true h = absurd (h refl)
is_false false h = refl

pub returns-in-Ok : goal.returns-in-Ok
returns-in-Ok c =
    let text = is_utf8-from_IsUtf8 c.args.line.now c.in-Ok.ensures.cases.1 in
    IfOk-weaker c.text_line.result _ _
    (λ read is. is ∙ (ap (λ t. line_of_words c.args.number (words_of t) []) c.in-Ok.ensures.cases.0
    ∙ sym (ap (λ b. cond b (line_of_words c.args.number (words_of c.args.line.now) []) (flawed c.args.number Utf8 [] [])) text))) c.text_line.ensures

pub returns-in-Err : goal.returns-in-Err
returns-in-Err c =
    let no_text = is_false (is_utf8 c.args.line.now) (λ text. c.in-Err.ensures.cases.0 (IsUtf8-from_is_utf8 c.args.line.now text)) in
    c.flawed.ensures ∙ (ap (λ words. flawed c.args.number Utf8 words []) c.new.ensures
    ∙ sym (ap (λ b. cond b (line_of_words c.args.number (words_of c.args.line.now) []) (flawed c.args.number Utf8 [] [])) no_text))
