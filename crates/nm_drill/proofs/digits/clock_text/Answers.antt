use Rattle.std.proofs.Common.{◌/◌, ◌%◌, ◌∷◌, ◌++◌, ap, ap₂, ◌∙◌, arith}
use Rattle.std.specs.Fmt.{styled_decimal}
use Rattle.nm_drill.proofs.DigitLemmas.{two_digits}
use Rattle.nm_drill.proofs.digits.clock_text.Goals as goal

pub returns : goal.returns
returns c = let k = c.args.seconds in
    c.in_ok-text.ensures.ok
    ∙ ap₂ (λ hour rest. hour ++ 58 ∷ rest) (ap (λ spec. styled_decimal spec (k / 3600)) c.laid_out.ensures ∙ two_digits (k / 3600) (omega arith))
    (ap₂ (λ minute second. minute ++ 58 ∷ second) (ap (λ spec. styled_decimal spec (k / 60 % 60)) c.laid_out-2.ensures ∙ two_digits (k / 60 % 60) (omega arith))
    (ap (λ spec. styled_decimal spec (k % 60)) c.laid_out-3.ensures ∙ two_digits (k % 60) (omega arith)))
