use Rattle.std.proofs.Common.{ap, ◌∙◌, ◌++◌, codes, arith}
use Rattle.std.specs.Fmt.{styled_decimal}
use Rattle.nm_drill.proofs.DigitLemmas.{eight_digits}
use Rattle.nm_drill.proofs.digits.path_text.Goals as goal

pub returns : goal.returns
returns c = let k = c.args.number in
    c.in_ok-text.ensures.ok ∙ ap (λ digits. codes "new/" ++ digits) (ap (λ spec. styled_decimal spec k) c.laid_out.ensures ∙ eight_digits k (omega arith))
