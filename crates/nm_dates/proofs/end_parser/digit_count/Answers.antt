use Rattle.std.proofs.Common.{sym, ap, arith, length}
use Rattle.std.specs.Prelude.{not}
use Rattle.std.proofs.lemmas.List.Sums.{position_or_len_is}
use Rattle.nm_dates.specs.Numbers.{is_digit}
use Rattle.nm_dates.proofs.end_parser.digit_count.Goals as goal

pub returns-then-not-is_digit-clause-count : goal.returns-then-not-is_digit-clause-count
returns-then-not-is_digit-clause-count c =
    sym (position_or_len_is (λ byte. not (is_digit byte)) c.args.text.now c.digits.at 0 (omega arith) (λ k h. ap not (c.digits.invariant k h)) (λ _. ap not (sym c.if-not-is_digit.ensures)))

pub returns-clause-count : goal.returns-clause-count
returns-clause-count c =
    sym (position_or_len_is (λ byte. not (is_digit byte)) c.args.text.now (length c.args.text.now) 0 (omega arith)
    (λ k h. ap not (c.digits.invariant k (omega (arith, h)))) (λ h. absurd (omega (arith, h))))
