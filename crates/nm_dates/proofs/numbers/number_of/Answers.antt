use Rattle.std.proofs.Common.{arith}
use Rattle.nm_dates.proofs.NumberLemmas.{power_of_ten}
use Rattle.nm_dates.proofs.numbers.number_of.Goals as goal

pub with_digit-number-requires-clause-number : goal.with_digit-number-requires-clause-number
with_digit-number-requires-clause-number c = omega (arith, c.digits.invariant.1, c.requires.few, power_of_ten c.digits.digit-index (omega arith))
