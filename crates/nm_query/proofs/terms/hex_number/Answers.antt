use Rattle.std.proofs.Common.{arith}
use Rattle.nm_query.proofs.HexLemmas.{power_of_sixteen}
use Rattle.nm_query.proofs.terms.hex_number.Goals as goal

pub with_hex_digit-number-requires-clause-number : goal.with_hex_digit-number-requires-clause-number
with_hex_digit-number-requires-clause-number c = omega (arith, c.digits.invariant.1, c.requires.few, power_of_sixteen c.digits.digit-index (omega arith))
