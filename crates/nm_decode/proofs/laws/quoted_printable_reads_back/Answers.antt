use Rattle.std.proofs.Common.{arith}
use Rattle.nm_decode.proofs.QuotedLaw.{soft_break}
use Rattle.nm_decode.proofs.laws.quoted_printable_reads_back.Goals as goal

pub returns : goal.returns
returns c = λ plain k. soft_break plain c.args.bytes.now c.args.after.now k (λ i. omega (arith, c.type_inv.bytes i))
