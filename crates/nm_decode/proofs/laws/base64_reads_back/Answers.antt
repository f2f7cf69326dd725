use Rattle.std.proofs.Common.{arith}
use Rattle.nm_decode.proofs.Base64Law.{base64_back}
use Rattle.nm_decode.proofs.laws.base64_reads_back.Goals as goal

pub returns : goal.returns
returns c = base64_back c.args.bytes.now (λ i. omega (arith, c.type_inv.bytes i))
