use Rattle.std.proofs.Common.{arith}
use Rattle.nm_decode.proofs.WordLaw.{q_word_back}
use Rattle.nm_decode.proofs.laws.a_q_word_reads_back.Goals as goal

pub returns : goal.returns
returns c = λ plain k. q_word_back plain c.args.text.now k c.utf8.text (λ i. omega (arith, c.type_inv.text i))
