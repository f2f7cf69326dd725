use Rattle.std.proofs.Common.{arith}
use Rattle.nm_decode.proofs.WordLaw.{b_word_back}
use Rattle.nm_decode.proofs.laws.a_b_word_reads_back.Goals as goal

pub returns : goal.returns
returns c = b_word_back c.args.text.now c.utf8.text (λ i. omega (arith, c.type_inv.text i))
