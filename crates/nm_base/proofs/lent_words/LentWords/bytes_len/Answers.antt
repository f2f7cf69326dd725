use Rattle.std.proofs.Common.{arith, ap, length}
use Rattle.nm_base.proofs.LentLemmas.{lent-length}
use Rattle.nm_base.proofs.lent_words.LentWords.bytes_len.Goals as goal

pub overflow_mul-result : goal.overflow_mul-result
overflow_mul-result c = omega (arith, lent-length c.args.self.now, ap length c.bytes.ensures.bytes, c.self.invariant.count_is, ap length c.self.view_is)

pub overflow_sub-result : goal.overflow_sub-result
overflow_sub-result c = omega (arith, lent-length c.args.self.now, ap length c.bytes.ensures.bytes, c.self.invariant.count_is, ap length c.self.view_is)

pub returns-clause-len : goal.returns-clause-len
returns-clause-len c = omega (arith, lent-length c.args.self.now, ap length c.bytes.ensures.bytes, c.self.invariant.count_is, ap length c.self.view_is)
