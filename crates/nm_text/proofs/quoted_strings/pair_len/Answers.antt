use Rattle.std.proofs.Common.{arith}
use Rattle.nm_text.proofs.PairLemmas.{pair_byte, pair_escaped, pair_last}
use Rattle.nm_text.proofs.quoted_strings.pair_len.Goals as goal

pub returns-then-text-ne92-clause-first : goal.returns-then-text-ne92-clause-first
returns-then-text-ne92-clause-first c = pair_byte c.args.text.now c.requires c.if-text-ne92.true

pub returns-then-text-eq1-clause-first : goal.returns-then-text-eq1-clause-first
returns-then-text-eq1-clause-first c = pair_last c.args.text.now c.if-text-eq1.true

pub returns-clause-first : goal.returns-clause-first
returns-clause-first c = pair_escaped c.args.text.now (omega arith) c.if-text-ne92.false
