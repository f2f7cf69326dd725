use Rattle.std.proofs.Common.{sym, ◌∙◌}
use Rattle.nm_text.proofs.PairLemmas.{quoted_end}
use Rattle.nm_text.proofs.quoted_strings.quoted_len.Goals as goal

pub returns-clause-value : goal.returns-clause-value
returns-clause-value c = quoted_end c.args.text.now c.pairs.rest.now (sym c.is_empty.ensures ∙ c.pairs-test.false) c.pairs.invariant.0
