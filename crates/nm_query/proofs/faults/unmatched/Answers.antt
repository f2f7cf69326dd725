use Rattle.std.proofs.Common.{arith}
use Rattle.nm_query.proofs.ParenLemmas.{told-unmatched}
use Rattle.nm_query.proofs.faults.unmatched.Goals as goal

pub tokens-init : goal.tokens-init
tokens-init c = (omega arith, told-unmatched c.args.tokens.now)
