use Rattle.std.proofs.Common.{arith}
use Rattle.nm_drill.proofs.laws.a_group_has_five_mails.Goals as goal

pub returns : goal.returns
returns c g k from = ((λ group. (omega arith, omega arith)), (λ bounds. omega (arith, bounds.0, bounds.1)))
