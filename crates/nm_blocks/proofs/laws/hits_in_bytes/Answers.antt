use Rattle.std.proofs.Common.{refl}
use Rattle.nm_blocks.specs.Numbers.{groups, number_bytes}
use Rattle.nm_blocks.proofs.laws.hits_in_bytes.Goals as goal

pub returns : goal.returns
unfolding number_bytes groups
returns c = refl
