use Rattle.std.proofs.Common.{◌≡◌, ◌+◌, ◌-◌, ◌≤◌, drop, length}
use Rattle.std.specs.List.{prefix_len}
use Rattle.nm_base.specs.Bounds.{is_white_space}
use Rattle.nm_text.proofs.white_space.space_len.Given as goal

abbrev pub invariant-spaces : goal.invariant-spaces
invariant-spaces l = (l.count + prefix_len is_white_space (drop l.count l.bytes) ≡ prefix_len is_white_space l.bytes) × (l.count ≤ length l.bytes)

abbrev pub decreases-spaces : goal.decreases-spaces
decreases-spaces l = length l.bytes - l.count
