use Rattle.std.proofs.Common.{◌≡◌, ◌+◌, ◌≤◌, take, length}
use Rattle.std.specs.List.{suffix_len}
use Rattle.nm_base.specs.Bounds.{is_white_space}
use Rattle.nm_text.proofs.white_space.kept_len.Given as goal

abbrev pub invariant-spaces : goal.invariant-spaces
invariant-spaces l = (l.count + suffix_len is_white_space l.bytes ≡ length l.bytes + suffix_len is_white_space (take l.count l.bytes)) × (l.count ≤ length l.bytes)

abbrev pub decreases-spaces : goal.decreases-spaces
decreases-spaces l = l.count
