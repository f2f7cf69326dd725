use Rattle.std.proofs.Common.{◌≡◌, ◌+◌, ◌≤◌, length, take}
use Rattle.std.specs.Prelude.{◌==◌, not}
use Rattle.std.specs.List.{suffix_len}
use Rattle.nm_maildir.proofs.names.name_start.Given as goal

abbrev pub invariant-back : goal.invariant-back
invariant-back l =
    (l.start ≤ length l.bytes) × (l.start + suffix_len (λ b. not (b == 47)) l.bytes ≡ length l.bytes + suffix_len (λ b. not (b == 47)) (take l.start l.bytes))

abbrev pub decreases-back : goal.decreases-back
decreases-back l = l.start
