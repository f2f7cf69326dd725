use Rattle.std.proofs.Common.{◌≡◌, ◌≤◌, length, drop}
use Rattle.nm_disk.specs.Memory.{filled}
use Rattle.nm_disk.proofs.crash.fill_all.Given as goal

abbrev pub invariant-fills : goal.invariant-fills
invariant-fills l = record {
  filled : l.files ≡ filled l.byte l.fn.synced (drop l.left l.written);
  within : l.left ≤ length l.written;
}

abbrev pub decreases-fills : goal.decreases-fills
decreases-fills l = l.left
