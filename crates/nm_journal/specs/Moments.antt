-- What a crash leaves of a file at the moments that a call goes through.
-- Cited by `append`, `journal`, `nm_writer` and others.
use Rattle.std.specs.Prelude.{◌≡◌, ◌⊎◌, ℕ, ◌≤◌, false, List, ◌∷◌, ◌++◌}
use Rattle.std.specs.List.{AllByRecursion}
use Rattle.nm_base.specs.Limits.{max_count}
use Rattle.nm_disk.specs.declared.disk.FileNo.{FileNo}
use Rattle.nm_disk.specs.declared.state.DiskState.{DiskState}
use Rattle.nm_disk.specs.Calls.{MayFail, synced}
use Rattle.nm_disk.specs.CrashStates.{MayLeave, same_file}
use Rattle.nm_disk.specs.Observed.{Moments, later}

-- the states at all moments so far, the present one first
abbrev pub all_moments : Moments → List DiskState
all_moments moments = moments.present ∷ moments.past

-- a crash leaves only bytes of the file that are so
abbrev pub LeavesOnly : FileNo → (List ℕ → Type 0) → DiskState → Type 0
LeavesOnly file holds state = (bytes : List ℕ) → MayLeave state file bytes → holds bytes

-- the disk went on from old to new through moments at each of which a crash leaves only what is so
pub record GoesThrough (file : FileNo) (holds : List ℕ → Type 0) (old new : Moments) : Type 0 where
  pub states : List DiskState
  pub each : AllByRecursion (LeavesOnly file holds) states
  pub are : all_moments new ≡ states ++ all_moments old

-- at every moment from old to new a crash leaves of the file only what it might have left before
abbrev pub LeavesNothingNew : FileNo → Moments → Moments → Type 0
LeavesNothingNew file old new = GoesThrough file (MayLeave old.present file) old new

-- no file but this one was written
abbrev pub TouchesOnly : FileNo → Moments → Moments → Type 0
TouchesOnly file old new = (other : FileNo) → same_file file other ≡ false → LeavesNothingNew other old new

-- one moment has passed, in which the disk was synced
abbrev pub IsSynced : Moments → Moments → Type 0
IsSynced old new = new ≡ later old (synced old.present)

-- The disk was synced once, or that failed, and nothing is written.
abbrev pub SyncsOrFails : Moments → Moments → Type 0
SyncsOrFails old new = MayFail old new old.present.written ⊎ IsSynced old new

-- a clock of 64 bits never falls, and stays one
abbrev pub NeverFalls : ℕ → ℕ → Type 0
NeverFalls before now = before ≤ max_count → (before ≤ now) × (now ≤ max_count)
