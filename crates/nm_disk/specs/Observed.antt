-- What is observed of a disk. Cited by `disk`, `mem_disk`, `nm_journal` and others.
use Rattle.std.specs.Prelude.{ℕ, List, ◌∷◌, Option, take, drop}
use Rattle.nm_disk.specs.declared.state.DiskState.{DiskState}
use Rattle.nm_disk.specs.declared.disk.FileNo.{FileNo}
use Rattle.nm_disk.specs.CrashStates.{bytes_of}

-- the disk at the present moment, and at each moment before, the last of them first
pub record Moments : Type 0 where
  pub present : DiskState
  pub past : List DiskState

-- the moments, where they are known, the number of the present one, and how often the disk has failed
pub record ObservedDisk : Type 0 where
  pub told : Option Moments
  pub clock : ℕ
  pub faults : ℕ

-- what a read gives now
abbrev pub bytes_now : Moments → FileNo → List ℕ
bytes_now moments file = bytes_of file moments.present.now

-- at most n of the bytes from the place on
abbrev pub front_from : List ℕ → ℕ → ℕ → List ℕ
front_from bytes at max = take max (drop at bytes)

-- one moment later, in this state
abbrev pub later : Moments → DiskState → Moments
later moments state = record { present = state; past = moments.present ∷ moments.past }
