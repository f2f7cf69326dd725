-- What each call of a disk makes of what is observed of it. Cited by `disk`, `mem_disk`, `nm_journal` and others.
use Rattle.std.specs.Prelude.{◌≡◌, ◌⊎◌, ℕ, List, [], ◌∷◌, length, Option, None, Some, Result, MatchResult}
use Rattle.nm_base.specs.Limits.{one_more}
use Rattle.nm_base.specs.declared.memory.Failed.{Failed}
use Rattle.nm_faults.specs.Faults.{HasCause}
use Rattle.nm_disk.specs.declared.state.DiskState.{DiskState}
use Rattle.nm_disk.specs.declared.state.Range.{Range}
use Rattle.nm_disk.specs.declared.disk.FileNo.{FileNo}
use Rattle.nm_disk.specs.CrashStates.{bytes_of, overwritten, with_bytes}
use Rattle.nm_disk.specs.Observed.{Moments, ObservedDisk, later}

-- A disk goes on telling, and where it tells its moments are so.
abbrev pub GoesOn : (Moments → Moments → Type 0) → Option Moments → Option Moments → Type 0
GoesOn step None None = Unit {0}
GoesOn step None (Some new) = ⊥
GoesOn step (Some old) None = ⊥
GoesOn step (Some old) (Some new) = step old new

-- a range of n bytes
abbrev pub range_of : FileNo → ℕ → ℕ → Range
range_of file at len = record { file = file; start = at; len = len }

-- after a write
abbrev pub wrote : DiskState → FileNo → ℕ → List ℕ → DiskState
wrote state file at bytes = record {
  now = with_bytes state.now file (overwritten (bytes_of file state.now) at bytes);
  synced = state.synced;
  written = range_of file at (length bytes) ∷ state.written;
}

-- after a sync
abbrev pub synced : DiskState → DiskState
synced state = record { now = state.now; synced = state.now; written = [] }

-- After a failed call the ranges that were written may hold anything, so a read may give any crash state. One that
-- found no memory may have left all as it was, and then no moment has passed.
abbrev pub MayFail : Moments → Moments → List Range → Type 0
MayFail old new written =
    (new ≡ old) ⊎ ((state : DiskState) × (new ≡ later old state) × (state.synced ≡ old.present.synced) × (state.written ≡ written))

-- a moment has passed, or after a failure perhaps none
abbrev pub Ticks : {T : Type 0} → ℕ → ℕ → Result T Failed → Type 0
Ticks before now result =
    MatchResult result (λ _. now ≡ one_more before) (λ _. (now ≡ before) ⊎ (now ≡ one_more before))

-- a call that neither writes nor syncs
pub record Looks {T : Type 0} (old new : ObservedDisk) (result : Result T Failed) : Type 0 where
  pub told : new.told ≡ old.told
  pub clock : new.clock ≡ old.clock
  pub cause : HasCause old.faults new.faults result

-- An opening: the disk is then what is at the path, or after a failure what it was. No moment passes.
pub record OpensDisk {T : Type 0} (old : ObservedDisk) (there : Option Moments) (new : ObservedDisk) (result : Result T Failed) : Type 0 where
  pub told : MatchResult result (λ _. new.told ≡ there) (λ _. new.told ≡ old.told)
  pub clock : new.clock ≡ old.clock
  pub cause : HasCause old.faults new.faults result

pub record Writes {T : Type 0} (old new : ObservedDisk) (result : Result T Failed) (file : FileNo) (at : ℕ) (bytes : List ℕ) : Type 0 where
  pub told : GoesOn
      (λ old new. MatchResult result
      (λ _. new ≡ later old (wrote old.present file at bytes))
      (λ _. MayFail old new (range_of file at (length bytes) ∷ old.present.written)))
      old.told new.told
  pub clock : Ticks old.clock new.clock result
  pub cause : HasCause old.faults new.faults result

pub record Syncs {T : Type 0} (old new : ObservedDisk) (result : Result T Failed) : Type 0 where
  pub told : GoesOn
      (λ old new. MatchResult result
      (λ _. new ≡ later old (synced old.present))
      (λ _. MayFail old new old.present.written))
      old.told new.told
  pub clock : Ticks old.clock new.clock result
  pub cause : HasCause old.faults new.faults result
