-- What a crash at any moment of the call leaves on the disk: in the head the index after the commits that were acknowledged by that
-- moment, with or without the one that comes next; and the two banks as they were.
-- Cited by `lane_zero_laws`, `nm_session` and `nm_top`.
use Rattle.std.specs.Prelude.{◌≡◌, ℕ, ◌≤◌, Bool, true, false, min, List, [], ◌∷◌, ◌++◌, length, filter}
use Rattle.nm_base.specs.Limits.{max_count}
use Rattle.nm_commit.specs.declared.change.Commit.{Commit}
use Rattle.nm_disk.specs.CrashStates.{MayLeave}
use Rattle.nm_disk.specs.Observed.{Moments, ObservedDisk, bytes_now}
use Rattle.nm_disk.specs.declared.disk.FileNo.{FileNo}
use Rattle.nm_disk.specs.declared.disk.FileNo.TheVariants.{Head, BankA, BankB}
use Rattle.nm_disk.specs.declared.state.DiskState.{DiskState}
use Rattle.nm_model_index.specs.declared.base.Base.{Base}
use Rattle.nm_journal.specs.Journal.{IfKnown}
use Rattle.nm_journal.specs.Moments.{LeavesNothingNew, all_moments}
use Rattle.nm_model_machine.specs.declared.step.Step.{Step}
use Rattle.nm_model_machine.specs.declared.step.Step.TheVariants.{Begin, Append, Show, See, Meet, Reply, Crash, Reopen}
use Rattle.nm_writer.specs.Durable.{HoldsPrefix, NeverFall, acked_by}
use Rattle.nm_replay.specs.StoredIndex.{HoldsIndex}
use Rattle.nm_history.specs.Lines.{begun}

-- a commit is acknowledged
abbrev pub is_append : Step → Bool
is_append (Begin commit) = false
is_append Append = true
is_append Show = false
is_append (See lane) = false
is_append Meet = false
is_append (Reply lane request text) = false
is_append (Crash kept) = false
is_append Reopen = false

-- how many commits the steps acknowledge
abbrev pub appends : List Step → ℕ
appends steps = length (filter is_append steps)

-- among these moments is one of the call, n moments or more after the disk's first, at which no write was pending
pub record HasSettled (entered : ℕ) (moments : List DiskState) : Type 0 where
  pub later : List DiskState
  pub settled : DiskState
  pub earlier : List DiskState
  pub order : moments ≡ later ++ settled ∷ earlier
  pub in_call : entered ≤ length earlier
  pub quiet : settled.written ≡ []

-- A moment of the call, by its number: where writes were pending when the call began, one since a sync first went well.
pub record IsMoment (before now : Moments) (state : DiskState) (number : ℕ) : Type 0 where
  pub newer : List DiskState
  pub older : List DiskState
  pub order : all_moments now ≡ newer ++ state ∷ older
  pub number_is : number ≡ length older
  pub since : HasSettled (length before.past) (state ∷ older)

-- whatever a crash at a moment of the call leaves holds the index after the first commits: those acknowledged by then, and at most one
-- more
abbrev pub KeepsCommits : List Commit → List ℕ → Moments → Moments → Type 0
KeepsCommits commits acked before now =
    (opening : Base) (state : DiskState) (number : ℕ) (bytes : List ℕ) → HoldsIndex (bytes_now before Head) opening
    → IsMoment before now state number → MayLeave state Head bytes → HoldsPrefix opening commits (min number max_count) (acked_by (min number max_count) acked) bytes

-- The file is as it was when the call began: every moment of the call leaves of it only what might have been left then. Where no write was
-- pending then, and else since a sync first went well, that is what a read gave then; and so is what a read gives after the call.
pub record IsUntouched (file : FileNo) (before now : Moments) : Type 0 where
  pub leaves : LeavesNothingNew file before now
  pub settled : (state : DiskState) (number : ℕ) (bytes : List ℕ) → IsMoment before now state number → MayLeave state file bytes → bytes ≡ bytes_now before file
  pub reads : HasSettled (length before.past) (all_moments now) → bytes_now now file ≡ bytes_now before file

-- of the three files the head keeps the commits, and the banks are not touched
pub record KeepsDisk (commits : List Commit) (acked : List ℕ) (before now : Moments) : Type 0 where
  pub head : KeepsCommits commits acked before now
  pub bank_a : IsUntouched BankA before now
  pub bank_b : IsUntouched BankB before now

-- Where the disk held an index when the call began, every moment of the call leaves its acknowledged commits on it; its banks stay as they
-- were. Each of these commits has its clock; clocks never fall, and end at that of the return.
pub record CrashPrefix (entry after : ObservedDisk) (steps : List Step) (acked : List ℕ) : Type 0 where
  pub every_moment : IfKnown entry.told after.told (KeepsDisk (begun steps) acked)
  pub one_each : length acked ≡ appends steps
  pub clocks : NeverFall 0 acked after.clock
