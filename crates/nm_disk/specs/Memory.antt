-- A disk in memory: its moments are what its calls, one after the other, made of the files that it began with.
-- Cited by `event`, `mem_disk`, `state` and others.
use Rattle.std.specs.Prelude.{◌≡◌, ◌⊎◌, ℕ, ◌+◌, ◌==◌, min, Bool, true, false, ◌&&◌, ◌||◌, nat_lt, List, [], ◌∷◌, ◌++◌, length, take, replicate, fold, Option, None, Some, Result, MatchResult, MatchBool, if◌then◌else◌}
use Rattle.nm_base.specs.Limits.{max_count, one_more}
use Rattle.nm_base.specs.declared.memory.Failed.{Failed}
use Rattle.nm_faults.specs.Calls.{CallCounts, counted, is_next_listed}
use Rattle.nm_disk.specs.declared.disk.FileNo.{FileNo}
use Rattle.nm_disk.specs.declared.state.Range.{Range}
use Rattle.nm_disk.specs.declared.crash.Pick.{Pick}
use Rattle.nm_disk.specs.declared.crash.Pick.TheVariants.{Old, New, Fill}
use Rattle.nm_disk.specs.declared.event.Deed.{Deed}
use Rattle.nm_disk.specs.declared.event.Deed.TheVariants.{Write, FailedWrite, Sync, FailedSync}
use Rattle.nm_disk.specs.declared.event.Event.{Event}
use Rattle.nm_disk.specs.declared.files.Files.{Files}
use Rattle.nm_disk.specs.declared.state.DiskState.{DiskState}
use Rattle.nm_disk.specs.Calls.{range_of, synced, wrote}
use Rattle.nm_disk.specs.CrashStates.{bytes_of, overwritten, with_bytes}
use Rattle.nm_disk.specs.Observed.{Moments, ObservedDisk, later}

-- the files at the making, what the calls did since, how many calls there were, those since the last list of failing ones,
-- how many listed calls were met in all, and how many calls found no memory
pub record MemState : Type 0 where
  pub start : Files
  pub events : List Event
  pub made : ℕ
  pub calls : CallCounts
  pub faults : ℕ
  pub out_of_memory : ℕ

-- the state that a deed leaves; a read gives only the first bytes of a write that failed
abbrev pub after_deed : DiskState → Deed → DiskState
after_deed state (Write file at bytes) = wrote state file at bytes
after_deed state (FailedWrite file at bytes taken) = record {
  now = with_bytes state.now file (overwritten (bytes_of file state.now) at (take taken bytes));
  synced = state.synced;
  written = range_of file at (length bytes) ∷ state.written;
}
after_deed state Sync = synced state
after_deed state FailedSync = state

-- the disk at its making: all is on it
abbrev pub fresh_state : Files → DiskState
fresh_state files = record { now = files; synced = files; written = [] }

abbrev pub after_event : Moments → Event → Moments
after_event moments event = later moments (after_deed moments.present event.deed)

abbrev pub moments_of : Files → List Event → Moments
moments_of start events = fold after_event (record { present = fresh_state start; past = [] }) events

-- its moments are known; its faults are the listed calls that it met, and those that found no memory
abbrev pub observed_mem : MemState → ObservedDisk
observed_mem disk = record {
  told = Some (moments_of disk.start disk.events);
  clock = min (length disk.events) max_count;
  faults = min (disk.faults + disk.out_of_memory) max_count;
}

-- the deed writes
abbrev pub writes : Deed → Bool
writes (Write file at bytes) = true
writes (FailedWrite file at bytes taken) = true
writes Sync = false
writes FailedSync = false

-- At a crash within this call the event has begun: it is of a call before, or this call writes.
abbrev pub is_begun : ℕ → Event → Bool
is_begun call event = nat_lt event.call call || (event.call == call && writes event.deed)

-- the disk as a crash within this call finds it
abbrev pub stopped_after : Files → List Event → ℕ → DiskState
stopped_after start events call =
    fold (λ state event. if is_begun call event then after_deed state event.deed else state) (fresh_state start) events

abbrev pub stopped : MemState → ℕ → DiskState
stopped disk call = stopped_after disk.start disk.events call

-- the files as they were synced, with this byte in each place that was written since
abbrev pub filled : ℕ → Files → List Range → Files
filled byte synced [] = synced
filled byte synced (range ∷ ranges) =
    let files = filled byte synced ranges in
    with_bytes files range.file (overwritten (bytes_of range.file files) range.start (replicate range.len byte))

-- the crash state that is picked
abbrev pub picked : Pick → DiskState → Files
picked Old state = state.synced
picked New state = state.now
picked (Fill byte) state = filled byte state.synced state.written

-- a disk that was just made of these files
abbrev pub fresh_disk : Files → MemState
fresh_disk files = record {
  start = files;
  events = [];
  made = 0;
  calls = record { failing = []; made = 0; faults = 0 };
  faults = 0;
  out_of_memory = 0;
}

-- what a read gives, which is as at the making where nothing was written
abbrev pub files_now : Files → Option Files → Files
files_now start None = start
files_now start (Some now) = now

-- one call more
abbrev pub called : MemState → MemState
called disk = record disk {
  made = one_more disk.made;
  calls = counted disk.calls;
  faults = if is_next_listed disk.calls then one_more disk.faults else disk.faults;
}

-- what the present call did
abbrev pub noted : MemState → Deed → MemState
noted disk deed = record disk { events = disk.events ++ record { call = disk.made; deed = deed } ∷ [] }

-- one call more that found no memory
abbrev pub starved : MemState → MemState
starved disk = record disk { out_of_memory = one_more disk.out_of_memory }

-- the deed writes these bytes over what a read gives
abbrev pub LeavesFiles : Deed → FileNo → ℕ → List ℕ → Type 0
LeavesFiles deed file at taken =
    (state : DiskState) → (after_deed state deed).now ≡ with_bytes state.now file (overwritten (bytes_of file state.now) at taken)

-- the deed changes nothing that a read gives
abbrev pub KeepsFiles : Deed → Type 0
KeepsFiles deed = (state : DiskState) → (after_deed state deed).now ≡ state.now

-- A call that was not listed did `good`, or found no memory and did nothing; one that was listed did `bad`, or nothing
-- where memory ran out.
abbrev pub IsNoted : {T : Type 0} → MemState → MemState → Result T Failed → Deed → Deed → Type 0
IsNoted old new result good bad =
    MatchResult result
    (λ _. (is_next_listed old.calls ≡ false) × (new ≡ noted (called old) good))
    (λ _. MatchBool (is_next_listed old.calls) ((new ≡ noted (called old) bad) ⊎ (new ≡ called old)) (new ≡ starved (called old)))
