-- With nothing in its way a call runs to its end: running out of memory alone may stop it.
-- Cited by `laws` and `nm_top`.
use Rattle.std.specs.Prelude.{◌≡◌, ◌≢◌, ◌⊎◌, ℕ, ◌<◌, ◌≤◌, Bool, true, false, List, [], length, None, Some, IfSome}
use Rattle.std.specs.Str.Lines.{lines}
use Rattle.nm_base.specs.Limits.{max_count, max_input_bytes, max_lines}
use Rattle.nm_disk.specs.Observed.{bytes_now}
use Rattle.nm_disk.specs.declared.disk.FileNo.TheVariants.{Head}
use Rattle.nm_model_index.specs.declared.base.Base.{Base}
use Rattle.nm_replay.specs.StoredIndex.{HoldsWithin}
use Rattle.nm_history.specs.Call.{Call, call_fault, call_lines, call_reads, input_fault, is_session}
use Rattle.nm_history.specs.Status.{first_fault, single_status}

-- the count did not rise, and is not at its type's end
pub record StaysBelow (old new : ℕ) : Type 0 where
  pub same : new ≡ old
  pub room : old < max_count

-- no device failed in the call, and no count is at its type's end
pub record NoFault (call : Call) : Type 0 where
  pub mail : StaysBelow call.entry.mail.faults call.after.mail.faults
  pub disk : StaysBelow call.entry.disk.faults call.after.disk.faults
  pub input : StaysBelow call.entry.input.faults call.after.input.faults
  pub out : StaysBelow call.entry.out.faults call.after.out.faults

-- the input tells these bytes, they are within the limits, and no line of them is refused
pub record IsWithin (input : List ℕ) (call : Call) : Type 0 where
  pub told : call.entry.input.bytes ≡ Some input
  pub bytes : length input ≤ max_input_bytes
  pub few : is_session call.words ≡ true → length (lines input) ≤ max_lines
  pub lines_are : input_fault call.words input ≡ None

-- the disk's bytes are known, and they hold an index that keeps to the limits all the way
pub record Opens (call : Call) : Type 0 where
  pub index : Base
  pub holds : IfSome call.entry.disk.told (λ moments. HoldsWithin (bytes_now moments Head) index)
  pub told : call.entry.disk.told ≢ None

-- what a call asks of its input: where it reads it that it is within the limits, and else nothing
abbrev pub MayRead : Bool → List ℕ → Call → Type 0
MayRead true input call = IsWithin input call
MayRead false input call = input ≡ []

-- A session ends with status 0; a single command with that of its outcome, which is no fault of a device.
abbrev pub EndsWell : Bool → Call → Type 0
EndsWell true call = call.done.status ≡ 0
EndsWell false call = (call.done.status ≡ single_status call.done.log.lines false) × (first_fault call.done.log.lines ≡ None)

-- every line of the call has its log
pub record IsFinished (input : List ℕ) (call : Call) : Type 0 where
  pub ends : EndsWell (is_session call.words) call
  pub each : length call.done.log.lines ≡ length (call_lines call.words input)

-- Where the words are right, no device failed, the input is within the limits and the disk holds an index, the lines are
-- answered to their end, or memory ran out.
abbrev pub IsComplete : Call → Type 0
IsComplete call =
    (input : List ℕ) → call_fault call.words ≡ None → NoFault call → MayRead (call_reads call.words) input call → Opens call
    → IsFinished input call ⊎ (call.done.status ≡ 7)
