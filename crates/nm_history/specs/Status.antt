-- The status of a call. Cited by `lane_zero_laws` and `nm_top`.
use Rattle.std.specs.Prelude.{◌≡◌, ℕ, Bool, true, false, List, [], ◌∷◌, Option, None, Some, if◌then◌else◌}
use Rattle.std.specs.List.{list_any}
use Rattle.nm_log.specs.Refusals.{refused_status}
use Rattle.nm_log.specs.Replies.{is_well, status_of}
use Rattle.nm_log.specs.declared.log.LineLog.{LineLog}
use Rattle.nm_log.specs.declared.outcome.Outcome.{Outcome}
use Rattle.nm_log.specs.declared.outcome.Outcome.TheVariants as outcomes
use Rattle.nm_history.specs.Call.{Call, Ending, Ran, Refused, Unasked, is_session}

-- the status of the device that failed in a line
abbrev pub fault_of : Outcome → Option ℕ
fault_of outcomes.Ok = None
fault_of (outcomes.Usage word kind) = None
fault_of (outcomes.BadQuery at kind) = None
fault_of (outcomes.BadDate at) = None
fault_of (outcomes.BadLine line kind) = None
fault_of (outcomes.NotOne found) = None
fault_of (outcomes.Gone path) = None
fault_of outcomes.MailFault = Some 3
fault_of outcomes.DiskFault = Some 4
fault_of (outcomes.Closed fault) = None
fault_of (outcomes.Limit limit) = None
fault_of outcomes.NoMemory = None

-- this fault, or where there is none the other
abbrev pub fault_or : Option ℕ → Option ℕ → Option ℕ
fault_or None other = other
fault_or (Some status) other = Some status

-- the first fault of a device in the lines
abbrev pub first_fault : List LineLog → Option ℕ
first_fault [] = None
first_fault (log ∷ logs) = fault_or (fault_of log.outcome) (first_fault logs)

-- the output fails when the lines were run
abbrev pub write_fault : Bool → Option ℕ
write_fault out_failed = if out_failed then Some 6 else None

-- the line ended out of memory
abbrev pub is_out_of_memory : Outcome → Bool
is_out_of_memory outcomes.Ok = false
is_out_of_memory (outcomes.Usage word kind) = false
is_out_of_memory (outcomes.BadQuery at kind) = false
is_out_of_memory (outcomes.BadDate at) = false
is_out_of_memory (outcomes.BadLine line kind) = false
is_out_of_memory (outcomes.NotOne found) = false
is_out_of_memory (outcomes.Gone path) = false
is_out_of_memory outcomes.MailFault = false
is_out_of_memory outcomes.DiskFault = false
is_out_of_memory (outcomes.Closed fault) = false
is_out_of_memory (outcomes.Limit limit) = false
is_out_of_memory outcomes.NoMemory = true

abbrev pub any_is_out_of_memory : List LineLog → Bool
any_is_out_of_memory logs = list_any (λ log. is_out_of_memory log.outcome) logs

-- the status of a fault, or where there is none 7 for a line that ended out of memory, else 0
abbrev pub status_of_fault : Option ℕ → Bool → ℕ
status_of_fault (Some status) out_of_memory = status
status_of_fault None out_of_memory = if out_of_memory then 7 else 0

-- The first fault of a device, else a line that ended out of memory.
abbrev pub session_status : List LineLog → Bool → ℕ
session_status logs out_failed = status_of_fault (fault_or (first_fault logs) (write_fault out_failed)) (any_is_out_of_memory logs)

-- The status of a single command: that of its outcome, and where it went well and the output failed 6.
abbrev pub single_status : List LineLog → Bool → ℕ
single_status [] out_failed = 7
single_status (log ∷ more) out_failed = if is_well log.outcome then (if out_failed then 6 else 0) else status_of log.outcome

-- the status of a session, or of a single command
abbrev pub status_by : Bool → List LineLog → Bool → ℕ
status_by true logs out_failed = session_status logs out_failed
status_by false logs out_failed = single_status logs out_failed

-- What the process exits with.
abbrev pub Status : Ending → Bool → Call → Type 0
Status (Refused refusal) out_failed call = call.done.status ≡ refused_status refusal
Status (Unasked outcome) out_failed call = call.done.status ≡ status_of outcome
Status Ran out_failed call = call.done.status ≡ status_by (is_session call.words) call.done.log.lines out_failed
