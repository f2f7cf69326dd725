-- How a call ends: over a run of its lines, or with none. Cited by `devices`, `call_end` and others.
use Rattle.std.specs.Prelude.{◌≡◌, ◌⊎◌, ℕ, Bool, List, [], Some, Result, Ok, Err}
use Rattle.nm_history.specs.PrintedOut.{Prints, final_message}
use Rattle.nm_history.specs.Status.{status_by}
use Rattle.nm_history.specs.UnaskedLine.{refused_done}
use Rattle.nm_io.specs.Observed.{ObservedSink}
use Rattle.nm_log.specs.Refusals.{refused_line, refused_status}
use Rattle.nm_log.specs.Replies.{refusal_line}
use Rattle.nm_log.specs.declared.log.Done.{Done}
use Rattle.nm_log.specs.declared.log.LineLog.{LineLog}
use Rattle.nm_log.specs.declared.log.SessionLog.{SessionLog}
use Rattle.nm_log.specs.declared.outcome.Outcome.{Outcome}
use Rattle.nm_log.specs.declared.refusal.Refusal.{Refusal}
use Rattle.nm_log.specs.declared.refusal.Refusal.TheVariants as refusals
use Rattle.nm_replay.specs.declared.open_error.OpenError.{OpenError}
use Rattle.nm_replay.specs.declared.open_error.OpenError.TheVariants as errors

-- these lines are the log, and no step was taken
abbrev pub ended_on : ℕ → List LineLog → Done
ended_on code logs = record { status = code; log = record { steps = []; lines = logs; acked = [] } }

-- nothing is in the log
abbrev pub ended_with : ℕ → Done
ended_with code = ended_on code []

-- The call has the status of the refusal and an empty log, and its line was said.
pub record Refuses (refusal : Refusal) (old new : ObservedSink) (done : Done) : Type 0 where
  pub ended : done ≡ ended_with (refused_status refusal)
  pub says : Prints (Some (refused_line refusal)) old new

-- A single command has the status of its outcome and its one line in the log, with these counts of faults, and its text was said.
pub record EndsWithLine (why : Outcome) (mail disk : ℕ) (old new : ObservedSink) (done : Done) : Type 0 where
  pub ended : done ≡ refused_done why mail disk
  pub says : Prints (Some (refusal_line why)) old new

-- so it ends where it is refused before the mail folder and the disk are asked, or memory ran out for it
abbrev pub RefusesAlone : Outcome → ℕ → ℕ → ObservedSink → ObservedSink → Done → Type 0
RefusesAlone why mail disk old new done = EndsWithLine why mail disk old new done ⊎ Refuses refusals.NoMemory old new done

-- an error of opening, as the session is refused for it
abbrev pub refusal_of : OpenError → Refusal
refusal_of errors.DiskFault = refusals.DiskFault
refusal_of (errors.BadIndex file at) = refusals.BadIndex file at
refusal_of (errors.Limit limit) = refusals.Limit limit
refusal_of errors.NoMemory = refusals.NoMemory

-- How a call ends over this run of its lines, or for this error of opening the index.
abbrev pub EndsRun : Bool → Result (SessionLog × Bool) OpenError → ObservedSink → ObservedSink → Done → Type 0
EndsRun session (Ok (log, out_failed)) old new done =
    (done ≡ record { status = status_by session log.lines out_failed; log = log }) × Prints (final_message session log.lines out_failed) old new
EndsRun session (Err error) old new done = Refuses (refusal_of error) old new done
