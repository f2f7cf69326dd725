-- What is printed: the replies of the lines of a script after their headers, by phase, lane and line, those of a phase at its end, or that of a single
-- command alone; and at most one line to the user besides. What is printed is handed on, and where the output fails in a phase so are the replies of
-- the phases before.
-- Cited by `lane_zero_laws`, `nm_top` and `nm_session`.
use Rattle.std.specs.Prelude.{◌≡◌, ℕ, ◌+◌, ◌<◌, ◌≤◌, Bool, true, false, List, [], ◌∷◌, ◌++◌, length, map, take, codes, Option, None, Some, if◌then◌else◌}
use Rattle.std.specs.Io.KnownBytes.{Appends}
use Rattle.nm_faults.specs.Faults.{HasRisen}
use Rattle.nm_io.specs.Observed.{ObservedSink, StreamAppends}
use Rattle.nm_lanes.specs.declared.script.Phase.{Phase}
use Rattle.nm_log.specs.Refusals.{refused_line}
use Rattle.nm_log.specs.Replies.{is_well, printed, refusal_line, replies_alone}
use Rattle.nm_log.specs.declared.log.LineLog.{LineLog}
use Rattle.nm_log.specs.declared.outcome.Outcome.{Outcome}
use Rattle.nm_history.specs.Call.{Call, Ending, PlacedLine, Ran, Refused, Unasked, call_lines, call_phases, is_session, lines_of_first}
use Rattle.nm_history.specs.Refusals.{IsLineRefused, IsRefusedFor, ReadsScript}

-- one line was said, or none
abbrev pub Prints : Option (List ℕ) → ObservedSink → ObservedSink → Type 0
Prints None old new = new ≡ old
Prints (Some line) old new = (failed : Bool) × StreamAppends failed old new line

-- what is said where the output failed
abbrev pub write_message : Bool → Option (List ℕ)
write_message out_failed = if out_failed then Some (codes "notmuch: write fault\n") else None

-- the text of the first line that did not go well
abbrev pub refused_text : List LineLog → Option (List ℕ)
refused_text [] = None
refused_text (log ∷ more) = if is_well log.outcome then refused_text more else Some log.text

-- this text, or where there is none the other
abbrev pub text_or : Option (List ℕ) → Option (List ℕ) → Option (List ℕ)
text_or None other = other
text_or (Some text) other = Some text

-- what is said besides the replies: of a single command its refusal comes first
abbrev pub final_message : Bool → List LineLog → Bool → Option (List ℕ)
final_message true logs out_failed = write_message out_failed
final_message false logs out_failed = text_or (refused_text logs) (write_message out_failed)

-- the replies: those of a script after their headers
abbrev pub printed_by : Bool → List LineLog → List ℕ
printed_by true logs = printed logs
printed_by false logs = replies_alone logs

-- the log's numbers of a line
pub record IsNumbered (line : PlacedLine) (log : LineLog) : Type 0 where
  pub phase : log.phase ≡ line.0
  pub lane : log.lane ≡ line.1.lane
  pub number : log.line ≡ line.1.number

-- Each line has its log, in their order, and there are no others.
abbrev pub AreLogsOf : List PlacedLine → List LineLog → Type 0
AreLogsOf [] [] = Unit {0}
AreLogsOf [] (log ∷ logs) = ⊥
AreLogsOf (line ∷ script) [] = ⊥
AreLogsOf (line ∷ script) (log ∷ logs) = IsNumbered line log × AreLogsOf script logs

-- The call was refused before it did a thing: one line says why, and nothing is in the log.
pub record PrintsRefusal (line : List ℕ) (call : Call) : Type 0 where
  pub lines : call.done.log.lines ≡ []
  pub steps : call.done.log.steps ≡ []
  pub acked : call.done.log.acked ≡ []
  pub mail : call.after.mail ≡ call.entry.mail
  pub out : call.after.out ≡ call.entry.out
  pub says : Prints (Some line) call.entry.err call.after.err

-- The one line of the call was refused before the mail folder and the disk were asked: it has its log and this outcome, its text was said, and
-- nothing else was done.
pub record PrintsLine (outcome : Outcome) (input : List ℕ) (call : Call) : Type 0 where
  pub lines : AreLogsOf (call_lines call.words input) call.done.log.lines
  pub outcomes : map (λ log. log.outcome) call.done.log.lines ≡ outcome ∷ []
  pub steps : call.done.log.steps ≡ []
  pub acked : call.done.log.acked ≡ []
  pub mail : call.after.mail ≡ call.entry.mail
  pub out : call.after.out ≡ call.entry.out
  pub says : Prints (Some (refusal_line outcome)) call.entry.err call.after.err

-- The output failed in the replies of the last phase that was run: it gained those of all phases before it and has handed them on, and it gained
-- the first bytes of those of that one.
pub record FailsInLast (session : Bool) (phases : List Phase) (ran : ℕ) (logs : List LineLog) (old new : ObservedSink) : Type 0 where
  pub before : ℕ
  pub last : ran ≡ before + 1
  pub earlier : List LineLog
  pub later : List LineLog
  pub both : logs ≡ earlier ++ later
  pub lines : AreLogsOf (lines_of_first before phases) earlier
  pub bytes : (n : ℕ) × Appends old.bytes new.bytes (printed_by session earlier ++ take n (printed_by session later))
  pub handed : 0 < before → old.put + length (printed_by session earlier) ≤ new.handed
  pub fault : HasRisen old.faults new.faults

-- The output gained the replies of n phases, and where a phase was run it has handed on all that was put into it.
pub record HandsOnReplies (session : Bool) (ran : ℕ) (logs : List LineLog) (old new : ObservedSink) : Type 0 where
  pub bytes : Appends old.bytes new.bytes (printed_by session logs)
  pub put : new.put ≡ old.put + length (printed_by session logs)
  pub handed : 0 < ran → new.handed ≡ new.put
  pub no_fault : new.faults ≡ old.faults

-- All phases were run and the output gained and handed on all replies; or it failed at the end of a phase, and no further one was run.
abbrev pub GainsReplies : Bool → Bool → List Phase → ℕ → List LineLog → ObservedSink → ObservedSink → Type 0
GainsReplies false session phases ran logs old new = (ran ≡ length phases) × HandsOnReplies session ran logs old new
GainsReplies true session phases ran logs old new = FailsInLast session phases ran logs old new

-- The lines of n phases were run, their replies were printed, and what else was said.
pub record PrintsReplies (input : List ℕ) (ran : ℕ) (out_failed : Bool) (call : Call) : Type 0 where
  pub lines : AreLogsOf (lines_of_first ran (call_phases call.words input)) call.done.log.lines
  pub out : GainsReplies out_failed (is_session call.words) (call_phases call.words input) ran call.done.log.lines call.entry.out call.after.out
  pub says : Prints (final_message (is_session call.words) call.done.log.lines out_failed) call.entry.err call.after.err

-- What the outputs gained, and why.
abbrev pub PrintedOut : Ending → List ℕ → ℕ → Bool → Call → Type 0
PrintedOut (Refused refusal) input ran out_failed call = IsRefusedFor refusal input call × PrintsRefusal (refused_line refusal) call
PrintedOut (Unasked outcome) input ran out_failed call = IsLineRefused outcome input call × PrintsLine outcome input call
PrintedOut Ran input ran out_failed call = ReadsScript input call × PrintsReplies input ran out_failed call
