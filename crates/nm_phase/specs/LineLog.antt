-- What a line of lane 0 leaves in the log. Cited by `line`, `first_lane` and `phases`.
use Rattle.std.specs.Prelude.{◌≡◌, ℕ, ℤ, ◌+◌, ◌≤◌, [], ◌∷◌, ◌++◌, length, map, Option}
use Rattle.std.specs.Option.{option_to_list}
use Rattle.nm_base.specs.Limits.{max_commits}
use Rattle.nm_history.specs.LineAnswers.{line_text}
use Rattle.nm_history.specs.LineResult.{Place, said_of}
use Rattle.nm_history.specs.Lines.{RunLine}
use Rattle.nm_history.specs.MachineRun.{reply_to}
use Rattle.nm_history.specs.PrintedOut.{IsNumbered}
use Rattle.nm_lanes.specs.declared.script.ScriptLine.{ScriptLine}
use Rattle.nm_line.specs.Line.{IsLineAnswer}
use Rattle.nm_prepare.specs.Prepared.{IsPreparedAs}
use Rattle.nm_log.specs.ParsedLine.{parse_line}
use Rattle.nm_log.specs.Replies.{status_of}
use Rattle.nm_log.specs.declared.log.LineLog.{LineLog}
use Rattle.nm_log.specs.declared.log.Said.{Said}
use Rattle.nm_phase.specs.declared.line.AskedLine.{AskedLine}
use Rattle.nm_trace.specs.Trace.{line_marks}
use Rattle.nm_trace.specs.ReservedLog.{AreFallbacks}
use Rattle.nm_trace.specs.declared.reserved_log.ReservedLog.{ReservedLog}

-- the line asks for this
pub record IsAskedBy (line : ScriptLine) (asked : AskedLine) : Type 0 where
  pub lane : asked.lane ≡ line.lane
  pub number : asked.number ≡ line.number
  pub prepared : IsPreparedAs (parse_line line) line.input asked.prepared

-- A line was run in this phase, and its log says so.
pub record IsRun (moment : ℤ) (phase : ℕ) (old : Place) (ran : RunLine) (reply : Option Said) (new : Place) : Type 0 where
  pub answered : IsLineAnswer moment old ran.0 ran.1.given ran.1.outcome ran.1.disk_failed new
  pub text : ran.1.text ≡ line_text ran.1.outcome (parse_line ran.0) ran.0.input old.writer.shown new.writer.shown moment ran.1.given
  pub reply_is : option_to_list reply ≡ map said_of (reply_to ran)
  pub numbers : IsNumbered (phase, ran.0) ran.1
  pub revision : ran.1.revision ≡ new.writer.shown.revision
  pub mail_faults : ran.1.mail_faults ≡ new.mail.faults
  pub disk_faults : ran.1.disk_faults ≡ new.disk_faults
  pub status : ran.1.status ≡ status_of ran.1.outcome

-- And its log and its marks are in the reserved, where the places for one line are taken.
pub record IsNoted (moment : ℤ) (phase : ℕ) (old : Place) (line : ScriptLine) (before after : ReservedLog) (new : Place) : Type 0 where
  pub log : LineLog
  pub reply : Option Said
  pub run : IsRun moment phase old (line, log) reply new
  pub logs : after.logs.0 ≡ before.logs.0 ++ log ∷ []
  pub marks : after.marks.0 ≡ before.marks.0 ++ line_marks run.answered.made run.answered.in_flight (reply_to (line, log))
  pub steps : after.steps ≡ before.steps
  pub logs_spare : after.logs.1 + 1 ≡ before.logs.1
  pub marks_spare : before.marks.1 + length old.writer.begun ≤ after.marks.1 + length new.writer.begun + 1
  pub fallbacks : length after.fallbacks + 1 ≡ length before.fallbacks
  pub texts : AreFallbacks after.fallbacks
  pub within : length new.writer.begun ≤ max_commits
