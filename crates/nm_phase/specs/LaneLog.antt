-- What a line of another lane leaves in the log. Cited by `lane_log`, `reads` and `barrier`.
use Rattle.std.specs.Prelude.{◌≡◌, ◌⊎◌, ℕ, ℤ, ◌+◌, ◌≤◌, List, [], ◌∷◌, ◌++◌, drop, length, map, take, false, Option}
use Rattle.std.specs.Option.{option_to_list}
use Rattle.nm_base.specs.Limits.{max_commits}
use Rattle.nm_commit.specs.declared.change.Commit.{Commit}
use Rattle.nm_dates.specs.Seconds.{IsMoment}
use Rattle.nm_history.specs.LineAnswers.{ends_by, line_text, refused_lane_read}
use Rattle.nm_history.specs.LineResult.{said_of}
use Rattle.nm_history.specs.Lines.{RunLine}
use Rattle.nm_history.specs.MachineRun.{reply_to}
use Rattle.nm_history.specs.PrintedOut.{IsNumbered}
use Rattle.nm_model_index.specs.Index.{folded}
use Rattle.nm_model_index.specs.declared.base.Base.{Base}
use Rattle.nm_lanes.specs.declared.script.ScriptLine.{ScriptLine}
use Rattle.nm_log.specs.ParsedLine.{parse_line}
use Rattle.nm_log.specs.Replies.{status_of}
use Rattle.nm_log.specs.declared.log.LineLog.{LineLog}
use Rattle.nm_log.specs.declared.log.Said.{Said}
use Rattle.nm_log.specs.declared.outcome.Outcome.TheVariants as outcomes
use Rattle.nm_publish.specs.Published.{index_of}
use Rattle.nm_trace.specs.Trace.{IsPlaceOf, lane_read_marks}
use Rattle.nm_trace.specs.ReservedLog.{AreFallbacks}
use Rattle.nm_trace.specs.declared.reserved_log.ReservedLog.{ReservedLog}
use Rattle.nm_trace.specs.declared.trace.Mark.{Mark}
use Rattle.nm_writer.specs.Writer.{WriterState}
use Rattle.nm_phase.specs.declared.lane_log.PhaseEnd.{PhaseEnd}

-- The setting is within its bounds, and the writer shows what it has published.
pub record IsPhaseEnd (end : PhaseEnd) : Type 0 where
  pub moment : IsMoment end.setting.now.moment
  pub few : length end.writer.now.begun ≤ max_commits
  pub shown : index_of end.writer.now.published ≡ end.writer.now.shown

-- A line was run in this phase over this index, and its log says so.
pub record IsLaneAnswered (moment : ℤ) (phase : ℕ) (index : Base) (ran : RunLine) (reply : Option Said) : Type 0 where
  pub numbers : IsNumbered (phase, ran.0) ran.1
  pub revision : ran.1.revision ≡ index.revision
  pub cause : (ran.1.outcome ≡ ends_by (refused_lane_read (parse_line ran.0) ran.0.input)) ⊎ (ran.1.outcome ≡ outcomes.NoMemory)
  pub status : ran.1.status ≡ status_of ran.1.outcome
  pub text : ran.1.text ≡ line_text ran.1.outcome (parse_line ran.0) ran.0.input index index moment []
  pub reply_is : option_to_list reply ≡ map said_of (reply_to ran)
  pub given : ran.1.given ≡ []
  pub mail : ran.1.mail_faults ≡ 0
  pub disk : ran.1.disk_faults ≡ 0
  pub well : ran.1.disk_failed ≡ false

-- The log of a line and its marks are in the reserved, the marks at this place, and the places for one line are taken.
pub record IsAnswerNoted (moment : ℤ) (phase : ℕ) (index : Base) (line : ScriptLine) (at : ℕ) (before after : ReservedLog) : Type 0 where
  pub log : LineLog
  pub reply : Option Said
  pub lane_read : IsLaneAnswered moment phase index (line, log) reply
  pub logs : after.logs.0 ≡ before.logs.0 ++ log ∷ []
  pub marks : after.marks.0 ≡ take at before.marks.0 ++ (lane_read_marks line.lane (reply_to (line, log)) ++ drop at before.marks.0)
  pub steps : after.steps ≡ before.steps
  pub logs_spare : after.logs.1 + 1 ≡ before.logs.1
  pub marks_spare : before.marks.1 ≤ after.marks.1 + 2
  pub fallbacks : length after.fallbacks + 1 ≡ length before.fallbacks
  pub texts : AreFallbacks after.fallbacks

-- A line of another lane was run over an index that the writer has shown, and its read is noted where it saw that.
pub record IsLaneReadNoted (moment : ℤ) (phase : ℕ) (writer : WriterState) (line : ScriptLine) (before after : ReservedLog) : Type 0 where
  pub index : Base
  pub at : ℕ
  pub noted : IsAnswerNoted moment phase index line at before after
  pub seen : List Commit
  pub later : List Commit
  pub both : writer.published.commits ≡ seen ++ later
  pub index_is : index ≡ folded writer.published.opening seen
  pub place : IsPlaceOf line.lane (length later) before.marks.0 at
