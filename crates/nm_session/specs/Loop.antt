-- Where a session comes after its first turns. Cited by `phases`.
use Rattle.std.specs.Prelude.{◌≡◌, ℤ, ◌+◌, ◌*◌, ◌≤◌, List, [], ◌∷◌, length}
use Rattle.nm_base.specs.Limits.{max_commits}
use Rattle.nm_commit.specs.declared.change.Commit.{Commit}
use Rattle.nm_history.specs.Call.{Devices}
use Rattle.nm_history.specs.CrashPrefix.{appends}
use Rattle.nm_history.specs.Given.{GivenAlong}
use Rattle.nm_history.specs.LineAnswers.{LaneAnswers, LineAnswers}
use Rattle.nm_history.specs.LineCommits.{LineCommits}
use Rattle.nm_history.specs.LineResult.{Place, StandsAt}
use Rattle.nm_history.specs.Lines.{RunLine, at_first, lane_zero_lines, other_lane_lines, run_lines}
use Rattle.nm_history.specs.MachineRun.{MachineRun}
use Rattle.nm_history.specs.PrintedOut.{AreLogsOf}
use Rattle.nm_model_index.specs.declared.base.Base.{Base}
use Rattle.nm_model_machine.specs.declared.step.Step.{Step}
use Rattle.nm_line.specs.Line.{IsEven}
use Rattle.nm_trace.specs.Trace.{steps_of}
use Rattle.nm_phase.specs.Turns.{Planned}
use Rattle.nm_session.specs.Turns.{ends_in, lines_in}
use Rattle.nm_trace.specs.declared.trace.Mark.{Mark}
use Rattle.nm_trace.specs.declared.trace.Mark.TheVariants as marks
use Rattle.nm_trace.specs.declared.reserved_log.ReservedLog.{ReservedLog}

-- the marks represent these commits, no more and no fewer
abbrev pub StandFor : List Mark → List Commit → Type 0
StandFor [] [] = Unit {0}
StandFor [] (commit ∷ commits) = ⊥
StandFor (marks.Made ∷ more) [] = ⊥
StandFor (marks.Made ∷ more) (commit ∷ commits) = StandFor more commits
StandFor (marks.Begun ∷ more) [] = ⊥
StandFor (marks.Begun ∷ more) (commit ∷ commits) = StandFor more commits
StandFor (marks.LaneRead lane ∷ more) commits = StandFor more commits
StandFor (marks.Reply lane said ∷ more) commits = StandFor more commits
StandFor (marks.Met ∷ more) commits = StandFor more commits

-- the steps so far
abbrev pub steps_at : ReservedLog → Place → List Step
steps_at reserved place = steps_of reserved.marks.0 place.writer.begun

-- the lines so far with their logs
abbrev pub lines_at : List Planned → ReservedLog → List RunLine
lines_at planned reserved = run_lines (lines_in planned) reserved.logs.0

-- These turns were taken and noted.
pub record HasNoted (planned : List Planned) (reserved : ReservedLog) (place : Place) : Type 0 where
  pub logs : AreLogsOf (lines_in planned) reserved.logs.0
  pub stand : StandFor reserved.marks.0 place.writer.begun
  pub few : length (steps_at reserved place) ≤ 2 * length planned + 3 * length place.writer.begun
  pub within : length place.writer.begun ≤ max_commits
  pub even : IsEven place.writer

-- What the statement of a session says is so of the lines of these turns.
pub record HasRunSome (moment : ℤ) (opening : Base) (entry : Devices) (planned : List Planned) (reserved : ReservedLog) (place : Place) : Type 0 where
  pub acknowledged : List Commit
  pub at : StandsAt opening entry (steps_at reserved place) (lane_zero_lines (lines_at planned reserved)) acknowledged place
  pub machine_run : MachineRun opening moment (at_first opening entry) (steps_at reserved place) (lines_at planned reserved) acknowledged (ends_in planned)
  pub line_commits : LineCommits opening moment entry.mail.tree (steps_at reserved place) (lane_zero_lines (lines_at planned reserved)) acknowledged
  pub line_answers : LineAnswers opening moment (at_first opening entry) (steps_at reserved place) (lane_zero_lines (lines_at planned reserved))
  pub lane_answers : LaneAnswers opening moment (steps_at reserved place) (other_lane_lines (lines_at planned reserved))
  pub given : GivenAlong opening moment (steps_at reserved place) (at_first opening entry) (lane_zero_lines (lines_at planned reserved)) entry.mail place.mail
  pub clocks : length place.writer.acked ≡ appends (steps_at reserved place)
