-- What running the phases of a script leaves, over the index that was opened. Cited by `Session` and `nm_top`.
use Rattle.std.specs.Prelude.{◌≡◌, ℕ, ℤ, Bool, List, length}
use Rattle.nm_commit.specs.declared.change.Commit.{Commit}
use Rattle.nm_disk.specs.Calls.{GoesOn}
use Rattle.nm_disk.specs.Observed.{ObservedDisk}
use Rattle.nm_history.specs.Call.{Devices, lines_of_first, placed_from}
use Rattle.nm_history.specs.CrashPrefix.{appends}
use Rattle.nm_history.specs.Given.{GivenAlong}
use Rattle.nm_history.specs.LineAnswers.{LaneAnswers, LineAnswers}
use Rattle.nm_history.specs.LineCommits.{LineCommits}
use Rattle.nm_history.specs.Lines.{RunLine, after_lines, at_first, begun, lane_zero_lines, other_lane_lines, run_lines}
use Rattle.nm_history.specs.MachineRun.{MachineRun}
use Rattle.nm_history.specs.PrintedOut.{AreLogsOf, GainsReplies}
use Rattle.nm_model_index.specs.declared.base.Base.{Base}
use Rattle.nm_io.specs.Observed.{ObservedSink}
use Rattle.nm_lanes.specs.declared.script.Phase.{Phase}
use Rattle.nm_log.specs.declared.log.SessionLog.{SessionLog}
use Rattle.nm_maildir.specs.Observed.{ObservedMail}
use Rattle.nm_writer.specs.Durable.{KeptSince, NeverFall}

-- the lines of these phases with their logs
abbrev pub ran_in : List Phase → SessionLog → List RunLine
ran_in phases log = run_lines (placed_from 0 phases) log.lines

-- The lines of the first of these phases were run, from this opening index on, of all of them where the output did not fail; and what each did is
-- what the statement of a session says.
pub record HasRun (moment : ℤ) (opening : Base) (entry : Devices) (phases : List Phase) (session : Bool) (mail : ObservedMail) (disk_faults : ℕ) (out : ObservedSink) (failed : Bool) (log : SessionLog) : Type 0 where
  pub acknowledged : List Commit
  pub phases_run : ℕ
  pub logs : AreLogsOf (lines_of_first phases_run phases) log.lines
  pub machine_run : MachineRun opening moment (at_first opening entry) log.steps (ran_in phases log) acknowledged phases_run
  pub line_commits : LineCommits opening moment entry.mail.tree log.steps (lane_zero_lines (ran_in phases log)) acknowledged
  pub line_answers : LineAnswers opening moment (at_first opening entry) log.steps (lane_zero_lines (ran_in phases log))
  pub lane_answers : LaneAnswers opening moment log.steps (other_lane_lines (ran_in phases log))
  pub given : GivenAlong opening moment log.steps (at_first opening entry) (lane_zero_lines (ran_in phases log)) entry.mail mail
  pub faults : (after_lines (at_first opening entry) (lane_zero_lines (ran_in phases log))).disk_faults ≡ disk_faults
  pub clocks : length log.acked ≡ appends log.steps
  pub printed : GainsReplies failed session phases phases_run log.lines entry.out out

-- No commit that was acknowledged is lost since the entry; the clocks never fall.
pub record IsKept (entry : ObservedDisk) (opening : Base) (disk : ObservedDisk) (log : SessionLog) : Type 0 where
  pub kept : GoesOn (KeptSince opening (begun log.steps) log.acked) entry.told disk.told
  pub clocks : NeverFall 0 log.acked disk.clock
