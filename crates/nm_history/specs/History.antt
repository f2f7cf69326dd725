-- The whole statement of a call, over the opening index and the bytes of the input. Cited by `laws` and `nm_top`.
use Rattle.std.specs.Prelude.{ℕ, Bool, List}
use Rattle.nm_commit.specs.declared.change.Commit.{Commit}
use Rattle.nm_model_index.specs.declared.base.Base.{Base}
use Rattle.nm_history.specs.Call.{Call, Ending, phases_ended}
use Rattle.nm_history.specs.CrashPrefix.{CrashPrefix}
use Rattle.nm_history.specs.Given.{IsGiven}
use Rattle.nm_history.specs.LineAnswers.{LaneAnswers, LineAnswers}
use Rattle.nm_history.specs.LineCommits.{LineCommits}
use Rattle.nm_history.specs.Lines.{at_first, lane_zero_lines, lines_run, other_lane_lines}
use Rattle.nm_history.specs.MachineRun.{MachineRun}
use Rattle.nm_history.specs.OpeningIndex.{OpeningIndex}
use Rattle.nm_history.specs.PrintedOut.{PrintedOut}
use Rattle.nm_history.specs.Status.{Status}

-- How the call ended, how many phases were run, whether the output failed, which commits were acknowledged; and of these: the opening index, the run of the
-- machine, the commits of each line of lane 0, its answer and those of the other lanes, what is printed, what a crash leaves, the status; and what the
-- folder gave.
pub record IsHistory (opening : Base) (input : List ℕ) (call : Call) : Type 0 where
  pub ending : Ending
  pub phases_run : ℕ
  pub out_failed : Bool
  pub acknowledged : List Commit
  pub opening_index : OpeningIndex ending call.entry.disk call.after.disk opening
  pub machine_run : MachineRun opening call.setting.moment (at_first opening call.entry) call.done.log.steps (lines_run input call) acknowledged (phases_ended ending phases_run)
  pub line_commits : LineCommits opening call.setting.moment call.entry.mail.tree call.done.log.steps (lane_zero_lines (lines_run input call)) acknowledged
  pub line_answers : LineAnswers opening call.setting.moment (at_first opening call.entry) call.done.log.steps (lane_zero_lines (lines_run input call))
  pub lane_answers : LaneAnswers opening call.setting.moment call.done.log.steps (other_lane_lines (lines_run input call))
  pub given : IsGiven opening call.setting.moment call.done.log.steps (at_first opening call.entry) (lane_zero_lines (lines_run input call)) ending call.entry call.after
  pub printed_out : PrintedOut ending input phases_run out_failed call
  pub crash_prefix : CrashPrefix call.entry.disk call.after.disk call.done.log.steps call.done.log.acked
  pub status : Status ending out_failed call

-- There are one opening index and one list of input bytes, of which all hold.
abbrev pub History : Call → Type 0
History call = (opening : Base) × (input : List ℕ) × IsHistory opening input call
