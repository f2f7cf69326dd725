-- What lane 0 runs of a phase. Cited by `first_lane` and `stage`.
use Rattle.std.specs.Prelude.{ℕ, ℤ, ◌≤◌, List, length, map}
use Rattle.nm_base.specs.Limits.{max_commits}
use Rattle.nm_disk.specs.Observed.{ObservedDisk}
use Rattle.nm_history.specs.Call.{lines_of_lane}
use Rattle.nm_history.specs.LineResult.{Place}
use Rattle.nm_model_index.specs.declared.base.Base.{Base}
use Rattle.nm_lanes.specs.declared.script.ScriptLine.{ScriptLine}
use Rattle.nm_line.specs.Desk.{Stands}
use Rattle.nm_line.specs.Line.{IsEven}
use Rattle.nm_phase.specs.Taken.{AreTaken}
use Rattle.nm_phase.specs.Turns.{planned_line}
use Rattle.nm_trace.specs.ReservedLog.{HasSpare}
use Rattle.nm_trace.specs.declared.reserved_log.ReservedLog.{ReservedLog}
use Rattle.nm_writer.specs.Durable.{IsDurable}
use Rattle.nm_writer.specs.Writer.{WriterState}

-- Lane 0 may run its lines among these.
pub record IsReady (lines : List ScriptLine) (reserved : ReservedLog) (writer : WriterState) (disk : ObservedDisk) : Type 0 where
  pub spare : HasSpare (length (lines_of_lane lines 0)) (length writer.begun) reserved
  pub even : IsEven writer
  pub few : length writer.begun ≤ max_commits
  pub stands : Stands writer disk

-- Lane 0 has run them.
pub record HasWorked (moment : ℤ) (phase : ℕ) (lines : List ScriptLine) (before : ReservedLog) (old : Place) (old_disk : ObservedDisk) (after : ReservedLog) (new : Place) (new_disk : ObservedDisk) : Type 0 where
  pub taken : AreTaken moment (map (planned_line phase) (lines_of_lane lines 0)) old before after new
  pub even : IsEven new.writer
  pub few : length new.writer.begun ≤ max_commits
  pub stands : Stands new.writer new_disk
  pub durable : (entry : ObservedDisk) (opening : Base) → IsDurable entry opening old_disk old.writer → IsDurable entry opening new_disk new.writer
