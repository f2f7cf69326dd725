-- The turns of a phase: its lines, one lane after the other, and then the barrier of all lanes. Cited by `barrier`, `stage` and `nm_session`.
use Rattle.std.specs.Prelude.{ℕ, List, [], ◌∷◌, ◌++◌, map}
use Rattle.std.specs.List.{range_with_len}
use Rattle.nm_history.specs.Call.{lines_by_lane}
use Rattle.nm_lanes.specs.declared.script.Phase.{Phase}
use Rattle.nm_lanes.specs.declared.script.ScriptLine.{ScriptLine}

-- what comes next: a line of a phase, or the end of one
pub data Planned : Type 0 where
  Runs : ℕ → ScriptLine → Planned
  Meets : Planned

abbrev pub planned_line : ℕ → ScriptLine → Planned
planned_line phase line = Runs phase line

-- a phase of this number
abbrev pub planned_phase : ℕ → Phase → List Planned
planned_phase number phase = map (planned_line number) (lines_by_lane phase) ++ Meets ∷ []

-- lanes 1 to 15
abbrev pub other_lanes : List ℕ
other_lanes = range_with_len 1 15
