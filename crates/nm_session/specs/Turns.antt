-- The turns of a session: those of its phases, one after the other. Cited by `plan` and `phases`.
use Rattle.std.specs.Prelude.{◌≡◌, ℕ, ◌+◌, ◌<◌, List, [], ◌∷◌, ◌++◌, length}
use Rattle.std.specs.List.{flat_map}
use Rattle.nm_history.specs.Call.{PlacedLine}
use Rattle.nm_history.specs.MachineRun.{lane_count}
use Rattle.nm_lanes.specs.declared.script.Phase.{Phase}
use Rattle.nm_phase.specs.Turns.{Meets, Planned, Runs, planned_phase}

-- phases that are numbered from this one on
abbrev pub planned_from : ℕ → List Phase → List Planned
planned_from number [] = []
planned_from number (phase ∷ more) = planned_phase number phase ++ planned_from (number + 1) more

-- the line of a turn
abbrev pub line_in : Planned → List PlacedLine
line_in (Runs phase line) = (phase, line) ∷ []
line_in Meets = []

-- the lines of the turns
abbrev pub lines_in : List Planned → List PlacedLine
lines_in planned = flat_map line_in planned

-- how many phases end with them
abbrev pub ends_in : List Planned → ℕ
ends_in [] = 0
ends_in (Runs phase line ∷ more) = ends_in more
ends_in (Meets ∷ more) = ends_in more + 1

-- each line is in its phase, from this one on, and its lane is there
abbrev pub AreInPlace : ℕ → List Planned → Type 0
AreInPlace number [] = Unit {0}
AreInPlace number (Runs phase line ∷ more) = (phase ≡ number) × (line.lane < lane_count) × AreInPlace number more
AreInPlace number (Meets ∷ more) = AreInPlace (number + 1) more

-- places for the turns of these phases: their lines, and the end of each
abbrev pub places_in : List Phase → ℕ
places_in [] = 0
places_in (phase ∷ more) = length phase.lines + 1 + places_in more
