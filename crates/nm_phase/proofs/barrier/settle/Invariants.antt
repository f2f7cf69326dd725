use Rattle.std.proofs.Common.{◌≡◌, ◌-◌, length, map}
use Rattle.std.specs.List.{All, AllZip, flat_map, range_with_len}
use Rattle.nm_history.specs.Call.{lines_of_lane}
use Rattle.nm_history.specs.LineResult.{Place}
use Rattle.nm_phase.specs.Taken.{AreTaken}
use Rattle.nm_trace.specs.ReservedLog.{HasSpare}
use Rattle.nm_phase.specs.Observations.{HasAnswered, KeepsLane}
use Rattle.nm_phase.specs.Turns.{planned_line}
use Rattle.nm_phase.proofs.barrier.settle.Given as goal

-- the lines of the lanes so far are noted, and for the others there are places
abbrev pub invariant-lanes : goal.invariant-lanes
invariant-lanes g l = record {
  writer : l.writer ≡ l.initial.writer;
  kept : AllZip KeepsLane l.initial.lanes l.lanes;
  lane_answer : All (HasAnswered l.crew.setting.now.moment l.lines l.initial.writer.published.book) l.lanes;
  spare : HasSpare (length (flat_map (lines_of_lane l.lines) (range_with_len l.lane (16 - l.lane)))) (length l.initial.writer.begun) l.reserved;
  taken : (place : Place) → place.writer ≡ l.initial.writer
      → AreTaken l.crew.setting.now.moment (map (planned_line l.phase) (flat_map (lines_of_lane l.lines) (range_with_len 1 (l.lane - 1)))) place l.initial.reserved l.reserved place;
}
