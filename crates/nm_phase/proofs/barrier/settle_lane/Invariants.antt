use Rattle.std.proofs.Common.{◌≡◌, drop, length, map, take}
use Rattle.std.specs.Vec.Iter.{into_iter_items, into_iter_len}
use Rattle.nm_history.specs.Call.{lines_of_lane}
use Rattle.nm_history.specs.LineResult.{Place}
use Rattle.nm_phase.specs.Taken.{AreTaken}
use Rattle.nm_trace.specs.ReservedLog.{HasSpare}
use Rattle.nm_phase.specs.Observations.{AreKnown}
use Rattle.nm_phase.specs.Turns.{planned_line}
use Rattle.nm_phase.proofs.barrier.settle_lane.Given as goal

-- the lines so far are noted, and for the others there are places
abbrev pub invariant-lines : goal.invariant-lines
invariant-lines l = record {
  observations : AreKnown l.end.setting.now.moment l.lines l.end.writer.now.published (into_iter_items l.rest);
  whole : into_iter_len l.rest ≡ length (into_iter_items l.rest);
  spare : HasSpare (length (lines_of_lane (drop l.at l.lines) l.lane)) (length l.end.writer.now.begun) l.reserved;
  taken : (place : Place) → place.writer ≡ l.end.writer.now
      → AreTaken l.end.setting.now.moment (map (planned_line l.end.phase) (lines_of_lane (take l.at l.lines) l.lane)) place l.initial.reserved l.reserved place;
}
