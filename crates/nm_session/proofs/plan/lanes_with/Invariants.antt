use Rattle.std.proofs.Common.{◌≡◌, ◌+◌, ◌≤◌}
use Rattle.std.specs.List.{AllByRecursion}
use Rattle.logbook.specs.Pages.{Book}
use Rattle.nm_phase.specs.Observations.{IsLaneAt}
use Rattle.nm_session.proofs.plan.lanes_with.Given as goal

-- the lanes so far have readers of their own
abbrev pub invariant-lanes : goal.invariant-lanes
invariant-lanes l = record {
  spare : 16 ≤ l.lanes.1 + l.lane;
  lanes : (book : Book) → AllByRecursion (λ reader. reader.book ≡ book) l.fn.readers
      → AllByRecursion (λ reader. reader.book ≡ book) l.readers × AllByRecursion (IsLaneAt l.setting.moment l.phases 0 book) l.lanes.0;
}
