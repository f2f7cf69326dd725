-- The turns that were taken. Cited by `barrier`, `first_lane`, `stage` and `nm_session`.
use Rattle.std.specs.Prelude.{◌≡◌, ◌⊎◌, ℤ, ◌+◌, ◌≤◌, List, [], ◌∷◌, ◌++◌}
use Rattle.nm_history.specs.LineResult.{Place}
use Rattle.nm_phase.specs.LaneLog.{IsLaneReadNoted}
use Rattle.nm_phase.specs.LineLog.{IsNoted}
use Rattle.nm_phase.specs.Turns.{Meets, Planned, Runs}
use Rattle.nm_trace.specs.declared.trace.Mark.TheVariants as marks
use Rattle.nm_trace.specs.declared.reserved_log.ReservedLog.{ReservedLog}

-- A phase ended, and nothing else did.
pub record IsBarrierNoted (before after : ReservedLog) : Type 0 where
  pub marks : after.marks.0 ≡ before.marks.0 ++ marks.Met ∷ []
  pub marks_spare : after.marks.1 + 1 ≡ before.marks.1
  pub logs : after.logs ≡ before.logs
  pub steps : after.steps ≡ before.steps
  pub fallbacks : after.fallbacks ≡ before.fallbacks

-- A turn was taken: a line of lane 0 was run, or one of another lane over what the writer has shown, or a phase ended.
abbrev pub IsTurn : ℤ → Planned → Place → ReservedLog → ReservedLog → Place → Type 0
IsTurn moment (Runs phase line) old before after new =
    ((line.lane ≡ 0) × IsNoted moment phase old line before after new)
    ⊎ ((1 ≤ line.lane) × IsLaneReadNoted moment phase old.writer line before after × (new ≡ old))
IsTurn moment Meets old before after new = IsBarrierNoted before after × (new ≡ old)

-- these turns were taken, one after the other
abbrev pub AreTaken : ℤ → List Planned → Place → ReservedLog → ReservedLog → Place → Type 0
AreTaken moment [] old before after new = (after ≡ before) × (new ≡ old)
AreTaken moment (turn ∷ more) old before after new =
    (mid : Place) × (between : ReservedLog) × IsTurn moment turn old before between mid × AreTaken moment more mid between after new
