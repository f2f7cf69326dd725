-- The parts of a phase: the lines of lane 0, those of the others, and its end. For the proof of `run_one`.
use Rattle.std.proofs.Common.{◌≡◌, ℕ, ℤ, ◌+◌, ◌<◌, ◌≤◌, List, [], ◌∷◌, ◌++◌, length, map, refl, sym, ap, ◌∙◌, subst, arith}
use Rattle.std.specs.List.{flat_map}
use Rattle.std.proofs.lemmas.List.{length-append, length-map}
use Rattle.nm_base.specs.Limits.{max_commits}
use Rattle.nm_history.specs.Call.{lines_of_lane}
use Rattle.nm_history.specs.LineResult.{Place}
use Rattle.nm_lanes.specs.declared.script.Phase.{Phase}
use Rattle.nm_phase.specs.Taken.{AreTaken, IsBarrierNoted}
use Rattle.nm_phase.specs.Turns.{Meets, Planned, other_lanes, planned_line, planned_phase}
use Rattle.nm_phase.proofs.LaneLemmas.{phase-cut}
use Rattle.nm_phase.proofs.TakenLemmas.{spare-all, taken-append, taken-one}
use Rattle.nm_trace.specs.SpareLaws.{spare-fewer}
use Rattle.nm_trace.specs.ReservedLog.{HasSpare}
use Rattle.nm_trace.specs.declared.reserved_log.ReservedLog.{ReservedLog}

module _ (moment : ℤ) (number : ℕ) (phase : Phase) (old mid : Place) (reserved worked : ReservedLog) where
  abbrev zeros : List Planned
  zeros = map (planned_line number) (lines_of_lane phase.lines 0)

  abbrev others : List Planned
  others = map (planned_line number) (flat_map (lines_of_lane phase.lines) other_lanes)

  parts-length : length (planned_phase number phase) ≡ length zeros + (length others + 1)
  parts-length = omega (arith, ap length (phase-cut number phase) ∙ length-append zeros (others ++ Meets ∷ []), length-append others (Meets ∷ []))

  pub spare-zeros : (begun : ℕ) → HasSpare (length (planned_phase number phase)) begun reserved → HasSpare (length (lines_of_lane phase.lines 0)) begun reserved
  spare-zeros begun spare =
      spare-fewer (length (planned_phase number phase)) (length (lines_of_lane phase.lines 0)) begun reserved
      (omega (arith, parts-length, length-map (lines_of_lane phase.lines 0) (planned_line number))) spare

  module _ (taken : AreTaken moment zeros old reserved worked mid) (spare : HasSpare (length (planned_phase number phase)) (length old.writer.begun) reserved) where
    swapped : length zeros + (length others + 1) ≡ length others + 1 + length zeros
    swapped = omega arith

    after-zeros : HasSpare (length others + 1) (length mid.writer.begun) worked
    after-zeros =
        spare-all moment (length others + 1) zeros old mid reserved worked
        (subst (λ (n : ℕ). HasSpare n (length old.writer.begun) reserved) (parts-length ∙ swapped) spare) taken

    pub spare-others : HasSpare (length (flat_map (lines_of_lane phase.lines) other_lanes)) (length mid.writer.begun) worked
    spare-others =
        spare-fewer (length others + 1) (length (flat_map (lines_of_lane phase.lines) other_lanes)) (length mid.writer.begun) worked
        (omega (arith, length-map (flat_map (lines_of_lane phase.lines) other_lanes) (planned_line number))) after-zeros

    module _ (settled : ReservedLog) (lane_answer : AreTaken moment others mid worked settled mid) where
      one-left : HasSpare 1 (length mid.writer.begun) settled
      one-left =
          let more : length others + 1 ≡ 1 + length others = omega arith in
          spare-all moment 1 others mid mid worked settled (subst (λ (n : ℕ). HasSpare n (length mid.writer.begun) worked) more after-zeros) lane_answer

      pub room-to-meet : length mid.writer.begun ≤ max_commits → 0 < settled.marks.1
      room-to-meet few = omega (arith, one-left.marks, few)

      pub phase-taken : (met : ReservedLog) → IsBarrierNoted settled met → AreTaken moment (planned_phase number phase) old reserved met mid
      phase-taken met last_barrier =
          subst (λ (l : List Planned). AreTaken moment l old reserved met mid) (sym (phase-cut number phase))
          (taken-append moment zeros (others ++ Meets ∷ []) old mid mid reserved worked met taken
          (taken-append moment others (Meets ∷ []) mid mid mid worked settled met lane_answer (taken-one moment Meets mid mid settled met (last_barrier, refl))))
