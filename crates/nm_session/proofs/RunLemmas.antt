-- One phase more of a session. For the proofs of `run_phases` and `run_command`.
use Rattle.std.proofs.Common.{◌≡◌, ℕ, ℤ, ◌+◌, ◌<◌, ◌≤◌, Bool, true, List, [], ◌++◌, None, Some, drop, get_or, length, take, refl, sym, ap, subst, arith}
use Rattle.std.proofs.lemmas.List.{length-append}
use Rattle.nm_history.specs.Call.{Devices, PlacedLine}
use Rattle.nm_history.specs.LineResult.{Place}
use Rattle.nm_history.specs.PrintedOut.{AreLogsOf, GainsReplies, HandsOnReplies}
use Rattle.nm_model_index.specs.declared.base.Base.{Base}
use Rattle.nm_io.specs.Observed.{ObservedSink}
use Rattle.nm_lanes.specs.declared.script.Phase.{Phase}
use Rattle.nm_log.specs.declared.log.LineLog.{LineLog}
use Rattle.nm_phase.specs.Taken.{AreTaken}
use Rattle.nm_session.specs.Loop.{HasNoted, HasRunSome}
use Rattle.nm_session.specs.PrintedReplies.{PrintsRest}
use Rattle.nm_trace.specs.SpareLaws.{spare-fewer}
use Rattle.nm_trace.specs.ReservedLog.{HasSpare}
use Rattle.nm_session.specs.TurnLaws.{TurnLaws}
use Rattle.nm_phase.specs.Turns.{Planned, planned_phase}
use Rattle.nm_session.specs.Turns.{AreInPlace, places_in, planned_from}
use Rattle.nm_trace.specs.declared.reserved_log.ReservedLog.{ReservedLog}
use Rattle.nm_session.proofs.PhaseLemmas.{logs-all, noted-all, some-all}
use Rattle.nm_session.proofs.PrintLemmas.{printed-failed, printed-more}
use Rattle.nm_session.proofs.TurnLemmas.{in-place, lines-planned, phase-more, phase-within, places-left}

module _ (moment : ℤ) (phases : List Phase) (number : ℕ) (phase : Phase) (within : number < length phases) (is : phase ≡ get_or phases number phase) (old new : Place) (before after : ReservedLog) where
  abbrev front : List Planned
  front = planned_from 0 (take number phases)

  abbrev turns : List Planned
  turns = planned_phase number phase

  abbrev longer : List Planned
  longer = planned_from 0 (take (number + 1) phases)

  longer-is : front ++ turns ≡ longer
  longer-is = phase-more front (front ++ turns) phases number phase within is refl refl

  pub spare-here : (begun : ℕ) → HasSpare (places_in (drop number phases)) begun before → HasSpare (length turns) begun before
  spare-here begun spare =
      spare-fewer (places_in (drop number phases)) (length turns) begun before (omega (arith, places-left phases number phase within is, phase-within number phase)) spare

  module _ (taken : AreTaken moment turns old before after new) where
    pub spare-there : TurnLaws → HasSpare (places_in (drop number phases)) (length old.writer.begun) before → HasSpare (places_in (drop (number + 1) phases)) (length new.writer.begun) after
    spare-there laws spare =
        laws.spare moment (places_in (drop (number + 1) phases)) turns old new before after
        (spare-fewer (places_in (drop number phases)) (places_in (drop (number + 1) phases) + length turns) (length old.writer.begun) before
        (omega (arith, places-left phases number phase within is, phase-within number phase)) spare) taken

    module _ (noted : HasNoted front before old) where
      pub noted-there : TurnLaws → HasNoted longer after new
      noted-there laws = subst (λ (l : List Planned). HasNoted l after new) longer-is (noted-all laws moment front turns old new before after noted taken)

      pub some-there : (laws : TurnLaws) (opening : Base) (entry : Devices) → HasRunSome moment opening entry front before old → HasRunSome moment opening entry longer after new
      some-there laws opening entry some =
          subst (λ (l : List Planned). HasRunSome moment opening entry l after new) longer-is
          (some-all laws moment opening entry front turns old new before after noted (subst (AreInPlace 0) (sym longer-is) (in-place 0 (take (number + 1) phases))) taken some)

      module _ (session : Bool) (printed : ℕ) (count : printed ≡ length before.logs.0) (first mid last : ObservedSink) (so_far : HandsOnReplies session number before.logs.0 first mid) where
        abbrev more : (later : List LineLog) × (after.logs.0 ≡ before.logs.0 ++ later)
        more = logs-all moment turns old new before after taken

        pub printed-within : printed ≤ length after.logs.0
        printed-within = omega (arith, count, ap length more.1, length-append before.logs.0 more.0)

        pub printed-there : (now : ℕ) → PrintsRest session after.logs.0 printed mid last (Some now) → (now ≡ length after.logs.0) × HandsOnReplies session (number + 1) after.logs.0 first last
        printed-there now h = printed-more session before.logs.0 more.0 after.logs.0 more.1 printed count first mid last number so_far now h

        pub failed-there : PrintsRest session after.logs.0 printed mid last None → GainsReplies true session phases (number + 1) after.logs.0 first last
        failed-there h =
            printed-failed session before.logs.0 more.0 after.logs.0 more.1 printed count first mid last number so_far phases
            (subst (λ (l : List PlacedLine). AreLogsOf l before.logs.0) (lines-planned 0 (take number phases)) noted.logs) h
