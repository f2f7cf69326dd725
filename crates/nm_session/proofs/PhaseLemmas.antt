-- What is so after turns that were taken one after the other. For `RunLemmas`.
use Rattle.std.proofs.Common.{◌≡◌, inl, inr, ℕ, ℤ, ◌+◌, ◌≤◌, List, [], ◌∷◌, ◌++◌, length, refl, sym, ap, ◌∙◌, subst, arith, append-nil, append_assoc}
use Rattle.nm_history.specs.Call.{Devices}
use Rattle.nm_history.specs.LineResult.{Place}
use Rattle.nm_model_index.specs.declared.base.Base.{Base}
use Rattle.nm_log.specs.declared.log.LineLog.{LineLog}
use Rattle.nm_publish.specs.Published.{Published}
use Rattle.nm_phase.specs.Taken.{AreTaken, IsTurn}
use Rattle.nm_session.specs.Loop.{HasNoted, HasRunSome}
use Rattle.nm_trace.specs.ReservedLog.{HasSpare}
use Rattle.nm_session.specs.TurnLaws.{TurnLaws}
use Rattle.nm_phase.specs.Turns.{Meets, Planned, Runs}
use Rattle.nm_session.specs.Turns.{AreInPlace}
use Rattle.nm_trace.specs.declared.reserved_log.ReservedLog.{ReservedLog}
use Rattle.nm_session.proofs.LoopLemmas.{noted-more, some-more, steps-same}
use Rattle.nm_session.proofs.TurnLemmas.{next-of}

one-more : (front : List Planned) (turn : Planned) (more : List Planned) → (front ++ turn ∷ []) ++ more ≡ front ++ turn ∷ more
one-more front turn more = append_assoc front (turn ∷ []) more

pub noted-all : (laws : TurnLaws) (moment : ℤ) (front turns : List Planned) (old new : Place) (before after : ReservedLog) → HasNoted front before old → AreTaken moment turns old before after new → HasNoted (front ++ turns) after new
noted-all laws moment front [] old new before after noted h =
    subst (λ (l : List Planned). HasNoted l after new) (sym (append-nil front)) (subst (λ (r : ReservedLog). HasNoted front r new) (sym h.0) (subst (λ (p : Place). HasNoted front before p) (sym h.1) noted))
noted-all laws moment front (turn ∷ more) old new before after noted h =
    subst (λ (l : List Planned). HasNoted l after new) (one-more front turn more)
    (noted-all laws moment (front ++ turn ∷ []) more h.0 new h.1 after (noted-more laws moment front turn before h.1 old h.0 noted h.2) h.3)

pub some-all : (laws : TurnLaws) (moment : ℤ) (opening : Base) (entry : Devices) (front turns : List Planned) (old new : Place) (before after : ReservedLog) → HasNoted front before old → AreInPlace 0 (front ++ turns)
    → AreTaken moment turns old before after new → HasRunSome moment opening entry front before old → HasRunSome moment opening entry (front ++ turns) after new
some-all laws moment opening entry front [] old new before after noted there h some =
    subst (λ (l : List Planned). HasRunSome moment opening entry l after new) (sym (append-nil front))
    (subst (λ (r : ReservedLog). HasRunSome moment opening entry front r new) (sym h.0) (subst (λ (p : Place). HasRunSome moment opening entry front before p) (sym h.1) some))
some-all laws moment opening entry front (turn ∷ more) old new before after noted there h some =
    subst (λ (l : List Planned). HasRunSome moment opening entry l after new) (one-more front turn more)
    (some-all laws moment opening entry (front ++ turn ∷ []) more h.0 new h.1 after (noted-more laws moment front turn before h.1 old h.0 noted h.2)
    (subst (AreInPlace 0) (sym (one-more front turn more)) there) h.3
    (some-more laws moment opening entry front turn before h.1 old h.0 noted h.2 (next-of 0 front turn more there) some))

pub steps-all : (moment : ℤ) (turns : List Planned) (old new : Place) (before after : ReservedLog) → AreTaken moment turns old before after new → after.steps ≡ before.steps
steps-all moment [] old new before after h = ap (λ (r : ReservedLog). r.steps) h.0
steps-all moment (turn ∷ more) old new before after h = steps-all moment more h.0 new h.1 after h.3 ∙ steps-same moment turn before h.1 old h.0 h.2

-- the logs that were there stay

logs-turn : (moment : ℤ) (turn : Planned) (old new : Place) (before after : ReservedLog) → IsTurn moment turn old before after new → (more : List LineLog) × (after.logs.0 ≡ before.logs.0 ++ more)
logs-turn moment (Runs phase line) old new before after (inl h) = (h.1.log ∷ [], h.1.logs)
logs-turn moment (Runs phase line) old new before after (inr h) = (h.1.noted.log ∷ [], h.1.noted.logs)
logs-turn moment Meets old new before after h = ([], ap (λ (l : List LineLog × ℕ). l.0) h.0.logs ∙ sym (append-nil before.logs.0))

pub logs-all : (moment : ℤ) (turns : List Planned) (old new : Place) (before after : ReservedLog) → AreTaken moment turns old before after new → (more : List LineLog) × (after.logs.0 ≡ before.logs.0 ++ more)
logs-all moment [] old new before after h = ([], ap (λ (r : ReservedLog). r.logs.0) h.0 ∙ sym (append-nil before.logs.0))
logs-all moment (turn ∷ more) old new before after h =
    let first = logs-turn moment turn old h.0 before h.1 h.2 in
    let rest = logs-all moment more h.0 new h.1 after h.3 in
    (first.0 ++ rest.0, rest.1 ∙ (ap (λ (l : List LineLog). l ++ rest.0) first.1 ∙ append_assoc before.logs.0 first.0 rest.0))
