-- Turns that were taken one after the other, and the places that they leave. For the proofs of `first_lane`, `barrier`, `run_one` and the laws.
use Rattle.std.proofs.Common.{◌≡◌, inl, inr, ℕ, ℤ, ◌+◌, ◌≤◌, List, [], ◌∷◌, ◌++◌, length, refl, sym, ap, ◌∙◌, subst, arith}
use Rattle.nm_history.specs.LineResult.{Place}
use Rattle.nm_log.specs.declared.log.LineLog.{LineLog}
use Rattle.nm_phase.specs.Taken.{AreTaken, IsTurn}
use Rattle.nm_phase.specs.Turns.{Meets, Planned, Runs}
use Rattle.nm_publish.specs.Published.{Published}
use Rattle.nm_trace.specs.SpareLaws.{spare-fewer}
use Rattle.nm_trace.specs.ReservedLog.{AreFallbacks, HasSpare}
use Rattle.nm_trace.specs.declared.reserved_log.ReservedLog.{ReservedLog}

pub spare-turn : (moment : ℤ) (turns : ℕ) (turn : Planned) (before after : ReservedLog) (old new : Place) → HasSpare (turns + 1) (length old.writer.begun) before → IsTurn moment turn old before after new
    → HasSpare turns (length new.writer.begun) after
spare-turn moment turns (Runs phase line) before after old new h (inl turn) = record {
  logs = omega (arith, h.logs, turn.1.logs_spare);
  marks = omega (arith, h.marks, turn.1.marks_spare);
  fallbacks = omega (arith, h.fallbacks, turn.1.fallbacks);
  texts = turn.1.texts;
}
spare-turn moment turns (Runs phase line) before after old new h (inr turn) = record {
  logs = omega (arith, h.logs, turn.1.noted.logs_spare);
  marks = omega (arith, h.marks, turn.1.noted.marks_spare, ap (λ (place : Place). length place.writer.begun) turn.2);
  fallbacks = omega (arith, h.fallbacks, turn.1.noted.fallbacks);
  texts = turn.1.noted.texts;
}
spare-turn moment turns Meets before after old new h turn = record {
  logs = omega (arith, h.logs, ap (λ (l : List LineLog × ℕ). l.1) turn.0.logs);
  marks = omega (arith, h.marks, turn.0.marks_spare, ap (λ (place : Place). length place.writer.begun) turn.1);
  fallbacks = omega (arith, h.fallbacks, ap (λ (l : List (List ℕ)). length l) turn.0.fallbacks);
  texts = subst AreFallbacks (sym turn.0.fallbacks) h.texts;
}

pub taken-none : (moment : ℤ) (place : Place) (reserved : ReservedLog) → AreTaken moment [] place reserved reserved place
taken-none moment place reserved = (refl, refl)

pub taken-append : (moment : ℤ) (xs ys : List Planned) (old mid new : Place) (before between after : ReservedLog) → AreTaken moment xs old before between mid → AreTaken moment ys mid between after new
    → AreTaken moment (xs ++ ys) old before after new
taken-append moment [] ys old mid new before between after h k = subst (λ (r : ReservedLog). AreTaken moment ys old r after new) h.0 (subst (λ (p : Place). AreTaken moment ys p between after new) h.1 k)
taken-append moment (turn ∷ xs) ys old mid new before between after h k = (h.0, h.1, h.2, taken-append moment xs ys h.0 mid new h.1 between after h.3 k)

pub taken-one : (moment : ℤ) (turn : Planned) (old new : Place) (before after : ReservedLog) → IsTurn moment turn old before after new → AreTaken moment (turn ∷ []) old before after new
taken-one moment turn old new before after h = (new, after, h, (refl, refl))

pub spare-all : (moment : ℤ) (left : ℕ) (turns : List Planned) (old new : Place) (before after : ReservedLog) → HasSpare (left + length turns) (length old.writer.begun) before → AreTaken moment turns old before after new
    → HasSpare left (length new.writer.begun) after
spare-all moment left [] old new before after spare h =
    let few : left ≤ left + 0 = omega arith in
    subst (λ (r : ReservedLog). HasSpare left (length new.writer.begun) r) (sym h.0)
    (subst (λ (p : Place). HasSpare left (length p.writer.begun) before) (sym h.1) (spare-fewer (left + 0) left (length old.writer.begun) before few spare))
spare-all moment left (turn ∷ more) old new before after spare h =
    let same : left + length (turn ∷ more) ≡ left + length more + 1 = omega arith in
    spare-all moment left more h.0 new h.1 after
    (spare-turn moment (left + length more) turn before h.1 old h.0 (subst (λ (n : ℕ). HasSpare n (length old.writer.begun) before) same spare) h.2) h.3

book-turn : (moment : ℤ) (turn : Planned) (old new : Place) (before after : ReservedLog) → IsTurn moment turn old before after new → new.writer.published.book ≡ old.writer.published.book
book-turn moment (Runs phase line) old new before after (inl h) = ap (λ (p : Published). p.book) h.1.run.answered.has_made.published
book-turn moment (Runs phase line) old new before after (inr h) = ap (λ (p : Place). p.writer.published.book) h.2
book-turn moment Meets old new before after h = ap (λ (p : Place). p.writer.published.book) h.1

pub book-all : (moment : ℤ) (turns : List Planned) (old new : Place) (before after : ReservedLog) → AreTaken moment turns old before after new → new.writer.published.book ≡ old.writer.published.book
book-all moment [] old new before after h = ap (λ (p : Place). p.writer.published.book) h.1
book-all moment (turn ∷ more) old new before after h = book-all moment more h.0 new h.1 after h.3 ∙ book-turn moment turn old h.0 before h.1 h.2
