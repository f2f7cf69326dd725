-- The exchange that adds an event keeps what holds of the list. For the proof of `try_add`.
use Rattle.std.proofs.Common.{◌≡◌, ℕ, ◌+◌, ◌<◌, ◌==◌, Bool, true, false, List, [], ◌∷◌, ◌++◌, length, refl, ap, sym, subst, arith, inl, None}
use Rattle.std.proofs.lemmas.List.{append-nil}
use Rattle.std.proofs.lemmas.Bool.Decides.{nat_tests}
use mathlib.Core.List.{IsPrefix}
use prog.Atomic.{either}
use Rattle.logbook.specs.Pages.{Cell, cell, keeps, no_nib, step, Moves, Goes}
use Rattle.nm_publish.specs.List.{Adds, IsCounted, commits_of}
use Rattle.nm_publish.specs.declared.event.Event.{Event}
use Rattle.nm_publish.proofs.EventLemmas.{begun_added, counted_added, one_more}
use Rattle.nm_publish.proofs.PrefixLemmas.{prefix_begun, prefix_whole}

abbrev pub hidden : List Event → List Event
hidden log = []

abbrev pub unmoved : List Event → List Event → ℕ → Type 0
unmoved xs ys n = Unit {0}

adds_goes : (log v : List Event) (e : Event) (count : ℕ) → count ≡ length (commits_of v) → 0 < length v → IsPrefix v log
    → (b : Bool) → (length (commits_of log) == count) ≡ b
    → Goes IsCounted hidden unmoved 0 (v, (no_nib, None)) (λ n. either (n == count) (count + 1) n) (Adds (step 0 count (count + 1) e) (v, (no_nib, None)))
    ((length (commits_of log), true) ∷ []) log
adds_goes log v e count counted begun pre true is =
    let longer : 0 < length log = prefix_begun v log begun pre in
    let here : length (commits_of log) ≡ count = grind (arith, nat_tests) in
    let same : v ≡ log = prefix_whole v log pre (omega (arith, one_more v begun, one_more log longer, here, counted)) in
    let n : either (length (commits_of log) == count) (count + 1) (length (commits_of log)) ≡ length (commits_of (log ++ e ∷ [])) =
    rw is (omega (arith, here, counted_added log e longer)) in (
      keeps,
      e ∷ [],
      None,
      tt,
      (ap (λ (k : ℕ). (k, true) ∷ []) n, begun_added log e),
      inl (refl, refl),
      (λ found. ap (λ (w : List Event). w ++ e ∷ []) (sym same)),
    )
adds_goes log v e count counted begun pre false is =
    let longer : 0 < length log = prefix_begun v log begun pre in
    let whole : log ++ [] ≡ log = append-nil log in
    let n : either (length (commits_of log) == count) (count + 1) (length (commits_of log)) ≡ length (commits_of (log ++ [])) =
    rw is (ap (λ (l : List Event). length (commits_of l)) (sym whole)) in (
      keeps,
      [],
      None,
      tt,
      (ap (λ (k : ℕ). (k, true) ∷ []) n, subst (λ (l : List Event). 0 < length l) (sym whole) longer),
      inl (refl, refl),
      (λ found. let here : length (commits_of log) ≡ count = found in absurd (grind (arith, nat_tests))),
    )

-- whatever the list is, the exchange adds the event to all that was seen, or finds that there are more commits
pub adds_moves : (v : List Event) (e : Event) (count : ℕ) → count ≡ length (commits_of v) → 0 < length v
    → Moves IsCounted hidden unmoved 0 (v, (no_nib, None)) (λ n. either (n == count) (count + 1) n) (Adds (step 0 count (count + 1) e) (v, (no_nib, None)))
adds_moves v e count counted begun cs log kept pre away =
    let P : List Cell → Type 0 = λ c. (0 < length c) × ((cell c 0).1 ≡ true)
    × Goes IsCounted hidden unmoved 0 (v, (no_nib, None)) (λ n. either (n == count) (count + 1) n) (Adds (step 0 count (count + 1) e) (v, (no_nib, None))) c log in
    subst P (sym kept.0) (omega arith, refl, adds_goes log v e count counted begun pre (length (commits_of log) == count) refl)
