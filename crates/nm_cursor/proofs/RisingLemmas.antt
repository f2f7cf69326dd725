-- What a place in a list in memory leaves of it. Cited by the proofs of `rising`.
use Rattle.std.proofs.Common.{◌≡◌, sym, ap, subst, ◌∙◌, ℕ, ◌+◌, ◌<◌, ◌≤◌, List, [], ◌∷◌, length, drop, get_or, ◌-◌, suc, zero, arith, inl, inr}
use Rattle.std.proofs.lemmas.Bool.{cases_lt}
use Rattle.nm_cursor.specs.Sets.{IsRising, from}
use Rattle.std.proofs.lemmas.List.{drop_all, drop_more}
use Rattle.std.proofs.lemmas.Map.Keys.{below_from_sorted}
use Rattle.nm_cursor.specs.Place.{IsPlaceOf}
use Rattle.nm_cursor.proofs.SetLemmas.{rising_rest, rising_none}
use Rattle.nm_cursor.proofs.FromLemmas.{from_first, from_later, from_none, next_le, same_le}

pub rising-drop : (n : ℕ) (docs : List ℕ) → IsRising docs → IsRising (drop n docs)
rising-drop zero docs rising = rising
rising-drop (suc n) [] rising = rising_none
rising-drop (suc n) (x ∷ xs) rising = rising-drop n xs (rising_rest x xs rising)

passed : (docs : List ℕ) (doc start n place : ℕ) → start + n ≡ place → place ≤ length docs → ((k : ℕ) → start ≤ k → k < place → get_or docs k 0 < doc) → from doc (drop start docs) ≡ from doc (drop place docs)
passed docs doc start zero place e h each = let is : start ≡ place = omega arith in ap (λ (i : ℕ). from doc (drop i docs)) is
passed docs doc start (suc n) place e h each =
    let here : start < place = omega arith in
    let within : start < length docs = omega arith in
    let sum : start + 1 + n ≡ place = omega arith in
    ap (from doc) (drop_more docs start 0 within)
    ∙ from_later doc (get_or docs start 0) (drop (start + 1) docs) (each start (same_le start) here)
    ∙ passed docs doc (start + 1) n place sum h (λ k low high. each k (next_le start k low) high)

reached : (docs : List ℕ) (doc place : ℕ) → IsRising docs → (place < length docs → doc ≤ get_or docs place 0) → from doc (drop place docs) ≡ drop place docs
reached docs doc place rising after = elim (cases_lt place (length docs)) [
  | inl within ↦
      let cut : drop place docs ≡ get_or docs place 0 ∷ drop (place + 1) docs = drop_more docs place 0 within in
      ap (from doc) cut ∙ from_first doc (get_or docs place 0) (drop (place + 1) docs) (subst IsRising cut (rising-drop place docs rising)) (after within) ∙ sym cut
  | inr past ↦ let none : drop place docs ≡ [] = drop_all place docs past in ap (from doc) none ∙ from_none doc ∙ sym none
]

before_place : (docs : List ℕ) (doc start place k : ℕ) → IsRising docs → IsPlaceOf docs start doc place → start ≤ k → k < place → get_or docs k 0 < doc
before_place docs doc start place k rising is low high = elim (cases_lt k (place - 1)) [
  | inl further ↦ omega (arith, below_from_sorted docs k (place - 1) 0 rising further (omega (arith, is.within)), is.before (omega arith))
  | inr last ↦ let same : place - 1 ≡ k = omega arith in subst (λ (i : ℕ). get_or docs i 0 < doc) same (is.before (omega arith))
]

pub place_reached : (docs all : List ℕ) (doc start place : ℕ) → drop start docs ≡ all → IsRising docs → IsPlaceOf docs start doc place → from doc all ≡ drop place docs
place_reached docs all doc start place e rising is =
    let sum : start + (place - start) ≡ place = omega (arith, is.order) in
    ap (from doc) (sym e) ∙ passed docs doc start (place - start) place sum is.within (λ k low high. before_place docs doc start place k rising is low high) ∙ reached docs doc place rising is.after
