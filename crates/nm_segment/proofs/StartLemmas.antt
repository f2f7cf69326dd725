-- Words in order that begin with a text come one after the other, from the first word that is not below it on.
-- For the proofs of `starts`.
use Rattle.std.proofs.Common.{◌≡◌, ◌≢◌, ℕ, zero, suc, inl, inr, ◌+◌, ◌<◌, ◌≤◌, Bool, true, false, cond, nat_eq, Some, List, [], ◌∷◌, length, get_or, drop, slice_get, refl, arith}
use Rattle.std.specs.Cmp.Lexicographic.{nat_list_cmp_total, slice_cmp}
use Rattle.std.specs.List.{AllByRecursion}
use Rattle.std.specs.Ordering.{nat_cmp, ordering_then}
use Rattle.std.specs.declared.cmp.Ordering.{Ordering}
use Rattle.std.specs.declared.cmp.Ordering.TheVariants.{Less, Equal, Greater}
use Rattle.std.proofs.Math.Bool.{and-false}
use Rattle.std.proofs.lemmas.Bool.{cases_order, eq-eqb, ne_eqb}
use Rattle.std.proofs.lemmas.Bool.Decides.{nat_tests}
use Rattle.std.proofs.lemmas.List.{get_or-drop, length-drop}
use Rattle.std.proofs.lemmas.Map.Keys.{sorted_head, sorted_tail}
use Rattle.nm_base.specs.Order.{IsSorted}
use Rattle.nm_segment.specs.Starts.{IsCountBelow, begins, starting}
use Rattle.nm_segment.proofs.SearchLemmas.{above_all}

nat_less : (a b : ℕ) → a < b → nat_cmp a b ≡ Less
nat_less a b h = grind (arith, nat_tests)

nat_more : (a b : ℕ) → b < a → nat_cmp a b ≡ Greater
nat_more a b h = grind (arith, nat_tests)

nat_same : (a b : ℕ) → a ≡ b → nat_cmp a b ≡ Equal
nat_same a b h = grind (arith, nat_tests)

-- a word that is below the text doesn't begin with it
below_fails : (start word : List ℕ) → slice_cmp nat_cmp start word ≡ Greater → begins start word ≡ false
below_fails [] [] h = absurd (cc)
below_fails [] (y ∷ ys) h = absurd (cc)
below_fails (s ∷ ss) [] h = refl
below_fails (s ∷ ss) (y ∷ ys) h = elim (cases_order s y) [
  | inl e ↦ let same = nat_same s y e in rw (below_fails ss ys (rw same at h)) (and-false (nat_eq s y))
  | inr o ↦ elim o [
    | inl less ↦ let order = nat_less s y less in let never = rw order at h in absurd (cc)
    | inr more ↦ rw (ne_eqb s y (λ e. omega (arith, e, more))) refl
  ]
]

-- what a word above x begins with, where x is above s
later_head : (s x y : ℕ) (rest : Ordering) → s < x → ordering_then (nat_cmp x y) rest ≡ Less → nat_eq s y ≡ false
later_head s x y rest less h = elim (cases_order x y) [
  | inl e ↦ ne_eqb s y (λ f. omega (arith, e, f, less))
  | inr o ↦ elim o [
    | inl up ↦ ne_eqb s y (λ f. omega (arith, up, f, less))
    | inr down ↦ let order = nat_more x y down in let never = rw order at h in absurd (cc)
  ]
]

-- after a word that is not below the text, and doesn't begin with it, no word does
past : (start v w : List ℕ) → slice_cmp nat_cmp start v ≢ Greater → begins start v ≡ false → slice_cmp nat_cmp v w ≡ Less → begins start w ≡ false
past [] v w from fails up = absurd (cc)
past (s ∷ ss) [] w from fails up = absurd (from refl)
past (s ∷ ss) (x ∷ xs) [] from fails up = absurd (cc)
past (s ∷ ss) (x ∷ xs) (y ∷ ys) from fails up = elim (cases_order s x) [
  | inl e ↦
      let same = nat_same s x e in
      let alike = eq-eqb s x e in
      elim (cases_order x y) [
        | inl f ↦
            let again = nat_same x y f in
            rw (past ss xs ys (rw same at from) (rw alike at fails) (rw again at up)) (and-false (nat_eq s y))
        | inr o ↦ elim o [
          | inl less ↦ rw (ne_eqb s y (λ g. omega (arith, e, g, less))) refl
          | inr more ↦ let order = nat_more x y more in let never = rw order at up in absurd (cc)
        ]
      ]
  | inr o ↦ elim o [
    | inl less ↦ rw (later_head s x y (slice_cmp nat_cmp xs ys) less up) refl
    | inr more ↦ let order = nat_more s x more in let never = rw order at from in absurd (never refl)
  ]
]

-- ---- lists of words

-- the words below the text can be left out
skip : (start : List ℕ) (count : ℕ) (words : List (List ℕ)) → ((k : ℕ) → k < count → k < length words → slice_cmp nat_cmp start (get_or words k []) ≡ Greater) → starting start words ≡ starting start (drop count words)
skip start zero words h = refl
skip start (suc count) [] h = refl
skip start (suc count) (word ∷ words) h =
    rw (below_fails start word (h 0 (omega arith) (omega arith))) (skip start count words (λ k l m. h (suc k) (omega (arith, l)) (omega (arith, m))))

none_after : (start v : List ℕ) (words : List (List ℕ)) → slice_cmp nat_cmp start v ≢ Greater → begins start v ≡ false → AllByRecursion (λ w. slice_cmp nat_cmp v w ≡ Less) words → starting start words ≡ []
none_after start v [] from fails up = refl
none_after start v (word ∷ words) from fails up = rw (past start v word from fails up.0) (none_after start v words from fails up.1)

fails_after : (start v : List ℕ) (words : List (List ℕ)) (at : ℕ) → slice_cmp nat_cmp start v ≢ Greater → begins start v ≡ false → AllByRecursion (λ w. slice_cmp nat_cmp v w ≡ Less) words → at < length words → begins start (get_or words at []) ≡ false
fails_after start v [] at from fails up less = absurd (omega (arith, less))
fails_after start v (word ∷ words) zero from fails up less = past start v word from fails up.0
fails_after start v (word ∷ words) (suc at) from fails up less = fails_after start v words at from fails up.1 (omega (arith, less))

-- all of the words are from the text on
abbrev AreFrom : List ℕ → List (List ℕ) → Type 0
AreFrom start words = (k : ℕ) → k < length words → slice_cmp nat_cmp start (get_or words k []) ≢ Greater

later : (start word : List ℕ) (words : List (List ℕ)) → AreFrom start (word ∷ words) → AreFrom start words
later start word words from k less = from (suc k) (omega (arith, less))

true_case : (start word : List ℕ) (words : List (List ℕ)) (at : ℕ) (b : Bool) → begins start word ≡ b → IsSorted (word ∷ words) → AreFrom start (word ∷ words) → at < length words → begins start (get_or words at []) ≡ true → b ≡ true
true_case start word words at true e sorted from less is = refl
true_case start word words at false e sorted from less is =
    let never = fails_after start word words at (from 0 (omega arith)) e (sorted_head (slice_cmp nat_cmp) word words sorted) less in absurd (cc)

true_from_later : (start word : List ℕ) (words : List (List ℕ)) (at : ℕ) → IsSorted (word ∷ words) → AreFrom start (word ∷ words) → at < length words → begins start (get_or words at []) ≡ true → begins start word ≡ true
true_from_later start word words at sorted from less is = true_case start word words at (begins start word) refl sorted from less is

at_most_one_more : (b : Bool) (word : List ℕ) (words : List (List ℕ)) (at : ℕ) → length words ≤ at → length (cond b (word ∷ words) words) ≤ suc at
at_most_one_more true word words at h = omega (arith, h)
at_most_one_more false word words at h = omega (arith, h)

sorted_drop : (count : ℕ) (words : List (List ℕ)) → IsSorted words → IsSorted (drop count words)
sorted_drop zero words sorted = sorted
sorted_drop (suc count) [] sorted = sorted
sorted_drop (suc count) (word ∷ words) sorted = sorted_drop count words (sorted_tail (slice_cmp nat_cmp) word words sorted)

from_count : (start : List ℕ) (words : List (List ℕ)) (count : ℕ) → IsCountBelow words start count → AreFrom start (drop count words)
from_count start words count c k less = rw (get_or-drop count words k []) (c.after (count + k) (omega arith) (omega (arith, less, length-drop count words)))

-- a word that begins with the text is the one at its place among those
one_at : (start : List ℕ) (words : List (List ℕ)) (at : ℕ) → IsSorted words → AreFrom start words → at < length words → begins start (get_or words at []) ≡ true → slice_get (starting start words) at ≡ Some (get_or words at [])
one_at start [] at sorted from less is = absurd (omega (arith, less))
one_at start (word ∷ words) zero sorted from less is = rw is refl
one_at start (word ∷ words) (suc at) sorted from less is =
    let others = sorted_tail (slice_cmp nat_cmp) word words sorted in
    let within : at < length words = omega (arith, less) in
    let rest = one_at start words at others (later start word words from) within is in
    let first : begins start word ≡ true = true_from_later start word words at sorted from within is in
    rw first rest

-- past the last that begins with the text there are no more
none_at : (start : List ℕ) (words : List (List ℕ)) (at : ℕ) → IsSorted words → AreFrom start words → (at < length words → begins start (get_or words at []) ≡ false) → length (starting start words) ≤ at
none_at start [] at sorted from ends = omega arith
none_at start (word ∷ words) zero sorted from ends =
    rw (ends (omega arith), none_after start word words (from 0 (omega arith)) (ends (omega arith)) (sorted_head (slice_cmp nat_cmp) word words sorted)) (omega arith)
none_at start (word ∷ words) (suc at) sorted from ends =
    let rest = none_at start words at (sorted_tail (slice_cmp nat_cmp) word words sorted) (later start word words from) (λ less. ends (omega (arith, less))) in
    at_most_one_more (begins start word) word (starting start words) at rest

-- ---- as a call finds it

pub found : (start : List ℕ) (words : List (List ℕ)) (count at : ℕ) → IsSorted words → IsCountBelow words start count → count + at < length words → begins start (get_or words (count + at) []) ≡ true
    → slice_get (starting start words) at ≡ Some (get_or words (count + at) [])
found start words count at sorted c less is =
    rw (skip start count words (λ k l m. c.before k l)) (
    rw (← get_or-drop count words at []) (one_at start (drop count words) at (sorted_drop count words sorted) (from_count start words count c) (omega (arith, length-drop count words, less)) (rw (get_or-drop count words at []) is)))

pub missing : (start : List ℕ) (words : List (List ℕ)) (count at : ℕ) → IsSorted words → IsCountBelow words start count → (count + at < length words → begins start (get_or words (count + at) []) ≡ false)
    → length (starting start words) ≤ at
missing start words count at sorted c ends =
    rw (skip start count words (λ k l m. c.before k l)) (none_at start (drop count words) at (sorted_drop count words sorted) (from_count start words count c)
    (λ less. rw (get_or-drop count words at []) (ends (omega (arith, less, length-drop count words)))))

-- ---- the search

-- the words before low are below the text, and those from high on are not
pub record Sides (words : List (List ℕ)) (start : List ℕ) (low high : ℕ) : Type 0 where
  pub order : low ≤ high
  pub within : high ≤ length words
  pub before : (k : ℕ) → k < low → slice_cmp nat_cmp start (get_or words k []) ≡ Greater
  pub after : (k : ℕ) → high ≤ k → k < length words → slice_cmp nat_cmp start (get_or words k []) ≢ Greater

pub sides_above : (words : List (List ℕ)) (start : List ℕ) (low high m : ℕ) → IsSorted words → Sides words start low high → m < high → slice_cmp nat_cmp start (get_or words m []) ≡ Greater → Sides words start (m + 1) high
sides_above words start low high m sorted s less is = record {
  order = omega (arith, less);
  within = s.within;
  before = above_all (slice_cmp nat_cmp) nat_list_cmp_total start words sorted [] m (omega (arith, less, s.within)) is;
  after = s.after;
}

pub sides_below : (words : List (List ℕ)) (start : List ℕ) (low high m : ℕ) → IsSorted words → Sides words start low high → low ≤ m → m < high → slice_cmp nat_cmp start (get_or words m []) ≢ Greater → Sides words start low m
sides_below words start low high m sorted s le less ends = record {
  order = le;
  within = omega (arith, less, s.within);
  before = s.before;
  after = λ k from inside is. ends (above_all (slice_cmp nat_cmp) nat_list_cmp_total start words sorted [] k inside is m (omega (arith, from)));
}

pub counted : (words : List (List ℕ)) (start : List ℕ) (low high : ℕ) → Sides words start low high → high ≤ low → IsCountBelow words start low
counted words start low high s done = record {
  within = omega (arith, s.order, s.within);
  before = s.before;
  after = λ k from inside. s.after k (omega (arith, from, done)) inside;
}
