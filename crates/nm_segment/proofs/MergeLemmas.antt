-- Two lists of words are gone over side by side: what was met, in order, and what is still to come. For the proofs of `merged_index`.
use Rattle.std.proofs.Common.{◌≡◌, ℕ, zero, inl, inr, suc, ◌+◌, ◌<◌, ◌≤◌, Bool, true, false, ◌||◌, ◌&&◌, Option, None, Some, List, [], ◌∷◌, ◌++◌, filter, length, get_or, slice_get, take, refl, sym, ap, subst, ◌∙◌, arith}
use Rattle.std.specs.Cmp.Lexicographic.{nat_list_cmp_total, nat_list_eq_equiv, slice_cmp, texts_ties}
use Rattle.std.specs.List.{AllByRecursion}
use Rattle.std.specs.List.Sorted.{IsStrictlySortedBy}
use Rattle.std.specs.Ordering.{is_eq, nat_cmp}
use Rattle.std.specs.declared.cmp.Ordering.TheVariants.{Less}
use Rattle.std.proofs.Math.Bool.{or-false}
use Rattle.std.proofs.Math.Numerals.{suc-eq-add-one}
use Rattle.std.proofs.Math.Seq.{take-suc}
use Rattle.std.proofs.lemmas.Bool.{cases_lt}
use Rattle.std.proofs.lemmas.List.{get_or-take, length-take, take_all}
use Rattle.std.proofs.lemmas.List.Folds.{list_any-append, list_any_at}
use Rattle.std.proofs.lemmas.List.Kept.{IsStrictlySortedBy-filter}
use Rattle.std.proofs.lemmas.Option.{get_or_from_slice_get, slice_get_within}
use Rattle.nm_base.specs.Order.{IsSorted, has_text, same_text, sorted}
use Rattle.nm_base.specs.OrderLaws.{IsSorted-sorted}
use Rattle.nm_base.specs.SetLaws.{bytes_same, has_text-filter, has_text-sorted}
use Rattle.nm_segment.specs.declared.merged_index.Next.{Next}
use Rattle.nm_segment.specs.Merge.{IsFirst, IsNext, IsPlace, IsSomewhere, after_place}
use Rattle.nm_base.specs.SortedLaws.{same_sorted}

abbrev pub Below : List ℕ → List ℕ → Type 0
Below a b = slice_cmp nat_cmp a b ≡ Less

-- each word that was met is below each that is still to come in the list
abbrev pub AreBelow : List (List ℕ) → List (List ℕ) → ℕ → Type 0
AreBelow met words from = AllByRecursion (λ m. (k : ℕ) → from ≤ k → k < length words → Below m (get_or words k [])) met

-- the words met so far
abbrev pub met : List (List ℕ) → ℕ → List (List ℕ) → ℕ → List (List ℕ)
met front at back other = take at front ++ take other back

-- ---- words in order

all_at : (P : List ℕ → Type 0) (words : List (List ℕ)) (k : ℕ) → AllByRecursion P words → k < length words → P (get_or words k [])
all_at P [] k all less = absurd (omega (arith, less))
all_at P (x ∷ xs) zero all less = all.0
all_at P (x ∷ xs) (suc k) all less = all_at P xs k all.1 (omega (arith, less))

sorted_at : (words : List (List ℕ)) (i j : ℕ) → IsSorted words → i < j → j < length words → Below (get_or words i []) (get_or words j [])
unfolding IsStrictlySortedBy
sorted_at [] i j rising less within = absurd (omega (arith, within))
sorted_at (x ∷ xs) i zero rising less within = absurd (omega (arith, less))
sorted_at (x ∷ xs) zero (suc j) rising less within = all_at (λ y. Below x y) xs j rising.0 (omega (arith, within))
sorted_at (x ∷ xs) (suc i) (suc j) rising less within = sorted_at xs i j rising.1 (omega (arith, less)) (omega (arith, within))

-- what is still to come after a word is above it
pub above_first : (words : List (List ℕ)) (at : ℕ) (word : List ℕ) (place : Option ℕ) → IsSorted words → IsFirst words at word place → (k : ℕ) → after_place at place ≤ k → k < length words → Below word (get_or words k [])
above_first words at word None rising first k le less = elim (cases_lt at k) [
  | inl lt ↦ nat_list_cmp_total.trans word (get_or words at []) (get_or words k []) (first (omega (arith, lt, less))) (sorted_at words at k rising lt less)
  | inr ge ↦
      let e : at ≡ k = omega (arith, ge, le) in
      subst (λ (n : ℕ). Below word (get_or words n [])) e (first (omega (arith, less, e)))
]
above_first words at word (Some p) rising first k le less =
    subst (λ (x : List ℕ). Below x (get_or words k [])) (get_or_from_slice_get words at word [] first.1) (sorted_at words at k rising (omega (arith, le)) less)

-- ---- one word more was met

took : (words : List (List ℕ)) (at : ℕ) (word : List ℕ) → slice_get words at ≡ Some word → take (at + 1) words ≡ take at words ++ word ∷ []
took words at word here =
    ap (λ n. take n words) (sym (suc-eq-add-one at)) ∙ (take-suc words at [] (slice_get_within words at word here) ∙ ap (λ (x : List ℕ). take at words ++ x ∷ []) (get_or_from_slice_get words at word [] here))

all_append : (P : List ℕ → Type 0) (xs ys : List (List ℕ)) → AllByRecursion P xs → AllByRecursion P ys → AllByRecursion P (xs ++ ys)
all_append P [] ys p q = q
all_append P (x ∷ xs) ys p q = (p.0, all_append P xs ys p.1 q)

all_left : (P : List ℕ → Type 0) (xs ys : List (List ℕ)) → AllByRecursion P (xs ++ ys) → AllByRecursion P xs
all_left P [] ys p = tt
all_left P (x ∷ xs) ys p = (p.0, all_left P xs ys p.1)

all_right : (P : List ℕ → Type 0) (xs ys : List (List ℕ)) → AllByRecursion P (xs ++ ys) → AllByRecursion P ys
all_right P [] ys p = p
all_right P (x ∷ xs) ys p = all_right P xs ys p.1

all_took : (P : List ℕ → Type 0) (words : List (List ℕ)) (at : ℕ) (word : List ℕ) (place : Option ℕ) → IsFirst words at word place → AllByRecursion P (take at words) → P word → AllByRecursion P (take (after_place at place) words)
all_took P words at word None first all here = all
all_took P words at word (Some p) first all here = rw (took words at word first.1) (all_append P (take at words) (word ∷ []) all (here, tt))

-- what holds of all words that were met, and of the next one, holds of all that are met then
pub all_met : (P : List ℕ → Type 0) (front : List (List ℕ)) (at : ℕ) (back : List (List ℕ)) (other : ℕ) (next : Next) → IsNext front at back other next → AllByRecursion P (met front at back other) → P next.word.now
    → AllByRecursion P (met front (after_place at next.front) back (after_place other next.back))
all_met P front at back other next is all here =
    all_append P (take (after_place at next.front) front) (take (after_place other next.back) back) (all_took P front at next.word.now next.front is.in_front (all_left P (take at front) (take other back) all) here)
    (all_took P back other next.word.now next.back is.in_back (all_right P (take at front) (take other back) all) here)

both_more : (a b s : Bool) → ((a || (s || false)) || (b || (s || false))) ≡ ((a || b) || s)
both_more a b s = grind arith

left_more : (a b s : Bool) → ((a || (s || false)) || b) ≡ ((a || b) || s)
left_more a b s = grind arith

right_more : (a b s : Bool) → (a || (b || (s || false))) ≡ ((a || b) || s)
right_more a b s = grind arith

joined : (xs ys : List (List ℕ)) (t : List ℕ) → has_text (xs ++ ys) t ≡ (has_text xs t || has_text ys t)
joined xs ys t = list_any-append (same_text t) xs ys

has_took : (words : List (List ℕ)) (at : ℕ) (word t : List ℕ) → slice_get words at ≡ Some word → has_text (take (at + 1) words) t ≡ (has_text (take at words) t || (same_text t word || false))
has_took words at word t here = ap (λ (ws : List (List ℕ)). has_text ws t) (took words at word here) ∙ joined (take at words) (word ∷ []) t

has_by : (front : List (List ℕ)) (at : ℕ) (back : List (List ℕ)) (other : ℕ) (word : List ℕ) (a b : Option ℕ) → IsFirst front at word a → IsFirst back other word b → IsSomewhere a b → (t : List ℕ)
    → has_text (met front (after_place at a) back (after_place other b)) t ≡ (has_text (met front at back other) t || same_text t word)
has_by front at back other word None None p q here t = absurd (cc)
has_by front at back other word None (Some k) p q here t =
    joined (take at front) (take (other + 1) back) t
    ∙ (ap (λ b. has_text (take at front) t || b) (has_took back other word t q.1)
    ∙ (right_more (has_text (take at front) t) (has_text (take other back) t) (same_text t word) ∙ ap (λ b. b || same_text t word) (sym (joined (take at front) (take other back) t))))
has_by front at back other word (Some k) None p q here t =
    joined (take (at + 1) front) (take other back) t
    ∙ (ap (λ b. b || has_text (take other back) t) (has_took front at word t p.1)
    ∙ (left_more (has_text (take at front) t) (has_text (take other back) t) (same_text t word) ∙ ap (λ b. b || same_text t word) (sym (joined (take at front) (take other back) t))))
has_by front at back other word (Some k) (Some l) p q here t =
    joined (take (at + 1) front) (take (other + 1) back) t
    ∙ (ap (λ b. b || has_text (take (other + 1) back) t) (has_took front at word t p.1)
    ∙ (ap (λ b. (has_text (take at front) t || (same_text t word || false)) || b) (has_took back other word t q.1)
    ∙ (both_more (has_text (take at front) t) (has_text (take other back) t) (same_text t word) ∙ ap (λ b. b || same_text t word) (sym (joined (take at front) (take other back) t)))))

-- the next word is one of those that are still to come
below_by : (front : List (List ℕ)) (at : ℕ) (back : List (List ℕ)) (other : ℕ) (word : List ℕ) (a b : Option ℕ) → IsFirst front at word a → IsFirst back other word b → IsSomewhere a b → (m : List ℕ)
    → ((k : ℕ) → at ≤ k → k < length front → Below m (get_or front k [])) → ((k : ℕ) → other ≤ k → k < length back → Below m (get_or back k [])) → Below m word
below_by front at back other word None None p q here m f g = absurd (cc)
below_by front at back other word None (Some k) p q here m f g =
    subst (Below m) (get_or_from_slice_get back other word [] q.1) (g other (omega arith) (slice_get_within back other word q.1))
below_by front at back other word (Some k) b p q here m f g =
    subst (Below m) (get_or_from_slice_get front at word [] p.1) (f at (omega arith) (slice_get_within front at word p.1))

all_below : (front : List (List ℕ)) (at : ℕ) (back : List (List ℕ)) (other : ℕ) (next : Next) (ms : List (List ℕ)) → IsNext front at back other next → AreBelow ms front at → AreBelow ms back other → AllByRecursion (λ m. Below m next.word.now) ms
all_below front at back other next [] is f g = tt
all_below front at back other next (m ∷ ms) is f g =
    (below_by front at back other next.word.now next.front next.back is.in_front is.in_back is.somewhere m f.0 g.0, all_below front at back other next ms is f.1 g.1)

-- ---- the words that were met, in order

every : (P : List ℕ → Type 0) (xs : List (List ℕ)) → ((k : ℕ) → k < length xs → P (get_or xs k [])) → AllByRecursion P xs
every P [] h = tt
every P (x ∷ xs) h = (h 0 (omega arith), every P xs (λ k less. h (suc k) (omega (arith, less))))

those_by : (P : List ℕ → Type 0) (x : List ℕ) (xs : List (List ℕ)) (t : List ℕ) (b : Bool) → same_text t x ≡ b → AllByRecursion P (x ∷ xs) → (b || has_text xs t) ≡ true → (has_text xs t ≡ true → P t) → P t
those_by P x xs t true e all h rest = subst P (sym (bytes_same t x (sym e))) all.0
those_by P x xs t false e all h rest = rest h

-- what holds of each of a list holds of each text that the list has
of_those : (P : List ℕ → Type 0) (xs : List (List ℕ)) (t : List ℕ) → AllByRecursion P xs → has_text xs t ≡ true → P t
of_those P [] t all h = absurd (cc)
of_those P (x ∷ xs) t all h = those_by P x xs t (same_text t x) refl all h (λ rest. of_those P xs t all.1 rest)

has_at : (xs : List (List ℕ)) (k : ℕ) → k < length xs → has_text xs (get_or xs k []) ≡ true
has_at xs k less = list_any_at (same_text (get_or xs k [])) xs k [] less (nat_list_eq_equiv.refl (get_or xs k []))

all_sorted : (P : List ℕ → Type 0) (xs : List (List ℕ)) → AllByRecursion P xs → AllByRecursion P (sorted xs)
all_sorted P xs all = every P (sorted xs) (λ k less. of_those P xs (get_or (sorted xs) k []) all (sym (has_text-sorted xs (get_or (sorted xs) k [])) ∙ has_at (sorted xs) k less))

sorted_end : (xs : List (List ℕ)) (word : List ℕ) → IsSorted xs → AllByRecursion (λ x. Below x word) xs → IsSorted (xs ++ word ∷ [])
unfolding IsStrictlySortedBy
sorted_end [] word rising all = (tt, tt)
sorted_end (x ∷ xs) word rising all = (all_append (λ y. Below x y) xs (word ∷ []) rising.0 (all.0, tt), sorted_end xs word rising.1 all.1)

-- a word that is not the first of those to come, and is above all before, is not there
apart_by : (words : List (List ℕ)) (word : List ℕ) → ((k : ℕ) → k < length words → same_text word (get_or words k []) ≡ false) → has_text words word ≡ false
apart_by [] word h = refl
apart_by (x ∷ xs) word h = let differ : same_text word x ≡ false = h 0 (omega arith) in rw differ (apart_by xs word (λ k less. h (suc k) (omega (arith, less))))

differ_above : (word x : List ℕ) → Below word x → same_text word x ≡ false
differ_above word x below = texts_ties word x ∙ ap is_eq below

differ_below : (word x : List ℕ) → Below x word → same_text word x ≡ false
differ_below word x below = nat_list_eq_equiv.symm word x ∙ (texts_ties x word ∙ ap is_eq below)

place_by : (words : List (List ℕ)) (at : ℕ) (word : List ℕ) (place : Option ℕ) → IsSorted words → IsFirst words at word place → AllByRecursion (λ m. Below m word) (take at words) → IsPlace words word place
place_by words at word None rising first all = apart_by words word (λ k less. elim (cases_lt k at) [
  | inl front ↦
      let under : Below (get_or (take at words) k []) word = all_at (λ m. Below m word) (take at words) k all (rw (length-take at words) (omega (arith, front, less))) in
      differ_below word (get_or words k []) (subst (λ (x : List ℕ). Below x word) (get_or-take at words k [] front) under)
  | inr back ↦ differ_above word (get_or words k []) (above_first words at word None rising first k back less)
])
place_by words at word (Some p) rising first all = subst (λ (n : ℕ). slice_get words n ≡ Some word) (sym first.0) first.1

kept_by : (a b : Bool) → (b ≡ true → a ≡ true) → (a && b) ≡ b
kept_by true b h = refl
kept_by false true h = h refl
kept_by false false h = refl

module _ (front : List (List ℕ)) (at : ℕ) (back : List (List ℕ)) (other : ℕ) (next : Next) (is : IsNext front at back other next) (in_front : AreBelow (met front at back other) front at) (in_back : AreBelow (met front at back other) back other) where
  below : AllByRecursion (λ m. Below m next.word.now) (met front at back other)
  below = all_below front at back other next (met front at back other) is in_front in_back

  -- the next word comes after all that were met
  pub met-more : sorted (met front (after_place at next.front) back (after_place other next.back)) ≡ sorted (met front at back other) ++ next.word.now ∷ []
  met-more =
      same_sorted (sorted (met front (after_place at next.front) back (after_place other next.back))) (sorted (met front at back other) ++ next.word.now ∷ []) (IsSorted-sorted (met front (after_place at next.front) back (after_place other next.back)))
      (sorted_end (sorted (met front at back other)) next.word.now (IsSorted-sorted (met front at back other)) (all_sorted (λ m. Below m next.word.now) (met front at back other) below))
      (λ t. has_text-sorted (met front (after_place at next.front) back (after_place other next.back)) t
      ∙ (has_by front at back other next.word.now next.front next.back is.in_front is.in_back is.somewhere t
      ∙ (ap (λ b. b || same_text t next.word.now) (sym (has_text-sorted (met front at back other) t))
      ∙ (ap (λ b. has_text (sorted (met front at back other)) t || b) (sym (or-false (same_text t next.word.now))) ∙ sym (joined (sorted (met front at back other)) (next.word.now ∷ []) t)))))

  later : (words : List (List ℕ)) (from : ℕ) (place : Option ℕ) (m : List ℕ) → ((k : ℕ) → from ≤ k → k < length words → Below m (get_or words k [])) → (k : ℕ) → after_place from place ≤ k → k < length words → Below m (get_or words k [])
  later words from None m f k le less = f k le less
  later words from (Some p) m f k le less = f k (omega (arith, le)) less

  weaker : (words : List (List ℕ)) (from : ℕ) (place : Option ℕ) (ms : List (List ℕ)) → AreBelow ms words from → AreBelow ms words (after_place from place)
  weaker words from place [] all = tt
  weaker words from place (m ∷ ms) all = (later words from place m all.0, weaker words from place ms all.1)

  -- all that was met then is below what is still to come
  pub front-more : IsSorted front → AreBelow (met front (after_place at next.front) back (after_place other next.back)) front (after_place at next.front)
  front-more rising =
      all_met (λ m. (k : ℕ) → after_place at next.front ≤ k → k < length front → Below m (get_or front k [])) front at back other next is (weaker front at next.front (met front at back other) in_front)
      (above_first front at next.word.now next.front rising is.in_front)

  pub back-more : IsSorted back → AreBelow (met front (after_place at next.front) back (after_place other next.back)) back (after_place other next.back)
  back-more rising =
      all_met (λ m. (k : ℕ) → after_place other next.back ≤ k → k < length back → Below m (get_or back k [])) front at back other next is (weaker back other next.back (met front at back other) in_back)
      (above_first back other next.word.now next.back rising is.in_back)

  -- ---- the places of the next word

  pub place_front : IsSorted front → IsPlace front next.word.now next.front
  place_front rising = place_by front at next.word.now next.front rising is.in_front (all_left (λ m. Below m next.word.now) (take at front) (take other back) below)

  pub place_back : IsSorted back → IsPlace back next.word.now next.back
  place_back rising = place_by back other next.word.now next.back rising is.in_back (all_right (λ m. Below m next.word.now) (take at front) (take other back) below)

-- ---- all words were met

pub nothing_met : (words : List (List ℕ)) (from : ℕ) → AreBelow [] words from
nothing_met words from = tt

-- once all were met, what was kept of them is what is to be there
pub all_kept : (front : List (List ℕ)) (at : ℕ) (back : List (List ℕ)) (other : ℕ) (wanted : List (List ℕ)) → length front ≤ at → length back ≤ other → IsSorted wanted → ((t : List ℕ) → has_text wanted t ≡ true → (has_text front t || has_text back t) ≡ true)
    → filter (has_text wanted) (sorted (met front at back other)) ≡ wanted
all_kept front at back other wanted done finished rising there =
    let all : met front at back other ≡ front ++ back = ap (λ (xs : List (List ℕ)). xs ++ take other back) (take_all at front done) ∙ ap (λ (xs : List (List ℕ)). front ++ xs) (take_all other back finished) in
    same_sorted (filter (has_text wanted) (sorted (met front at back other))) wanted (IsStrictlySortedBy-filter (slice_cmp nat_cmp) (has_text wanted) (sorted (met front at back other)) (IsSorted-sorted (met front at back other))) rising
    (λ t. has_text-filter (has_text wanted) (sorted (met front at back other)) t
    ∙ (ap (λ b. b && has_text wanted t) (has_text-sorted (met front at back other) t ∙ (ap (λ (ws : List (List ℕ)). has_text ws t) all ∙ joined front back t)) ∙ kept_by (has_text front t || has_text back t) (has_text wanted t) (there t)))

-- a word of the second list comes next
pub next_of_back : (front : List (List ℕ)) (at : ℕ) (back : List (List ℕ)) (other : ℕ) (next : Next) (word : List ℕ) → next.word.now ≡ word → next.front ≡ None → next.back ≡ Some other → next.rest ≡ (at, other + 1)
    → (at < length front → Below word (get_or front at [])) → slice_get back other ≡ Some word → IsNext front at back other next
next_of_back front at back other next word same in_front in_back rest above here = record {
  in_front = rw (in_front, same) above;
  in_back = rw (in_back, same) (refl, here);
  somewhere = rw (in_front, in_back) refl;
  rest = rw (in_front, in_back) rest;
}
