-- What two rising lists of texts give that are passed side by side. For the proof of `only_in`.
use Rattle.std.proofs.Common.{◌≡◌, ℕ, Bool, true, false, ◌||◌, not, List, [], ◌∷◌, ◌++◌, cond, filter, length, refl, sym, ap, ◌∙◌, append-nil, ◌≤◌, drop}
use Rattle.std.proofs.lemmas.List.{drop_all}
use Rattle.std.specs.Cmp.Lexicographic.{nat_list_cmp_total, nat_list_eq_equiv, slice_cmp, texts_ties}
use Rattle.std.specs.List.{AllByRecursion}
use Rattle.std.specs.List.Sorted.{IsStrictlySortedBy}
use Rattle.std.specs.Ordering.{is_eq, is_lt, nat_cmp}
use Rattle.std.specs.declared.cmp.Ordering.{Ordering}
use Rattle.std.specs.declared.cmp.Ordering.TheVariants.{Less, Equal, Greater}
use Rattle.nm_base.specs.Order.{IsSorted, has_text, same_text}
use Rattle.nm_base.specs.OrderLaws.{above_all, turned}
use Rattle.nm_base.specs.SortedLaws.{lacks}
use Rattle.nm_sync.specs.Merge.{begins_with, from_on}

abbrev Texts : Type 0
Texts = List (List ℕ)

-- what the first list has and the second lacks, as they are passed side by side
abbrev pub only_of : Texts → Texts → Texts
only_of rest [] = []
only_of rest (text ∷ texts) = cond (begins_with text (from_on text rest)) [] (text ∷ []) ++ only_of (from_on text rest) texts

-- what was passed over is none of the texts from this one on
module _ (text later : List ℕ) (below : (first : List ℕ) → slice_cmp nat_cmp first text ≡ Less → same_text later first ≡ false) where
  still_by : (first : List ℕ) (more : Texts) (answer : Ordering) → slice_cmp nat_cmp first text ≡ answer → has_text (from_on text more) later ≡ has_text more later
      → has_text (cond (is_lt answer) (from_on text more) (first ∷ more)) later ≡ has_text (first ∷ more) later
  still_by first more Less e rest = rest ∙ sym (ap (λ b. b || has_text more later) (below first e))
  still_by first more Equal e rest = refl
  still_by first more Greater e rest = refl

  still : (rest : Texts) → has_text (from_on text rest) later ≡ has_text rest later
  still [] = refl
  still (first ∷ more) = still_by first more (slice_cmp nat_cmp first text) refl (still more)

below_self : (text first : List ℕ) → slice_cmp nat_cmp first text ≡ Less → same_text text first ≡ false
below_self text first less = texts_ties text first ∙ ap is_eq (turned first text Less less)

below_later : (text later : List ℕ) → slice_cmp nat_cmp text later ≡ Less → (first : List ℕ) → slice_cmp nat_cmp first text ≡ Less → same_text later first ≡ false
below_later text later up first less = below_self later first (nat_list_cmp_total.trans first text later less up)

later_still : (text : List ℕ) (rest texts : Texts) → AllByRecursion (λ y. slice_cmp nat_cmp text y ≡ Less) texts
    → AllByRecursion (λ y. not (has_text (from_on text rest) y) ≡ not (has_text rest y)) texts
later_still text rest [] up = tt
later_still text rest (later ∷ texts) up = (ap not (still text later (below_later text later up.0) rest), later_still text rest texts up.1)

-- it is among the texts from it on where it is the first of them
begins_by : (text first : List ℕ) (more : Texts) (answer : Ordering) → slice_cmp nat_cmp first text ≡ answer → AllByRecursion (λ y. slice_cmp nat_cmp first y ≡ Less) more
    → begins_with text (from_on text more) ≡ has_text (from_on text more) text
    → begins_with text (cond (is_lt answer) (from_on text more) (first ∷ more)) ≡ has_text (cond (is_lt answer) (from_on text more) (first ∷ more)) text
begins_by text first more Less e above rest = rest
begins_by text first more Equal e above rest =
    let same : same_text first text ≡ true = texts_ties first text ∙ ap is_eq e in
    same ∙ sym (ap (λ b. b || has_text more text) (nat_list_eq_equiv.symm text first ∙ same))
begins_by text first more Greater e above rest =
    let up : slice_cmp nat_cmp text first ≡ Less = turned first text Greater e in
    (texts_ties first text ∙ ap is_eq e)
    ∙ sym (ap (λ b. b || has_text more text) (texts_ties text first ∙ ap is_eq up) ∙ lacks text more (above_all text first more above up))

begins_is : (text : List ℕ) (rest : Texts) → IsSorted rest → begins_with text (from_on text rest) ≡ has_text (from_on text rest) text
unfolding IsStrictlySortedBy
begins_is text [] rising = refl
begins_is text (first ∷ more) rising = begins_by text first more (slice_cmp nat_cmp first text) refl rising.0 (begins_is text more rising.1)

sorted_by : (b : Bool) (first : List ℕ) (more from : Texts) → IsSorted (first ∷ more) → IsSorted from → IsSorted (cond b from (first ∷ more))
sorted_by true first more from all rest = rest
sorted_by false first more from all rest = all

sorted_from : (text : List ℕ) (rest : Texts) → IsSorted rest → IsSorted (from_on text rest)
unfolding IsStrictlySortedBy
sorted_from text [] rising = rising
sorted_from text (first ∷ more) rising = sorted_by (is_lt (slice_cmp nat_cmp first text)) first more (from_on text more) rising (sorted_from text more rising.1)

filter_same : (p q : List ℕ → Bool) (texts : Texts) → AllByRecursion (λ t. p t ≡ q t) texts → filter p texts ≡ filter q texts
filter_same p q [] h = refl
filter_same p q (text ∷ texts) h =
    ap (λ (b : Bool). cond b (text ∷ filter p texts) (filter p texts)) h.0 ∙ ap (λ (l : Texts). cond (q text) (text ∷ l) l) (filter_same p q texts h.1)

put_by : (b : Bool) (text : List ℕ) (more : Texts) → cond b [] (text ∷ []) ++ more ≡ cond (not b) (text ∷ more) more
put_by true text more = refl
put_by false text more = refl

-- so side by side they give the texts that the second list lacks
pub only_is : (rest texts : Texts) → IsSorted texts → IsSorted rest → only_of rest texts ≡ filter (λ text. not (has_text rest text)) texts
unfolding IsStrictlySortedBy
only_is rest [] rising other = refl
only_is rest (text ∷ texts) rising other =
    let from : Texts = from_on text rest in
    let more : only_of from texts ≡ filter (λ t. not (has_text rest t)) texts =
    only_is from texts rising.1 (sorted_from text rest other)
    ∙ filter_same (λ t. not (has_text from t)) (λ t. not (has_text rest t)) texts (later_still text rest texts rising.0) in
    let front : begins_with text from ≡ has_text rest text = begins_is text rest other ∙ still text text (below_self text) rest in
    put_by (begins_with text from) text (only_of from texts)
    ∙ (ap (λ (b : Bool). cond (not b) (text ∷ only_of from texts) (only_of from texts)) front
    ∙ ap (λ (l : Texts). cond (not (has_text rest text)) (text ∷ l) l) more)

-- none of the first list is left
pub only_end : (others texts only rest : Texts) (at : ℕ) → length texts ≤ at → only ++ only_of rest (drop at texts) ≡ only_of others texts → only ≡ only_of others texts
only_end others texts only rest at none so_far =
    sym (append-nil only) ∙ (ap (λ (l : Texts). only ++ only_of rest l) (sym (drop_all at texts none)) ∙ so_far)
