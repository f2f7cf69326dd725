-- The numbers of the documents that live, one after the other, are what a merge asks for. For the proofs of `tier`.
use Rattle.std.proofs.Common.{◌≡◌, ℕ, ◌+◌, Bool, true, false, cond, List, [], ◌∷◌, ◌++◌, Some, ◌||◌, ◌&&◌, filter, nat_eq, slice_get, take, refl, sym, ap, ◌∙◌, append_assoc}
use Rattle.std.specs.List.{AllByRecursion, list_any}
use Rattle.std.proofs.Math.Bool.{and-false, and-true}
use Rattle.std.proofs.lemmas.Bool.{eq-eqb, eqb-true}
use Rattle.std.proofs.lemmas.List.{map-append, take_more}
use Rattle.std.proofs.lemmas.List.Elements.{filter-append}
use Rattle.std.proofs.lemmas.Option.{get_or_from_slice_get, slice_get_within}
use Rattle.nm_segment.specs.Docs.{numbers}
use Rattle.nm_segment.specs.Merge.{lives, living}
use Rattle.nm_segment.specs.declared.doc_words.DocWords.{DocWords}
use Rattle.nm_tiers.specs.Tiers.{living_docs}

module _ (holds : ℕ → Bool) where
  next-of : (xs : List ℕ) (at doc : ℕ) → slice_get xs at ≡ Some doc → take (at + 1) xs ≡ take at xs ++ doc ∷ []
  next-of xs at doc is = take_more xs at doc (slice_get_within xs at doc is) ∙ ap (λ (n : ℕ). take at xs ++ n ∷ []) (get_or_from_slice_get xs at doc doc is)

  filter-one : (doc : ℕ) (test : Bool) → holds doc ≡ test → filter holds (doc ∷ []) ≡ cond test (doc ∷ []) []
  filter-one doc test is = ap (λ (b : Bool). cond b (doc ∷ []) []) is

  pub living-more : (xs old now new : List ℕ) (at doc : ℕ) (test : Bool) → slice_get xs at ≡ Some doc → holds doc ≡ test → now ≡ old ++ filter holds (take at xs) → new ≡ now ++ cond test (doc ∷ []) []
      → new ≡ old ++ filter holds (take (at + 1) xs)
  living-more xs old now new at doc test is holds_is before more =
      more
      ∙ (ap (λ (l : List ℕ). l ++ cond test (doc ∷ []) []) before
      ∙ (append_assoc old (filter holds (take at xs)) (cond test (doc ∷ []) [])
      ∙ ap (λ (l : List ℕ). old ++ l)
      (ap (λ (l : List ℕ). filter holds (take at xs) ++ l) (sym (filter-one doc test holds_is))
      ∙ (sym (filter-append holds (take at xs) (doc ∷ [])) ∙ ap (filter holds) (sym (next-of xs at doc is))))))

  -- ---- to be among the numbers that live is to be one of them and to live

  any-of : (x y : ℕ) (rest : List ℕ) (test : Bool) → list_any (nat_eq x) (cond test (y ∷ rest) rest) ≡ cond test (nat_eq x y || list_any (nat_eq x) rest) (list_any (nat_eq x) rest)
  any-of x y rest true = refl
  any-of x y rest false = refl

  both : (lives here other found all : Bool) → (here ≡ true → lives ≡ other) → found ≡ (lives && all) → cond other (here || found) found ≡ (lives && (here || all))
  both lives true true found all same is = sym (ap (λ (b : Bool). b && true) (same refl))
  both lives false true found all same is = is
  both lives true false found all same is = is ∙ (ap (λ (b : Bool). b && all) (same refl) ∙ sym (ap (λ (b : Bool). b && true) (same refl)))
  both lives false false found all same is = is

  any-living : (xs : List ℕ) (x : ℕ) → list_any (nat_eq x) (filter holds xs) ≡ (holds x && list_any (nat_eq x) xs)
  any-living [] x = sym (and-false (holds x))
  any-living (y ∷ ys) x =
      any-of x y (filter holds ys) (holds y)
      ∙ both (holds x) (nat_eq x y) (holds y) (list_any (nat_eq x) (filter holds ys)) (list_any (nat_eq x) ys) (λ e. ap holds (eqb-true x y e)) (any-living ys x)

  later : (here there : Bool) → there ≡ true → (here || there) ≡ true
  later true there is = refl
  later false there is = is

  weaken : (x : ℕ) (docs more : List DocWords) → AllByRecursion (λ d. list_any (nat_eq d.doc) (numbers more) ≡ true) docs → AllByRecursion (λ d. (nat_eq d.doc x || list_any (nat_eq d.doc) (numbers more)) ≡ true) docs
  weaken x [] more h = tt
  weaken x (d ∷ docs) more h = (later (nat_eq d.doc x) (list_any (nat_eq d.doc) (numbers more)) h.0, weaken x docs more h.1)

  among : (docs : List DocWords) → AllByRecursion (λ d. list_any (nat_eq d.doc) (numbers docs) ≡ true) docs
  among [] = tt
  among (d ∷ docs) = (ap (λ (b : Bool). b || list_any (nat_eq d.doc) (numbers docs)) (eq-eqb d.doc d.doc refl), weaken d.doc docs docs (among docs))

  living-among : (all docs : List DocWords) → AllByRecursion (λ d. list_any (nat_eq d.doc) (numbers all) ≡ true) docs → living (filter holds (numbers all)) docs ≡ living_docs holds docs
  living-among all [] h = refl
  living-among all (d ∷ docs) h =
      let here : lives (filter holds (numbers all)) d.doc ≡ holds d.doc = any-living (numbers all) d.doc ∙ (ap (λ (b : Bool). holds d.doc && b) h.0 ∙ and-true (holds d.doc)) in
      let rest : living (filter holds (numbers all)) docs ≡ living_docs holds docs = living-among all docs h.1 in (λ i. cond (here i) (d ∷ rest i) (rest i))

  -- a merge keeps the documents that live
  pub merged-is : (front back one two three four segment : List DocWords) (start first second live : List ℕ) → start ≡ [] → first ≡ start ++ filter holds (numbers one) → second ≡ first ++ filter holds (numbers two) → live ≡ second
      → one ≡ front → two ≡ back → three ≡ front → four ≡ back → segment ≡ living live (three ++ four) → segment ≡ living_docs holds (front ++ back)
  merged-is front back one two three four segment start first second live none is_first is_second is_live a b c d is =
      let numbers_are : live ≡ filter holds (numbers (front ++ back)) =
      is_live ∙ (is_second ∙ (ap (λ (l : List ℕ). l ++ filter holds (numbers two)) (is_first ∙ ap (λ (l : List ℕ). l ++ filter holds (numbers one)) none)
      ∙ (ap (λ (l : List DocWords). filter holds (numbers l) ++ filter holds (numbers two)) a ∙ (ap (λ (l : List DocWords). filter holds (numbers front) ++ filter holds (numbers l)) b
      ∙ (sym (filter-append holds (numbers front) (numbers back)) ∙ ap (filter holds) (sym (map-append (λ (d : DocWords). d.doc) front back))))))) in
      is ∙ (ap (λ (l : List ℕ). living l (three ++ four)) numbers_are
      ∙ (ap (λ (l : List DocWords). living (filter holds (numbers (front ++ back))) (l ++ four)) c ∙ (ap (λ (l : List DocWords). living (filter holds (numbers (front ++ back))) (front ++ l)) d
      ∙ living-among (front ++ back) (front ++ back) (among (front ++ back)))))
