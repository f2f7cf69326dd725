-- A filter keeps the order, and goes from a document on as its list does. Cited by the proofs of `kept`.
use Rattle.std.proofs.Common.{◌≡◌, refl, sym, ap, subst, ◌∙◌, ℕ, Bool, true, false, cond, leb, List, [], ◌∷◌, Option}
use Rattle.std.specs.List.{filter}
use Rattle.std.specs.Ordering.{nat_cmp}
use Rattle.std.proofs.lemmas.List.Kept.{IsStrictlySortedBy-filter}
use Rattle.nm_cursor.specs.Sets.{IsRising, Takes, from}

module _ (holds : ℕ → Bool) where
  pub rising-kept : (docs all : List ℕ) → filter holds docs ≡ all → IsRising docs → IsRising all
  rising-kept docs all is rising = subst IsRising is (IsStrictlySortedBy-filter nat_cmp holds docs rising)

  filter_cond : (test : ℕ → Bool) (b : Bool) (x : ℕ) (xs : List ℕ) → filter test (cond b (x ∷ xs) xs) ≡ cond b (cond (test x) (x ∷ filter test xs) (filter test xs)) (filter test xs)
  filter_cond test true x xs = refl
  filter_cond test false x xs = refl

  cond_cond : (b c : Bool) (x : ℕ) (xs : List ℕ) → cond b (cond c (x ∷ xs) xs) xs ≡ cond c (cond b (x ∷ xs) xs) xs
  cond_cond true true x xs = refl
  cond_cond true false x xs = refl
  cond_cond false true x xs = refl
  cond_cond false false x xs = refl

  filters_swap : (test : ℕ → Bool) (docs : List ℕ) → filter test (filter holds docs) ≡ filter holds (filter test docs)
  filters_swap test [] = refl
  filters_swap test (x ∷ xs) =
      filter_cond test (holds x) x (filter holds xs)
      ∙ ap (λ rest. cond (holds x) (cond (test x) (x ∷ rest) rest) rest) (filters_swap test xs)
      ∙ cond_cond (holds x) (test x) x (filter holds (filter test xs))
      ∙ sym (filter_cond holds (test x) x (filter test xs))

  from_kept : (doc : ℕ) (docs : List ℕ) → from doc (filter holds docs) ≡ filter holds (from doc docs)
  unfolding from
  from_kept doc docs = filters_swap (leb doc) docs

  module _ (docs all rest : List ℕ) (is : filter holds docs ≡ all) where
    pub seek_none : (doc : ℕ) → from doc docs ≡ [] → rest ≡ [] → (from doc all ≡ []) × (filter holds rest ≡ [])
    seek_none doc e none = (ap (from doc) (sym is) ∙ from_kept doc docs ∙ ap (filter holds) e, ap (filter holds) none)

    pub seek_some : (doc found : ℕ) (new : List ℕ) (taken : Option ℕ) → from doc docs ≡ found ∷ rest → Takes (filter holds (found ∷ rest)) taken new → Takes (from doc all) taken new
    seek_some doc found new taken e takes = subst (λ (list : List ℕ). Takes list taken new) (sym (ap (from doc) (sym is) ∙ from_kept doc docs ∙ ap (filter holds) e)) takes
