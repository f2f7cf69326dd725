-- Where a number is in a list of numbers once. For the proof of `threads_stand_where_their_first_messages_do`.
use Rattle.std.proofs.Common.{◌≡◌, ℕ, Bool, true, false, not, ◌||◌, cond, List, [], ◌∷◌, ◌++◌, filter, fold, nat_eq, if◌then◌else◌, refl, sym, ap, append-nil, ◌∙◌, arith}
use Rattle.std.specs.List.{list_any}
use Rattle.nm_model_answer.specs.Listing.{each_once, with_new}

module _ (name : ℕ) where
  -- it is another
  abbrev is_other : ℕ → Bool
  is_other other = not (nat_eq name other)

  keep : (n : ℕ) (ns : List ℕ) → nat_eq name n ≡ false → filter is_other (n ∷ ns) ≡ n ∷ filter is_other ns
  keep n ns is = ap (λ b. cond (not b) (n ∷ filter is_other ns) (filter is_other ns)) is

  drop_it : (n : ℕ) (ns : List ℕ) → nat_eq name n ≡ true → filter is_other (n ∷ ns) ≡ filter is_other ns
  drop_it n ns is = ap (λ b. cond (not b) (n ∷ filter is_other ns) (filter is_other ns)) is

  filter-end : (ns : List ℕ) (n : ℕ) → filter is_other (ns ++ n ∷ []) ≡ filter is_other ns ++ filter is_other (n ∷ [])
  filter-end [] n = refl
  filter-end (first ∷ ns) n = elim (is_other first) as (λ b. cond b (first ∷ filter is_other (ns ++ n ∷ [])) (filter is_other (ns ++ n ∷ [])) ≡ cond b (first ∷ filter is_other ns) (filter is_other ns) ++ filter is_other (n ∷ [])) [
    | true ↦ ap (λ rest. first ∷ rest) (filter-end ns n)
    | false ↦ filter-end ns n
  ]

  apart : (n first : ℕ) → nat_eq name n ≡ false → nat_eq name first ≡ true → nat_eq n first ≡ false
  apart n first other is = search (arith, other, is)

  -- another number is among the others where it is among all
  among-first : (n first : ℕ) (ns : List ℕ) (test : Bool) → nat_eq name first ≡ test → nat_eq name n ≡ false → list_any (nat_eq n) (filter is_other ns) ≡ list_any (nat_eq n) ns
      → list_any (nat_eq n) (filter is_other (first ∷ ns)) ≡ (nat_eq n first || list_any (nat_eq n) ns)
  among-first n first ns true is other rest =
      ap (list_any (nat_eq n)) (drop_it first ns is) ∙ rest ∙ sym (ap (λ b. b || list_any (nat_eq n) ns) (apart n first other is))
  among-first n first ns false is other rest = ap (list_any (nat_eq n)) (keep first ns is) ∙ ap (λ b. nat_eq n first || b) rest

  among-others : (n : ℕ) (ns : List ℕ) → nat_eq name n ≡ false → list_any (nat_eq n) (filter is_other ns) ≡ list_any (nat_eq n) ns
  among-others n [] other = refl
  among-others n (first ∷ ns) other = among-first n first ns (nat_eq name first) refl other (among-others n ns other)

  turned : (a b : ℕ) (test : Bool) → nat_eq a b ≡ test → nat_eq b a ≡ test
  turned a b true is = search (arith, is)
  turned a b false is = search (arith, is)

  abbrev added : Bool → List ℕ → ℕ → List ℕ
  added old once n = if old then once else once ++ n ∷ []

  one_more_other : (n : ℕ) (once : List ℕ) (old : Bool) → nat_eq name n ≡ false → added old (name ∷ filter is_other once) n ≡ name ∷ filter is_other (added old once n)
  one_more_other n once true other = refl
  one_more_other n once false other = ap (λ rest. name ∷ rest) (sym (filter-end once n ∙ ap (λ rest. filter is_other once ++ rest) (keep n [] other)))

  one_more_same : (n : ℕ) (once : List ℕ) (old : Bool) → nat_eq name n ≡ true → name ∷ filter is_other once ≡ name ∷ filter is_other (added old once n)
  one_more_same n once true is = refl
  one_more_same n once false is = ap (λ rest. name ∷ rest) (sym (filter-end once n ∙ ap (λ rest. filter is_other once ++ rest) (drop_it n [] is) ∙ append-nil (filter is_other once)))

  one_more : (n : ℕ) (once : List ℕ) (test : Bool) → nat_eq name n ≡ test → with_new nat_eq (name ∷ filter is_other once) n ≡ name ∷ filter is_other (with_new nat_eq once n)
  one_more n once true is =
      ap (λ b. added (b || list_any (nat_eq n) (filter is_other once)) (name ∷ filter is_other once) n) (turned name n true is) ∙ one_more_same n once (list_any (nat_eq n) once) is
  one_more n once false is =
      ap (λ b. added (b || list_any (nat_eq n) (filter is_other once)) (name ∷ filter is_other once) n) (turned name n false is)
      ∙ ap (λ b. added b (name ∷ filter is_other once) n) (among-others n once is)
      ∙ one_more_other n once (list_any (nat_eq n) once) is

  all_more : (once names : List ℕ) → fold (with_new nat_eq) (name ∷ filter is_other once) names ≡ name ∷ filter is_other (fold (with_new nat_eq) once names)
  all_more once [] = refl
  all_more once (n ∷ names) = ap (λ start. fold (with_new nat_eq) start names) (one_more n once (nat_eq name n) refl) ∙ all_more (with_new nat_eq once n) names

pub once-first : (name : ℕ) (names : List ℕ) → each_once nat_eq (name ∷ names) ≡ name ∷ filter (λ other. not (nat_eq name other)) (each_once nat_eq names)
once-first name names = all_more name [] names
