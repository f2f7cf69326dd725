-- A document that has words in a list of any field has them in one of the five. For the proof of `in_any_field`.
use Rattle.std.proofs.Common.{◌≡◌, IfOk, Result, Ok, Err, ℕ, Bool, true, false, cond, ◌||◌, ◌&&◌, ◌==◌, None, Option, Some, List, [], ◌∷◌, filter, refl, sym, ap, ◌∙◌}
use Rattle.std.specs.List.{AllByRecursion, list_any}
use Rattle.std.specs.List.Sorted.{IsStrictlySortedBy}
use Rattle.std.specs.Ordering.{nat_cmp}
use Rattle.std.specs.declared.cmp.Ordering.TheVariants.{Less}
use Rattle.std.proofs.Math.Bool.{and-false, and-true}
use Rattle.nm_base.specs.AskedWords.{has_words, is_asked, lists_have}
use Rattle.nm_base.specs.declared.facts.Field.{Field}
use Rattle.nm_base.specs.declared.facts.Field.TheVariants.{From, To, Subject, Body, Attachment}
use Rattle.nm_base.specs.declared.facts.FieldWords.{FieldWords}
use Rattle.nm_cursor.specs.SetLaws.{Membership, Order}
use Rattle.nm_cursor.specs.Sets.{IsRising, has, union}
use Rattle.nm_lookup.specs.Lookup.{numbers_having}
use Rattle.nm_segment.specs.Docs.{numbers}
use Rattle.nm_segment.specs.declared.doc_words.DocWords.{DocWords}

-- ---- one test or the other of the items of a list

or-swap : (a b c d : Bool) → ((a || b) || (c || d)) ≡ ((a || c) || (b || d))
or-swap true b c d = refl
or-swap false true true d = refl
or-swap false true false d = refl
or-swap false false c d = refl

any-or : {X : Type 0} (p q : X → Bool) (xs : List X) → (list_any p xs || list_any q xs) ≡ list_any (λ x. p x || q x) xs
any-or p q [] = refl
any-or p q (x ∷ xs) = or-swap (p x) (list_any p xs) (q x) (list_any q xs) ∙ ap (λ (b : Bool). (p x || q x) || b) (any-or p q xs)

any-same : {X : Type 0} (p q : X → Bool) (xs : List X) → ((x : X) → p x ≡ q x) → list_any p xs ≡ list_any q xs
any-same p q [] same = refl
any-same p q (x ∷ xs) same = ap (λ (b : Bool). b || list_any p xs) (same x) ∙ ap (λ (b : Bool). q x || b) (any-same p q xs same)

-- any of five
abbrev five : Bool → Bool → Bool → Bool → Bool → Bool
five a b c d e = (((a || b) || c) || d) || e

any-five : {X : Type 0} (a b c d e all : X → Bool) (xs : List X) → ((x : X) → five (a x) (b x) (c x) (d x) (e x) ≡ all x) → five (list_any a xs) (list_any b xs) (list_any c xs) (list_any d xs) (list_any e xs) ≡ list_any all xs
any-five a b c d e all xs same =
    ap (λ (t : Bool). ((t || list_any c xs) || list_any d xs) || list_any e xs) (any-or a b xs)
    ∙ (ap (λ (t : Bool). (t || list_any d xs) || list_any e xs) (any-or (λ x. a x || b x) c xs)
    ∙ (ap (λ (t : Bool). t || list_any e xs) (any-or (λ x. (a x || b x) || c x) d xs)
    ∙ (any-or (λ x. ((a x || b x) || c x) || d x) e xs ∙ any-same (λ x. five (a x) (b x) (c x) (d x) (e x)) all xs same)))

-- ---- the lists of a document

in-five : (field : Field) (h : Bool) → five (is_asked (Some From) field && h) (is_asked (Some To) field && h) (is_asked (Some Subject) field && h) (is_asked (Some Body) field && h) (is_asked (Some Attachment) field && h) ≡ (is_asked None field && h)
in-five From true = refl
in-five From false = refl
in-five To true = refl
in-five To false = refl
in-five Subject true = refl
in-five Subject false = refl
in-five Body true = refl
in-five Body false = refl
in-five Attachment true = refl
in-five Attachment false = refl

module _ (starts : Bool) (words : List (List ℕ)) where
  lists-five : (lists : List FieldWords)
      → five (lists_have (Some From) starts words lists) (lists_have (Some To) starts words lists) (lists_have (Some Subject) starts words lists) (lists_have (Some Body) starts words lists) (lists_have (Some Attachment) starts words lists)
      ≡ lists_have None starts words lists
  lists-five lists =
      any-five (λ (list : FieldWords). is_asked (Some From) list.field && has_words starts words list.words) (λ list. is_asked (Some To) list.field && has_words starts words list.words)
      (λ list. is_asked (Some Subject) list.field && has_words starts words list.words) (λ list. is_asked (Some Body) list.field && has_words starts words list.words)
      (λ list. is_asked (Some Attachment) list.field && has_words starts words list.words) (λ list. is_asked None list.field && has_words starts words list.words) lists
      (λ list. in-five list.field (has_words starts words list.words))

  -- ---- the documents

  and-five : (here a b c d e all : Bool) → five a b c d e ≡ all → five (here && a) (here && b) (here && c) (here && d) (here && e) ≡ (here && all)
  and-five true a b c d e all is = is
  and-five false a b c d e all is = refl

  module _ (doc : ℕ) where
    abbrev is_found : Option Field → DocWords → Bool
    is_found field d = (doc == d.doc) && lists_have field starts words d.lists

    found-case : (p : DocWords → Bool) (d : DocWords) (rest : List DocWords) (test : Bool) → p d ≡ test → has (numbers (cond test (d ∷ rest) rest)) doc ≡ (((doc == d.doc) && p d) || has (numbers rest) doc)
    unfolding has
    found-case p d rest true is = ap (λ (b : Bool). b || has (numbers rest) doc) (sym (and-true (doc == d.doc)) ∙ ap (λ (b : Bool). (doc == d.doc) && b) (sym is))
    found-case p d rest false is = ap (λ (b : Bool). b || has (numbers rest) doc) (sym (and-false (doc == d.doc)) ∙ ap (λ (b : Bool). (doc == d.doc) && b) (sym is))

    has-found : (p : DocWords → Bool) (docs : List DocWords) → has (numbers (filter p docs)) doc ≡ list_any (λ d. (doc == d.doc) && p d) docs
    unfolding has
    has-found p [] = refl
    has-found p (d ∷ docs) = found-case p d (filter p docs) (p d) refl ∙ ap (λ (b : Bool). ((doc == d.doc) && p d) || b) (has-found p docs)

    having : (field : Option Field) (docs : List DocWords) → has (numbers_having field starts words docs) doc ≡ list_any (is_found field) docs
    having field docs = has-found (λ d. lists_have field starts words d.lists) docs

    pub having-five : (docs : List DocWords)
        → five (has (numbers_having (Some From) starts words docs) doc) (has (numbers_having (Some To) starts words docs) doc) (has (numbers_having (Some Subject) starts words docs) doc)
        (has (numbers_having (Some Body) starts words docs) doc) (has (numbers_having (Some Attachment) starts words docs) doc)
        ≡ has (numbers_having None starts words docs) doc
    having-five docs =
        (λ i. five (having (Some From) docs i) (having (Some To) docs i) (having (Some Subject) docs i) (having (Some Body) docs i) (having (Some Attachment) docs i))
        ∙ (any-five (is_found (Some From)) (is_found (Some To)) (is_found (Some Subject)) (is_found (Some Body)) (is_found (Some Attachment)) (is_found None) docs
        (λ d.
        and-five (doc == d.doc) (lists_have (Some From) starts words d.lists) (lists_have (Some To) starts words d.lists) (lists_have (Some Subject) starts words d.lists) (lists_have (Some Body) starts words d.lists)
        (lists_have (Some Attachment) starts words d.lists) (lists_have None starts words d.lists) (lists-five d.lists))
        ∙ sym (having None docs))

  -- ---- numbers that rise

  cut-all : (P : ℕ → Type 0) (d : DocWords) (rest : List DocWords) (test : Bool) → P d.doc → AllByRecursion P (numbers rest) → AllByRecursion P (numbers (cond test (d ∷ rest) rest))
  cut-all P d rest true first all = (first, all)
  cut-all P d rest false first all = all

  all-kept : (P : ℕ → Type 0) (p : DocWords → Bool) (docs : List DocWords) → AllByRecursion P (numbers docs) → AllByRecursion P (numbers (filter p docs))
  all-kept P p [] all = tt
  all-kept P p (d ∷ docs) all = cut-all P d (filter p docs) (p d) all.0 (all-kept P p docs all.1)

  cut-rising : (d : DocWords) (rest : List DocWords) (test : Bool) → AllByRecursion (λ n. nat_cmp d.doc n ≡ Less) (numbers rest) → IsRising (numbers rest) → IsRising (numbers (cond test (d ∷ rest) rest))
  unfolding IsStrictlySortedBy
  cut-rising d rest true all rising = (all, rising)
  cut-rising d rest false all rising = rising

  kept-rising : (p : DocWords → Bool) (docs : List DocWords) → IsRising (numbers docs) → IsRising (numbers (filter p docs))
  unfolding IsStrictlySortedBy
  kept-rising p [] rising = rising
  kept-rising p (d ∷ docs) rising = cut-rising d (filter p docs) (p d) (all-kept (λ n. nat_cmp d.doc n ≡ Less) p docs rising.0) (kept-rising p docs rising.1)

  -- ---- the five lists together

  pub any-field : ((left right : List ℕ) (doc : ℕ) → Membership left right doc) → ((left right : List ℕ) → IsRising left → IsRising right → Order left right) → (docs : List DocWords) → IsRising (numbers docs)
      → (from to subject body attachment people heads texts all found : List ℕ) → from ≡ numbers_having (Some From) starts words docs → to ≡ numbers_having (Some To) starts words docs → subject ≡ numbers_having (Some Subject) starts words docs
      → body ≡ numbers_having (Some Body) starts words docs → attachment ≡ numbers_having (Some Attachment) starts words docs → people ≡ union from to → heads ≡ union people subject → texts ≡ union heads body → all ≡ union texts attachment
      → found ≡ all → IsRising found → found ≡ numbers_having None starts words docs
  any-field membership order docs rising from to subject body attachment people heads texts all found a b c d e people_is heads_is texts_is all_is is found_rising =
      (order found (numbers_having None starts words docs) found_rising (kept-rising (λ d. lists_have None starts words d.lists) docs rising)).decides (λ doc.
      ap (λ (l : List ℕ). has l doc) (is ∙ all_is) ∙ ((membership texts attachment doc).in_union
      ∙ (ap (λ (t : Bool). t || has attachment doc) (ap (λ (l : List ℕ). has l doc) texts_is ∙ ((membership heads body doc).in_union
      ∙ ap (λ (t : Bool). t || has body doc) (ap (λ (l : List ℕ). has l doc) heads_is ∙ ((membership people subject doc).in_union
      ∙ ap (λ (t : Bool). t || has subject doc) (ap (λ (l : List ℕ). has l doc) people_is ∙ (membership from to doc).in_union)))))
      ∙ ((λ i. five (has (a i) doc) (has (b i) doc) (has (c i) doc) (has (d i) doc) (has (e i) doc)) ∙ having-five doc docs))))

pub ok-both : {T E : Type 0} (P Q R : T → Type 0) (result : Result T E) → ((value : T) → P value → Q value → R value) → IfOk result P → IfOk result Q → IfOk result R
ok-both P Q R (Ok value) both p q = both value p q
ok-both P Q R (Err error) both p q = tt

pub ok-each : {T E : Type 0} (P Q : T → Type 0) (result : Result T E) → ((value : T) → P value → Q value) → IfOk result P → IfOk result Q
ok-each P Q (Ok value) each p = each value p
ok-each P Q (Err error) each p = tt
