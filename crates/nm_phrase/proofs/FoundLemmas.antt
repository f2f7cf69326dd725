-- The documents that words find, from the hits at which they end. Cited by the proofs of `laws`, `phrase` and `start`.
use Rattle.std.proofs.Common.{◌≡◌, ℕ, zero, suc, ◌+◌, ◌-◌, ◌<◌, Bool, true, false, cond, nat_eq, Option, None, Some, List, [], ◌∷◌, length, map, slice_get, refl, sym, ap, subst, ◌∙◌, inl, inr, arith}
use Rattle.std.specs.Prelude.{◌≢◌, ◌↔◌, ◌&&◌, ◌||◌}
use Rattle.std.specs.List.{AllByRecursion, Contains, filter, flat_map, list_any}
use Rattle.std.specs.List.Sorted.{IsStrictlySortedBy}
use Rattle.std.specs.Ordering.{nat_cmp}
use Rattle.std.specs.declared.cmp.Ordering.TheVariants.{Less}
use Rattle.std.proofs.lemmas.Bool.{and_from, and_parts, cases_Bool, eq-eqb, eqb-true, false≢true, false_from_ne_true, ne_eqb, or_left}
use Rattle.std.proofs.lemmas.Bool.Decides.{nat_tests}
use Rattle.std.proofs.lemmas.List.{append-nil}
use Rattle.std.proofs.lemmas.Map.Keys.{sorted_head, sorted_tail}
use Rattle.nm_base.specs.FieldNumber.{field_number}
use Rattle.nm_base.specs.Order.{same_text}
use Rattle.nm_base.specs.SetLaws.{bytes_same}
use Rattle.nm_base.specs.declared.facts.Field.{Field}
use Rattle.nm_base.specs.declared.facts.Field.TheVariants.{From, To, Subject, Body, Attachment}
use Rattle.nm_base.specs.declared.facts.FieldWords.{FieldWords}
use Rattle.nm_blocks.specs.declared.hit.Hit.{Hit}
use Rattle.nm_cursor.specs.SetLaws.{Membership, Order}
use Rattle.nm_cursor.specs.Sets.{IsRising, has, union}
use Rattle.nm_segment.specs.declared.doc_words.DocWords.{DocWords}
use Rattle.nm_segment.specs.Docs.{IsHit, hits_of, lists_of, numbers}
use Rattle.nm_base.specs.AskedWords.{has_words, is_asked, is_last_word, lists_have}
use Rattle.nm_phrase.specs.Ends.{EndsAt, IsFront, narrowed}
use Rattle.nm_phrase.specs.Found.{numbers_of, numbers_with}
use Rattle.nm_phrase.proofs.EndLemmas.{ends_at, found_at, push_some, same_text-itself}
use Rattle.nm_phrase.proofs.ListLemmas.{In, any_from_in, any_in, contained, in_flat_map, in_flat_mapped, in_from, in_map, in_mapped, in_slice, same_test, slice_of}
use Rattle.nm_phrase.proofs.WordLemmas.{has_from_place, place_of}

-- ---- fields

field_of : ℕ → Field
field_of zero = From
field_of (suc zero) = To
field_of (suc (suc zero)) = Subject
field_of (suc (suc (suc zero))) = Body
field_of (suc (suc (suc (suc n)))) = Attachment

decoded : (field : Field) → field_of (field_number field) ≡ field
unfolding field_of
decoded From = refl
decoded To = refl
decoded Subject = refl
decoded Body = refl
decoded Attachment = refl

same_field : (a b : Field) → field_number a ≡ field_number b → a ≡ b
same_field a b e = sym (decoded a) ∙ (ap field_of e ∙ decoded b)

-- ---- the lists of one document

some_length : (words : List (List ℕ)) → words ≢ [] → 0 < length words
some_length [] some = absurd (some refl)
some_length (word ∷ words) some = omega arith

abbrev Ends : List DocWords → Field → Bool → List (List ℕ) → ℕ → Type 0
Ends docs field starts words doc = (hit : Hit) × EndsAt docs field starts words hit × (hit.doc ≡ doc)

module _ (field : Field) (starts : Bool) (words : List (List ℕ)) where
  tests : FieldWords → Bool
  tests list = is_asked (Some field) list.field && has_words starts words list.words

  ends_of_lists : (docs : List DocWords) (doc : ℕ) → words ≢ [] → lists_have (Some field) starts words (lists_of docs doc) ≡ true → Ends docs field starts words doc
  ends_of_lists docs doc some h =
      let one = any_in (λ (list : FieldWords). is_asked (Some field) list.field && has_words starts words list.words) (lists_of docs doc) h in
      let list : FieldWords = one.0 in
      let parts = and_parts (is_asked (Some field) list.field) (has_words starts words list.words) one.2 in
      let at = slice_of list (lists_of docs doc) one.1 in
      let p = place_of starts words list.words parts.1 in
      let hit : Hit = record { doc = doc; list = at.0; place = p.0 + length words - 1 } in (
        hit,
        record {
          list = list;
          there = at.1;
          of_field = sym (same_field field list.field (eqb-true (field_number field) (field_number list.field) parts.0));
          start = p.0;
          place = omega (arith, some_length words some);
          stand = p.1;
        },
        refl,
      )

  lists_of_ends : (docs : List DocWords) (doc : ℕ) → Ends docs field starts words doc → lists_have (Some field) starts words (lists_of docs doc) ≡ true
  lists_of_ends docs doc e =
      let hit : Hit = e.0 in
      let ended : EndsAt docs field starts words hit = e.1 in
      let there : slice_get (lists_of docs doc) hit.list ≡ Some ended.list = ap (λ (n : ℕ). slice_get (lists_of docs n) hit.list) (sym e.2) ∙ ended.there in
      let asked : is_asked (Some field) ended.list.field ≡ true = eq-eqb (field_number field) (field_number ended.list.field) (ap field_number (sym ended.of_field)) in
      any_from_in (λ (list : FieldWords). is_asked (Some field) list.field && has_words starts words list.words) ended.list (lists_of docs doc) (in_slice ended.list (lists_of docs doc) hit.list there)
      (and_from (is_asked (Some field) ended.list.field) (has_words starts words ended.list.words) asked (has_from_place starts words ended.list.words ended.start ended.stand))

  -- ---- all documents

  abbrev passes : DocWords → Bool
  passes d = lists_have (Some field) starts words d.lists

  less_of : (a b : ℕ) → nat_cmp a b ≡ Less → a < b
  less_of a b h = grind (arith, nat_tests)

  apart : (a b : ℕ) → a < b → nat_eq a b ≡ false
  apart a b h = ne_eqb a b (λ e. omega (arith, h, e))

  numbers_step : (d : DocWords) (docs : List DocWords) (b : Bool) → passes d ≡ b → numbers_with starts field words (d ∷ docs) ≡ cond b (d.doc ∷ numbers_with starts field words docs) (numbers_with starts field words docs)
  numbers_step d docs true e = ap (λ (t : Bool). map (λ (x : DocWords). x.doc) (cond t (d ∷ filter passes docs) (filter passes docs))) e
  numbers_step d docs false e = ap (λ (t : Bool). map (λ (x : DocWords). x.doc) (cond t (d ∷ filter passes docs) (filter passes docs))) e

  none_below : (docs : List DocWords) (doc : ℕ) → AllByRecursion (λ n. nat_cmp doc n ≡ Less) (numbers docs) → has (numbers_with starts field words docs) doc ≡ false
  unfolding has
  none_below [] doc all = refl
  none_below (d ∷ docs) doc all =
      let rest : list_any (nat_eq doc) (numbers_with starts field words docs) ≡ false = none_below docs doc all.1 in
      elim (cases_Bool (passes d)) [
        | inl is ↦ ap (list_any (nat_eq doc)) (numbers_step d docs true is) ∙ (ap (λ (b : Bool). b || list_any (nat_eq doc) (numbers_with starts field words docs)) (apart doc d.doc (less_of doc d.doc all.0)) ∙ rest)
        | inr not_is ↦ ap (list_any (nat_eq doc)) (numbers_step d docs false not_is) ∙ rest
      ]

  abbrev listed : List DocWords → ℕ → Bool
  listed docs doc = lists_have (Some field) starts words (lists_of docs doc)

  here_case : (d : DocWords) (docs : List DocWords) (doc : ℕ) (b : Bool) → passes d ≡ b → nat_eq d.doc doc ≡ true → list_any (nat_eq d.doc) (numbers_with starts field words docs) ≡ false
      → list_any (nat_eq doc) (cond b (d.doc ∷ numbers_with starts field words docs) (numbers_with starts field words docs)) ≡ b
  here_case d docs doc true e same none = or_left (nat_eq doc d.doc) (_) (eq-eqb doc d.doc (sym (eqb-true d.doc doc same)))
  here_case d docs doc false e same none = ap (λ (n : ℕ). list_any (nat_eq n) (numbers_with starts field words docs)) (sym (eqb-true d.doc doc same)) ∙ none

  there_case : (d : DocWords) (docs : List DocWords) (doc : ℕ) (b : Bool) → nat_eq d.doc doc ≡ false
      → list_any (nat_eq doc) (cond b (d.doc ∷ numbers_with starts field words docs) (numbers_with starts field words docs)) ≡ list_any (nat_eq doc) (numbers_with starts field words docs)
  there_case d docs doc true e = ap (λ (t : Bool). t || list_any (nat_eq doc) (numbers_with starts field words docs)) (false_from_ne_true (nat_eq doc d.doc) (λ is. false≢true (sym e ∙ eq-eqb d.doc doc (sym (eqb-true doc d.doc is)))))
  there_case d docs doc false e = refl

  has_case : (d : DocWords) (docs : List DocWords) (doc : ℕ) (b : Bool) → nat_eq d.doc doc ≡ b → IsStrictlySortedBy nat_cmp (numbers (d ∷ docs)) → list_any (nat_eq doc) (numbers_with starts field words docs) ≡ listed docs doc
      → list_any (nat_eq doc) (numbers_with starts field words (d ∷ docs)) ≡ lists_have (Some field) starts words (cond b d.lists (lists_of docs doc))
  unfolding has
  has_case d docs doc true e sorted rest =
      ap (list_any (nat_eq doc)) (numbers_step d docs (passes d) refl)
      ∙ here_case d docs doc (passes d) refl e (none_below docs d.doc (sorted_head nat_cmp d.doc (numbers docs) sorted))
  has_case d docs doc false e sorted rest = ap (list_any (nat_eq doc)) (numbers_step d docs (passes d) refl) ∙ (there_case d docs doc (passes d) e ∙ rest)

  -- a number is among those of the documents that have the words where the document's lists have them
  pub has-numbers_with : (docs : List DocWords) (doc : ℕ) → IsStrictlySortedBy nat_cmp (numbers docs) → has (numbers_with starts field words docs) doc ≡ listed docs doc
  unfolding has
  has-numbers_with [] doc sorted = refl
  has-numbers_with (d ∷ docs) doc sorted = has_case d docs doc (nat_eq d.doc doc) refl sorted (has-numbers_with docs doc (sorted_tail nat_cmp d.doc (numbers docs) sorted))

  all_kept : (P : ℕ → Type 0) (docs : List DocWords) → AllByRecursion P (numbers docs) → AllByRecursion P (numbers_with starts field words docs)
  all_kept P [] all = tt
  all_kept P (d ∷ docs) all = elim (passes d) as (λ b. AllByRecursion P (map (λ (x : DocWords). x.doc) (cond b (d ∷ filter passes docs) (filter passes docs)))) [
    | true ↦ (all.0, all_kept P docs all.1)
    | false ↦ all_kept P docs all.1
  ]

  pub rising-numbers_with : (docs : List DocWords) → IsStrictlySortedBy nat_cmp (numbers docs) → IsRising (numbers_with starts field words docs)
  unfolding IsStrictlySortedBy
  rising-numbers_with [] sorted = tt
  rising-numbers_with (d ∷ docs) sorted = elim (passes d) as (λ b. IsRising (map (λ (x : DocWords). x.doc) (cond b (d ∷ filter passes docs) (filter passes docs)))) [
    | true ↦ (all_kept (λ n. nat_cmp d.doc n ≡ Less) docs sorted.0, rising-numbers_with docs sorted.1)
    | false ↦ rising-numbers_with docs sorted.1
  ]

  -- a document has a number of these exactly where the words end in it
  pub found_where_ended : (docs : List DocWords) (doc : ℕ) → IsStrictlySortedBy nat_cmp (numbers docs) → words ≢ [] → (has (numbers_with starts field words docs) doc ≡ true) ↔ Ends docs field starts words doc
  found_where_ended docs doc sorted some = (
    (λ h. ends_of_lists docs doc some (sym (has-numbers_with docs doc sorted) ∙ h)),
    (λ e. has-numbers_with docs doc sorted ∙ lists_of_ends docs doc e),
  )

-- ---- what a walk over the hits found

has_none : (doc : ℕ) → has [] doc ≡ false
unfolding has
has_none doc = refl

module _ (membership : (left right : List ℕ) (doc : ℕ) → Membership left right doc) (order : (left right : List ℕ) → IsRising left → IsRising right → Order left right) where
  pub has-set : (all : List ℕ) (doc : ℕ) → has (union [] all) doc ≡ has all doc
  has-set all doc = (membership [] all doc).in_union ∙ ap (λ (b : Bool). b || has all doc) (has_none doc)

  module _ (docs : List DocWords) (field : Field) (hits : (word : List ℕ) (hit : Hit) → Contains (hits_of docs word field) hit ↔ IsHit docs word field hit) (sorted : IsStrictlySortedBy nat_cmp (numbers docs)) where
    -- the documents of the hits of words as which the last one is found, where these are all such words, are those with the words
    pub all_found : (starts : Bool) (words : List (List ℕ)) (before : Option (List Hit)) (last : List ℕ) (founds : List (List ℕ)) (list : List ℕ) → IsFront docs field words before last
        → ((found : List ℕ) → In found founds → is_last_word starts last found ≡ true) → ((found : List ℕ) (hit : Hit) → is_last_word starts last found ≡ true → IsHit docs found field hit → In found founds)
        → IsRising list → ((doc : ℕ) → has list doc ≡ has (flat_map (numbers_of docs field before) founds) doc) → list ≡ numbers_with starts field words docs
    all_found starts words before last founds list front each all rising same =
        let fs : List (List ℕ) = front.front in
        let some : words ≢ [] = subst (λ (ws : List (List ℕ)). ws ≢ []) (sym front.words_are) (push_some fs last) in
        let found : List ℕ = flat_map (numbers_of docs field before) founds in
        let to : (doc : ℕ) → has list doc ≡ true → Ends docs field starts words doc = λ doc h.
        let one = in_flat_mapped (numbers_of docs field before) doc founds (in_from doc found ((membership found [] doc).has_is.0 (sym (same doc) ∙ h))) in
        let at = in_mapped (λ (hit : Hit). hit.doc) doc (narrowed before (hits_of docs one.0 field)) one.2 in
        (at.0, subst (λ (ws : List (List ℕ)). EndsAt docs field starts ws at.0) (sym front.words_are) (ends_at docs field hits starts fs last one.0 before at.0 front.ends_are (each one.0 one.1) at.1), at.2) in
        let from : (doc : ℕ) → Ends docs field starts words doc → has list doc ≡ true = λ doc e.
        let at = found_at docs field hits starts fs last before e.0 front.ends_are (subst (λ (ws : List (List ℕ)). EndsAt docs field starts ws e.0) front.words_are e.1) in
        let here : In e.0.doc found = in_flat_map (numbers_of docs field before) at.0 e.0.doc founds (all at.0 e.0 at.1 at.2) (in_map (λ (hit : Hit). hit.doc) e.0 (narrowed before (hits_of docs at.0 field)) at.3) in
        same doc ∙ (membership found [] doc).has_is.1 (contained doc found (subst (λ (n : ℕ). In n found) e.2 here)) in
        (order list (numbers_with starts field words docs) rising (rising-numbers_with field starts words docs sorted)).decides
        (λ doc.
        let law = found_where_ended field starts words docs doc sorted some in
        same_test (has list doc) (has (numbers_with starts field words docs) doc) (to doc) (from doc) law.0 law.1)

    -- those of the hits of the last word itself are those with the words, each whole
    of_last : (words : List (List ℕ)) (before : Option (List Hit)) (last : List ℕ) (list : List ℕ) → IsFront docs field words before last → IsRising list → ((doc : ℕ) → has list doc ≡ has (numbers_of docs field before last) doc)
        → list ≡ numbers_with false field words docs
    of_last words before last list front rising same =
        all_found false words before last (last ∷ []) list front
        (λ found here. elim here [ inl e ↦ ap (λ (word : List ℕ). same_text last word) e ∙ same_text-itself last | inr none ↦ absurd none ])
        (λ found hit is_last h. inl (sym (bytes_same last found (sym is_last)))) rising
        (λ doc. same doc ∙ ap (λ (l : List ℕ). has l doc) (sym (append-nil (numbers_of docs field before last))))

    pub whole_found : (words : List (List ℕ)) (before : Option (List Hit)) (last : List ℕ) (list : List ℕ) → IsFront docs field words before last → IsRising list → list ≡ union [] (numbers_of docs field before last)
        → list ≡ numbers_with false field words docs
    whole_found words before last list front rising is =
        of_last words before last list front rising (λ doc. ap (λ (l : List ℕ). has l doc) is ∙ has-set (numbers_of docs field before last) doc)

    -- a word alone is found where it hits
    pub word_found : (word : List ℕ) (list : List ℕ) → IsRising list → ((doc : ℕ) → has list doc ≡ has (map (λ (hit : Hit). hit.doc) (hits_of docs word field)) doc) → list ≡ numbers_with false field (word ∷ []) docs
    word_found word list rising same = of_last (word ∷ []) None word list (record { front = []; words_are = refl; ends_are = refl }) rising same
