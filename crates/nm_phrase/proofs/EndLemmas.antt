-- Where words end, once one word more is found. Cited by the proofs of `front`, and by `FoundLemmas`.
use Rattle.std.proofs.Common.{◌≡◌, ℕ, zero, suc, ◌+◌, ◌-◌, ◌<◌, Bool, true, false, Option, Some, None, List, [], ◌∷◌, ◌++◌, drop, length, slice_get, refl, sym, ap, subst, ◌∙◌, arith}
use Rattle.std.specs.Prelude.{◌≢◌, ◌↔◌}
use Rattle.std.specs.Cmp.Lexicographic.{nat_list_eq_equiv}
use Rattle.std.specs.List.{Contains}
use Rattle.std.proofs.lemmas.Bool.{and_from, and_parts, eq-eqb, eqb-true}
use Rattle.std.proofs.lemmas.List.{length_push}
use Rattle.nm_base.specs.Order.{same_text}
use Rattle.nm_base.specs.SetLaws.{bytes_same}
use Rattle.nm_base.specs.declared.facts.Field.{Field}
use Rattle.nm_base.specs.declared.facts.FieldWords.{FieldWords}
use Rattle.nm_blocks.specs.Hits.{is_rising}
use Rattle.nm_blocks.specs.declared.hit.Hit.{Hit}
use Rattle.nm_segment.specs.declared.doc_words.DocWords.{DocWords}
use Rattle.nm_segment.specs.Docs.{IsHit, hits_of, lists_of}
use Rattle.nm_base.specs.AskedWords.{begins_with, is_last_word}
use Rattle.nm_phrase.specs.Ends.{AreEnds, AreEndsIfAny, EndsAt, are_rising, follows, is_next, narrowed}
use Rattle.nm_phrase.proofs.FollowLemmas.{is_rising-filter}
use Rattle.nm_phrase.proofs.ListLemmas.{In, any_from_in, any_in, contained, in_filter, in_filtered, in_from}
use Rattle.nm_phrase.proofs.WordLemmas.{from_pushed, pushed}

zero_more : (n : ℕ) → n ≡ 0 + n
zero_more n = omega arith

suc_more : (m n : ℕ) → suc (m + n) ≡ suc m + n
suc_more m n = omega arith

slice_get-drop : (start n : ℕ) (words : List (List ℕ)) → slice_get (drop start words) n ≡ slice_get words (start + n)
slice_get-drop zero n words = ap (slice_get words) (zero_more n)
slice_get-drop (suc start) n [] = refl
slice_get-drop (suc start) n (word ∷ words) = slice_get-drop start n words ∙ ap (slice_get (word ∷ words)) (suc_more start n)

some_length : (words : List (List ℕ)) → words ≢ [] → 0 < length words
some_length [] some = absurd (some refl)
some_length (word ∷ words) some = omega arith

pub push_some : (words : List (List ℕ)) (last : List ℕ) → (words ++ last ∷ []) ≢ []
push_some [] last = λ e. cc
push_some (word ∷ words) last = λ e. cc

next_is : (end hit : Hit) → end.doc ≡ hit.doc → end.list ≡ hit.list → end.place + 1 ≡ hit.place → is_next hit end ≡ true
next_is end hit d l p = and_from (_) (_) (eq-eqb end.doc hit.doc d) (and_from (_) (_) (eq-eqb end.list hit.list l) (eq-eqb (end.place + 1) hit.place p))

record IsNext (hit end : Hit) : Type 0 where
  doc : end.doc ≡ hit.doc
  list : end.list ≡ hit.list
  place : end.place + 1 ≡ hit.place

is_next-true : (end hit : Hit) → is_next hit end ≡ true → IsNext hit end
is_next-true end hit h =
    let first = and_parts (_) (_) h in
    let rest = and_parts (_) (_) first.1 in
    record { doc = eqb-true end.doc hit.doc first.0; list = eqb-true end.list hit.list rest.0; place = eqb-true (end.place + 1) hit.place rest.1 }

pub same_text-itself : (word : List ℕ) → same_text word word ≡ true
same_text-itself word = nat_list_eq_equiv.refl word

module _ (docs : List DocWords) (field : Field) (hits : (word : List ℕ) (hit : Hit) → Contains (hits_of docs word field) hit ↔ IsHit docs word field hit) where
  -- the words end at the hit of the last one, if those before it come before it
  ends_from : (starts : Bool) (words : List (List ℕ)) (last found : List ℕ) (hit : Hit) (is : IsHit docs found field hit) (start : ℕ) → is_last_word starts last found ≡ true
      → start + length words ≡ hit.place → begins_with false words (drop start is.list.words) ≡ true → EndsAt docs field starts (words ++ last ∷ []) hit
  ends_from starts words last found hit is start is_last place before = record {
    list = is.list;
    there = is.there;
    of_field = is.of_field;
    start = start;
    place = omega (arith, length_push words last, place);
    stand = from_pushed starts words last (drop start is.list.words) (record {
      found = found;
      before = before;
      there = slice_get-drop start (length words) is.list.words ∙ (ap (slice_get is.list.words) place ∙ is.stands);
      is_last = is_last;
    });
  }

  none_before : (words list : List (List ℕ)) → words ≡ [] → begins_with false words list ≡ true
  none_before words list none = ap (λ (ws : List (List ℕ)). begins_with false ws list) none

  same_list : (a b : Hit) (x y : FieldWords) → a.doc ≡ b.doc → a.list ≡ b.list → slice_get (lists_of docs a.doc) a.list ≡ Some x → slice_get (lists_of docs b.doc) b.list ≡ Some y → x ≡ y
  same_list a b x y doc list p q =
      let e : slice_get (lists_of docs a.doc) a.list ≡ slice_get (lists_of docs b.doc) b.list = ap (λ (n : ℕ). slice_get (lists_of docs n) a.list) doc ∙ ap (slice_get (lists_of docs b.doc)) list in
      let s : Some x ≡ Some y = sym p ∙ (e ∙ q) in
      cc

  -- a hit that goes on from the words before is an end of all
  pub ends_at : (starts : Bool) (words : List (List ℕ)) (last found : List ℕ) (before : Option (List Hit)) (hit : Hit) → AreEndsIfAny docs field words before → is_last_word starts last found ≡ true
      → In hit (narrowed before (hits_of docs found field)) → EndsAt docs field starts (words ++ last ∷ []) hit
  ends_at starts words last found None hit none is_last here =
      let is : IsHit docs found field hit = (hits found hit).0 (contained hit (hits_of docs found field) here) in
      let no_words : length words ≡ 0 = ap length none in
      ends_from starts words last found hit is hit.place is_last (omega (arith, no_words)) (none_before words (drop hit.place is.list.words) none)
  ends_at starts words last found (Some ends) hit are is_last here =
      let kept = in_filtered (follows ends) hit (hits_of docs found field) here in
      let is : IsHit docs found field hit = (hits found hit).0 (contained hit (hits_of docs found field) kept.0) in
      let some = any_in (is_next hit) ends kept.1 in
      let end : Hit = some.0 in
      let next : IsNext hit end = is_next-true end hit some.2 in
      let ended : EndsAt docs field false words end = (are.each end).0 (contained end ends some.1) in
      let same : ended.list ≡ is.list = same_list end hit ended.list is.list next.doc next.list ended.there is.there in
      let place : ended.start + length words ≡ hit.place = ended.place ∙ next.place in
      ends_from starts words last found hit is ended.start is_last place (ap (λ (list : FieldWords). begins_with false words (drop ended.start list.words)) (sym same) ∙ ended.stand)

  goes_on : (words : List (List ℕ)) (before : Option (List Hit)) (found : List ℕ) (hit : Hit) (is : IsHit docs found field hit) (start : ℕ) → AreEndsIfAny docs field words before
      → start + length words ≡ hit.place → begins_with false words (drop start is.list.words) ≡ true → In hit (narrowed before (hits_of docs found field))
  goes_on words None found hit is start none place stand = in_from hit (hits_of docs found field) ((hits found hit).1 is)
  goes_on words (Some ends) found hit is start are place stand =
      let some : 0 < length words = some_length words are.some in
      let end : Hit = record hit { place = hit.place - 1 } in
      let at : start + length words ≡ (hit.place - 1) + 1 = omega (arith, some, place) in
      let ended : EndsAt docs field false words end = record { list = is.list; there = is.there; of_field = is.of_field; start = start; place = at; stand = stand } in
      let next : is_next hit end ≡ true = next_is end hit refl refl (omega (arith, some, place)) in
      in_filter (follows ends) hit (hits_of docs found field) (in_from hit (hits_of docs found field) ((hits found hit).1 is))
      (any_from_in (is_next hit) end ends (in_from end ends ((are.each end).1 ended)) next)

  -- the last word as it is found at an end of all, and that the hit goes on from the words before
  pub found_at : (starts : Bool) (words : List (List ℕ)) (last : List ℕ) (before : Option (List Hit)) (hit : Hit) → AreEndsIfAny docs field words before → EndsAt docs field starts (words ++ last ∷ []) hit
      → (found : List ℕ) × (is_last_word starts last found ≡ true) × IsHit docs found field hit × In hit (narrowed before (hits_of docs found field))
  found_at starts words last before hit are ended =
      let p = pushed starts words last (drop ended.start ended.list.words) ended.stand in
      let place : ended.start + length words ≡ hit.place = omega (arith, length_push words last, ended.place) in
      let stands : slice_get ended.list.words hit.place ≡ Some p.found = ap (slice_get ended.list.words) (sym place) ∙ (sym (slice_get-drop ended.start (length words) ended.list.words) ∙ p.there) in
      let is : IsHit docs p.found field hit = record { list = ended.list; there = ended.there; of_field = ended.of_field; stands = stands } in
      (p.found, p.is_last, is, goes_on words before p.found hit is ended.start are place p.before)

  narrowed_rises : (before : Option (List Hit)) (found : List Hit) → is_rising found ≡ true → is_rising (narrowed before found) ≡ true
  narrowed_rises None found rises = rises
  narrowed_rises (Some ends) found rises = is_rising-filter (follows ends) found rises

  -- the hits of one word more that go on from the words before are the ends of all
  pub are_ends : (words : List (List ℕ)) (last : List ℕ) (before : Option (List Hit)) → is_rising (hits_of docs last field) ≡ true → AreEndsIfAny docs field words before
      → AreEnds docs field (words ++ last ∷ []) (narrowed before (hits_of docs last field))
  are_ends words last before rises are = record {
    some = push_some words last;
    rising = narrowed_rises before (hits_of docs last field) rises;
    each = λ hit. (
      (λ here. ends_at false words last last before hit are (same_text-itself last) (in_from hit (narrowed before (hits_of docs last field)) here)),
      (λ ended.
          let f = found_at false words last before hit are ended in
          let same : last ≡ f.0 = bytes_same last f.0 (sym f.1) in
          contained hit (narrowed before (hits_of docs last field)) (subst (λ (word : List ℕ). In hit (narrowed before (hits_of docs word field))) (sym same) f.3)),
    );
  }

pub ends_rise : (docs : List DocWords) (field : Field) (words : List (List ℕ)) (before : Option (List Hit)) → AreEndsIfAny docs field words before → are_rising before ≡ true
ends_rise docs field words None none = refl
ends_rise docs field words (Some ends) are = are.rising
