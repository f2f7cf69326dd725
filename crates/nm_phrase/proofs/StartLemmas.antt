-- The words that begin with the last one that is asked, one by one. Cited by the proofs of `start`.
use Rattle.std.proofs.Common.{◌≡◌, ℕ, ◌+◌, ◌≤◌, Bool, true, false, cond, Option, Some, List, [], ◌∷◌, ◌++◌, drop, filter, length, map, nat_eq, slice_get, refl, sym, ap, subst, ◌∙◌}
use Rattle.std.specs.Prelude.{◌↔◌}
use Rattle.std.specs.BTreeSet.{insert_key}
use Rattle.std.specs.List.{Contains, flat_map}
use Rattle.std.specs.List.Sorted.{IsStrictlySortedBy}
use Rattle.std.specs.Ordering.{nat_cmp}
use Rattle.std.proofs.lemmas.Bool.{and_parts, or_left, or_right}
use Rattle.std.proofs.lemmas.Grind.{fold-append}
use Rattle.std.proofs.lemmas.List.{drop_all, drop_more}
use Rattle.std.proofs.lemmas.Option.{get_or_from_slice_get, slice_get_within}
use Rattle.nm_base.specs.FieldNumber.{field_number}
use Rattle.nm_base.specs.Order.{has_text, same_text}
use Rattle.nm_base.specs.SetLaws.{bytes_same}
use Rattle.nm_base.specs.declared.facts.Field.{Field}
use Rattle.nm_blocks.specs.declared.hit.Hit.{Hit}
use Rattle.nm_cursor.specs.SetLaws.{Membership, Order}
use Rattle.nm_cursor.specs.Sets.{IsRising, has, union}
use Rattle.nm_segment.specs.declared.doc_words.DocWords.{DocWords}
use Rattle.nm_segment.specs.Docs.{IsHit, Occurrence, hits_in, hits_of, is_of, numbers, occurrences, texts, words}
use Rattle.nm_segment.specs.Starts.{begins, starting}
use Rattle.nm_phrase.specs.Ends.{IsFront}
use Rattle.nm_phrase.specs.Found.{numbers_of, numbers_with}
use Rattle.nm_phrase.proofs.FoundLemmas.{all_found, has-set}
use Rattle.nm_phrase.proofs.ListLemmas.{In, any_in, in_filter, in_filtered, in_from}

-- ---- a turn of the loop

drop_taken : (at : ℕ) (list : List (List ℕ)) (word : List ℕ) → slice_get list at ≡ Some word → drop at list ≡ word ∷ drop (at + 1) list
drop_taken at list word there =
    drop_more list at [] (slice_get_within list at word there) ∙ ap (λ (first : List ℕ). first ∷ drop (at + 1) list) (get_or_from_slice_get list at word [] there)

union-append : (keys more others : List ℕ) → union keys (more ++ others) ≡ union (union keys more) others
unfolding union
union-append keys more others = fold-append (insert_key nat_cmp) keys more others

union_none : (keys : List ℕ) → union keys [] ≡ keys
unfolding union
union_none keys = refl

-- once the documents of the next word are added, those of the words after it are left
pub word_added : (found : List ℕ → List ℕ) (list : List (List ℕ)) (at next : ℕ) (word keys new : List ℕ) → slice_get list at ≡ Some word → next ≡ at + 1 → new ≡ union keys (found word)
    → union new (flat_map found (drop next list)) ≡ union keys (flat_map found (drop at list))
word_added found list at next word keys new there is added =
    ap (λ (n : ℕ). union new (flat_map found (drop n list))) is
    ∙ (ap (λ (ks : List ℕ). union ks (flat_map found (drop (at + 1) list))) added
    ∙ (sym (union-append keys (found word) (flat_map found (drop (at + 1) list)))
    ∙ ap (λ (left : List (List ℕ)). union keys (flat_map found left)) (sym (drop_taken at list word there))))

-- after the last word all are there
pub all_added : (found : List ℕ → List ℕ) (list : List (List ℕ)) (at : ℕ) (keys all : List ℕ) → length list ≤ at → union keys (flat_map found (drop at list)) ≡ all → keys ≡ all
all_added found list at keys all past so_far =
    sym (union_none keys) ∙ (ap (λ (left : List (List ℕ)). union keys (flat_map found left)) (sym (drop_all at list past)) ∙ so_far)

-- ---- a word with a hit is one of the words

hit_case : (o : Occurrence) (found : List Occurrence) (word : List ℕ) (field : Field) (hit : Hit) (b : Bool) → is_of word field o ≡ b
    → In hit (map (λ p. p.hit) (cond b (o ∷ filter (is_of word field) found) (filter (is_of word field) found))) → (In hit (hits_in found word field) → has_text (texts found) word ≡ true) → has_text (texts (o ∷ found)) word ≡ true
hit_case o found word field hit true is here rest = or_left (same_text word o.word) (has_text (texts found) word) (and_parts (same_text word o.word) (nat_eq (field_number field) (field_number o.field)) is).0
hit_case o found word field hit false is here rest = or_right (same_text word o.word) (has_text (texts found) word) (rest here)

hit_word : (found : List Occurrence) (word : List ℕ) (field : Field) (hit : Hit) → In hit (hits_in found word field) → has_text (texts found) word ≡ true
hit_word [] word field hit here = absurd here
hit_word (o ∷ found) word field hit here = hit_case o found word field hit (is_of word field o) refl here (hit_word found word field hit)

module _ (membership : (left right : List ℕ) (doc : ℕ) → Membership left right doc) (order : (left right : List ℕ) → IsRising left → IsRising right → Order left right)
    (docs : List DocWords) (field : Field) (hits : (word : List ℕ) (hit : Hit) → Contains (hits_of docs word field) hit ↔ IsHit docs word field hit)
    (sorted : IsStrictlySortedBy nat_cmp (numbers docs)) (stand : (word : List ℕ) → has_text (words docs) word ≡ has_text (texts (occurrences docs)) word) where
  word_in : (word : List ℕ) (hit : Hit) → IsHit docs word field hit → In word (words docs)
  word_in word hit is =
      let has : has_text (words docs) word ≡ true = stand word ∙ hit_word (occurrences docs) word field hit (in_from hit (hits_of docs word field) ((hits word hit).1 is)) in
      let one = any_in (same_text word) (words docs) has in
      subst (λ (w : List ℕ). In w (words docs)) (sym (bytes_same word one.0 (sym one.2))) one.1

  -- the documents of the hits of all words with the start are those with the words, the last by its front
  pub start_found : (asked : List (List ℕ)) (before : Option (List Hit)) (last : List ℕ) (list : List ℕ) → IsFront docs field asked before last → IsRising list
      → list ≡ union [] (flat_map (numbers_of docs field before) (starting last (words docs))) → list ≡ numbers_with true field asked docs
  start_found asked before last list front rising is =
      all_found membership order docs field hits sorted true asked before last (starting last (words docs)) list front
      (λ found here. (in_filtered (begins last) found (words docs) here).1)
      (λ found hit is_last h. in_filter (begins last) found (words docs) (word_in found hit h) is_last) rising
      (λ doc. ap (λ (l : List ℕ). has l doc) is ∙ has-set membership order (flat_map (numbers_of docs field before) (starting last (words docs))) doc)
