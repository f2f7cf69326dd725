-- The hits of a word in a field among occurrences, and what is in five fields. For the proofs of `gather`, `merge` and `segment`.
use Rattle.std.proofs.Common.{◌≡◌, ℕ, ◌<◌, Bool, true, false, ◌||◌, List, [], ◌∷◌, ◌++◌, filter, map, refl, sym, ap, ◌∙◌, append_assoc, arith}
use Rattle.std.specs.Cmp.Lexicographic.{nat_list_eq_equiv}
use Rattle.std.proofs.lemmas.Bool.{and_parts, eq-eqb}
use Rattle.std.proofs.lemmas.List.{append-nil, map-append}
use Rattle.std.proofs.lemmas.List.Elements.{filter-append}
use Rattle.nm_base.specs.FieldNumber.{field_number}
use Rattle.nm_base.specs.Order.{has_text, same_text}
use Rattle.nm_base.specs.OrderLaws.{IsSorted-sorted}
use Rattle.nm_base.specs.Order.{IsSorted}
use Rattle.nm_base.specs.declared.facts.Field.{Field}
use Rattle.nm_base.specs.declared.facts.Field.TheVariants.{From, To, Subject, Body, Attachment}
use Rattle.nm_blocks.specs.Blocks.{IsRun, blocks_hits, run_hits}
use Rattle.nm_blocks.specs.Hits.{is_before, is_rising, rise_after}
use Rattle.nm_blocks.specs.declared.hit.Hit.{Hit}
use Rattle.nm_segment.specs.declared.doc_words.DocWords.{DocWords}
use Rattle.nm_segment.specs.Docs.{Occurrence, hits_in, hits_of, is_of, lists_from, occurrences, texts, words}

-- there are five fields
pub few_fields : (field : Field) → field_number field < 5
few_fields From = omega arith
few_fields To = omega arith
few_fields Subject = omega arith
few_fields Body = omega arith
few_fields Attachment = omega arith

-- an occurrence is a hit of its own word and field, and of no others
pub hits_same : (o : Occurrence) (word : List ℕ) (field : Field) → is_of word field o ≡ true → hits_in (o ∷ []) word field ≡ o.hit ∷ []
hits_same o word field e = rw e refl

pub hits_other : (o : Occurrence) (word : List ℕ) (field : Field) → is_of word field o ≡ false → hits_in (o ∷ []) word field ≡ []
hits_other o word field e = rw e refl

pub not_of_word : (o : Occurrence) (word : List ℕ) (field : Field) → same_text word o.word ≡ false → is_of word field o ≡ false
not_of_word o word field e = rw e refl

-- the hit of its own word
pub own_hit : (o : Occurrence) → is_of o.word o.field o ≡ true
own_hit o = rw (nat_list_eq_equiv.refl o.word, eq-eqb (field_number o.field) (field_number o.field) refl) refl

pub hits_in-append : (xs ys : List Occurrence) (word : List ℕ) (field : Field) → hits_in (xs ++ ys) word field ≡ hits_in xs word field ++ hits_in ys word field
hits_in-append xs ys word field =
    ap (λ (os : List Occurrence). map (λ o. o.hit) os) (filter-append (is_of word field) xs ys) ∙ map-append (λ (o : Occurrence). o.hit) (filter (is_of word field) xs) (filter (is_of word field) ys)

pub occurrences-append : (docs more : List DocWords) → occurrences (docs ++ more) ≡ occurrences docs ++ occurrences more
occurrences-append [] more = refl
occurrences-append (d ∷ docs) more =
    ap (λ (found : List Occurrence). lists_from d.doc 0 d.lists ++ found) (occurrences-append docs more) ∙ sym (append_assoc (lists_from d.doc 0 d.lists) (occurrences docs) (occurrences more))

-- the hits in more documents follow
pub hits_of-append : (docs more : List DocWords) (word : List ℕ) (field : Field) → hits_of (docs ++ more) word field ≡ hits_of docs word field ++ hits_of more word field
hits_of-append docs more word field =
    ap (λ (found : List Occurrence). hits_in found word field) (occurrences-append docs more) ∙ hits_in-append (occurrences docs) (occurrences more) word field

none_case : (o : Occurrence) (found : List Occurrence) (word : List ℕ) (field : Field) (b : Bool) → same_text word o.word ≡ b → (b || has_text (texts found) word) ≡ false
    → (has_text (texts found) word ≡ false → hits_in found word field ≡ []) → hits_in (o ∷ found) word field ≡ []
none_case o found word field true e none h = absurd (cc)
none_case o found word field false e none h = rw e (h none)

-- a word that is not there has no hits
pub no_hits_in : (found : List Occurrence) (word : List ℕ) (field : Field) → has_text (texts found) word ≡ false → hits_in found word field ≡ []
no_hits_in [] word field none = refl
no_hits_in (o ∷ found) word field none = none_case o found word field (same_text word o.word) refl none (no_hits_in found word field)

-- ---- words in order

pub words_sorted : (docs : List DocWords) → IsSorted (words docs)
words_sorted docs = IsSorted-sorted (texts (occurrences docs))

-- ---- hits that rise, and runs

front_rises : (before : Hit) (front back : List Hit) → rise_after before (front ++ back) ≡ true → rise_after before front ≡ true
front_rises before [] back h = refl
front_rises before (hit ∷ front) back h =
    let parts = and_parts (is_before before hit) (rise_after hit (front ++ back)) h in
    rw (parts.0, front_rises hit front back parts.1) refl

-- of rising hits those in front rise
pub rising_front : (front back : List Hit) → is_rising (front ++ back) ≡ true → is_rising front ≡ true
rising_front [] back h = refl
rising_front (hit ∷ front) back h = front_rises hit front back h

pub rising_rest : (before : Hit) (hits : List Hit) → rise_after before hits ≡ true → is_rising hits ≡ true
rising_rest before [] h = refl
rising_rest before (hit ∷ hits) h = (and_parts (is_before before hit) (rise_after hit hits) h).1

pub no_hits : run_hits [] ≡ []
unfolding run_hits blocks_hits
no_hits = refl

-- a whole run is read as its hits
pub read_again : (run : List ℕ) (hits : List Hit) → IsRun run hits → run_hits run ≡ hits
read_again run hits p = ap run_hits (sym (append-nil run)) ∙ (p [] ∙ (ap (λ (xs : List Hit). hits ++ xs) no_hits ∙ append-nil hits))

-- the hits so far of a word that comes next rise with its hit
pub rising_with : (taken : List Occurrence) (o : Occurrence) (rest all : List Occurrence) → taken ++ o ∷ rest ≡ all → is_rising (hits_in all o.word o.field) ≡ true → is_rising (hits_in taken o.word o.field ++ o.hit ∷ []) ≡ true
rising_with taken o rest all parts rising =
    let hits : hits_in all o.word o.field ≡ (hits_in taken o.word o.field ++ o.hit ∷ []) ++ hits_in rest o.word o.field =
    ap (λ (os : List Occurrence). hits_in os o.word o.field) (sym parts)
    ∙ (hits_in-append taken (o ∷ rest) o.word o.field
    ∙ (ap (λ (hs : List Hit). hits_in taken o.word o.field ++ hs) (hits_in-append (o ∷ []) rest o.word o.field ∙ ap (λ (hs : List Hit). hs ++ hits_in rest o.word o.field) (hits_same o o.word o.field (own_hit o)))
    ∙ sym (append_assoc (hits_in taken o.word o.field) (o.hit ∷ []) (hits_in rest o.word o.field)))) in
    rising_front (hits_in taken o.word o.field ++ o.hit ∷ []) (hits_in rest o.word o.field) (ap is_rising (sym hits) ∙ rising)
