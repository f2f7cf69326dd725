-- The words of documents are in the order of hits, and so do those of one word and field. For the proofs of `gather` and `laws`.
use Rattle.std.proofs.Common.{◌≡◌, ℕ, ◌+◌, ◌<◌, ◌≤◌, Bool, true, false, cond, Option, None, Some, List, [], ◌∷◌, ◌++◌, filter, map, refl, append_assoc, arith}
use Rattle.std.proofs.lemmas.Bool.{and_parts}
use Rattle.std.proofs.lemmas.Bool.Decides.{nat_tests}
use Rattle.std.proofs.lemmas.Map.Keys.{sorted_head, sorted_tail}
use Rattle.std.specs.List.{AllByRecursion}
use Rattle.std.specs.List.Sorted.{IsStrictlySortedBy}
use Rattle.std.specs.Ordering.{nat_cmp}
use Rattle.std.specs.declared.cmp.Ordering.TheVariants.{Less}
use Rattle.nm_base.specs.declared.facts.Field.{Field}
use Rattle.nm_base.specs.declared.facts.FieldWords.{FieldWords}
use Rattle.nm_blocks.specs.Hits.{is_before, is_rising, rise_after}
use Rattle.nm_blocks.specs.declared.hit.Hit.{Hit}
use Rattle.nm_segment.specs.declared.doc_words.DocWords.{DocWords}
use Rattle.nm_segment.specs.Docs.{Occurrence, hits_in, is_of, lists_from, numbers, occurrences, words_from}
use Rattle.nm_segment.proofs.HitsInLemmas.{rising_rest}

-- ---- one hit before another

before_place : (a : Hit) → is_before a (record a { place = a.place + 1 }) ≡ true
before_place a = grind (arith, nat_tests)

before_list : (a : Hit) (doc list : ℕ) → a.doc ≡ doc → a.list < list → is_before a (record { doc = doc; list = list; place = 0 }) ≡ true
before_list a doc list same less = grind (arith, nat_tests)

before_doc : (a b : Hit) → a.doc < b.doc → is_before a b ≡ true
before_doc a b less = grind (arith, nat_tests)

before_trans : (a b c : Hit) → is_before a b ≡ true → is_before b c ≡ true → is_before a c ≡ true
before_trans a b c p q = grind (arith, nat_tests)

-- ---- hits that rise after another one, or after none

abbrev rises : Option Hit → List Occurrence → Bool
rises None found = is_rising (map (λ o. o.hit) found)
rises (Some before) found = rise_after before (map (λ o. o.hit) found)

abbrev Precedes : Option Hit → Hit → Type 0
Precedes None hit = Unit {0}
Precedes (Some before) hit = is_before before hit ≡ true

begins : (before : Option Hit) (o : Occurrence) (found : List Occurrence) → Precedes before o.hit → rises (Some o.hit) found ≡ true → rises before (o ∷ found) ≡ true
begins None o found p r = r
begins (Some before) o found p r = rw (p, r) refl

rise_words : (before : Option Hit) (hit : Hit) (field : Field) (words : List (List ℕ)) (rest : List Occurrence) → Precedes before hit → rises before rest ≡ true
    → ((c : Hit) → c.doc ≡ hit.doc → c.list ≡ hit.list → rises (Some c) rest ≡ true) → rises before (words_from hit field words ++ rest) ≡ true
rise_words before hit field [] rest p r k = r
rise_words before hit field (word ∷ words) rest p r k =
    begins before (record { hit = hit; field = field; word = word }) (words_from (record hit { place = hit.place + 1 }) field words ++ rest) p
    (rise_words (Some hit) (record hit { place = hit.place + 1 }) field words rest (before_place hit) (k hit refl refl) k)

rise_lists : (before : Option Hit) (doc list : ℕ) (lists : List FieldWords) (rest : List Occurrence) → ((l : ℕ) → list ≤ l → Precedes before (record { doc = doc; list = l; place = 0 })) → rises before rest ≡ true
    → ((c : Hit) → c.doc ≡ doc → rises (Some c) rest ≡ true) → rises before (lists_from doc list lists ++ rest) ≡ true
rise_lists before doc list [] rest p r k = r
rise_lists before doc list (words ∷ lists) rest p r k =
    let hit : Hit = record { doc = doc; list = list; place = 0 } in
    rw (append_assoc (words_from hit words.field words.words) (lists_from doc (list + 1) lists) rest)
    (rise_words before hit words.field words.words (lists_from doc (list + 1) lists ++ rest) (p list (omega arith))
    (rise_lists before doc (list + 1) lists rest (λ l h. p l (omega (arith, h))) r k)
    (λ c d e. rise_lists (Some c) doc (list + 1) lists rest (λ l h. before_list c doc l d (omega (arith, e, h))) (k c d) k))

abbrev IsUnder : Option Hit → ℕ → Type 0
IsUnder None doc = Unit {0}
IsUnder (Some before) doc = before.doc < doc

under_precedes : (before : Option Hit) (hit : Hit) → IsUnder before hit.doc → Precedes before hit
under_precedes None hit h = tt
under_precedes (Some before) hit h = before_doc before hit h

none_rise : (before : Option Hit) → rises before [] ≡ true
none_rise None = refl
none_rise (Some before) = refl

above : (doc : ℕ) (c : Hit) (docs : List DocWords) → c.doc ≡ doc → AllByRecursion (λ n. nat_cmp doc n ≡ Less) (numbers docs) → AllByRecursion (λ d. IsUnder (Some c) d.doc) docs
above doc c [] e h = tt
above doc c (d ∷ docs) e h = (let less : nat_cmp doc d.doc ≡ Less = h.0 in let l : doc < d.doc = grind (arith, nat_tests) in omega (arith, e, l), above doc c docs e h.1)

rise_docs : (before : Option Hit) (docs : List DocWords) → AllByRecursion (λ d. IsUnder before d.doc) docs → IsStrictlySortedBy nat_cmp (numbers docs) → rises before (occurrences docs) ≡ true
rise_docs before [] under sorted = none_rise before
rise_docs before (d ∷ docs) under sorted =
    let others = sorted_tail nat_cmp d.doc (numbers docs) sorted in
    rise_lists before d.doc 0 d.lists (occurrences docs) (λ l h. under_precedes before (record { doc = d.doc; list = l; place = 0 }) under.0)
    (rise_docs before docs under.1 others)
    (λ c e. rise_docs (Some c) docs (above d.doc c docs e (sorted_head nat_cmp d.doc (numbers docs) sorted)) others)

-- ---- some of the hits

after_earlier : (a b : Hit) (found : List Occurrence) → is_before a b ≡ true → rises (Some b) found ≡ true → rises (Some a) found ≡ true
after_earlier a b [] p r = refl
after_earlier a b (o ∷ found) p r =
    let parts = and_parts (is_before b o.hit) (rises (Some o.hit) found) r in
    rw (before_trans a b o.hit p parts.0, parts.1) refl

rise_filter : (keep : Occurrence → Bool) (before : Hit) (found : List Occurrence) → rises (Some before) found ≡ true → rises (Some before) (filter keep found) ≡ true
rise_filter keep before [] r = refl
rise_filter keep before (o ∷ found) r =
    let parts = and_parts (is_before before o.hit) (rises (Some o.hit) found) r in
    elim (keep o) as (λ b. rises (Some before) (cond b (o ∷ filter keep found) (filter keep found)) ≡ true) [
      | true ↦ rw (parts.0, rise_filter keep o.hit found parts.1) refl
      | false ↦ rise_filter keep before found (after_earlier before o.hit found parts.0 parts.1)
    ]

rising_filter : (keep : Occurrence → Bool) (found : List Occurrence) → rises None found ≡ true → rises None (filter keep found) ≡ true
rising_filter keep [] r = refl
rising_filter keep (o ∷ found) r =
    elim (keep o) as (λ b. rises None (cond b (o ∷ filter keep found) (filter keep found)) ≡ true) [
      | true ↦ rise_filter keep o.hit found r
      | false ↦ rising_filter keep found (rising_rest o.hit (map (λ p. p.hit) found) r)
    ]

under_none : (docs : List DocWords) → AllByRecursion (λ d. IsUnder None d.doc) docs
under_none [] = tt
under_none (d ∷ docs) = (tt, under_none docs)

-- the hits of a word in a field rise
pub hits_rise : (docs : List DocWords) (word : List ℕ) (field : Field) → IsStrictlySortedBy nat_cmp (numbers docs) → is_rising (hits_in (occurrences docs) word field) ≡ true
hits_rise docs word field sorted = rising_filter (is_of word field) (occurrences docs) (rise_docs None docs (under_none docs) sorted)
