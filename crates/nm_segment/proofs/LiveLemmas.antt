-- Documents that live, and their hits. For the proofs of `live_docs`, `part` and `merged_segment`.
use Rattle.std.proofs.Common.{◌≡◌, ℕ, inl, inr, ◌+◌, ◌<◌, Bool, true, false, cond, ◌||◌, nat_eq, Option, None, Some, List, [], ◌∷◌, ◌++◌, filter, length, get_or, slice_get, take, refl, sym, ap, subst, ◌∙◌, append_assoc, arith}
use Rattle.std.specs.BTreeSet.{insert_key}
use Rattle.std.specs.Cmp.{IsEquivalence}
use Rattle.std.specs.List.{AllByRecursion, list_any}
use Rattle.std.specs.List.Sorted.{IsStrictlySortedBy}
use Rattle.std.specs.Borrow.{Bor}
use Rattle.std.specs.Option.{option_map}
use Rattle.std.specs.Ordering.{is_eq, nat_cmp}
use Rattle.std.proofs.lemmas.Option.{get_or_from_slice_get}
use Rattle.std.proofs.Math.Bool.{or-false, or_comm}
use Rattle.std.proofs.Math.Numerals.{suc-eq-add-one}
use Rattle.std.proofs.Math.Seq.{take-suc}
use Rattle.std.proofs.lemmas.Bool.{cases_lt, eqb-true, eq-eqb}
use Rattle.std.proofs.lemmas.Bool.Decides.{nat_tests}
use Rattle.std.proofs.lemmas.List.Elements.{filter-append}
use Rattle.std.proofs.lemmas.List.Folds.{list_any-append}
use Rattle.std.proofs.lemmas.List.Kept.{IsStrictlySortedBy-filter}
use Rattle.nm_base.specs.Order.{has_text, same_text}
use Rattle.nm_base.specs.SetLaws.{bytes_same, has-inserted, has_text-sorted}
use Rattle.nm_base.specs.FieldNumber.{field_number}
use Rattle.nm_base.specs.declared.facts.Field.{Field}
use Rattle.nm_base.specs.declared.facts.FieldWords.{FieldWords}
use Rattle.nm_blocks.specs.Blocks.{IsRun, run_hits}
use Rattle.nm_blocks.specs.Hits.{is_rising}
use Rattle.nm_blocks.specs.declared.hit.Hit.{Hit}
use Rattle.nm_segment.specs.declared.doc_words.DocWords.{DocWords}
use Rattle.nm_segment.specs.Docs.{AreDocs, AreFew, Occurrence, hits_in, hits_of, is_of, lists_from, numbers, occurrences, texts, words, words_from}
use Rattle.nm_segment.specs.Merge.{docs_by, lives, living, living_hits}
use Rattle.nm_segment.proofs.HitsInLemmas.{few_fields, hits_in-append, no_hits_in, own_hit, read_again, rising_front}
use Rattle.nm_segment.proofs.HitLemmas.{same_field}
use Rattle.nm_segment.proofs.OrderLemmas.{hits_rise}

-- ---- numbers in a set

same_number : (x y : ℕ) → nat_eq x y ≡ is_eq (nat_cmp x y)
same_number x y = grind (arith, nat_tests)

number_laws : IsEquivalence nat_eq
number_laws = record { refl = λ x. eq-eqb x x refl; symm = λ x y. grind (arith, nat_tests); congr = λ x y z e. ap (λ n. nat_eq n z) (eqb-true x y e) }

-- a number more is put into the set
pub lives-put : (set : List ℕ) (docs : List ℕ) (i d : ℕ) → i < length docs → ((doc : ℕ) → lives set doc ≡ lives (take i docs) doc) → (doc : ℕ) → lives (insert_key nat_cmp set (get_or docs i d)) doc ≡ lives (take (i + 1) docs) doc
lives-put set docs i d less so_far doc =
    has-inserted nat_cmp nat_eq same_number number_laws set (get_or docs i d) doc
    ∙ (ap (λ b. nat_eq doc (get_or docs i d) || b) (so_far doc)
    ∙ (or_comm (nat_eq doc (get_or docs i d)) (lives (take i docs) doc)
    ∙ (ap (λ b. lives (take i docs) doc || b) (sym (or-false (nat_eq doc (get_or docs i d))))
    ∙ (sym (list_any-append (nat_eq doc) (take i docs) (get_or docs i d ∷ []))
    ∙ ap (λ (ns : List ℕ). lives ns doc) (sym (take-suc docs i d less) ∙ ap (λ n. take n docs) (suc-eq-add-one i))))))

same_living_case : (live other : List ℕ) (d : DocWords) (docs : List DocWords) → lives live d.doc ≡ lives other d.doc → living live docs ≡ living other docs → living live (d ∷ docs) ≡ living other (d ∷ docs)
same_living_case live other d docs here rest = rw (here, rest) refl

-- lists that have the same numbers leave the same documents
pub same_living : (live other : List ℕ) (docs : List DocWords) → ((doc : ℕ) → lives live doc ≡ lives other doc) → living live docs ≡ living other docs
same_living live other [] same = refl
same_living live other (d ∷ docs) same = same_living_case live other d docs (same d.doc) (same_living live other docs same)

-- ---- the hits of documents that live

abbrev AllIn : ℕ → List Occurrence → Type 0
AllIn doc found = AllByRecursion (λ o. o.hit.doc ≡ doc) found

all_in_words : (hit : Hit) (field : Field) (words : List (List ℕ)) (doc : ℕ) → hit.doc ≡ doc → AllIn doc (words_from hit field words)
all_in_words hit field [] doc e = tt
all_in_words hit field (word ∷ words) doc e = (e, all_in_words (record hit { place = hit.place + 1 }) field words doc e)

all_append : (doc : ℕ) (xs ys : List Occurrence) → AllIn doc xs → AllIn doc ys → AllIn doc (xs ++ ys)
all_append doc [] ys p q = q
all_append doc (x ∷ xs) ys p q = (p.0, all_append doc xs ys p.1 q)

all_in_lists : (doc list : ℕ) (lists : List FieldWords) → AllIn doc (lists_from doc list lists)
all_in_lists doc list [] = tt
all_in_lists doc list (words ∷ lists) =
    all_append doc (words_from (record { doc = doc; list = list; place = 0 }) words.field words.words) (lists_from doc (list + 1) lists) (all_in_words (record { doc = doc; list = list; place = 0 }) words.field words.words doc refl)
    (all_in_lists doc (list + 1) lists)

hits_case : (o : Occurrence) (found : List Occurrence) (word : List ℕ) (field : Field) (b : Bool) → is_of word field o ≡ b → hits_in (o ∷ found) word field ≡ cond b (o.hit ∷ hits_in found word field) (hits_in found word field)
hits_case o found word field true e = rw e refl
hits_case o found word field false e = rw e refl

kept_step : (live : List ℕ) (o : Occurrence) (found : List Occurrence) (word : List ℕ) (field : Field) (b : Bool) → is_of word field o ≡ b → lives live o.hit.doc ≡ true → living_hits live (hits_in found word field) ≡ hits_in found word field
    → living_hits live (hits_in (o ∷ found) word field) ≡ hits_in (o ∷ found) word field
kept_step live o found word field true e here rest = rw e (rw here (ap (λ (hs : List Hit). o.hit ∷ hs) rest))
kept_step live o found word field false e here rest = rw e rest

-- hits in one document live all or not at all
kept_all : (live : List ℕ) (found : List Occurrence) (word : List ℕ) (field : Field) (doc : ℕ) → lives live doc ≡ true → AllIn doc found → living_hits live (hits_in found word field) ≡ hits_in found word field
kept_all live [] word field doc alive all = refl
kept_all live (o ∷ found) word field doc alive all =
    let here : lives live o.hit.doc ≡ true = ap (lives live) all.0 ∙ alive in
    let rest = kept_all live found word field doc alive all.1 in
    kept_step live o found word field (is_of word field o) refl here rest

none_step : (live : List ℕ) (o : Occurrence) (found : List Occurrence) (word : List ℕ) (field : Field) (b : Bool) → is_of word field o ≡ b → lives live o.hit.doc ≡ false → living_hits live (hits_in found word field) ≡ []
    → living_hits live (hits_in (o ∷ found) word field) ≡ []
none_step live o found word field true e here rest = rw e (rw here rest)
none_step live o found word field false e here rest = rw e rest

kept_none : (live : List ℕ) (found : List Occurrence) (word : List ℕ) (field : Field) (doc : ℕ) → lives live doc ≡ false → AllIn doc found → living_hits live (hits_in found word field) ≡ []
kept_none live [] word field doc dead all = refl
kept_none live (o ∷ found) word field doc dead all =
    let here : lives live o.hit.doc ≡ false = ap (lives live) all.0 ∙ dead in
    none_step live o found word field (is_of word field o) refl here (kept_none live found word field doc dead all.1)

module _ (live : List ℕ) (word : List ℕ) (field : Field) where
  of_doc : DocWords → List Hit
  of_doc d = hits_in (lists_from d.doc 0 d.lists) word field

  first : (d : DocWords) (docs : List DocWords) → hits_of (d ∷ docs) word field ≡ hits_in (lists_from d.doc 0 d.lists) word field ++ hits_of docs word field
  first d docs = hits_in-append (lists_from d.doc 0 d.lists) (occurrences docs) word field

  living_case : (d : DocWords) (docs : List DocWords) (b : Bool) → lives live d.doc ≡ b → hits_of (living live docs) word field ≡ living_hits live (hits_of docs word field)
      → hits_of (cond b (d ∷ living live docs) (living live docs)) word field ≡ living_hits live (hits_of (d ∷ docs) word field)
  living_case d docs true e rest =
      first d (living live docs)
      ∙ (ap (λ (hs : List Hit). hits_in (lists_from d.doc 0 d.lists) word field ++ hs) rest
      ∙ (ap (λ (hs : List Hit). hs ++ living_hits live (hits_of docs word field)) (sym (kept_all live (lists_from d.doc 0 d.lists) word field d.doc e (all_in_lists d.doc 0 d.lists)))
      ∙ (sym (filter-append (λ (hit : Hit). lives live hit.doc) (hits_in (lists_from d.doc 0 d.lists) word field) (hits_of docs word field)) ∙ ap (living_hits live) (sym (first d docs)))))
  living_case d docs false e rest =
      rest
      ∙ (ap (λ (hs : List Hit). hs ++ living_hits live (hits_of docs word field)) (sym (kept_none live (lists_from d.doc 0 d.lists) word field d.doc e (all_in_lists d.doc 0 d.lists)))
      ∙ (sym (filter-append (λ (hit : Hit). lives live hit.doc) (hits_in (lists_from d.doc 0 d.lists) word field) (hits_of docs word field)) ∙ ap (living_hits live) (sym (first d docs))))

  -- the hits of the documents that live are the hits that live
  pub hits_of-living : (docs : List DocWords) → hits_of (living live docs) word field ≡ living_hits live (hits_of docs word field)
  hits_of-living [] = refl
  hits_of-living (d ∷ docs) = living_case d docs (lives live d.doc) refl (hits_of-living docs)

-- ---- a word is there where it has a hit

there_case : (o : Occurrence) (found : List Occurrence) (word : List ℕ) (b : Bool) → same_text word o.word ≡ b → ((field : Field) → hits_in (o ∷ found) word field ≡ []) → (((field : Field) → hits_in found word field ≡ []) → has_text (texts found) word ≡ false)
    → (b || has_text (texts found) word) ≡ false
there_case o found word true e none rest =
    let own : is_of word o.field o ≡ true = ap (λ (w : List ℕ). is_of w o.field o) (bytes_same word o.word (sym e)) ∙ own_hit o in
    let some : hits_in (o ∷ found) word o.field ≡ o.hit ∷ hits_in found word o.field = hits_case o found word o.field true own in
    absurd (let no : o.hit ∷ hits_in found word o.field ≡ [] = sym some ∙ none o.field in cc)
there_case o found word false e none rest = rest (λ field.
    let other : is_of word field o ≡ false = rw e refl in
    sym (hits_case o found word field false other) ∙ none field)

-- a word without hits is not there
pub absent_without : (found : List Occurrence) (word : List ℕ) → ((field : Field) → hits_in found word field ≡ []) → has_text (texts found) word ≡ false
absent_without [] word none = refl
absent_without (o ∷ found) word none = there_case o found word (same_text word o.word) refl none (absent_without found word)

-- ---- documents that live are documents

few_case : (live : List ℕ) (d : DocWords) (docs : List DocWords) (b : Bool) → AreFew d.lists → AllByRecursion (λ x. AreFew x.lists) docs → AllByRecursion (λ x. AreFew x.lists) (cond b (d ∷ docs) docs)
few_case live d docs true here rest = (here, rest)
few_case live d docs false here rest = rest

few_living : (live : List ℕ) (docs : List DocWords) → AllByRecursion (λ x. AreFew x.lists) docs → AllByRecursion (λ x. AreFew x.lists) (living live docs)
few_living live [] few = tt
few_living live (d ∷ docs) few = few_case live d (living live docs) (lives live d.doc) few.0 (few_living live docs few.1)

numbers_case : (live : List ℕ) (d : DocWords) (docs : List DocWords) (b : Bool) → lives live d.doc ≡ b → numbers (living live docs) ≡ filter (lives live) (numbers docs)
    → numbers (cond b (d ∷ living live docs) (living live docs)) ≡ cond b (d.doc ∷ filter (lives live) (numbers docs)) (filter (lives live) (numbers docs))
numbers_case live d docs true e rest = ap (λ (ns : List ℕ). d.doc ∷ ns) rest
numbers_case live d docs false e rest = rest

numbers-living : (live : List ℕ) (docs : List DocWords) → numbers (living live docs) ≡ filter (lives live) (numbers docs)
numbers-living live [] = refl
numbers-living live (d ∷ docs) = numbers_case live d docs (lives live d.doc) refl (numbers-living live docs)

pub living_docs : (live : List ℕ) (docs : List DocWords) → AreDocs docs → AreDocs (living live docs)
living_docs live docs are = record {
  rising = rw (numbers-living live docs) (IsStrictlySortedBy-filter nat_cmp (lives live) (numbers docs) are.rising);
  few = few_living live docs are.few;
}

-- ---- what a part has

-- hits that were kept rise with the next one
pub rising_kept : (live : List ℕ) (written : List Hit) (hit : Hit) (left before all : List Hit) → before ≡ hit ∷ left → lives live hit.doc ≡ true → written ++ living_hits live before ≡ all → is_rising all ≡ true → is_rising (written ++ hit ∷ []) ≡ true
rising_kept live written hit left before all next alive parts rising =
    let rest : living_hits live before ≡ hit ∷ living_hits live left = ap (living_hits live) next ∙ ap (λ b. cond b (hit ∷ living_hits live left) (living_hits live left)) alive in
    let cut : (written ++ hit ∷ []) ++ living_hits live left ≡ all = append_assoc written (hit ∷ []) (living_hits live left) ∙ (ap (λ (hs : List Hit). written ++ hs) (sym rest) ∙ parts) in
    rising_front (written ++ hit ∷ []) (living_hits live left) (ap is_rising cut ∙ rising)

-- of a run that is read, the hits that live rise
pub living_rise : (live : List ℕ) (docs : List DocWords) (word : List ℕ) (field : Field) (run : List ℕ) → AreDocs docs → IsRun run (hits_of docs word field) → is_rising (living_hits live (run_hits run)) ≡ true
living_rise live docs word field run are is =
    ap (λ (hs : List Hit). is_rising (living_hits live hs)) (read_again run (hits_of docs word field) is)
    ∙ (ap is_rising (sym (hits_of-living live word field docs)) ∙ hits_rise (living live docs) word field (living_docs live docs are).rising)

-- a word that a segment lacks has no hits in its part
pub part_lacks : (docs : List DocWords) (live : Option (List ℕ)) (word : List ℕ) (field : Field) → has_text (words docs) word ≡ false → hits_of (docs_by docs live) word field ≡ []
part_lacks docs None word field none = no_hits_in (occurrences docs) word field (sym (has_text-sorted (texts (occurrences docs)) word) ∙ none)
part_lacks docs (Some live) word field none =
    hits_of-living live word field docs ∙ ap (living_hits live) (no_hits_in (occurrences docs) word field (sym (has_text-sorted (texts (occurrences docs)) word) ∙ none))

pub no_run : IsRun [] []
no_run rest = refl

-- the run that a part adds of a word that its segment has: the whole run where all documents live
pub whole_run : (docs : List DocWords) (live : Option (Bor (List ℕ))) (word : List ℕ) (field : Field) (at : ℕ) (old new run : List ℕ) → live ≡ None → slice_get (words docs) at ≡ Some word → IsRun run (hits_of docs (get_or (words docs) at []) field)
    → new ≡ old ++ run → (x : List ℕ) × (new ≡ old ++ x) × IsRun x (hits_of (docs_by docs (option_map (λ l. l.now) live)) word field)
whole_run docs live word field at old new run all here is added =
    let same : hits_of docs (get_or (words docs) at []) field ≡ hits_of docs word field = ap (λ (w : List ℕ). hits_of docs w field) (get_or_from_slice_get (words docs) at word [] here) in
    (run, added, rw all (subst (λ (hs : List Hit). IsRun run hs) same is))

-- and else that of the hits that live
pub kept_run : (docs : List DocWords) (live : Option (Bor (List ℕ))) (l : Bor (List ℕ)) (word : List ℕ) (field : Field) (at : ℕ) (old new run made : List ℕ) → live ≡ Some l → slice_get (words docs) at ≡ Some word
    → IsRun run (hits_of docs (get_or (words docs) at []) field) → new ≡ old ++ made → IsRun made (living_hits l.now (run_hits run)) → (x : List ℕ) × (new ≡ old ++ x) × IsRun x (hits_of (docs_by docs (option_map (λ l. l.now) live)) word field)
kept_run docs live l word field at old new run made some here is added kept =
    let same : living_hits l.now (run_hits run) ≡ hits_of (living l.now docs) word field =
    ap (living_hits l.now) (read_again run (hits_of docs (get_or (words docs) at []) field) is ∙ ap (λ (w : List ℕ). hits_of docs w field) (get_or_from_slice_get (words docs) at word [] here)) ∙ sym (hits_of-living l.now word field docs) in
    (made, added, rw some (subst (λ (hs : List Hit). IsRun made hs) same kept))

-- ---- whether a part has a word

none_case : (live : List ℕ) (hit : Hit) (hits : List Hit) (b : Bool) → lives live hit.doc ≡ b → (b || list_any (λ h. lives live h.doc) hits) ≡ false → (list_any (λ h. lives live h.doc) hits ≡ false → living_hits live hits ≡ []) → living_hits live (hit ∷ hits) ≡ []
none_case live hit hits true e none rest = absurd (cc)
none_case live hit hits false e none rest = rw e (rest none)

one_case : (live : List ℕ) (hit : Hit) (hits : List Hit) (b : Bool) → lives live hit.doc ≡ b → (b || list_any (λ h. lives live h.doc) hits) ≡ true → living_hits live (hit ∷ hits) ≡ [] → (list_any (λ h. lives live h.doc) hits ≡ true → living_hits live hits ≡ [] → ⊥) → ⊥
one_case live hit hits true e some none rest = absurd (let kept : hit ∷ living_hits live hits ≡ [] = sym (ap (λ b. cond b (hit ∷ living_hits live hits) (living_hits live hits)) e) ∙ none in cc)
one_case live hit hits false e some none rest = rest some (sym (ap (λ b. cond b (hit ∷ living_hits live hits) (living_hits live hits)) e) ∙ none)

there_by : (found : List Occurrence) (word : List ℕ) (field : Field) (b : Bool) → has_text (texts found) word ≡ b → (hits_in found word field ≡ [] → ⊥) → b ≡ true
there_by found word field true e some = refl
there_by found word field false e some = absurd (some (no_hits_in found word field e))

-- a run has a hit that lives exactly where some of its hits are kept
pub none_lives : (live : List ℕ) (hits : List Hit) → list_any (λ hit. lives live hit.doc) hits ≡ false → living_hits live hits ≡ []
none_lives live [] none = refl
none_lives live (hit ∷ hits) none = none_case live hit hits (lives live hit.doc) refl none (none_lives live hits)

pub one_lives : (live : List ℕ) (hits : List Hit) → list_any (λ hit. lives live hit.doc) hits ≡ true → living_hits live hits ≡ [] → ⊥
one_lives live [] some none = absurd (cc)
one_lives live (hit ∷ hits) some none = one_case live hit hits (lives live hit.doc) refl some none (one_lives live hits)

-- a word with a hit is there
pub there_with : (found : List Occurrence) (word : List ℕ) (field : Field) → (hits_in found word field ≡ [] → ⊥) → has_text (texts found) word ≡ true
there_with found word field some = there_by found word field (has_text (texts found) word) refl some

word_of : (docs : List DocWords) (word : List ℕ) → has_text (words docs) word ≡ has_text (texts (occurrences docs)) word
word_of docs word = has_text-sorted (texts (occurrences docs)) word

-- a run that has a hit that lives is of a word that is there
pub live_there : (live : List ℕ) (docs : List DocWords) (word : List ℕ) (field : Field) (run : List ℕ) → IsRun run (hits_of docs word field) → list_any (λ hit. lives live hit.doc) (run_hits run) ≡ true → true ≡ has_text (words (living live docs)) word
live_there live docs word field run is some =
    let hits : list_any (λ hit. lives live hit.doc) (hits_of docs word field) ≡ true = ap (λ (hs : List Hit). list_any (λ hit. lives live hit.doc) hs) (sym (read_again run (hits_of docs word field) is)) ∙ some in
    sym (word_of (living live docs) word ∙ there_with (occurrences (living live docs)) word field (λ none. one_lives live (hits_of docs word field) hits (sym (hits_of-living live word field docs) ∙ none)))

-- of a run of which no hit lives none is kept
pub live_none : (live : List ℕ) (docs : List DocWords) (word : List ℕ) (field : Field) (run : List ℕ) → IsRun run (hits_of docs word field) → list_any (λ hit. lives live hit.doc) (run_hits run) ≡ false → living_hits live (hits_of docs word field) ≡ []
live_none live docs word field run is none =
    none_lives live (hits_of docs word field) (ap (λ (hs : List Hit). list_any (λ hit. lives live hit.doc) hs) (sym (read_again run (hits_of docs word field) is)) ∙ none)

-- a field more of which no hit lives
pub none_more : (live : List ℕ) (docs : List DocWords) (word : List ℕ) (number : ℕ) (field : Field) (run : List ℕ) → ((f : Field) → field_number f < number → living_hits live (hits_of docs word f) ≡ []) → field_number field ≡ number
    → IsRun run (hits_of docs word field) → list_any (λ hit. lives live hit.doc) (run_hits run) ≡ false → (f : Field) → field_number f < number + 1 → living_hits live (hits_of docs word f) ≡ []
none_more live docs word number field run so_far at is none f less = elim (cases_lt (field_number f) number) [
  | inl front ↦ so_far f front
  | inr back ↦
      let same : field ≡ f = same_field field f (omega (arith, at, back, less)) in
      subst (λ (x : Field). living_hits live (hits_of docs word x) ≡ []) same (live_none live docs word field run is none)
]

-- a word of which no hit lives in any field
pub absent_live : (live : List ℕ) (docs : List DocWords) (word : List ℕ) → ((f : Field) → field_number f < 5 → living_hits live (hits_of docs word f) ≡ []) → false ≡ has_text (words (living live docs)) word
absent_live live docs word none =
    sym (word_of (living live docs) word ∙ absent_without (occurrences (living live docs)) word (λ field. hits_of-living live word field docs ∙ none field (few_fields field)))

-- a word that a segment lacks, its part lacks too
pub absent_part : (docs : List DocWords) (live : Option (List ℕ)) (word : List ℕ) → has_text (words docs) word ≡ false → false ≡ has_text (words (docs_by docs live)) word
absent_part docs live word none = sym (word_of (docs_by docs live) word ∙ absent_without (occurrences (docs_by docs live)) word (λ field. part_lacks docs live word field none))

few_append : (docs more : List DocWords) → AllByRecursion (λ x. AreFew x.lists) docs → AllByRecursion (λ x. AreFew x.lists) more → AllByRecursion (λ x. AreFew x.lists) (docs ++ more)
few_append [] more p q = q
few_append (d ∷ docs) more p q = (p.0, few_append docs more p.1 q)

-- two lists of documents whose numbers rise
pub docs_joined : (docs more : List DocWords) → IsStrictlySortedBy nat_cmp (numbers (docs ++ more)) → AreDocs docs → AreDocs more → AreDocs (docs ++ more)
docs_joined docs more rising p q = record { rising = rising; few = few_append docs more p.few q.few }

-- and what lives of them
pub merged_docs : (live : List ℕ) (docs more : List DocWords) → IsStrictlySortedBy nat_cmp (numbers (docs ++ more)) → AreDocs docs → AreDocs more → AreDocs (living live docs ++ living live more)
merged_docs live docs more rising p q = subst AreDocs (filter-append (λ (d : DocWords). lives live d.doc) docs more) (living_docs live (docs ++ more) (docs_joined docs more rising p q))
