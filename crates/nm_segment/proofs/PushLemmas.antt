-- A hit more of a word that is gathered, and the runs of its hits. For the proofs of `gather`.
use Rattle.std.proofs.Common.{◌≡◌, ◌≢◌, ℕ, inl, inr, ◌+◌, ◌-◌, ◌*◌, ◌<◌, Bool, true, false, Some, List, [], ◌∷◌, ◌++◌, length, get_or, set, slice_get, take, drop, refl, sym, ap, subst, ◌∙◌, arith}
use Rattle.std.specs.Borrow.{Bor}
use Rattle.std.specs.Cmp.Lexicographic.{nat_list_eq_equiv}
use Rattle.std.specs.HashMap.{get}
use Rattle.std.proofs.Math.Bool.{and-false}
use Rattle.std.proofs.lemmas.Bool.{cases_eq, ne_eqb, eq-eqb}
use Rattle.std.proofs.lemmas.List.{append-nil, get_or_default, get_or-drop, get_or-take, get_or-set_other, get_or-set_same, length-drop, length-map, length-set, length-take-le, map-append}
use Rattle.std.proofs.lemmas.Option.{get_or_from_slice_get, slice_get_within}
use Rattle.nm_base.specs.FieldNumber.{field_number}
use Rattle.nm_base.specs.Order.{same_text}
use Rattle.nm_base.specs.SetLaws.{bytes_same}
use Rattle.nm_base.specs.declared.facts.Field.{Field}
use Rattle.nm_blocks.specs.Blocks.{IsRun}
use Rattle.nm_blocks.specs.declared.hit.Hit.{Hit}
use Rattle.nm_segment.specs.declared.gather.Gathered.{Gathered}
use Rattle.nm_segment.specs.Docs.{Occurrence, hits_in, is_of, texts}
use Rattle.nm_segment.specs.Gather.{HasGathered, shown, words_by_number}
use Rattle.nm_segment.specs.Runs.{AddsRuns, AreRunsOf, row_at}
use Rattle.nm_segment.proofs.HitsInLemmas.{few_fields, hits_in-append, hits_other, hits_same, not_of_word}

same_case : (g : Gathered) (found : List Occurrence) (seen : List (List ℕ)) (i j : ℕ) (b : Bool) → HasGathered g seen found → i ≢ j → i < length (words_by_number g) → j < length (words_by_number g)
    → same_text (get_or (words_by_number g) i []) (get_or (words_by_number g) j []) ≡ b → b ≡ false
same_case g found seen i j true h differ li lj same =
    let e : get_or (words_by_number g) i [] ≡ get_or (words_by_number g) j [] = bytes_same (get_or (words_by_number g) i []) (get_or (words_by_number g) j []) (sym same) in
    let k : Some i ≡ Some j = sym (h.numbered i li) ∙ (ap (get same_text g.numbers) e ∙ h.numbered j lj) in
    absurd (differ (cc))
same_case g found seen i j false h differ li lj same = refl

module _ (g new : Gathered) (found : List Occurrence) (o : Occurrence) (number : ℕ) (h : HasGathered g (texts found ++ o.word ∷ []) found) (here : slice_get (words_by_number g) number ≡ Some o.word)
    (numbers : new.numbers ≡ g.numbers) (words : words_by_number new ≡ words_by_number g) (len : length new.words.items ≡ length g.words.items) (order : shown new.order.keys ≡ shown g.order.keys)
    (rows : new.rows.items ≡ set g.rows.items (row_at number o.field) (get_or g.rows.items (row_at number o.field) [] ++ o.hit ∷ [])) where
  abbrev old : List (List ℕ)
  old = words_by_number g

  word_at : get_or old number [] ≡ o.word
  word_at = get_or_from_slice_get old number o.word [] here

  within : number < length old
  within = slice_get_within old number o.word here

  len_old : length old ≡ length g.words.items
  len_old = length-map g.words.items (λ (w : Bor (List ℕ)). w.now)

  more : (k : ℕ) (field : Field) → hits_in (found ++ o ∷ []) (get_or old k []) field ≡ hits_in found (get_or old k []) field ++ hits_in (o ∷ []) (get_or old k []) field
  more k field = hits_in-append found (o ∷ []) (get_or old k []) field

  elsewhere : (k : ℕ) (field : Field) → k < length old → row_at k field ≢ row_at number o.field → is_of (get_or old k []) field o ≡ false → get_or new.rows.items (row_at k field) [] ≡ hits_in (found ++ o ∷ []) (get_or old k []) field
  elsewhere k field less differ is =
      ap (λ (r : List (List Hit)). get_or r (row_at k field) []) rows
      ∙ (get_or-set_other g.rows.items (row_at number o.field) (row_at k field) (get_or g.rows.items (row_at number o.field) [] ++ o.hit ∷ []) [] differ
      ∙ (h.hits k field less ∙ (sym (append-nil (hits_in found (get_or old k []) field))
      ∙ (ap (λ (hits : List Hit). hits_in found (get_or old k []) field ++ hits) (sym (hits_other o (get_or old k []) field is)) ∙ sym (more k field)))))

  same_row : (field : Field) → field_number field ≡ field_number o.field → get_or new.rows.items (row_at number field) [] ≡ hits_in (found ++ o ∷ []) (get_or old number []) field
  same_row field e =
      let i : row_at number field ≡ row_at number o.field = ap (λ (n : ℕ). 5 * number + n) e in
      let is : is_of (get_or old number []) field o ≡ true = rw (word_at, nat_list_eq_equiv.refl o.word, eq-eqb (field_number field) (field_number o.field) e) refl in
      ap (λ (r : List (List Hit)). get_or r (row_at number field) []) rows
      ∙ (ap (λ (n : ℕ). get_or (set g.rows.items (row_at number o.field) (get_or g.rows.items (row_at number o.field) [] ++ o.hit ∷ [])) n []) i
      ∙ (get_or-set_same g.rows.items (row_at number o.field) (get_or g.rows.items (row_at number o.field) [] ++ o.hit ∷ []) [] (omega (arith, h.count, within, len_old, few_fields o.field))
      ∙ (ap (λ (n : ℕ). get_or g.rows.items n [] ++ o.hit ∷ []) (sym i) ∙ (ap (λ (hits : List Hit). hits ++ o.hit ∷ []) (h.hits number field within)
      ∙ (ap (λ (hits : List Hit). hits_in found (get_or old number []) field ++ hits) (sym (hits_same o (get_or old number []) field is)) ∙ sym (more number field))))))

  other_field : (field : Field) → field_number field ≢ field_number o.field → get_or new.rows.items (row_at number field) [] ≡ hits_in (found ++ o ∷ []) (get_or old number []) field
  other_field field e =
      elsewhere number field within (λ k. e (omega (arith, k))) (rw (ne_eqb (field_number field) (field_number o.field) e) (and-false (same_text (get_or old number []) o.word)))

  at_number : (field : Field) → get_or new.rows.items (row_at number field) [] ≡ hits_in (found ++ o ∷ []) (get_or old number []) field
  at_number field = elim (cases_eq (field_number field) (field_number o.field)) [ inl e ↦ same_row field e | inr e ↦ other_field field e ]

  apart : (k : ℕ) → k < length old → k ≢ number → same_text (get_or old k []) o.word ≡ false
  apart k less differ =
      ap (same_text (get_or old k [])) (sym word_at) ∙ same_case g found (texts found ++ o.word ∷ []) k number (same_text (get_or old k []) (get_or old number [])) h differ less within refl

  other_word : (k : ℕ) (field : Field) → k < length old → k ≢ number → get_or new.rows.items (row_at k field) [] ≡ hits_in (found ++ o ∷ []) (get_or old k []) field
  other_word k field less differ =
      elsewhere k field less (λ e. differ (omega (arith, e, few_fields field, few_fields o.field))) (not_of_word o (get_or old k []) field (apart k less differ))

  rows_at : (k : ℕ) (field : Field) → k < length old → get_or new.rows.items (row_at k field) [] ≡ hits_in (found ++ o ∷ []) (get_or old k []) field
  rows_at k field less = elim (cases_eq k number) [ inl e ↦ rw e (at_number field) | inr e ↦ other_word k field less e ]

  all_texts : texts found ++ o.word ∷ [] ≡ texts (found ++ o ∷ [])
  all_texts = sym (map-append (λ (p : Occurrence). p.word) found (o ∷ []))

  pub hit_pushed : HasGathered new (texts (found ++ o ∷ [])) (found ++ o ∷ [])
  hit_pushed = subst (λ (seen : List (List ℕ)). HasGathered new seen (found ++ o ∷ [])) all_texts (record {
    known = rw (numbers, words) h.known;
    numbered = rw (numbers, words) h.numbered;
    met = rw words h.met;
    order = order ∙ h.order;
    count = ap length rows ∙ (length-set g.rows.items (row_at number o.field) (get_or g.rows.items (row_at number o.field) [] ++ o.hit ∷ []) ∙ (h.count ∙ ap (λ (n : ℕ). 5 * n) (sym len)));
    hits = rw words rows_at;
  })

-- the row of a word has its hits
pub row_there : (g : Gathered) (found : List Occurrence) (word : List ℕ) (field : Field) (number i : ℕ) (d : List Hit) → HasGathered g (texts found ++ word ∷ []) found → slice_get (words_by_number g) number ≡ Some word
    → i ≡ row_at number field → get_or g.rows.items i d ≡ hits_in found word field
row_there g found word field number i d h here e =
    let less = slice_get_within (words_by_number g) number word here in
    let len : length (words_by_number g) ≡ length g.words.items = length-map g.words.items (λ (w : Bor (List ℕ)). w.now) in
    get_or_default g.rows.items i d [] (omega (arith, e, h.count, less, len, few_fields field))
    ∙ (ap (λ (n : ℕ). get_or g.rows.items n []) e ∙ (h.hits number field less ∙ ap (λ (w : List ℕ). hits_in found w field) (get_or_from_slice_get (words_by_number g) number word [] here)))

-- the same as a call finds it
pub pushed_at : (g new : Gathered) (found : List Occurrence) (o : Occurrence) (number i : ℕ) (row : List Hit) → HasGathered g (texts found ++ o.word ∷ []) found → slice_get (words_by_number g) number ≡ Some o.word
    → new.numbers ≡ g.numbers → words_by_number new ≡ words_by_number g → length new.words.items ≡ length g.words.items → shown new.order.keys ≡ shown g.order.keys → new.rows.items ≡ set g.rows.items i row → i ≡ row_at number o.field
    → row ≡ hits_in found o.word o.field ++ o.hit ∷ [] → HasGathered new (texts (found ++ o ∷ [])) (found ++ o ∷ [])
pushed_at g new found o number i row h here numbers words len order rows at is =
    let was = row_there g found o.word o.field number (row_at number o.field) [] h here refl in
    hit_pushed g new found o number h here numbers words len order
    (rows ∙ (ap (λ (r : List Hit). set g.rows.items i r) (is ∙ ap (λ (hits : List Hit). hits ++ o.hit ∷ []) (sym was)) ∙ ap (λ (n : ℕ). set g.rows.items n (get_or g.rows.items (row_at number o.field) [] ++ o.hit ∷ [])) at))

-- the five runs of a word
module _ (g : Gathered) (found : List Occurrence) (word : List ℕ) (number start end : ℕ) (rows : List (List Hit)) (old new made : List (List ℕ)) (h : HasGathered g (texts found) found) (here : slice_get (words_by_number g) number ≡ Some word) (all : rows ≡ g.rows.items)
    (begins : start ≡ 5 * number) (ends : end ≡ start + 5) (runs : AreRunsOf made (take (end - start) (drop start rows))) (added : new ≡ old ++ made) where
  less : number < length (words_by_number g)
  less = slice_get_within (words_by_number g) number word here

  five : end - start ≡ 5
  five = omega (arith, ends)

  count_five : length (take (end - start) (drop start rows)) ≡ 5
  count_five =
      let len : length (words_by_number g) ≡ length g.words.items = length-map g.words.items (λ (w : Bor (List ℕ)). w.now) in
      length-take-le (end - start) (drop start rows) (rw (length-drop start rows) (omega (arith, five, begins, h.count, less, len, ap length all))) ∙ five

  row_is : (field : Field) → get_or (take (end - start) (drop start rows)) (field_number field) [] ≡ hits_in found word field
  row_is field =
      get_or-take (end - start) (drop start rows) (field_number field) [] (omega (arith, five, few_fields field))
      ∙ (get_or-drop start rows (field_number field) []
      ∙ (ap (λ (r : List (List Hit)). get_or r (start + field_number field) []) all ∙ (ap (λ (n : ℕ). get_or g.rows.items (n + field_number field) []) begins
      ∙ (h.hits number field less ∙ ap (λ (w : List ℕ). hits_in found w field) (get_or_from_slice_get (words_by_number g) number word [] here)))))

  pub runs_of_word : AddsRuns old new (hits_in found word)
  runs_of_word = record {
    five = made;
    added = added;
    count = runs.count ∙ count_five;
    each = λ field. subst (λ (hits : List Hit). IsRun (get_or made (field_number field) []) hits) (row_is field) (runs.each (field_number field) (rw count_five (few_fields field)));
  }
