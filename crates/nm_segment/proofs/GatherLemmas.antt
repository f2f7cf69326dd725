-- Words that are gathered: one that was met before, and one that is met for the first time. For the proofs of `gather`
-- and `part`.
use Rattle.std.proofs.Common.{◌≡◌, ℕ, zero, suc, inl, inr, ◌+◌, ◌<◌, Bool, true, false, cond, ◌||◌, Option, None, Some, MatchOption, List, [], ◌∷◌, ◌++◌, fold, length, get_or, replicate, slice_get, refl, sym, ap, subst, ◌∙◌, arith}
use Rattle.std.specs.Borrow.{Bor}
use Rattle.std.specs.BTreeSet.{insert_key}
use Rattle.std.specs.Cmp.Lexicographic.{nat_list_eq_equiv, slice_cmp, texts_ties}
use Rattle.std.specs.HashMap.{get, Updates}
use Rattle.std.specs.List.{AllByRecursion}
use Rattle.std.specs.List.Sorted.{IsStrictlySortedBy}
use Rattle.std.specs.Ordering.{is_eq, match_ordering, nat_cmp}
use Rattle.std.specs.declared.cmp.Ordering.{Ordering}
use Rattle.std.specs.declared.cmp.Ordering.TheVariants.{Less, Equal, Greater}
use Rattle.std.proofs.lemmas.Bool.{cases_lt}
use Rattle.std.proofs.lemmas.List.{get_or_append_left, get_or-append-add, get_or-replicate, length-append, length-map}
use Rattle.std.proofs.lemmas.List.Folds.{list_any-append}
use Rattle.std.proofs.lemmas.Option.{get_or_from_slice_get, slice_get-get_or, slice_get_within}
use Rattle.nm_base.specs.FieldNumber.{field_number}
use Rattle.nm_base.specs.Order.{IsSorted, has_text, insert, same_text, sorted}
use Rattle.nm_base.specs.OrderLaws.{IsSorted-sorted, above_all}
use Rattle.nm_base.specs.SetLaws.{bytes_same, has_text-sorted}
use Rattle.nm_base.specs.declared.facts.Field.{Field}
use Rattle.nm_blocks.specs.declared.hit.Hit.{Hit}
use Rattle.nm_segment.specs.declared.gather.Gathered.{Gathered}
use Rattle.nm_segment.specs.Docs.{Occurrence, hits_in, texts}
use Rattle.nm_segment.specs.Gather.{HasGathered, shown, words_by_number}
use Rattle.nm_segment.specs.Runs.{row_at}
use Rattle.nm_segment.proofs.HitsInLemmas.{few_fields, no_hits_in}

-- ---- a set in order

-- what is above all of a list is not in it
pub not_below : (word : List ℕ) (xs : List (List ℕ)) → AllByRecursion (λ x. slice_cmp nat_cmp word x ≡ Less) xs → has_text xs word ≡ false
not_below word [] h = refl
not_below word (x ∷ xs) h =
    let differ : same_text word x ≡ false = texts_ties word x ∙ ap is_eq h.0 in
    rw differ (not_below word xs h.1)

there_case : (word x : List ℕ) (xs : List (List ℕ)) (o : Ordering) → slice_cmp nat_cmp word x ≡ o → AllByRecursion (λ y. slice_cmp nat_cmp x y ≡ Less) xs → (same_text word x || has_text xs word) ≡ true
    → (has_text xs word ≡ true → insert xs word ≡ xs) → match_ordering o (word ∷ x ∷ xs) (x ∷ xs) (x ∷ insert xs word) ≡ x ∷ xs
there_case word x xs Less is above there rest =
    let differ : same_text word x ≡ false = texts_ties word x ∙ ap is_eq is in
    let none : has_text xs word ≡ false = not_below word xs (above_all word x xs above is) in
    absurd (let no : (same_text word x || has_text xs word) ≡ false = rw (differ, none) refl in cc)
there_case word x xs Equal is above there rest = refl
there_case word x xs Greater is above there rest =
    let differ : same_text word x ≡ false = texts_ties word x ∙ ap is_eq is in
    ap (λ (ys : List (List ℕ)). x ∷ ys) (rest (rw differ at there))

-- a text that is there is not put in once more
pub insert-there : (texts : List (List ℕ)) (word : List ℕ) → IsSorted texts → has_text texts word ≡ true → insert texts word ≡ texts
unfolding IsStrictlySortedBy
insert-there [] word in_order there = absurd (cc)
insert-there (x ∷ xs) word in_order there = there_case word x xs (slice_cmp nat_cmp word x) refl in_order.0 there (λ h. insert-there xs word in_order.1 h)

fold-append : {A B : Type 0} (f : A → B → A) (start : A) (xs ys : List B) → fold f start (xs ++ ys) ≡ fold f (fold f start xs) ys
fold-append f start [] ys = refl
fold-append f start (x ∷ xs) ys = fold-append f (f start x) xs ys

pub sorted-more : (texts : List (List ℕ)) (word : List ℕ) → sorted (texts ++ word ∷ []) ≡ insert (sorted texts) word
sorted-more texts word = fold-append insert [] texts (word ∷ [])

has_text-more : (texts : List (List ℕ)) (word other : List ℕ) → has_text (texts ++ word ∷ []) other ≡ (has_text texts other || (same_text other word || false))
has_text-more texts word other = list_any-append (same_text other) texts (word ∷ [])

shown_case : (o : Ordering) (word x : Bor (List ℕ)) (keys more : List (Bor (List ℕ))) → shown more ≡ insert (shown keys) word.now
    → shown (match_ordering o (word ∷ x ∷ keys) (x ∷ keys) (x ∷ more)) ≡ match_ordering o (word.now ∷ x.now ∷ shown keys) (x.now ∷ shown keys) (x.now ∷ insert (shown keys) word.now)
shown_case Less word x keys more h = refl
shown_case Equal word x keys more h = refl
shown_case Greater word x keys more h = ap (λ (xs : List (List ℕ)). x.now ∷ xs) h

-- one more word in a set of references
pub shown-insert : (keys : List (Bor (List ℕ))) (word : Bor (List ℕ)) → shown (insert_key (λ x y. slice_cmp nat_cmp x.now y.now) keys word) ≡ insert (shown keys) word.now
shown-insert [] word = refl
shown-insert (x ∷ keys) word = shown_case (slice_cmp nat_cmp word.now x.now) word x keys _ (shown-insert keys word)

-- ---- a word that is known

from_bool : (b : Bool) → (b || false) ≡ b
from_bool true = refl
from_bool false = refl

absorbed : (a b : Bool) → (b ≡ true → a ≡ true) → (a || (b || false)) ≡ a
absorbed true b h = refl
absorbed false true h = sym (h refl)
absorbed false false h = refl

or_true : (b : Bool) → (b || true) ≡ true
or_true true = refl
or_true false = refl

-- a word by its place is there
pub there : (words : List (List ℕ)) (word : List ℕ) (k : ℕ) → slice_get words k ≡ Some word → has_text words word ≡ true
there [] word k h = absurd (cc)
there (x ∷ words) word zero h = let e : x ≡ word = cc in rw (e, nat_list_eq_equiv.refl word) refl
there (x ∷ words) word (suc k) h = let more = there words word k h in let b = same_text word x in rw more (or_true b)

abbrev Known : Gathered → List ℕ → Option ℕ → Type 0
Known g word found = MatchOption found (has_text (words_by_number g) word ≡ false) (λ number. slice_get (words_by_number g) number ≡ Some word)

module _ (g : Gathered) (found : List Occurrence) (word : List ℕ) (h : HasGathered g (texts found) found) where
  -- a number that is found is that of the word
  pub number_there : (number : ℕ) → get same_text g.numbers word ≡ Some number → slice_get (words_by_number g) number ≡ Some word
  number_there number is = subst (Known g word) is (h.known word)

  pub none_there : get same_text g.numbers word ≡ None → has_text (words_by_number g) word ≡ false
  none_there is = subst (Known g word) is (h.known word)

  -- a word that was met before
  pub met_again : (number : ℕ) → get same_text g.numbers word ≡ Some number → HasGathered g (texts found ++ word ∷ []) found
  met_again number is =
      let here : has_text (texts found) word ≡ true = sym (h.met word) ∙ there (words_by_number g) word number (number_there number is) in
      record {
        known = h.known;
        numbered = h.numbered;
        met = λ other. h.met other ∙ sym (has_text-more (texts found) word other ∙ absorbed (has_text (texts found) other) (same_text other word) (λ e. ap (has_text (texts found)) (bytes_same other word (sym e)) ∙ here));
        order = h.order ∙ sym (sorted-more (texts found) word ∙ insert-there (sorted (texts found)) word (IsSorted-sorted (texts found)) (has_text-sorted (texts found) word ∙ here));
        count = h.count;
        hits = h.hits;
      }

-- ---- a word that is met for the first time

-- of words and one more, each by its number
at_front : (words : List (List ℕ)) (word : List ℕ) (k : ℕ) → k < length words → get_or (words ++ word ∷ []) k [] ≡ get_or words k []
at_front words word k less = get_or_append_left words (word ∷ []) [] k less

zero_more : (n : ℕ) → n ≡ n + 0
zero_more n = omega arith

at_end : (words : List (List ℕ)) (word : List ℕ) → get_or (words ++ word ∷ []) (length words) [] ≡ word
at_end words word = ap (λ (n : ℕ). get_or (words ++ word ∷ []) n []) (zero_more (length words)) ∙ get_or-append-add words (word ∷ []) 0 []

found_front : (words : List (List ℕ)) (word other : List ℕ) (k : ℕ) → slice_get words k ≡ Some other → slice_get (words ++ word ∷ []) k ≡ Some other
found_front words word other k h =
    let less = slice_get_within words k other h in
    slice_get-get_or (words ++ word ∷ []) k [] (rw (length-append words (word ∷ [])) (omega (arith, less))) ∙ ap Some (at_front words word k less ∙ get_or_from_slice_get words k other [] h)

found_end : (words : List (List ℕ)) (word : List ℕ) → slice_get (words ++ word ∷ []) (length words) ≡ Some word
found_end words word =
    slice_get-get_or (words ++ word ∷ []) (length words) [] (rw (length-append words (word ∷ [])) (omega arith)) ∙ ap Some (at_end words word)

-- what a map that has a word more says of another word
abbrev KnownIn : List (List ℕ) → List ℕ → Option ℕ → Type 0
KnownIn words word found = MatchOption found (has_text words word ≡ false) (λ number. slice_get words number ≡ Some word)

known_other : (words : List (List ℕ)) (word other : List ℕ) (was : Option ℕ) → same_text word other ≡ false → KnownIn words other was → KnownIn (words ++ word ∷ []) other was
known_other words word other None differ h = rw (has_text-more words word other, h, nat_list_eq_equiv.symm other word, differ) refl
known_other words word other (Some k) differ h = found_front words word other k h

known_case : (words : List (List ℕ)) (word other : List ℕ) (was : Option ℕ) (b : Bool) → same_text word other ≡ b → KnownIn words other was → KnownIn (words ++ word ∷ []) other (cond b (Some (length words)) was)
known_case words word other was true same h = subst (λ (w : List ℕ). slice_get (words ++ word ∷ []) (length words) ≡ Some w) (bytes_same word other (sym same)) (found_end words word)
known_case words word other was false differ h = known_other words word other was differ h

not_its_number : (m : Option ℕ) (k : ℕ) → m ≡ None → m ≡ Some k → ⊥
not_its_number m k a b = absurd (cc)

module _ (g new : Gathered) (found : List Occurrence) (word : List ℕ) (number : ℕ) (h : HasGathered g (texts found) found) (none : get same_text g.numbers word ≡ None) (put : Updates same_text g.numbers new.numbers word (Some number))
    (len : number ≡ length g.words.items) (words : words_by_number new ≡ words_by_number g ++ word ∷ []) (order : shown new.order.keys ≡ insert (shown g.order.keys) word) (rows : new.rows.items ≡ g.rows.items ++ replicate 5 []) where
  abbrev old : List (List ℕ)
  old = words_by_number g

  count_old : number ≡ length old
  count_old = len ∙ sym (length-map g.words.items (λ (w : Bor (List ℕ)). w.now))

  absent : has_text old word ≡ false
  absent = none_there g found word h none

  known_now : (other : List ℕ) → KnownIn (old ++ word ∷ []) other (get same_text new.numbers other)
  known_now other =
      rw (put.0 other, count_old) (known_case old word other (get same_text g.numbers other) (same_text word other) refl (h.known other))

  differs_case : (k : ℕ) (b : Bool) → k < length old → same_text word (get_or old k []) ≡ b → b ≡ false
  differs_case k true less same =
      absurd (not_its_number (get same_text g.numbers word) k none (ap (get same_text g.numbers) (bytes_same word (get_or old k []) (sym same)) ∙ h.numbered k less))
  differs_case k false less same = refl

  differs : (k : ℕ) → k < length old → same_text word (get_or old k []) ≡ false
  differs k less = differs_case k (same_text word (get_or old k [])) less refl ∙ refl

  numbered_now : (k : ℕ) → k < length (old ++ word ∷ []) → get same_text new.numbers (get_or (old ++ word ∷ []) k []) ≡ Some k
  numbered_now k less = elim (cases_lt k (length old)) [
    | inl front ↦
        ap (get same_text new.numbers) (at_front old word k front) ∙ (put.2 (get_or old k []) (differs k front) ∙ h.numbered k front)
    | inr back ↦
        let e : k ≡ length old = (let l = length-append old (word ∷ []) in omega (arith, back, less, l)) in
        rw (e, at_end old word) (put.1 ∙ ap Some count_old)
  ]

  rows_at : (k : ℕ) (field : Field) → k < length (old ++ word ∷ []) → get_or new.rows.items (row_at k field) [] ≡ hits_in found (get_or (old ++ word ∷ []) k []) field
  rows_at k field less = elim (cases_lt k (length old)) [
    | inl front ↦
        ap (λ (r : List (List Hit)). get_or r (row_at k field) []) rows
        ∙ (get_or_append_left g.rows.items (replicate 5 []) [] (row_at k field) (omega (arith, front, h.count, len, count_old, few_fields field))
        ∙ (h.hits k field front ∙ ap (λ (w : List ℕ). hits_in found w field) (sym (at_front old word k front))))
    | inr back ↦
        let e : k ≡ length old = (let l = length-append old (word ∷ []) in omega (arith, back, less, l)) in
        let i : row_at k field ≡ length g.rows.items + field_number field = omega (arith, e, h.count, len, count_old) in
        ap (λ (r : List (List Hit)). get_or r (row_at k field) []) rows
        ∙ (ap (λ (n : ℕ). get_or (g.rows.items ++ replicate 5 []) n []) i
        ∙ (get_or-append-add g.rows.items (replicate 5 []) (field_number field) []
        ∙ (get_or-replicate 5 (field_number field) [] [] (few_fields field)
        ∙ (sym (no_hits_in found word field (sym (h.met word) ∙ absent)) ∙ ap (λ (w : List ℕ). hits_in found w field) (sym (ap (λ (n : ℕ). get_or (old ++ word ∷ []) n []) e ∙ at_end old word))))))
  ]

  met_now : (other : List ℕ) → has_text (old ++ word ∷ []) other ≡ has_text (texts found ++ word ∷ []) other
  met_now other = has_text-more old word other ∙ (ap (λ (b : Bool). b || (same_text other word || false)) (h.met other) ∙ sym (has_text-more (texts found) word other))

  -- the word is met, and has no hits as yet
  pub word_added : HasGathered new (texts found ++ word ∷ []) found
  word_added = record {
    known = rw words known_now;
    numbered = rw words numbered_now;
    met = rw words met_now;
    order = order ∙ (ap (λ (ws : List (List ℕ)). insert ws word) h.order ∙ sym (sorted-more (texts found) word));
    count = (let l = length-append g.rows.items (replicate 5 []) in let m : length new.words.items ≡ length old + 1 = (sym (length-map new.words.items (λ (w : Bor (List ℕ)). w.now)) ∙ (ap length words ∙ length-append old (word ∷ []))) in ap length rows ∙ (l ∙ omega (arith, h.count, m, len, count_old)));
    hits = rw words rows_at;
  }

-- ---- all words in order

among : (front : List (List ℕ)) (word : List ℕ) (back : List (List ℕ)) → has_text (front ++ word ∷ back) word ≡ true
among [] word back = rw (nat_list_eq_equiv.refl word) refl
among (x ∷ front) word back = rw (among front word back) (or_true (same_text word x))

-- a word among those in order was met
pub met_among : (seen front : List (List ℕ)) (word : List ℕ) (back : List (List ℕ)) → front ++ word ∷ back ≡ sorted seen → has_text seen word ≡ true
met_among seen front word back all = sym (has_text-sorted seen word) ∙ (ap (λ (ws : List (List ℕ)). has_text ws word) (sym all) ∙ among front word back)
