-- Where a text is cut: the first place that passes a test, the first word.
-- For the proofs of `next_word`, `without_blanks` and `word_len`.
use Rattle.std.proofs.Common.{◌≡◌, ℕ, ◌+◌, ◌<◌, ◌≤◌, ◌==◌, Bool, true, false, not, List, [], ◌∷◌, length, filter, get_or, take, drop, sym, ap, ◌∙◌, arith, subst, inl, inr, cond, add-one, suc}
use Rattle.std.specs.List.{position_or_len, slice_split, after_first}
use Rattle.std.proofs.lemmas.List.{take_all, drop_all, length-take}
use Rattle.std.proofs.lemmas.List.Elements.{All-from_get_or}
use Rattle.std.proofs.lemmas.List.Sums.{position_or_len_is, fails_before_first, passes_at_first}
use Rattle.std.proofs.lemmas.List.Splits.{slice_split_first, slice_split_none, slice_split-cons_yes}
use Rattle.std.proofs.lemmas.Bool.{cases_lt}
use Rattle.std.proofs.lemmas.Bool.Decides.{nat_tests}
use Rattle.std.proofs.Math.Seq.{drop-cons}
use Rattle.std.specs.Str.{IsUtf8, IsCharBoundary}
use Rattle.std.proofs.lemmas.Str.{IsCharBoundary-after_ascii, IsCharBoundary-before_ascii, IsCharBoundary-end}
use Rattle.nm_lanes.specs.Words.{begins_blank, words_of}
use Rattle.nm_text.specs.WhiteSpace.{is_blank}

-- the place at which a loop stops is the first
pub first_place : (p : ℕ → Bool) (xs : List ℕ) (i : ℕ) → i < length xs → ((k : ℕ) → k < i → p (get_or xs k 0) ≡ false) → p (get_or xs i 0) ≡ true → i ≡ position_or_len p xs
first_place p xs i within below here = sym (position_or_len_is p xs i 0 (omega arith) below (λ _. here))

-- a loop that does not stop has passed no such place
pub no_place : (p : ℕ → Bool) (xs : List ℕ) (i : ℕ) → i ≡ length xs → ((k : ℕ) → k < i → p (get_or xs k 0) ≡ false) → length xs ≡ position_or_len p xs
no_place p xs i all below = sym (position_or_len_is p xs i 0 (omega arith) below (λ more. absurd (omega arith)) ∙ all)

-- where no place passes, the list is one part
one_part : (p : ℕ → Bool) (xs : List ℕ) → length xs ≡ position_or_len p xs → slice_split p xs ≡ xs ∷ []
one_part p xs all = slice_split_none p xs (All-from_get_or (λ x. p x ≡ false) xs 0 (λ i within. fails_before_first p xs i 0 (omega arith)))

-- a length that is not 0
pub not_empty : (n : ℕ) → 0 < n → (n == 0) ≡ false
not_empty n some = grind (arith, nat_tests)

-- a blank in front is no part of a word
pub words_of-blank : (text : List ℕ) → begins_blank text ≡ true → words_of (drop 1 text) ≡ words_of text
words_of-blank [] e = absurd (cc)
words_of-blank (b ∷ bs) e = sym (ap (filter (λ word. not (length word == 0))) (slice_split-cons_yes is_blank b bs e))

-- a word is kept by the filter
kept : (word : List ℕ) (parts : List (List ℕ)) → 0 < length word → filter (λ word. not (length word == 0)) (word ∷ parts) ≡ word ∷ filter (λ word. not (length word == 0)) parts
kept word parts some = ap (λ (b : Bool). cond (not b) (word ∷ filter (λ word. not (length word == 0)) parts) (filter (λ word. not (length word == 0)) parts)) (not_empty (length word) some)

-- a text that begins with no blank has its first blank after that
past_first : (text : List ℕ) → 0 < length text → begins_blank text ≡ false → 0 < position_or_len is_blank text
past_first [] some e = absurd (omega arith)
past_first (b ∷ bs) some e = subst (λ (t : Bool). 0 < cond (not t) (1 + position_or_len is_blank bs) 0) (sym e) (omega arith)

-- what is from a blank on
words_from : (text : List ℕ) (end : ℕ) → end < length text → is_blank (get_or text end 0) ≡ true → words_of (drop end text) ≡ words_of (drop (end + 1) text)
words_from text end within blank =
    ap words_of (drop-cons text end 0 within)
    ∙ (ap (filter (λ word. not (length word == 0))) (slice_split-cons_yes is_blank (get_or text end 0) (drop (suc end) text) blank)
    ∙ ap (λ n. words_of (drop n text)) (sym (add-one end)))

-- a word with a blank after it
word_then : (text : List ℕ) → position_or_len is_blank text < length text → 0 < position_or_len is_blank text
    → words_of text ≡ take (position_or_len is_blank text) text ∷ words_of (drop (position_or_len is_blank text + 1) text)
word_then text within some =
    ap (filter (λ word. not (length word == 0))) (slice_split_first is_blank text 0 within)
    ∙ kept _ (slice_split is_blank (after_first is_blank text)) (omega (arith, length-take (position_or_len is_blank text) text))

-- a word that ends with the text
word_at_end : (text : List ℕ) → position_or_len is_blank text ≡ length text → 0 < length text → words_of text ≡ take (length text) text ∷ words_of (drop (length text) text)
word_at_end text all some =
    ap (filter (λ word. not (length word == 0))) (one_part is_blank text (sym all))
    ∙ (kept text [] some ∙ (ap (λ l. l ∷ []) (sym (take_all _ text (omega arith))) ∙ ap (λ l. take (length text) text ∷ words_of l) (sym (drop_all _ text (omega arith)))))

-- the first word ends at the first blank, or with the text
pub words_of-word : (text : List ℕ) → 0 < length text → begins_blank text ≡ false → position_or_len is_blank text ≤ length text
    → words_of text ≡ take (position_or_len is_blank text) text ∷ words_of (drop (position_or_len is_blank text) text)
words_of-word text some e within =
    let n = position_or_len is_blank text in
    elim (cases_lt n (length text)) [
      | inl more ↦ word_then text more (past_first text some e) ∙ ap (λ l. take n text ∷ l) (sym (words_from text n more (passes_at_first is_blank text 0 more)))
      | inr done ↦
          let all : n ≡ length text = omega arith in
          subst (λ (m : ℕ). words_of text ≡ take m text ∷ words_of (drop m text)) (sym all) (word_at_end text all some)
    ]

-- a blank is ASCII
blank_below : (b : ℕ) → is_blank b ≡ true → b < 128
blank_below b e = grind (arith, nat_tests)

-- a text may be cut after a blank in front
pub cut_after_blank : (text : List ℕ) → IsUtf8 text → begins_blank text ≡ true → IsCharBoundary text 1
cut_after_blank [] u e = absurd (cc)
cut_after_blank (b ∷ bs) u e = IsCharBoundary-after_ascii (b ∷ bs) 0 u (omega arith) (blank_below b e)

-- a text may be cut before its first blank
pub cut_before_blank : (text : List ℕ) (end : ℕ) → end ≡ position_or_len is_blank text → end ≤ length text → IsCharBoundary text end
cut_before_blank text end at within =
    elim (cases_lt end (length text)) [
      | inl more ↦ IsCharBoundary-before_ascii text end more (blank_below _ (subst (λ (n : ℕ). is_blank (get_or text n 0) ≡ true) (sym at) (passes_at_first is_blank text 0 (omega arith))))
      | inr done ↦ let all : length text ≡ end = omega arith in subst (λ (n : ℕ). IsCharBoundary text n) all (IsCharBoundary-end text)
    ]

-- the same, of a text that was cut there
pub first_word : (text word more : List ℕ) (end : ℕ) → 0 < length text → begins_blank text ≡ false → end ≡ position_or_len is_blank text → end ≤ length text → word ≡ take end text → more ≡ drop end text
    → words_of text ≡ word ∷ words_of more
first_word text word more end some e at within front back =
    let n = position_or_len is_blank text in
    words_of-word text some e (omega arith)
    ∙ (ap (λ l. l ∷ words_of (drop n text)) (ap (λ m. take m text) (sym at) ∙ sym front) ∙ ap (λ l. word ∷ words_of l) (ap (λ m. drop m text) (sym at) ∙ sym back))
