-- The words of a text are those of its first line, line feed and all, and those of the rest. For the proof of `add_words`.
use Rattle.std.proofs.Common.{◌≡◌, ℕ, ◌+◌, ◌<◌, ◌&&◌, ◌||◌, not, Bool, true, false, cond, List, [], ◌∷◌, ◌++◌, Some, length, take, drop, get_or, arith, refl, sym, ap, ◌∙◌, map, filter, encode_utf8_all, IsUtf8, append_assoc, eqb-true, lit<}
use Rattle.std.specs.List.{flat_map, slice_split}
use Rattle.std.specs.Prelude.{position, unwrap_or}
use Rattle.std.specs.Str.{IsCharBoundary, chars}
use Rattle.std.proofs.lemmas.List.{map-append, take-append-drop, take_more}
use Rattle.std.proofs.lemmas.List.Concat.{flat_map-append}
use Rattle.std.proofs.lemmas.List.Elements.{filter-append}
use Rattle.std.proofs.lemmas.List.Quantifiers.{position-Some}
use Rattle.std.proofs.lemmas.Str.{IsCharBoundary-after_ascii, IsCharBoundary-before_ascii, IsUtf8-take, chars-IsAscii, chars-append}
use Rattle.std.proofs.lemmas.Str.Ascii.{IsAscii-cons, IsAscii-nil}
use Rattle.ucd_breaks.specs.WordBreak.{word_break}
use Rattle.ucd_breaks.specs.declared.WordBreak.{WordBreak}
use Rattle.ucd_breaks.specs.declared.WordBreak.TheVariants.{Cr, DoubleQuote, ExtendNumLet, Extend, Format, HebrewLetter, Katakana, ALetter, Lf, MidNumLet, MidLetter, MidNum, Newline, Numeric, RegionalIndicator, SingleQuote, WSegSpace, Other, Zwj}
use Rattle.ucd_breaks.proofs.Computing.{ucd_breaks}
use Rattle.unicode_segmentation.specs.Emoji.{is_extended_pictographic}
use Rattle.unicode_segmentation.specs.Segments.{cut, prepend, segments, has_alphanumeric}
use Rattle.unicode_segmentation.specs.Word.{break_by_pair, is_ah_letter, is_hebrew_letter, is_numeric, is_ignored, is_regional, joins, joins_flag, significant, starts_with_half_flag, value_at, is_word_break}
use Rattle.nm_words.specs.Words.{is_cut, is_line_feed, words_in, words_of}
use Rattle.nm_words.proofs.BreakLemmas.{joins_by, nearest, of_four}
use Rattle.nm_words.proofs.PieceLemmas.{words_in-append}

line_feed : word_break 10 ≡ Lf
unfolding ucd_breaks
line_feed = refl

-- ---- what comes after a line says nothing of its boundaries

-- before a line feed a pair of values decides
at_end : (value : WordBreak) (pictographic one other : Bool) → unwrap_or (break_by_pair value Lf pictographic) one ≡ unwrap_or (break_by_pair value Lf pictographic) other
at_end Cr pictographic one other = refl
at_end DoubleQuote pictographic one other = refl
at_end ExtendNumLet pictographic one other = refl
at_end Extend pictographic one other = refl
at_end Format pictographic one other = refl
at_end HebrewLetter pictographic one other = refl
at_end Katakana pictographic one other = refl
at_end ALetter pictographic one other = refl
at_end Lf pictographic one other = refl
at_end MidNumLet pictographic one other = refl
at_end MidLetter pictographic one other = refl
at_end MidNum pictographic one other = refl
at_end Newline pictographic one other = refl
at_end Numeric pictographic one other = refl
at_end RegionalIndicator pictographic one other = refl
at_end SingleQuote pictographic one other = refl
at_end WSegSpace pictographic one other = refl
at_end Other pictographic one other = refl
at_end Zwj pictographic one other = refl

ahead : (c : ℕ) (before more other : List ℕ) → is_word_break (c ∷ before) (10 ∷ more) ≡ is_word_break (c ∷ before) (10 ∷ other)
unfolding is_word_break
ahead c before more other =
    let by : List ℕ → Bool = λ after. not (joins (value_at (significant (c ∷ before)) 1) (value_at (significant (c ∷ before)) 0) (word_break 10) (value_at (significant after) 0) || joins_flag (c ∷ before) 10) in
    ap (λ v. unwrap_or (break_by_pair (word_break c) v (is_extended_pictographic 10)) (by more)) line_feed
    ∙ at_end (word_break c) (is_extended_pictographic 10) (by more) (by other)
    ∙ ap (λ v. unwrap_or (break_by_pair (word_break c) v (is_extended_pictographic 10)) (by other)) (sym line_feed)

next_by : (value : WordBreak) (test : Bool) (xs ys : List WordBreak) → value_at xs 0 ≡ value_at ys 0 → value_at (cond test xs (value ∷ xs)) 0 ≡ value_at (cond test ys (value ∷ ys)) 0
next_by value true xs ys is = is
next_by value false xs ys is = refl

next_same : (es more other : List ℕ) → value_at (significant (es ++ 10 ∷ more)) 0 ≡ value_at (significant (es ++ 10 ∷ other)) 0
unfolding significant
next_same [] more other = nearest 10 more (ap is_ignored line_feed) ∙ sym (nearest 10 other (ap is_ignored line_feed))
next_same (e ∷ es) more other = next_by (word_break e) (is_ignored (word_break e)) (significant (es ++ 10 ∷ more)) (significant (es ++ 10 ∷ other)) (next_same es more other)

ahead_same : (c : ℕ) (before cs more other : List ℕ) → is_word_break (c ∷ before) (cs ++ 10 ∷ more) ≡ is_word_break (c ∷ before) (cs ++ 10 ∷ other)
unfolding is_word_break
ahead_same c before [] more other = ahead c before more other
ahead_same c before (e ∷ es) more other =
    ap (λ v. unwrap_or (break_by_pair (word_break c) (word_break e) (is_extended_pictographic e)) (not (joins (value_at (significant (c ∷ before)) 1) (value_at (significant (c ∷ before)) 0) (word_break e) v || joins_flag (c ∷ before) e))) (next_same es more other)

-- ---- nor does the line say anything of those after it

after_line : (before more : List ℕ) → is_word_break (10 ∷ before) more ≡ true
unfolding is_word_break
after_line before [] = refl
after_line before (d ∷ ds) =
    let by : Bool = not (joins (value_at (significant (10 ∷ before)) 1) (value_at (significant (10 ∷ before)) 0) (word_break d) (value_at (significant ds) 0) || joins_flag (10 ∷ before) d) in
    ap (λ v. unwrap_or (break_by_pair v (word_break d) (is_extended_pictographic d)) by) line_feed

more_by : (value : WordBreak) (test : Bool) (xs ys more : List WordBreak) → xs ≡ ys ++ more → cond test xs (value ∷ xs) ≡ cond test ys (value ∷ ys) ++ more
more_by value true xs ys more is = is
more_by value false xs ys more is = ap (λ l. value ∷ l) is

significant_more : (xs before : List ℕ) → significant (xs ++ 10 ∷ before) ≡ significant xs ++ Lf ∷ significant before
unfolding significant
significant_more [] before = ap (λ v. cond (is_ignored v) (significant before) (v ∷ significant before)) line_feed
significant_more (x ∷ xs) before = more_by (word_break x) (is_ignored (word_break x)) (significant (xs ++ 10 ∷ before)) (significant xs) (Lf ∷ significant before) (significant_more xs before)

never : (b : Bool) → not b ≡ true → b ≡ false
never true is = absurd (cc)
never false is = refl

none_joins : (far right next : WordBreak) → joins far Lf right next ≡ false
none_joins far right next = never _ (of_four (λ letter hebrew digit _. not (joins_by letter hebrew digit Lf right next)) refl (is_ah_letter far) (is_hebrew_letter far) (is_numeric far) true)

joins_same : (values more : List WordBreak) (right next : WordBreak) → joins (value_at (values ++ Lf ∷ more) 1) (value_at (values ++ Lf ∷ more) 0) right next ≡ joins (value_at values 1) (value_at values 0) right next
joins_same [] more right next = none_joins (value_at (Lf ∷ more) 1) right next
joins_same (value ∷ []) more right next = refl
joins_same (value ∷ (far ∷ values)) more right next = refl

half_same : (values more : List WordBreak) → starts_with_half_flag (values ++ Lf ∷ more) ≡ starts_with_half_flag values
unfolding starts_with_half_flag
half_same [] more = refl
half_same (value ∷ values) more = ap (λ t. is_regional value && not t) (half_same values more)

back : (d : ℕ) (bs before after : List ℕ) → is_word_break (d ∷ (bs ++ 10 ∷ before)) after ≡ is_word_break (d ∷ bs) after
unfolding is_word_break
back d bs before [] = refl
back d bs before (e ∷ es) =
    let pair : Bool → Bool → Bool = λ joined half. unwrap_or (break_by_pair (word_break d) (word_break e) (is_extended_pictographic e)) (not (joined || (half && is_regional (word_break e)))) in
    let next : WordBreak = value_at (significant es) 0 in
    ap (λ values. pair (joins (value_at values 1) (value_at values 0) (word_break e) next) (starts_with_half_flag values)) (significant_more (d ∷ bs) before)
    ∙ ap (λ joined. pair joined (starts_with_half_flag (significant (d ∷ bs) ++ Lf ∷ significant before))) (joins_same (significant (d ∷ bs)) (significant before) (word_break e) next)
    ∙ ap (λ half. pair (joins (value_at (significant (d ∷ bs)) 1) (value_at (significant (d ∷ bs)) 0) (word_break e) next) half) (half_same (significant (d ∷ bs)) (significant before))

abbrev put : Bool → ℕ → List (List ℕ) → List (List ℕ)
put test c pieces = cond test ((c ∷ []) ∷ pieces) (prepend (c ∷ []) pieces)

forget : (ds bs before : List ℕ) → cut is_word_break (bs ++ 10 ∷ before) ds [] ≡ cut is_word_break bs ds []
unfolding cut
forget [] bs before = refl
forget (d ∷ ds) bs before =
    ap (λ test. put test d (cut is_word_break (d ∷ (bs ++ 10 ∷ before)) ds [])) (back d bs before (ds ++ [])) ∙ ap (put (is_word_break (d ∷ bs) (ds ++ [])) d) (forget ds (d ∷ bs) before)

-- ---- the pieces of both

put_some : (test : Bool) (c : ℕ) (pieces : List (List ℕ)) → (first : List ℕ) × (others : List (List ℕ)) × (put test c pieces ≡ first ∷ others)
put_some true c pieces = (c ∷ [], pieces, refl)
put_some false c [] = (c ∷ [], [], refl)
put_some false c (piece ∷ pieces) = (c ∷ piece, pieces, refl)

some_pieces : (cs before : List ℕ) → (first : List ℕ) × (others : List (List ℕ)) × (cut is_word_break before (cs ++ 10 ∷ []) [] ≡ first ∷ others)
unfolding cut
some_pieces [] before = put_some (is_word_break (10 ∷ before) ([] ++ [])) 10 (cut is_word_break (10 ∷ before) [] [])
some_pieces (c ∷ cs) before = put_some (is_word_break (c ∷ before) ((cs ++ 10 ∷ []) ++ [])) c (cut is_word_break (c ∷ before) (cs ++ 10 ∷ []) [])

put_more : (test : Bool) (c : ℕ) (pieces more : List (List ℕ)) → (first : List ℕ) × (others : List (List ℕ)) × (pieces ≡ first ∷ others) → put test c (pieces ++ more) ≡ put test c pieces ++ more
put_more true c pieces more some = refl
put_more false c pieces more some = ap (λ l. prepend (c ∷ []) (l ++ more)) some.2 ∙ sym (ap (λ l. prepend (c ∷ []) l ++ more) some.2)

cut_line : (cs before ds : List ℕ) → cut is_word_break before (cs ++ 10 ∷ ds) [] ≡ cut is_word_break before (cs ++ 10 ∷ []) [] ++ cut is_word_break [] ds []
unfolding cut
cut_line [] before ds =
    ap (λ test. put test 10 (cut is_word_break (10 ∷ before) ds [])) (after_line before (ds ++ []))
    ∙ ap (λ l. (10 ∷ []) ∷ l) (forget ds [] before)
    ∙ sym (ap (λ test. put test 10 [] ++ cut is_word_break [] ds []) (after_line before []))
cut_line (c ∷ cs) before ds =
    let first = cut is_word_break (c ∷ before) (cs ++ 10 ∷ []) [] in
    let more = cut is_word_break [] ds [] in
    let same : is_word_break (c ∷ before) ((cs ++ 10 ∷ ds) ++ []) ≡ is_word_break (c ∷ before) ((cs ++ 10 ∷ []) ++ []) =
    ap (is_word_break (c ∷ before)) (append_assoc cs (10 ∷ ds) []) ∙ ahead_same c before cs (ds ++ []) [] ∙ sym (ap (is_word_break (c ∷ before)) (append_assoc cs (10 ∷ []) [])) in
    ap (λ test. put test c (cut is_word_break (c ∷ before) (cs ++ 10 ∷ ds) [])) same
    ∙ ap (put (is_word_break (c ∷ before) ((cs ++ 10 ∷ []) ++ [])) c) (cut_line cs (c ∷ before) ds)
    ∙ put_more (is_word_break (c ∷ before) ((cs ++ 10 ∷ []) ++ [])) c first more (some_pieces cs (c ∷ before))

-- the words of a text that begins with a line
pub line_words : (cs line rest : List ℕ) → IsUtf8 line → chars line ≡ cs ++ 10 ∷ [] → words_of (line ++ rest) ≡ words_of line ++ words_of rest
unfolding segments
line_words cs line rest utf8 ends =
    let words_by : List (List ℕ) → List (List ℕ) = λ pieces. words_in (flat_map (slice_split is_cut) (filter has_alphanumeric (map encode_utf8_all pieces))) in
    let whole : chars (line ++ rest) ≡ cs ++ 10 ∷ chars rest = chars-append line rest utf8 ∙ ap (λ l. l ++ chars rest) ends ∙ append_assoc cs (10 ∷ []) (chars rest) in
    let first = cut is_word_break [] (cs ++ 10 ∷ []) [] in
    let more = cut is_word_break [] (chars rest) [] in
    ap (λ l. words_by (cut is_word_break [] l [])) whole
    ∙ ap words_by (cut_line cs [] (chars rest))
    ∙ ap (λ l. words_in (flat_map (slice_split is_cut) (filter has_alphanumeric l))) (map-append encode_utf8_all first more)
    ∙ ap (λ l. words_in (flat_map (slice_split is_cut) l)) (filter-append has_alphanumeric (map encode_utf8_all first) (map encode_utf8_all more))
    ∙ ap words_in (flat_map-append (slice_split is_cut) (filter has_alphanumeric (map encode_utf8_all first)) (filter has_alphanumeric (map encode_utf8_all more)))
    ∙ words_in-append (flat_map (slice_split is_cut) (filter has_alphanumeric (map encode_utf8_all first))) (flat_map (slice_split is_cut) (filter has_alphanumeric (map encode_utf8_all more)))
    ∙ ap (λ l. words_by (cut is_word_break [] l []) ++ words_of rest) (sym ends)

-- ---- a turn of the loop over the lines

end_is_ascii : (text : List ℕ) (i : ℕ) → position is_line_feed text ≡ Some i → (i < length text) × (get_or text i 0 ≡ 10)
end_is_ascii text i e = let h = position-Some is_line_feed text i 0 e in (h.0, eqb-true _ _ h.1)

pub behind_line : (text : List ℕ) (i : ℕ) → IsUtf8 text → position is_line_feed text ≡ Some i → IsCharBoundary text (i + 1)
behind_line text i utf8 e = let h = end_is_ascii text i e in IsCharBoundary-after_ascii text i utf8 h.0 (omega (arith, h.1))

-- the characters of a line end with the line feed
line_ends : (text : List ℕ) (i : ℕ) → IsUtf8 text → position is_line_feed text ≡ Some i → chars (take (i + 1) text) ≡ chars (take i text) ++ 10 ∷ []
line_ends text i utf8 e =
    let h = end_is_ascii text i e in
    ap chars (take_more text i 0 h.0 ∙ ap (λ b. take i text ++ b ∷ []) h.1)
    ∙ chars-append (take i text) (10 ∷ []) (IsUtf8-take text i utf8 (IsCharBoundary-before_ascii text i h.0 (omega (arith, h.1))))
    ∙ ap (λ l. chars (take i text) ++ l) (chars-IsAscii (10 ∷ []) (IsAscii-cons 10 [] (lit< tt) IsAscii-nil))

pub lines_turn : (text line left : List ℕ) (i : ℕ) → IsUtf8 text → position is_line_feed text ≡ Some i → line ≡ take (i + 1) text → left ≡ drop (i + 1) text → words_of text ≡ words_of line ++ words_of left
lines_turn text line left i utf8 e front back =
    ap words_of (sym (take-append-drop (i + 1) text)) ∙ line_words (chars (take i text)) (take (i + 1) text) (drop (i + 1) text) (IsUtf8-take text (i + 1) utf8 (behind_line text i utf8 e)) (line_ends text i utf8 e)
    ∙ ap (λ l. words_of l ++ words_of (drop (i + 1) text)) (sym front) ∙ ap (λ l. words_of line ++ words_of l) (sym back)
