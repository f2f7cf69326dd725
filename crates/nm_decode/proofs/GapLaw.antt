-- White space between two encoded words goes, and stays beside other text.
-- For the proof of `white_space_between_words_goes`.
use Rattle.std.proofs.Common.{◌≡◌, ℕ, zero, suc, ◌+◌, true, false, List, [], ◌∷◌, ◌++◌, Some, None, drop, length, refl, sym, ap, ◌∙◌, cond, eqb, arith, append_assoc}
use Rattle.std.specs.List.{list_all, list_any, onto_first}
use Rattle.std.specs.Option.{option_and_then, option_map}
use Rattle.std.proofs.lemmas.Bool.{and_parts, or_parts}
use Rattle.std.proofs.lemmas.Bool.Decides.{nat_tests}
use Rattle.std.proofs.lemmas.List.{append-nil, drop_at, length-append, take_at}
use Rattle.nm_base.specs.Bounds.{is_white_space}
use Rattle.nm_text.specs.Cuts.{is_byte}
use Rattle.nm_text.specs.WhiteSpace.{is_all_white_space}
use Rattle.nm_decode.specs.EncodedWords.{Cut, and_then_cut, between, cut_found, cut_words, fields_of, first_word, joined, or_later, segments_of, word_of, word_of_fields, words_decoded}
use Rattle.nm_decode.specs.Laws.{IsWordOf, has_mark, word_written}
use Rattle.nm_decode.specs.declared.words.EncodedWord.{EncodedWord}
use Rattle.nm_decode.proofs.MarkLaw.{no-word}
use Rattle.nm_decode.proofs.Segments.{not_opened, too_short}

-- a field without a `?` is the first segment
field-first : (field rest : List ℕ) → list_any (is_byte 63) field ≡ false → segments_of (field ++ 63 ∷ rest) ≡ field ∷ segments_of rest
field-first [] rest h = refl
field-first (b ∷ field) rest h =
    let p = or_parts (eqb b 63) (list_any (is_byte 63) field) h in
    rw p.0 (ap (onto_first b) (field-first field rest p.1))

framed-fields : (charset encoding encoded : List ℕ) (segments : List (List ℕ))
    → fields_of ((61 ∷ []) ∷ charset ∷ encoding ∷ encoded ∷ onto_first 61 segments) ≡ Some (charset, encoding, encoded)
framed-fields charset encoding encoded [] = refl
framed-fields charset encoding encoded (segment ∷ segments) = refl

-- the word at the front of a text
abbrev framed : List ℕ → List ℕ → List ℕ → List ℕ → List ℕ
framed charset encoding encoded rest = 61 ∷ 63 ∷ (charset ++ (63 ∷ (encoding ++ (63 ∷ (encoded ++ (63 ∷ 61 ∷ rest))))))

framed-written : (charset encoding encoded rest : List ℕ) → word_written charset encoding encoded ++ rest ≡ framed charset encoding encoded rest
framed-written charset encoding encoded rest = simp append_assoc

length-written : (charset encoding encoded : List ℕ) → length (word_written charset encoding encoded) ≡ length charset + length encoding + length encoded + 6
length-written charset encoding encoded = simp length-append (omega arith)

abbrev pub word_in : {word text : List ℕ} → IsWordOf word text → EncodedWord
word_in {word} {text} w = record { len = length w.charset + length w.encoding + length w.encoded + 6; text = text }

framed-word : {word text : List ℕ} (w : IsWordOf word text) (rest : List ℕ)
    → word_of (framed w.charset w.encoding w.encoded rest) ≡ Some (word_in w)
framed-word w rest =
    ap (λ ps. option_and_then word_of_fields (fields_of ((61 ∷ []) ∷ ps))) (field-first w.charset (w.encoding ++ (63 ∷ (w.encoded ++ (63 ∷ 61 ∷ rest)))) w.charset_free)
    ∙ ap (λ ps. option_and_then word_of_fields (fields_of ((61 ∷ []) ∷ w.charset ∷ ps))) (field-first w.encoding (w.encoded ++ (63 ∷ 61 ∷ rest)) w.encoding_free)
    ∙ ap (λ ps. option_and_then word_of_fields (fields_of ((61 ∷ []) ∷ w.charset ∷ w.encoding ∷ ps))) (field-first w.encoded (61 ∷ rest) w.encoded_free)
    ∙ ap (option_and_then word_of_fields) (framed-fields w.charset w.encoding w.encoded (segments_of rest))
    ∙ ap (option_map (λ t. record { len = length w.charset + length w.encoding + length w.encoded + 6; text = t })) w.decoded

pub whole-front : {word text : List ℕ} (w : IsWordOf word text) (rest : List ℕ) → word ++ rest ≡ framed w.charset w.encoding w.encoded rest
whole-front w rest = ap (λ x. x ++ rest) w.written ∙ framed-written w.charset w.encoding w.encoded rest

pub length-word : {word text : List ℕ} (w : IsWordOf word text) → length word ≡ (word_in w).len
length-word w = ap length w.written ∙ length-written w.charset w.encoding w.encoded

pub first-here : {word text : List ℕ} (w : IsWordOf word text) (rest : List ℕ) → first_word (word ++ rest) ≡ Some (record { at = 0; word = word_in w })
first-here w rest =
    ap first_word (whole-front w rest)
    ∙ ap (λ o. or_later o (first_word (63 ∷ (w.charset ++ (63 ∷ (w.encoding ++ (63 ∷ (w.encoded ++ (63 ∷ 61 ∷ rest))))))))) (framed-word w rest)

-- no word begins with white space
other-first : (b : ℕ) (rest : List ℕ) → eqb b 61 ≡ false → word_of (b ∷ rest) ≡ None
other-first b [] e = ap (option_and_then word_of_fields) (too_short (b ∷ []) (omega arith))
other-first b (c ∷ rest) e = ap (option_and_then word_of_fields) (not_opened b c rest (λ k. (cc)))

white-first : (b : ℕ) → is_white_space b ≡ true → eqb b 61 ≡ false
white-first b h = grind (arith, nat_tests)

-- the first word after a gap
first-after : (gap rest : List ℕ) (word : EncodedWord) → is_all_white_space gap ≡ true → first_word rest ≡ Some (record { at = 0; word = word })
    → first_word (gap ++ rest) ≡ Some (record { at = length gap; word = word })
first-after [] rest word h e = e
first-after (b ∷ gap) rest word h e =
    let p = and_parts (is_white_space b) (list_all is_white_space gap) h in
    let n : length gap + 1 ≡ length (b ∷ gap) = omega arith in
    ap (λ o. or_later o (first_word (gap ++ rest))) (other-first b (gap ++ rest) (white-first b p.0))
    ∙ ap (or_later None) (first-after gap rest word p.1 e)
    ∙ ap (λ i. Some (record { at = i; word = word })) n

-- the cut of a text at the word after a gap
cut-word : {word text : List ℕ} (w : IsWordOf word text) (n : ℕ) (gap rest : List ℕ) → is_all_white_space gap ≡ true
    → cut_words (suc n) (gap ++ (word ++ rest)) ≡ and_then_cut gap text (cut_words n rest)
cut-word {word} {text} w n gap rest h =
    let all = gap ++ (word ++ rest) in
    let end = length gap + (word_in w).len in
    let k : length (gap ++ word) ≡ end = length-append gap word ∙ ap (λ i. length gap + i) (length-word w) in
    let d : drop end all ≡ rest = ap (drop end) (sym (append_assoc gap word rest)) ∙ drop_at (gap ++ word) rest end k in
    ap (cut_found (cut_words n) all) (first-after gap (word ++ rest) (word_in w) h (first-here w rest))
    ∙ ap (λ front. and_then_cut front text (cut_words n (drop end all))) (take_at gap (word ++ rest) (length gap) refl)
    ∙ ap (λ xs. and_then_cut gap text (cut_words n xs)) d

pub cut-none : (n : ℕ) (text : List ℕ) → first_word text ≡ None → cut_words n text ≡ record { words = []; last = text }
cut-none zero text h = refl
cut-none (suc n) text h = ap (cut_found (cut_words n) text) h

abbrev pub shown : Cut → List ℕ
shown cut = joined cut.words cut.last

beside-from : {word text : List ℕ} (w : IsWordOf word text) (n : ℕ) (after : List ℕ) → has_mark after ≡ false
    → shown (cut_words (suc n) (word ++ after)) ≡ text ++ after
beside-from {word} {text} w n after m =
    ap shown (cut-word w n [] after refl) ∙ ap (λ cut. shown (and_then_cut [] text cut)) (cut-none n after (no-word after m))

between-from : {first second a b : List ℕ} (v : IsWordOf first a) (w : IsWordOf second b) (n : ℕ) (gap after : List ℕ) → is_all_white_space gap ≡ true → has_mark after ≡ false
    → shown (cut_words (suc (suc n)) (first ++ (gap ++ (second ++ after)))) ≡ a ++ (b ++ after)
between-from {first} {second} {a} {b} v w n gap after h m =
    ap shown (cut-word v (suc n) [] (gap ++ (second ++ after)) refl)
    ∙ ap (λ cut. shown (and_then_cut [] a cut)) (cut-word w n gap after h)
    ∙ ap (λ cut. shown (and_then_cut [] a (and_then_cut gap b cut))) (cut-none n after (no-word after m))
    ∙ ap (λ t. a ++ (((cond t [] gap ++ b) ++ []) ++ after)) h
    ∙ ap (λ xs. a ++ (xs ++ after)) (append-nil b)

-- a text that begins with a word has more than two bytes
pub long : {word text : List ℕ} (w : IsWordOf word text) (rest : List ℕ) → (n : ℕ) × (length (word ++ rest) ≡ suc (suc n))
long w rest = (_, ap length (whole-front w rest))

pub words-joined : (first second a b gap after : List ℕ) → IsWordOf first a → IsWordOf second b → is_all_white_space gap ≡ true → has_mark after ≡ false
    → words_decoded (first ++ (gap ++ (second ++ after))) ≡ a ++ (b ++ after)
words-joined first second a b gap after v w h m =
    let l = long v (gap ++ (second ++ after)) in
    ap (λ n. shown (cut_words n (first ++ (gap ++ (second ++ after))))) l.1 ∙ between-from v w l.0 gap after h m

pub word-beside : (word text after : List ℕ) → IsWordOf word text → has_mark after ≡ false → words_decoded (word ++ after) ≡ text ++ after
word-beside word text after w m =
    let l = long w after in
    ap (λ n. shown (cut_words n (word ++ after))) l.1 ∙ beside-from w (suc l.0) after m
