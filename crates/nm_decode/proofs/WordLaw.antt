-- One encoded word made of any text reads back as the text.
-- For the proofs of `a_b_word_reads_back` and `a_q_word_reads_back`.
use Rattle.std.proofs.Common.{◌≡◌, ℕ, zero, suc, ◌+◌, ◌/◌, ◌%◌, ◌<◌, Bool, true, false, not, ◌&&◌, List, [], ◌∷◌, ◌++◌, Some, None, codes, map, drop, length, get_or, replicate, refl, sym, ap, ◌∙◌, cond, eqb, subst, arith}
use Rattle.std.specs.List.{flat_map, onto_first}
use Rattle.std.specs.Option.{is_some, option_and_then, option_map}
use Rattle.std.specs.Result.{result_ok}
use Rattle.std.specs.Str.{IsUtf8}
use Rattle.std.proofs.lemmas.List.{append-nil, drop_all, length-append}
use Rattle.std.proofs.lemmas.Str.{utf8_lossy-IsUtf8}
use Rattle.std.proofs.lemmas.Bool.Decides.{nat_tests}
use Rattle.base64.specs.Engines.{standard}
use Rattle.base64.specs.GeneralPurpose.{encode_of}
use Rattle.base64.specs.Rfc4648.{padding_len}
use Rattle.base64.specs.Tables.{all_below}
use Rattle.base64.proofs.EngineFacts.{decode_of-encode_of}
use Rattle.nm_base.specs.Bounds.{is_white_space}
use Rattle.nm_decode.specs.Bytes.{escape_of, hex_byte, is_hex}
use Rattle.nm_decode.specs.Charsets.{text_of}
use Rattle.nm_decode.specs.EncodedWords.{Cut, b_bytes, cut_found, cut_words, fields_of, first_word, is_field, is_q_text, joined, later_word, or_later, segments_of, q_bytes, spaced, words_decoded, word_bytes, word_of, word_of_fields, word_text}
use Rattle.nm_decode.specs.Laws.{IsQTest, IsUnencodedTest, b_word, hex_digit, q_word, quoted_byte, quoted_line}
use Rattle.nm_decode.specs.QuotedPrintable.{unescaped}
use Rattle.nm_decode.specs.declared.words.EncodedWord.{EncodedWord}
use Rattle.nm_decode.proofs.Base64Law.{Small, below, sextets, small-sextets, symbol_at, symbols-are}
use Rattle.nm_decode.proofs.QuotedLaw.{digit-hex, unescaped-back}

-- neither white space nor `?` among the bytes
abbrev Clean : List ℕ → Type 0
Clean [] = Unit {0}
Clean (b ∷ bytes) = (is_white_space b ≡ false) × (eqb b 63 ≡ false) × Clean bytes

clean-field : (xs : List ℕ) → Clean xs → is_field xs ≡ true
clean-field [] h = refl
clean-field (b ∷ xs) h = rw h.0 (clean-field xs h.2)

segment-step : (b : ℕ) (segment rest : List ℕ) (more : List (List ℕ)) → eqb b 63 ≡ false → segments_of rest ≡ segment ∷ more → segments_of (b ∷ rest) ≡ (b ∷ segment) ∷ more
segment-step b segment rest more e f = rw e (ap (onto_first b) f)

clean-segment : (xs rest : List ℕ) → Clean xs → segments_of (xs ++ 63 ∷ rest) ≡ xs ∷ segments_of rest
clean-segment [] rest h = refl
clean-segment (b ∷ xs) rest h = segment-step b xs (xs ++ 63 ∷ rest) (segments_of rest) h.1 (clean-segment xs rest h.2)

clean-append : (xs ys : List ℕ) → Clean xs → Clean ys → Clean (xs ++ ys)
clean-append [] ys h k = k
clean-append (b ∷ xs) ys h k = (h.0, h.1, clean-append xs ys h.2 k)

-- the text of a word in UTF-8
utf8-text : (encoding encoded bytes : List ℕ) → IsUtf8 bytes → Clean encoded → word_bytes encoding encoded ≡ Some bytes
    → word_text (codes "utf-8") encoding encoded ≡ Some bytes
utf8-text encoding encoded bytes u h e =
    ap (λ t. cond t (option_map (λ bs. text_of bs (codes "utf-8")) (word_bytes encoding encoded)) None) (clean-field encoded h)
    ∙ ap (option_map (λ bs. text_of bs (codes "utf-8"))) e
    ∙ ap Some (utf8_lossy-IsUtf8 bytes u)

nothing-after : (n : ℕ) → flat_map later_word (cut_words n []).words ++ (cut_words n []).last ≡ []
nothing-after zero = refl
nothing-after (suc n) = refl

-- a text that is one word
whole-word : (first : ℕ) (more : List ℕ) (word : EncodedWord) → word_of (first ∷ more) ≡ Some word → length (first ∷ more) ≡ word.len → words_decoded (first ∷ more) ≡ word.text
whole-word first more word e l =
    let text = first ∷ more in
    let f : first_word text ≡ Some (record { at = 0; word = word }) = ap (λ o. or_later o (first_word more)) e in
    let d : drop (0 + word.len) text ≡ [] = drop_all (0 + word.len) text (omega arith) in
    ap (λ o. let cut : Cut = cut_found (cut_words (length more)) text o in joined cut.words cut.last) f
    ∙ ap (λ xs. word.text ++ (flat_map later_word (cut_words (length more) xs).words ++ (cut_words (length more) xs).last)) d
    ∙ ap (λ xs. word.text ++ xs) (nothing-after (length more))
    ∙ append-nil word.text

word-segments : (encoded : List ℕ) → Clean encoded → segments_of (encoded ++ 63 ∷ 61 ∷ []) ≡ encoded ∷ (61 ∷ []) ∷ []
word-segments encoded h = clean-segment encoded (61 ∷ []) h

abbrev word_record : List ℕ → List ℕ → EncodedWord
word_record encoded bytes = record { len = 5 + 1 + length encoded + 6; text = bytes }

b-of : (encoded bytes : List ℕ) → IsUtf8 bytes → Clean encoded → b_bytes encoded ≡ Some bytes → word_of (codes "=?utf-8?B?" ++ (encoded ++ codes "?=")) ≡ Some (word_record encoded bytes)
b-of encoded bytes u h e =
    ap (λ ps. option_and_then word_of_fields (fields_of ((61 ∷ []) ∷ codes "utf-8" ∷ (66 ∷ []) ∷ ps))) (word-segments encoded h)
    ∙ ap (option_map (λ text. record { len = 5 + 1 + length encoded + 6; text = text })) (utf8-text (66 ∷ []) encoded bytes u h e)

q-of : (encoded bytes : List ℕ) → IsUtf8 bytes → Clean encoded → q_bytes encoded ≡ Some bytes → word_of (codes "=?utf-8?Q?" ++ (encoded ++ codes "?=")) ≡ Some (word_record encoded bytes)
q-of encoded bytes u h e =
    ap (λ ps. option_and_then word_of_fields (fields_of ((61 ∷ []) ∷ codes "utf-8" ∷ (81 ∷ []) ∷ ps))) (word-segments encoded h)
    ∙ ap (option_map (λ text. record { len = 5 + 1 + length encoded + 6; text = text })) (utf8-text (81 ∷ []) encoded bytes u h e)

-- the characters of base64 are clean
abbrev is_clean : ℕ → Bool
is_clean v = not (is_white_space (symbol_at v)) && not (eqb (symbol_at v) 63)

all_clean : all_below is_clean 64 ≡ true
all_clean = refl

not-both : (s t : Bool) → (not s && not t) ≡ true → (s ≡ false) × (t ≡ false)
not-both true t e = (cc)
not-both false true e = (cc)
not-both false false e = (refl, refl)

clean-symbols : (vs : List ℕ) → Small vs → Clean (map symbol_at vs)
clean-symbols [] h = tt
clean-symbols (v ∷ vs) h =
    let p = not-both (is_white_space (symbol_at v)) (eqb (symbol_at v) 63) (below is_clean 64 v h.0 all_clean) in
    (p.0, p.1, clean-symbols vs h.1)

clean-padding : (k : ℕ) → Clean (replicate k 61)
clean-padding zero = tt
clean-padding (suc k) = (refl, refl, clean-padding k)

clean-base64 : (m : List ℕ) → ((i : ℕ) → get_or m i 0 < 256) → Clean (encode_of standard m)
clean-base64 m h =
    let P : List ℕ → Type 0 = λ xs. Clean (xs ++ replicate (padding_len (length m)) 61) in
    subst P (sym (symbols-are m)) (clean-append (map symbol_at (sextets m)) (replicate (padding_len (length m)) 61)
    (clean-symbols (sextets m) (small-sextets m h)) (clean-padding (padding_len (length m))))

b-back : (m : List ℕ) → ((i : ℕ) → get_or m i 0 < 256) → b_bytes (encode_of standard m) ≡ Some m
b-back m h = ap result_ok (decode_of-encode_of standard m refl h)

pub b_word_back : (m : List ℕ) → IsUtf8 m → ((i : ℕ) → get_or m i 0 < 256) → words_decoded (b_word m) ≡ m
b_word_back m u h =
    let encoded = encode_of standard m in
    whole-word 61 (63 ∷ 117 ∷ 116 ∷ 102 ∷ 45 ∷ 56 ∷ 63 ∷ 66 ∷ 63 ∷ (encoded ++ 63 ∷ 61 ∷ [])) (word_record encoded m)
    (b-of encoded m u (clean-base64 m h) (b-back m h)) (omega (arith, length-append encoded (63 ∷ 61 ∷ [])))

-- a text in Q: clean, with two digits after each `=`, and without `_`
abbrev QText : List ℕ → Type 0
QText xs = Clean xs × (is_q_text xs ≡ true) × (map spaced xs ≡ xs)

digit-clean : (n : ℕ) → n < 16 → (is_white_space (hex_digit n) ≡ false) × (eqb (hex_digit n) 63 ≡ false) × (eqb (hex_digit n) 61 ≡ false) × (eqb (hex_digit n) 95 ≡ false)
digit-clean n h = (grind (arith, nat_tests), grind (arith, nat_tests), grind (arith, nat_tests), grind (arith, nat_tests))

spaced-same : (b : ℕ) → eqb b 95 ≡ false → spaced b ≡ b
spaced-same b e = ap (λ t. cond t 32 b) e

q-plain : (b : ℕ) (rest : List ℕ) → is_white_space b ≡ false → eqb b 63 ≡ false → eqb b 61 ≡ false → eqb b 95 ≡ false → QText rest → QText (b ∷ rest)
q-plain b rest w m e s q = ((w, m, q.0), rw e q.1, ap (λ x. x ∷ map spaced rest) (spaced-same b s) ∙ ap (λ xs. b ∷ xs) q.2)

q-mark : (rest : List ℕ) → is_some (escape_of rest) ≡ true → QText rest → QText (61 ∷ rest)
q-mark rest e q = ((refl, refl, q.0), ap (λ t. t && is_q_text rest) e ∙ q.1, ap (λ xs. 61 ∷ xs) q.2)

escape-there : (h l : ℕ) (rest : List ℕ) → is_hex h ≡ true → is_hex l ≡ true → is_some (escape_of (h ∷ l ∷ rest)) ≡ true
escape-there h l rest p q =
    ap (λ t. is_some (cond (t && is_hex l) (Some (hex_byte h l)) None)) p ∙ ap (λ t. is_some (cond t (Some (hex_byte h l)) None)) q

q-step : (plain : ℕ → Bool) (b : ℕ) (rest : List ℕ) (t : Bool) → IsQTest plain → plain b ≡ t → b < 256 → QText rest → QText (quoted_byte plain b ++ rest)
q-step plain b rest true k e h q =
    let f = k b e in
    let x : eqb b 61 ≡ false = grind (arith, nat_tests, f.0) in
    let y : eqb b 63 ≡ false = grind (arith, nat_tests, f.2) in
    let z : eqb b 95 ≡ false = grind (arith, nat_tests, f.3) in
    rw e (q-plain b rest f.1 y x z q)
q-step plain b rest false k e h q =
    let x : b / 16 < 16 = omega arith in
    let y : b % 16 < 16 = omega arith in
    let p = digit-clean (b / 16) x in
    let r = digit-clean (b % 16) y in
    rw e (q-mark (hex_digit (b / 16) ∷ hex_digit (b % 16) ∷ rest) (escape-there (hex_digit (b / 16)) (hex_digit (b % 16)) rest (digit-hex (b / 16) x) (digit-hex (b % 16) y))
    (q-plain (hex_digit (b / 16)) (hex_digit (b % 16) ∷ rest) p.0 p.1 p.2 p.3 (q-plain (hex_digit (b % 16)) rest r.0 r.1 r.2 r.3 q)))

q-text : (plain : ℕ → Bool) (m : List ℕ) → IsQTest plain → ((i : ℕ) → get_or m i 0 < 256) → QText (quoted_line plain m)
q-text plain [] k h = (tt, refl, refl)
q-text plain (b ∷ m) k h = q-step plain b (quoted_line plain m) (plain b) k refl (h 0) (q-text plain m k (λ i. h (suc i)))

q-back : (plain : ℕ → Bool) (m : List ℕ) → IsQTest plain → ((i : ℕ) → get_or m i 0 < 256) → q_bytes (quoted_line plain m) ≡ Some m
q-back plain m k h =
    let q = q-text plain m k h in
    let p : IsUnencodedTest plain = λ b e. ((k b e).0, (k b e).1) in
    ap (λ t. cond t (Some (unescaped (map spaced (quoted_line plain m)))) None) q.1
    ∙ ap (λ xs. Some (unescaped xs)) q.2 ∙ ap Some (unescaped-back plain m p h)

pub q_word_back : (plain : ℕ → Bool) (m : List ℕ) → IsQTest plain → IsUtf8 m → ((i : ℕ) → get_or m i 0 < 256) → words_decoded (q_word plain m) ≡ m
q_word_back plain m k u h =
    let encoded = quoted_line plain m in
    whole-word 61 (63 ∷ 117 ∷ 116 ∷ 102 ∷ 45 ∷ 56 ∷ 63 ∷ 81 ∷ 63 ∷ (encoded ++ 63 ∷ 61 ∷ [])) (word_record encoded m)
    (q-of encoded m u (q-text plain m k h).0 (q-back plain m k h)) (omega (arith, length-append encoded (63 ∷ 61 ∷ [])))
