-- Words that lengths alone find are those that the grammar reads, where each is UTF-8. For the proofs of `words_len` and `lent_words`.
use Rattle.std.proofs.Common.{◌≡◌, ℕ, zero, suc, ◌+◌, ◌-◌, ◌<◌, ◌≤◌, ◌^◌, ◌==◌, ◌||◌, ◌&&◌, Bool, true, false, cond, List, [], ◌∷◌, ◌++◌, length, take, drop, Option, None, Some, Ok, Err, Result, refl, sym, ap, subst, ◌∙◌, arith, append_assoc, length-drop, nat_lt}
use Rattle.std.specs.Int.{from_be_bytes, to_be_bytes, w32}
use Rattle.std.specs.List.{list_all}
use Rattle.std.specs.Str.{IsAscii, is_utf8}
use Rattle.std.proofs.lemmas.Bool.{and_parts, eqb-false, le-ltb, ltb-false, or_parts}
use Rattle.std.proofs.lemmas.List.{drop-drop, drop-take, drop_at, length-append, length-take-le, take-take, take_at}
use Rattle.std.proofs.lemmas.Option.{same_Some}
use Rattle.std.proofs.lemmas.Str.{IsAscii-drop, IsAscii-take, IsUtf8-from_ascii, is_utf8-from_IsUtf8}
use Rattle.std.proofs.lemmas.Bool.Decides.{nat_tests}
use Rattle.nm_base.specs.LentWords.{AreLent, length_at, lent_bytes, words_at}
use Rattle.nm_base.specs.Word.{is_word}
use Rattle.nm_base.specs.WordList.{is_kept}
use Rattle.nm_codec.specs.Encoding.{text_bytes}
use Rattle.nm_codec.specs.Grammar.{word_grammar}
use Rattle.nm_codec.specs.Hops.{after_word, after_words, are_texts, then_from}
use Rattle.nm_codec.specs.ListLaws.{items_only}
use Rattle.nm_codec.specs.NumberLaws.{is_width_32, number_again}
use Rattle.nm_codec.specs.ReadSteps.{IsBytes, items_at, tested_at, text_at}
use Rattle.nm_codec.specs.StepLaws.{ok_is}

-- a word at the front, and what is after it
pub record IsHop (bytes next : List ℕ) : Type 0 where
  pub long : 4 ≤ length bytes
  pub some : 0 < length_at bytes
  pub few : length_at bytes ≤ 200
  pub fits : length_at bytes ≤ length (drop 4 bytes)
  pub next_is : next ≡ drop (length_at bytes) (drop 4 bytes)

hop-by : (short out : Bool) (x next : List ℕ) → cond short None (cond out None (Some x)) ≡ Some next → (short ≡ false) × (out ≡ false) × (x ≡ next)
hop-by true out x next e = absurd (cc)
hop-by false true x next e = absurd (cc)
hop-by false false x next e = (refl, refl, same_Some x next e)

pub hop : (bytes next : List ℕ) → after_word bytes ≡ Some next → IsHop bytes next
hop bytes next e =
    let out : Bool = (length_at bytes == 0) || (nat_lt 200 (length_at bytes) || nat_lt (length (drop 4 bytes)) (length_at bytes)) in
    let parts = hop-by (nat_lt (length bytes) 4) out (drop (length_at bytes) (drop 4 bytes)) next e in
    let first = or_parts (length_at bytes == 0) (nat_lt 200 (length_at bytes) || nat_lt (length (drop 4 bytes)) (length_at bytes)) parts.1 in
    let second = or_parts (nat_lt 200 (length_at bytes)) (nat_lt (length (drop 4 bytes)) (length_at bytes)) first.1 in
    let not = eqb-false (length_at bytes) 0 first.0 in
    record {
      long = ltb-false (length bytes) 4 parts.0;
      some = omega (arith, not);
      few = ltb-false 200 (length_at bytes) second.0;
      fits = ltb-false (length (drop 4 bytes)) (length_at bytes) second.1;
      next_is = sym parts.2;
    }

-- what is after one word more
pub hops-on : (count counter : ℕ) (rest next : List ℕ) (all : Option (List ℕ)) → counter < count → after_word rest ≡ Some next → after_words (count - counter) rest ≡ all → after_words (count - (counter + 1)) next ≡ all
unfolding after_words
hops-on count counter rest next all within is so_far =
    let more : suc (count - (counter + 1)) ≡ count - counter = omega (arith, within) in
    ap (λ (o : Option (List ℕ)). then_from o (after_words (count - (counter + 1)))) (sym is) ∙ (ap (λ (k : ℕ). after_words k rest) more ∙ so_far)

-- the end of bytes, after a word more
pub end-on : (bytes rest next : List ℕ) → IsHop rest next → length rest ≤ length bytes → rest ≡ drop (length bytes - length rest) bytes
    → (length next ≤ length bytes) × (next ≡ drop (length bytes - length next) bytes)
end-on bytes rest next is few end =
    let l : ℕ = length_at rest in
    let size : length next ≡ length rest - (4 + l) = ap length is.next_is ∙ (length-drop l (drop 4 rest) ∙ omega (arith, length-drop 4 rest)) in
    let whole : 4 + l ≤ length rest = omega (arith, is.fits, length-drop 4 rest, is.long) in
    let place : length bytes - length rest + (4 + l) ≡ length bytes - length next = omega (arith, size, few, whole) in (
      omega (arith, size, few),
      is.next_is ∙ (drop-drop l 4 rest ∙ (ap (drop (4 + l)) end ∙ (drop-drop (4 + l) (length bytes - length rest) bytes ∙ ap (λ (k : ℕ). drop k bytes) place))),
    )

module _ (bytes next : List ℕ) (is : IsHop bytes next) where
  abbrev one : List ℕ
  one = take (length_at bytes) (drop 4 bytes)

  one-length : length one ≡ length_at bytes
  one-length = length-take-le (length_at bytes) (drop 4 bytes) is.fits

  one-is : is_word one ≡ true
  one-is =
      let size : length one ≡ length_at bytes = one-length in
      let some : 0 < length one = omega (arith, is.some, size) in
      let few : length one ≤ 200 = omega (arith, is.few, size) in
      grind (arith, nat_tests)

  one-text : IsAscii (take (4 + length_at bytes) bytes) → is_utf8 one ≡ true
  one-text ascii =
      let inner : drop 4 (take (4 + length_at bytes) bytes) ≡ one = drop-take 4 (length_at bytes) bytes in
      is_utf8-from_IsUtf8 one (IsUtf8-from_ascii one (subst IsAscii inner (IsAscii-drop (take (4 + length_at bytes) bytes) 4 ascii)))

  read-one : is_utf8 one ≡ true → word_grammar.read bytes ≡ Ok (one, next)
  unfolding tested_at text_at
  read-one text = rw (le-ltb (length bytes) 4 is.long, le-ltb (length (drop 4 bytes)) (length_at bytes) is.fits, text, one-is, is.next_is) refl

-- the bytes up to a place within those up to another
ascii-front : (n m : ℕ) (bytes : List ℕ) → n ≤ m → IsAscii (take m bytes) → IsAscii (take n bytes)
ascii-front n m bytes within ascii = subst IsAscii (take-take n m bytes within) (IsAscii-take (take m bytes) n ascii)

-- the bytes after a place
ascii-back : (n m : ℕ) (bytes : List ℕ) → IsAscii (take (n + m) bytes) → IsAscii (take m (drop n bytes))
ascii-back n m bytes ascii = subst IsAscii (drop-take n m bytes) (IsAscii-drop (take (n + m) bytes) n ascii)

after-by : (count : ℕ) (bytes rest : List ℕ) (first : Option (List ℕ)) → after_word bytes ≡ first → then_from first (after_words count) ≡ Some rest
    → ((next : List ℕ) → after_words count next ≡ Some rest → length rest ≤ length next) → length rest ≤ length bytes
after-by count bytes rest None is e others = absurd (cc)
after-by count bytes rest (Some next) is e others =
    let here = hop bytes next is in
    omega (arith, others next e, ap length here.next_is, length-drop (length_at bytes) (drop 4 bytes), length-drop 4 bytes)

pub after-hops : (count : ℕ) (bytes rest : List ℕ) → after_words count bytes ≡ Some rest → length rest ≤ length bytes
unfolding after_words
after-hops zero bytes rest e = let same = same_Some bytes rest e in omega (arith, ap length same)
after-hops (suc count) bytes rest e = after-by count bytes rest (after_word bytes) refl e (λ next. after-hops count next rest)

-- where all of it is ASCII, each word is UTF-8
ascii-by : (count : ℕ) (bytes rest : List ℕ) (first : Option (List ℕ)) → after_word bytes ≡ first → then_from first (after_words count) ≡ Some rest → IsAscii (take (length bytes - length rest) bytes)
    → ((next : List ℕ) → after_words count next ≡ Some rest → IsAscii (take (length next - length rest) next) → are_texts count next ≡ true) → are_texts (suc count) bytes ≡ true
unfolding are_texts
ascii-by count bytes rest None is e ascii others = absurd (cc)
ascii-by count bytes rest (Some next) is e ascii others =
    let here = hop bytes next is in
    let l : ℕ = length_at bytes in
    let size : length next ≡ length bytes - (4 + l) = ap length here.next_is ∙ (length-drop l (drop 4 bytes) ∙ omega (arith, length-drop 4 bytes)) in
    let left = after-hops count next rest e in
    let whole : 4 + l ≤ length bytes = omega (arith, here.fits, length-drop 4 bytes, here.long) in
    let front = ascii-front (4 + l) (length bytes - length rest) bytes (omega (arith, size, left, whole)) ascii in
    let after : next ≡ drop (4 + l) bytes = here.next_is ∙ drop-drop l 4 bytes in
    let most : 4 + l + (length next - length rest) ≡ length bytes - length rest = omega (arith, size, left, whole) in
    let back : IsAscii (take (length next - length rest) next) =
    subst (λ (t : List ℕ). IsAscii (take (length next - length rest) t)) (sym after) (ascii-back (4 + l) (length next - length rest) bytes (subst (λ (k : ℕ). IsAscii (take k bytes)) (sym most) ascii)) in
    rw (one-text bytes next here front) (ap (are_texts count) (sym here.next_is) ∙ others next e back)

pub ascii-texts : (count : ℕ) (bytes rest : List ℕ) → after_words count bytes ≡ Some rest → IsAscii (take (length bytes - length rest) bytes) → are_texts count bytes ≡ true
unfolding after_words are_texts
ascii-texts zero bytes rest e ascii = refl
ascii-texts (suc count) bytes rest e ascii = ascii-by count bytes rest (after_word bytes) refl e ascii (λ next. ascii-texts count next rest)

reads-by : (count : ℕ) (bytes rest : List ℕ) (first : Option (List ℕ)) → after_word bytes ≡ first → then_from first (after_words count) ≡ Some rest → are_texts (suc count) bytes ≡ true
    → ((next : List ℕ) → after_words count next ≡ Some rest → are_texts count next ≡ true → items_at word_grammar.read count next ≡ Ok (words_at count next, rest))
    → items_at word_grammar.read (suc count) bytes ≡ Ok (words_at (suc count) bytes, rest)
unfolding items_at are_texts
reads-by count bytes rest None is e texts others = absurd (cc)
reads-by count bytes rest (Some next) is e texts others =
    let here = hop bytes next is in
    let parts = and_parts (is_utf8 (take (length_at bytes) (drop 4 bytes))) (are_texts count (drop (length_at bytes) (drop 4 bytes))) texts in
    rw (read-one bytes next here parts.0, others next e (ap (are_texts count) here.next_is ∙ parts.1), le-ltb (length bytes) 4 here.long, here.next_is) refl

-- the words that lengths alone find are read by the grammar
pub reads : (count : ℕ) (bytes rest : List ℕ) → after_words count bytes ≡ Some rest → are_texts count bytes ≡ true → items_at word_grammar.read count bytes ≡ Ok (words_at count bytes, rest)
unfolding items_at after_words
reads zero bytes rest e texts = let same = same_Some bytes rest e in ap (λ (t : List ℕ). Ok ([], t)) same
reads (suc count) bytes rest e texts = reads-by count bytes rest (after_word bytes) refl e texts (λ next. reads count next rest)

-- one word more is UTF-8
pub texts-on : (count counter : ℕ) (bytes : List ℕ) (all : Bool) → counter < count → is_utf8 (take (length_at bytes) (drop 4 bytes)) ≡ true → are_texts (count - counter) bytes ≡ all
    → are_texts (count - (counter + 1)) (drop (length_at bytes) (drop 4 bytes)) ≡ all
unfolding are_texts
texts-on count counter bytes all within text so_far =
    let more : suc (count - (counter + 1)) ≡ count - counter = omega (arith, within) in
    ap (λ (b : Bool). b && are_texts (count - (counter + 1)) (drop (length_at bytes) (drop 4 bytes))) (sym text) ∙ (ap (λ (k : ℕ). are_texts k bytes) more ∙ so_far)

-- ---- the words of a record, read again

number-parts : (short : Bool) (x n : ℕ) (xs rest : List ℕ) → cond {A = Result (ℕ × List ℕ) ℕ} short (Err 0) (Ok (x, xs)) ≡ Ok (n, rest) → (short ≡ false) × (x ≡ n) × (xs ≡ rest)
number-parts true x n xs rest e = absurd (cc)
number-parts false x n xs rest e = let same : (x, xs) ≡ (n, rest) = ok_is (x, xs) (n, rest) e in (refl, ap (λ (y : ℕ × List ℕ). y.0) same, ap (λ (y : ℕ × List ℕ). y.1) same)

kept-small : (word : List ℕ) → is_kept word ≡ true → length word < 2 ^ 32
kept-small word kept = let both = and_parts (is_utf8 word) (is_word word) kept in grind (arith, nat_tests)

pub words-again : (words : List (List ℕ)) → list_all is_kept words ≡ true → words_at (length words) (lent_bytes words) ≡ words
unfolding lent_bytes
words-again [] kept = refl
words-again (word ∷ words) kept =
    let both = and_parts (is_kept word) (list_all is_kept words) kept in
    let small : length word < 2 ^ 32 = kept-small word both.0 in
    let more : List ℕ = word ++ lent_bytes words in
    let grouped : lent_bytes (word ∷ words) ≡ to_be_bytes w32 (length word) ++ more = append_assoc (to_be_bytes w32 (length word)) word (lent_bytes words) in
    let bytes : List ℕ = to_be_bytes w32 (length word) ++ more in
    let parts = number-parts (nat_lt (length bytes) 4) (from_be_bytes w32 (take 4 bytes)) (length word) (drop 4 bytes) more (number_again w32 (2 ^ 32) is_width_32 (length word) more small) in
    ap (words_at (suc (length words))) grouped
    ∙ rw (parts.0, parts.1, parts.2, take_at word (lent_bytes words) (length word) refl, drop_at word (lent_bytes words) (length word) refl, words-again words both.1) refl

-- what is hopped over are words of a record, and nothing else
pub lent-here : (count len : ℕ) (bytes : List ℕ) → IsBytes bytes → len ≤ length bytes → after_words count bytes ≡ Some (drop len bytes) → are_texts count bytes ≡ true
    → AreLent count (take len bytes) (words_at count (take len bytes)) × (words_at count (take len bytes) ≡ words_at count bytes)
unfolding lent_bytes
lent-here count len bytes fits within e texts =
    let words : List (List ℕ) = words_at count bytes in
    let read = reads count bytes (drop len bytes) e texts in
    let only = items_only word_grammar.read text_bytes word_grammar.is_value word_grammar.only count bytes (words, drop len bytes) fits read in
    let whole : length (lent_bytes words) ≡ len = omega (arith, ap length only.0.parts, length-append (lent_bytes words) (drop len bytes), length-drop len bytes, within) in
    let front : take len bytes ≡ lent_bytes words = ap (take len) only.0.parts ∙ take_at (lent_bytes words) (drop len bytes) len whole in
    let again : words_at count (take len bytes) ≡ words =
    ap (λ (t : List ℕ). words_at count t) front ∙ (ap (λ (n : ℕ). words_at n (lent_bytes words)) (sym only.1) ∙ words-again words only.2) in
    (rw again (record { bytes_are = front; count_is = sym only.1; kept = only.2 }), again)
