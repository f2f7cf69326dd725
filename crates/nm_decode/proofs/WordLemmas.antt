-- Where encoded words are, and the first of a text. For the proofs of `encoded_words`, `first_word` and `word_at`.
use Rattle.std.proofs.Common.{◌≡◌, ℕ, zero, suc, ◌+◌, ◌-◌, ◌<◌, ◌≤◌, Bool, true, false, List, [], ◌∷◌, ◌++◌, Option, Some, None, length, take, drop, get_or, refl, sym, ap, ◌∙◌, subst, arith, append_assoc, zero-add, add-zero}
use Rattle.std.proofs.lemmas.List.{at_drop_more, at_drop_all, get_or-drop, get_or_at, length-append, length-drop}
use Rattle.std.proofs.lemmas.Str.{IsCharBoundary-after_ascii}
use Rattle.std.specs.List.{flat_map}
use Rattle.std.specs.Option.{option_map}
use Rattle.std.specs.Str.{IsCharBoundary, IsUtf8}
use Rattle.nm_decode.specs.EncodedWords.{between, cut_found, cut_words, first_word, joined, later_word, or_later, word_of}
use Rattle.nm_decode.specs.WordSteps.{IsFramed, IsSpan, decoded_text, gap_text, with_word}
use Rattle.nm_decode.specs.declared.words.FoundWord.{FoundWord}
use Rattle.nm_decode.specs.declared.words.EncodedWord.{EncodedWord}

-- all of a framed word but its last `=`
abbrev front : List ℕ → List ℕ → List ℕ → List ℕ
front charset encoding encoded = 61 ∷ 63 ∷ (charset ++ (63 ∷ (encoding ++ (63 ∷ (encoded ++ (63 ∷ []))))))

framed-front : (charset encoding encoded after : List ℕ) → 61 ∷ 63 ∷ (charset ++ (63 ∷ (encoding ++ (63 ∷ (encoded ++ (63 ∷ 61 ∷ after))))))
    ≡ front charset encoding encoded ++ 61 ∷ after
framed-front charset encoding encoded after = simp append_assoc

length-front : (charset encoding encoded : List ℕ) → length (front charset encoding encoded) ≡ length charset + length encoding + length encoded + 5
length-front charset encoding encoded = simp length-append (omega arith)

pub framed_len : (text charset encoding encoded : List ℕ) → IsFramed text charset encoding encoded → length charset + length encoding + length encoded + 6 ≤ length text
framed_len text charset encoding encoded f =
    let e = ap length (f.1 ∙ framed-front charset encoding encoded f.0) ∙ length-append (front charset encoding encoded) (61 ∷ f.0) in
    omega (arith, e, length-front charset encoding encoded)

pub framed_span : (text charset encoding encoded : List ℕ) (n : ℕ) → n ≡ length charset + length encoding + length encoded + 6 → IsFramed text charset encoding encoded
    → IsSpan text 0 n
framed_span text charset encoding encoded n k f = record {
  rises = omega arith;
  within = omega (arith, framed_len text charset encoding encoded f);
  first = ap (λ xs. get_or xs 0 0) f.1;
  last = ap (λ xs. get_or xs (n - 1) 0) (f.1 ∙ framed-front charset encoding encoded f.0)
      ∙ get_or_at (front charset encoding encoded) 61 f.0 0 (n - 1) (omega (arith, length-front charset encoding encoded));
}

pub later_span : (text rest : List ℕ) (at n : ℕ) → rest ≡ drop at text → at ≤ length text → IsSpan rest 0 n → IsSpan text at (at + n)
later_span text rest at n e l s =
    let r : 0 < n = s.rises in
    let k : length rest ≡ length text - at = ap length e ∙ length-drop at text in
    let m : at + (n - 1) ≡ at + n - 1 = omega arith in
    record {
      rises = omega arith;
      within = omega (arith, s.within);
      first = ap (λ i. get_or text i 0) (sym (add-zero at)) ∙ sym (get_or-drop at text 0 0) ∙ ap (λ xs. get_or xs 0 0) (sym e) ∙ s.first;
      last = ap (λ i. get_or text i 0) (sym m) ∙ sym (get_or-drop at text (n - 1) 0) ∙ ap (λ xs. get_or xs (n - 1) 0) (sym e) ∙ s.last;
    }

-- a word found after the first n bytes
abbrev pub later : ℕ → Option FoundWord → Option FoundWord
later n o = option_map (λ found. record { at = found.at + n; word = found.word }) o

later-one : (n : ℕ) (o : Option FoundWord) → later n (later 1 o) ≡ later (n + 1) o
later-one n None = refl
later-one n (Some found) =
    let k : found.at + 1 + n ≡ found.at + (n + 1) = omega arith in
    ap (λ i. Some (record { at = i; word = found.word })) k

pub later-zero : (o : Option FoundWord) → o ≡ later 0 o
later-zero None = refl
later-zero (Some found) = ap (λ i. Some (record { at = i; word = found.word })) (sym (add-zero found.at))

-- the first word of a list that isn't empty
first-step : (text rest : List ℕ) (at : ℕ) → rest ≡ drop at text → at < length text → first_word rest ≡ or_later (word_of rest) (first_word (drop (at + 1) text))
first-step text rest at e l =
    let d : drop at text ≡ get_or text at 0 ∷ drop (at + 1) text = at_drop_more (λ xs. xs) text at 0 l in
    ap first_word (e ∙ d) ∙ ap (λ xs. or_later (word_of xs) (first_word (drop (at + 1) text))) (sym d ∙ sym e)

pub found_here : (text rest : List ℕ) (at : ℕ) (word : EncodedWord) → rest ≡ drop at text → at < length text → word_of rest ≡ Some word
    → first_word text ≡ later at (first_word (drop at text)) → first_word text ≡ Some (record { at = at; word = word })
found_here text rest at word e l w g =
    g ∙ ap (λ xs. later at (first_word xs)) (sym e)
    ∙ ap (later at) (first-step text rest at e l ∙ ap (λ o. or_later o (first_word (drop (at + 1) text))) w)
    ∙ ap (λ i. Some (record { at = i; word = word })) (zero-add at)

pub found_later : (text rest : List ℕ) (at : ℕ) → rest ≡ drop at text → at < length text → word_of rest ≡ None
    → first_word text ≡ later at (first_word (drop at text)) → first_word text ≡ later (at + 1) (first_word (drop (at + 1) text))
found_later text rest at e l w g =
    g ∙ ap (λ xs. later at (first_word xs)) (sym e)
    ∙ ap (later at) (first-step text rest at e l ∙ ap (λ o. or_later o (first_word (drop (at + 1) text))) w)
    ∙ later-one at (first_word (drop (at + 1) text))

pub found_none : (text : List ℕ) (at : ℕ) → length text ≤ at → first_word text ≡ later at (first_word (drop at text)) → first_word text ≡ None
found_none text at l g = g ∙ ap (later at) (at_drop_all first_word text at l)

-- the turn of a loop over the words, and its end
pub cut_turn : (out rest all : List ℕ) (n : ℕ) (follows : Bool) (found : FoundWord) → first_word rest ≡ Some found
    → IsSpan rest found.at (found.at + found.word.len) → length rest ≤ n → out ++ decoded_text n follows rest ≡ all
    → (m : ℕ) × (length (drop (found.at + found.word.len) rest) ≤ m)
    × (((out ++ gap_text follows (take found.at rest)) ++ found.word.text) ++ decoded_text m true (drop (found.at + found.word.len) rest) ≡ all)
cut_turn out rest all zero follows found e s l g = absurd (omega (arith, s.rises, s.within))
cut_turn out rest all (suc m) follows found e s l g =
    let end = found.at + found.word.len in
    let gap = gap_text follows (take found.at rest) in (
      m,
      omega (arith, length-drop end rest, s.rises, s.within),
      append_assoc (out ++ gap) found.word.text (decoded_text m true (drop end rest))
          ∙ append_assoc out gap (found.word.text ++ decoded_text m true (drop end rest))
          ∙ ap (λ o. out ++ with_word (decoded_text m true) follows rest o) (sym e)
          ∙ g,
    )

pub cut_end : (out rest all : List ℕ) (n : ℕ) (follows : Bool) → first_word rest ≡ None → out ++ decoded_text n follows rest ≡ all → out ++ rest ≡ all
cut_end out rest all zero follows e g = g
cut_end out rest all (suc n) follows e g = ap (λ o. out ++ with_word (decoded_text n true) follows rest o) (sym e) ∙ g

-- a text may be cut after a gap
pub span_end : (text : List ℕ) (from to : ℕ) → IsUtf8 text → IsSpan text from to → IsCharBoundary text to
span_end text from to u s =
    let r : from < to = s.rises in
    let w : to ≤ length text = s.within in
    let e : to - 1 + 1 ≡ to = omega arith in
    let P : ℕ → Type 0 = λ i. IsCharBoundary text i in
    subst P e (IsCharBoundary-after_ascii text (to - 1) u (omega arith) (omega (arith, s.last)))

-- word by word, after another word, is the rest of the cut
abbrev IsRest : ℕ → List ℕ → Type 0
IsRest n text = decoded_text n true text ≡ flat_map later_word (cut_words n text).words ++ (cut_words n text).last

rest_found : (n : ℕ) (text : List ℕ) (o : Option FoundWord) → ((xs : List ℕ) → IsRest n xs)
    → with_word (decoded_text n true) true text o ≡ flat_map later_word (cut_found (cut_words n) text o).words ++ (cut_found (cut_words n) text o).last
rest_found n text None h = refl
rest_found n text (Some found) h =
    let rest = drop (found.at + found.word.len) text in
    ap (λ xs. between (take found.at text) ++ (found.word.text ++ xs)) (h rest) ∙ simp append_assoc

rest_is : (n : ℕ) (text : List ℕ) → IsRest n text
rest_is zero text = refl
rest_is (suc n) text = rest_found n text (first_word text) (rest_is n)

whole_found : (n : ℕ) (text : List ℕ) (o : Option FoundWord)
    → with_word (decoded_text n true) false text o ≡ joined (cut_found (cut_words n) text o).words (cut_found (cut_words n) text o).last
whole_found n text None = refl
whole_found n text (Some found) = ap (λ xs. take found.at text ++ (found.word.text ++ xs)) (rest_is n (drop (found.at + found.word.len) text))

-- word by word from the start is the whole text
pub decoded_whole : (n : ℕ) (text : List ℕ) → decoded_text n false text ≡ joined (cut_words n text).words (cut_words n text).last
decoded_whole zero text = refl
decoded_whole (suc n) text = whole_found n text (first_word text)
