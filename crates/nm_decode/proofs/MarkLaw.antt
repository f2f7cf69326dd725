-- A text without `=?` has no word. For the proof of `a_text_without_words_stays`.
use Rattle.std.proofs.Common.{◌≡◌, ℕ, zero, suc, Bool, true, false, ◌&&◌, ◌||◌, List, [], ◌∷◌, None, length, refl, ap, ◌∙◌, eqb, arith}
use Rattle.std.specs.Option.{option_and_then}
use Rattle.nm_decode.specs.EncodedWords.{cut_found, cut_words, fields_of, first_word, joined, or_later, segments_of, words_decoded, word_of, word_of_fields}
use Rattle.nm_decode.specs.Laws.{has_mark}
use Rattle.nm_decode.proofs.Segments.{not_opened, too_short}

pub none-here : (text : List ℕ) → fields_of (segments_of text) ≡ None → word_of text ≡ None
none-here text e = ap (option_and_then word_of_fields) e

pub parts : (s t r : Bool) → (s && t || r) ≡ false → (s ≡ true → t ≡ false) × (r ≡ false)
parts true true r e = (cc)
parts true false r e = (λ _. refl, e)
parts false t r e = (λ k. (cc), e)

pub no-word : (text : List ℕ) → has_mark text ≡ false → first_word text ≡ None
no-word [] h = refl
no-word (a ∷ []) h = ap (λ o. or_later o None) (none-here (a ∷ []) (too_short (a ∷ []) (omega arith)))
no-word (a ∷ b ∷ more) h =
    let p = parts (eqb a 61) (eqb b 63) (has_mark (b ∷ more)) h in
    ap (λ o. or_later o (first_word (b ∷ more))) (none-here (a ∷ b ∷ more) (not_opened a b more p.0))
    ∙ ap (or_later None) (no-word (b ∷ more) p.1)

uncut : (n : ℕ) (text : List ℕ) → first_word text ≡ None → joined (cut_words n text).words (cut_words n text).last ≡ text
uncut zero text h = refl
uncut (suc n) text h = ap (λ o. joined (cut_found (cut_words n) text o).words (cut_found (cut_words n) text o).last) h

pub without_marks : (text : List ℕ) → has_mark text ≡ false → words_decoded text ≡ text
without_marks text h = uncut (length text) text (no-word text h)
