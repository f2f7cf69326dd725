-- Encoded words in header text (RFC 2047, sections 2 and 6.2). Cited by `decodes`, `fields`, `nm_mime` and others.
use Rattle.std.specs.Prelude.{ℕ, zero, suc, Bool, true, false, not, ◌&&◌, ◌||◌, ◌==◌, if◌then◌else◌, ◌+◌, List, [], ◌∷◌, ◌++◌, length, take, drop, map, Option, None, Some}
use Rattle.std.specs.List.{before_first, flat_map, list_all, slice_split}
use Rattle.std.specs.Option.{is_some, option_and_then, option_map}
use Rattle.std.specs.Result.{result_ok}
use Rattle.base64.specs.Engines.{standard}
use Rattle.base64.specs.GeneralPurpose.{decode_of}
use Rattle.nm_base.specs.Bounds.{is_white_space}
use Rattle.nm_text.specs.Cuts.{is_byte}
use Rattle.nm_text.specs.WhiteSpace.{is_all_white_space}
use Rattle.nm_decode.specs.Bytes.{escape_of}
use Rattle.nm_decode.specs.Charsets.{text_of}
use Rattle.nm_decode.specs.QuotedPrintable.{unescaped}
use Rattle.nm_decode.specs.declared.words.FoundWord.{FoundWord}
use Rattle.nm_decode.specs.declared.words.EncodedWord.{EncodedWord}

-- each `=` has two hex digits after it
abbrev pub is_q_text : List ℕ → Bool
is_q_text [] = true
is_q_text (a ∷ more) = (not (a == 61) || is_some (escape_of more)) && is_q_text more

-- `_` is a space
abbrev pub spaced : ℕ → ℕ
spaced b = if b == 95 then 32 else b

-- the bytes of a text in Q
abbrev pub q_bytes : List ℕ → Option (List ℕ)
q_bytes text = if is_q_text text then Some (unescaped (map spaced text)) else None

-- the bytes of a text in B: whole groups, correct padding, no spare bits
abbrev pub b_bytes : List ℕ → Option (List ℕ)
b_bytes text = result_ok (decode_of standard text)

-- the bytes of a text in an encoding: B or Q, in either case
abbrev pub word_bytes : List ℕ → List ℕ → Option (List ℕ)
word_bytes (encoding ∷ []) text = if encoding == 66 || encoding == 98 then b_bytes text
    else (if encoding == 81 || encoding == 113 then q_bytes text else None)
word_bytes _ text = None

-- no white space is in it
abbrev pub is_field : List ℕ → Bool
is_field field = list_all (λ b. not (is_white_space b)) field

-- the text of a word with this charset, encoding and encoded text; a language after `*` counts for nothing
abbrev pub word_text : List ℕ → List ℕ → List ℕ → Option (List ℕ)
word_text charset encoding text = if is_field charset && is_field text
    then option_map (λ bytes. text_of bytes (before_first (is_byte 42) charset)) (word_bytes encoding text)
    else None

-- `=` alone
abbrev pub is_equals : List ℕ → Bool
is_equals (a ∷ []) = a == 61
is_equals _ = false

-- the first segment begins with `=`
abbrev pub begins_with_equals : List (List ℕ) → Bool
begins_with_equals ((a ∷ more) ∷ segments) = a == 61
begins_with_equals _ = false

-- what is between the `?`
abbrev pub segments_of : List ℕ → List (List ℕ)
segments_of text = slice_split (is_byte 63) text

-- the charset, the encoding and the encoded text of the word with which a text begins, by its segments: `=`, the charset,
-- the encoding, the encoded text, and a segment that begins with `=`
abbrev pub fields_of : List (List ℕ) → Option (List ℕ × List ℕ × List ℕ)
fields_of (first ∷ charset ∷ encoding ∷ text ∷ more) =
    if is_equals first && begins_with_equals more then Some (charset, encoding, text) else None
fields_of _ = None

-- the word of these fields, if it decodes; beside them it has two `=` and four `?`
abbrev pub word_of_fields : List ℕ × List ℕ × List ℕ → Option EncodedWord
word_of_fields f = option_map (λ text. record { len = length f.0 + length f.1 + length f.2 + 6; text = text }) (word_text f.0 f.1 f.2)

-- the encoded word that decodes with which a text begins
abbrev pub word_of : List ℕ → Option EncodedWord
word_of text = option_and_then word_of_fields (fields_of (segments_of text))

-- a word at the front, or else a later one
abbrev pub or_later : Option EncodedWord → Option FoundWord → Option FoundWord
or_later (Some word) later = Some (record { at = 0; word = word })
or_later None later = option_map (λ found. record { at = found.at + 1; word = found.word }) later

-- the first encoded word in a text that decodes
abbrev pub first_word : List ℕ → Option FoundWord
first_word [] = None
first_word (b ∷ more) = or_later (word_of (b ∷ more)) (first_word more)

-- a text cut into encoded words that decode and the gaps between them: each word's text with the gap before
-- it, in order, and the gap after the last word
pub record Cut : Type 0 where
  pub words : List (List ℕ × List ℕ)
  pub last : List ℕ

-- one word more at the front
abbrev pub and_then_cut : List ℕ → List ℕ → Cut → Cut
and_then_cut gap word cut = record { words = (gap, word) ∷ cut.words; last = cut.last }

-- the cut at a word that was found, with the cut of what follows it
abbrev pub cut_found : (List ℕ → Cut) → List ℕ → Option FoundWord → Cut
cut_found cut_rest text None = record { words = []; last = text }
cut_found cut_rest text (Some found) = and_then_cut (take found.at text) found.word.text (cut_rest (drop (found.at + found.word.len) text))

-- the cut at the first n words that decode, each sought after the one before it
abbrev pub cut_words : ℕ → List ℕ → Cut
cut_words zero text = record { words = []; last = text }
cut_words (suc n) text = cut_found (cut_words n) text (first_word text)

-- a gap between two words: white space alone goes
abbrev pub between : List ℕ → List ℕ
between gap = if is_all_white_space gap then [] else gap

-- a word after another, with the gap between them
abbrev pub later_word : List ℕ × List ℕ → List ℕ
later_word gap_and_word = between gap_and_word.0 ++ gap_and_word.1

-- the text of a cut: its words decoded
abbrev pub joined : List (List ℕ × List ℕ) → List ℕ → List ℕ
joined [] last = last
joined (gap_and_word ∷ more) last = gap_and_word.0 ++ (gap_and_word.1 ++ (flat_map later_word more ++ last))

-- the text with its encoded words decoded: it has no more words than bytes
abbrev pub words_decoded : List ℕ → List ℕ
words_decoded text = let cut = cut_words (length text) text in joined cut.words cut.last
