-- Encoded words, step by step: what the private functions say. Cited by `fields` and `words`.
use Rattle.std.specs.Prelude.{◌≡◌, ℕ, zero, suc, ◌+◌, ◌-◌, ◌<◌, ◌≤◌, Bool, true, ◌&&◌, if◌then◌else◌, List, [], ◌∷◌, ◌++◌, length, take, drop, Option, None, Some, slice_index}
use Rattle.nm_text.specs.WhiteSpace.{is_all_white_space}
use Rattle.nm_decode.specs.EncodedWords.{first_word}
use Rattle.nm_decode.specs.declared.words.FoundWord.{FoundWord}

-- the text begins with `=?charset?encoding?encoded?=`
abbrev pub IsFramed : List ℕ → List ℕ → List ℕ → List ℕ → Type 0
IsFramed text charset encoding encoded = (after : List ℕ)
    × (text ≡ 61 ∷ 63 ∷ (charset ++ (63 ∷ (encoding ++ (63 ∷ (encoded ++ (63 ∷ 61 ∷ after)))))))

-- a span of the text that begins and ends with `=`
pub record IsSpan (text : List ℕ) (from to : ℕ) : Type 0 where
  pub rises : from < to
  pub within : to ≤ length text
  pub first : slice_index text from ≡ 61
  pub last : slice_index text (to - 1) ≡ 61

-- a gap before a word; `follows`: a word comes before it too
abbrev pub gap_text : Bool → List ℕ → List ℕ
gap_text follows gap = if follows && is_all_white_space gap then [] else gap

-- a text with the first word found in it; `after` says what becomes of the text after that word
abbrev pub with_word : (List ℕ → List ℕ) → Bool → List ℕ → Option FoundWord → List ℕ
with_word after follows text None = text
with_word after follows text (Some found) = gap_text follows (take found.at text)
    ++ (found.word.text ++ after (drop (found.at + found.word.len) text))

-- a text with its first n words decoded; `follows`: a word comes before it
abbrev pub decoded_text : ℕ → Bool → List ℕ → List ℕ
decoded_text zero follows text = text
decoded_text (suc n) follows text = with_word (decoded_text n true) follows text (first_word text)
