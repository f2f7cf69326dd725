-- The words of a text as they are kept: one after the other in one row of bytes, each after its length in one byte.
-- Cited by `word_list`.
use Rattle.std.specs.Prelude.{◌≡◌, ℕ, zero, suc, Bool, true, ◌&&◌, List, [], ◌∷◌, length, take, drop}
use Rattle.std.specs.List.{flat_map, list_all}
use Rattle.std.specs.Str.{is_utf8}
use Rattle.nm_base.specs.Word.{is_word}

-- a word after its length
abbrev pub packed_word : List ℕ → List ℕ
packed_word word = length word ∷ word

-- the words, one after the other
abbrev pub packed : List (List ℕ) → List ℕ
packed words = flat_map packed_word words

-- n words that come one after the other at the front of the bytes
abbrev pub unpacked : ℕ → List ℕ → List (List ℕ)
unpacked zero bytes = []
unpacked (suc count) [] = []
unpacked (suc count) (len ∷ bytes) = take len bytes ∷ unpacked count (drop len bytes)

-- a text that is a word
abbrev pub is_kept : List ℕ → Bool
is_kept word = is_utf8 word && is_word word

-- n words, which are all that the bytes hold
pub record IsPacked (count : ℕ) (bytes : List ℕ) (words : List (List ℕ)) : Type 0 where
  pub bytes_are : bytes ≡ packed words
  pub count_is : count ≡ length words
  pub kept : list_all is_kept words ≡ true
