-- Words in the bytes of a record: one after the other, each after its length in four bytes. Cited by `lent_words`, `word_list` and `nm_codec`.
use Rattle.std.specs.Prelude.{◌≡◌, ℕ, zero, suc, true, List, [], ◌∷◌, ◌++◌, length, take, drop, nat_lt, if◌then◌else◌}
use Rattle.std.specs.Int.{from_be_bytes, to_be_bytes, w32}
use Rattle.std.specs.List.{flat_map, list_all}
use Rattle.nm_base.specs.WordList.{is_kept}

-- a word after its length
abbrev pub lent_word : List ℕ → List ℕ
lent_word word = to_be_bytes w32 (length word) ++ word

-- the words, one after the other
unfoldable pub lent_bytes : List (List ℕ) → List ℕ
lent_bytes words = flat_map lent_word words

-- the length at the front of the bytes
abbrev pub length_at : List ℕ → ℕ
length_at bytes = from_be_bytes w32 (take 4 bytes)

-- n words at the front of the bytes, or those before the first that has no length
abbrev pub words_at : ℕ → List ℕ → List (List ℕ)
words_at zero bytes = []
words_at (suc count) bytes = if nat_lt (length bytes) 4 then [] else take (length_at bytes) (drop 4 bytes) ∷ words_at count (drop (length_at bytes) (drop 4 bytes))

-- n words, which are all that the bytes hold
pub record AreLent (count : ℕ) (bytes : List ℕ) (words : List (List ℕ)) : Type 0 where
  pub bytes_are : bytes ≡ lent_bytes words
  pub count_is : count ≡ length words
  pub kept : list_all is_kept words ≡ true

-- where the words are: a range of the bytes of a record
abbrev pub range : ℕ → ℕ → List ℕ → List ℕ
range at len bytes = take len (drop at bytes)
