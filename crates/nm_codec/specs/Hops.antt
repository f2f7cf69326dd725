-- Words found by their lengths alone: what is after the first one, and after n of them, and whether they are UTF-8. Cited by `words_len`.
use Rattle.std.specs.Prelude.{ℕ, zero, suc, Bool, true, ◌&&◌, ◌||◌, ◌==◌, List, Option, None, Some, length, take, drop, nat_lt, if◌then◌else◌}
use Rattle.std.specs.Str.{is_utf8}
use Rattle.nm_base.specs.LentWords.{length_at}

-- what is after a word of 1 to 200 bytes that is at the front, if there is one
abbrev pub after_word : List ℕ → Option (List ℕ)
after_word bytes =
    if nat_lt (length bytes) 4 then None else if (length_at bytes == 0) || (nat_lt 200 (length_at bytes) || nat_lt (length (drop 4 bytes)) (length_at bytes)) then None else Some (drop (length_at bytes) (drop 4 bytes))

-- goes on with what is there
abbrev pub then_from : Option (List ℕ) → (List ℕ → Option (List ℕ)) → Option (List ℕ)
then_from None go = None
then_from (Some rest) go = go rest

-- what is after n words
unfoldable pub after_words : ℕ → List ℕ → Option (List ℕ)
after_words zero bytes = Some bytes
after_words (suc count) bytes = then_from (after_word bytes) (after_words count)

-- n words are UTF-8
unfoldable pub are_texts : ℕ → List ℕ → Bool
are_texts zero bytes = true
are_texts (suc count) bytes = is_utf8 (take (length_at bytes) (drop 4 bytes)) && are_texts count (drop (length_at bytes) (drop 4 bytes))
