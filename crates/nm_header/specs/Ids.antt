-- Message ids in a field's text (RFC 5322, section 3.6.4): what is between `<` and the next `>`.
-- Cited by `id_list` and `nm_extract`.
use Rattle.std.specs.Prelude.{ℕ, List, [], ◌∷◌, filter, map}
use Rattle.std.specs.List.{after_first, slice_split}
use Rattle.nm_base.specs.MessageId.{is_message_id}
use Rattle.nm_text.specs.Cuts.{is_byte}
use Rattle.nm_text.specs.WhiteSpace.{without_white_space}

-- the texts that a `>` ends: all but the last
abbrev pub closed : List (List ℕ) → List (List ℕ)
closed [] = []
closed (last ∷ []) = []
closed (id_text ∷ next ∷ more) = id_text ∷ closed (next ∷ more)

-- what comes after the first `<` of each, without white space, where it is an id
abbrev pub ids_in : List (List ℕ) → List (List ℕ)
ids_in id_texts = filter is_message_id (map (λ id_text. without_white_space (after_first (is_byte 60) id_text)) id_texts)

-- the ids in a field's text
abbrev pub ids_of : List ℕ → List (List ℕ)
ids_of text = ids_in (closed (slice_split (is_byte 62) text))
