-- Quoted pairs and quoted strings (RFC 5322, sections 3.2.1 and 3.2.4; RFC 2045, section 5.1).
-- A pair is taken with the first byte of its character alone: the others of it are no specials.
-- Cited by `quoted_strings`, `nm_header` and `nm_mime`.
use Rattle.std.specs.Prelude.{ℕ, Bool, false, ◌==◌, List, [], ◌∷◌, if◌then◌else◌}
use Rattle.std.specs.List.{flat_map}
use Rattle.nm_text.specs.Cuts.{cut, len_through}

-- a `\` takes the next byte with it
abbrev pub pair_more : ℕ → List ℕ → ℕ
pair_more b text = if b == 92 then 1 else 0

-- the quoted pairs of a text, and the bytes between them
abbrev pub pairs_of : List ℕ → List (List ℕ)
pairs_of text = cut pair_more text

-- the byte itself, and no pair with it
abbrev pub is_special : ℕ → List ℕ → Bool
is_special special [] = false
is_special special (b ∷ []) = b == special
is_special special (b ∷ c ∷ more) = false

-- a quoted string goes on after its `"` to the next `"`, or to the end
abbrev pub quoted_len : List ℕ → ℕ
quoted_len text = len_through (is_special 34) (pairs_of text)

-- a pair without its `\`; a `"` that is in no pair is nothing
abbrev pub unquoted_pair : List ℕ → List ℕ
unquoted_pair [] = []
unquoted_pair (b ∷ []) = if b == 34 then [] else b ∷ []
unquoted_pair (b ∷ c ∷ more) = c ∷ more

-- what a text with quoted strings and pairs says
abbrev pub unquoted : List ℕ → List ℕ
unquoted text = flat_map unquoted_pair (pairs_of text)
