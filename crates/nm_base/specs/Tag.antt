-- Tags: 1 to 200 bytes, the first of them no `-`. Cited by `tag`, `nm_tags`, `nm_flags` and others.
use Rattle.std.specs.Prelude.{ℕ, Bool, true, ◌&&◌, ◌==◌, not, List, [], ◌∷◌}
use Rattle.nm_base.specs.Bounds.{fits_length}

-- it does not begin with `-`
abbrev pub is_tag_text : List ℕ → Bool
is_tag_text [] = true
is_tag_text (first ∷ others) = not (first == 45)

-- a tag, of the right length too
abbrev pub is_tag : List ℕ → Bool
is_tag text = fits_length 200 text && is_tag_text text
