-- The text of HTML: what is outside its tags. Cited by `html`.
use Rattle.std.specs.Prelude.{ℕ, Bool, true, false, List, [], ◌∷◌, if◌then◌else◌}
use Rattle.nm_text.specs.Cuts.{is_byte}

-- a tag goes from its `<` to the next `>`, or to the end, and is one space; `inside`: the text begins in a tag
abbrev pub strip_from : Bool → List ℕ → List ℕ
strip_from inside [] = []
strip_from true (b ∷ rest) = if is_byte 62 b then strip_from false rest else strip_from true rest
strip_from false (b ∷ rest) = if is_byte 60 b then 32 ∷ strip_from true rest else b ∷ strip_from false rest

-- the text with one space for each tag
abbrev pub strip_html_tags : List ℕ → List ℕ
strip_html_tags text = strip_from false text
