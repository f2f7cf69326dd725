-- The words of a line: what is between spaces and tabs. Cited by `line` and `words`.
use Rattle.std.specs.Prelude.{ℕ, Bool, ◌==◌, not, List, [], ◌∷◌, length, filter, false}
use Rattle.std.specs.List.{slice_split}
use Rattle.nm_text.specs.WhiteSpace.{is_blank}

abbrev pub begins_blank : List ℕ → Bool
begins_blank [] = false
begins_blank (b ∷ bs) = is_blank b

abbrev pub words_of : List ℕ → List (List ℕ)
words_of line = filter (λ word. not (length word == 0)) (slice_split is_blank line)
