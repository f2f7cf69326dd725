-- The words of a list, which has a row of them, its own or in a record, or none. Cited by `word_list`.
use Rattle.std.specs.Prelude.{ℕ, Bool, List, [], Option, None, Some, if◌then◌else◌}
use Rattle.std.specs.declared.alloc.Global.{Global}
use Rattle.std.specs.declared.boxed.Box.{Box}
use Rattle.nm_base.specs.LentWords.{words_at}
use Rattle.nm_base.specs.WordList.{unpacked}
use Rattle.nm_base.specs.declared.word_list.Row.{Row}
use Rattle.nm_base.specs.declared.word_list.Row.TheVariants.{Own, Lent}

-- the words of a row
abbrev pub words_of : Row → List (List ℕ)
words_of (Own words) = words
words_of (Lent words) = words

-- the words of the row, if there is one
abbrev pub words_of_row : Option (Box Row Global) → List (List ℕ)
words_of_row None = []
words_of_row (Some row) = words_of row.value

-- the words that are left, by how their lengths are written
abbrev pub words_left : Bool → ℕ → List ℕ → List (List ℕ)
words_left lent count bytes = if lent then words_at count bytes else unpacked count bytes
