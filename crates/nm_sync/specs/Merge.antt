-- Rising lists of texts, passed side by side. Cited by `merge`.
use Rattle.std.specs.Prelude.{ℕ, Bool, false, List, [], ◌∷◌, if◌then◌else◌}
use Rattle.std.specs.Cmp.Lexicographic.{slice_cmp}
use Rattle.std.specs.Ordering.{is_lt, nat_cmp}
use Rattle.nm_base.specs.Order.{same_text}

-- what is from this text on
abbrev pub from_on : List ℕ → List (List ℕ) → List (List ℕ)
from_on text [] = []
from_on text (first ∷ more) = if is_lt (slice_cmp nat_cmp first text) then from_on text more else first ∷ more

-- the text is the first of these
abbrev pub begins_with : List ℕ → List (List ℕ) → Bool
begins_with text [] = false
begins_with text (first ∷ more) = same_text first text
