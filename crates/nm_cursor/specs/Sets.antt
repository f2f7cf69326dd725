-- Sets of documents, each as the rising list of their numbers, and what two of them make together. Cited by `cursor` and each cursor,
-- and by `nm_filter`.
use Rattle.std.specs.Prelude.{◌≡◌, ◌==◌, ℕ, Bool, not, nat_le, nat_lt, List, [], ◌∷◌, Option, MatchOption}
use Rattle.std.specs.BTreeSet.{insert_key}
use Rattle.std.specs.List.{filter, fold, list_any}
use Rattle.std.specs.List.Sorted.{IsStrictlySortedBy}
use Rattle.std.specs.Ordering.{nat_cmp}

-- each number is above all before it
abbrev pub IsRising : List ℕ → Type 0
IsRising docs = IsStrictlySortedBy nat_cmp docs

-- whether a document is in the list
unfoldable pub has : List ℕ → ℕ → Bool
has docs doc = list_any (λ other. doc == other) docs

-- the documents of the list that are not below this number
unfoldable pub from : ℕ → List ℕ → List ℕ
from doc docs = filter (λ other. nat_le doc other) docs

-- those that are above it
unfoldable pub above : ℕ → List ℕ → List ℕ
above doc docs = filter (λ other. nat_lt doc other) docs

-- what both lists have
unfoldable pub intersection : List ℕ → List ℕ → List ℕ
intersection left right = filter (has right) left

-- what the first list has and the second has not
unfoldable pub difference : List ℕ → List ℕ → List ℕ
difference left right = filter (λ doc. not (has right doc)) left

-- the first list, with each document of the second in its place
unfoldable pub union : List ℕ → List ℕ → List ℕ
union left right = fold (insert_key nat_cmp) left right

-- what one of the lists has and the other has not
unfoldable pub symmetric_difference : List ℕ → List ℕ → List ℕ
symmetric_difference left right = union (difference left right) (difference right left)

-- the first document of a list was taken, or there is none
abbrev pub Takes : List ℕ → Option ℕ → List ℕ → Type 0
Takes old taken new = MatchOption taken ((old ≡ []) × (new ≡ [])) (λ doc. old ≡ doc ∷ new)
