-- Lists as a search prints them: in the order of a rank, each item once, and the part that an offset and a limit leave.
-- Cited by `search_laws` and `nm_render`.
use Rattle.std.specs.Prelude.{ℕ, ℤ, Bool, int_lt, List, [], ◌∷◌, ◌++◌, take, drop, fold, Option, Some, None, if◌then◌else◌}
use Rattle.std.specs.List.{list_any}

-- the item before the first one of a greater rank
abbrev pub at_rank : {X : Type 0} → (X → ℤ) → List X → X → List X
at_rank rank [] item = item ∷ []
at_rank rank (first ∷ items) item = if int_lt (rank item) (rank first) then item ∷ first ∷ items else first ∷ at_rank rank items item

-- the items by rising rank; those of one rank stay in their order
abbrev pub by_rank : {X : Type 0} → (X → ℤ) → List X → List X
by_rank rank items = fold (at_rank rank) [] items

-- the items and this one at their end, unless it is among them
abbrev pub with_new : {X : Type 0} → (X → X → Bool) → List X → X → List X
with_new same items item = if list_any (same item) items then items else items ++ item ∷ []

-- each item once, where it first is
abbrev pub each_once : {X : Type 0} → (X → X → Bool) → List X → List X
each_once same items = fold (with_new same) [] items

-- the first of the items, as many as the limit says
abbrev pub limited : {X : Type 0} → Option ℕ → List X → List X
limited None items = items
limited (Some limit) items = take limit items

-- the items but as many as are passed over, and of these as many as the limit says
abbrev pub part_of : {X : Type 0} → ℕ → Option ℕ → List X → List X
part_of offset limit items = limited limit (drop offset items)
