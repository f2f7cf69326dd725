-- What orders and parts of lists are, described by what they keep. Cited by `search_laws`.
use Rattle.std.specs.Prelude.{◌≡◌, ℕ, ℤ, Bool, false, ◌&&◌, int_lt, not, ◌-◌, List, [], ◌∷◌, ◌++◌, length, filter, min, Option, Some, None}
use Rattle.std.specs.List.{AllByRecursion}

-- no item has a lower rank than one before it
abbrev pub Rises : {X : Type 0} → (X → ℤ) → List X → Type 0
Rises rank [] = Unit {0}
Rises rank (item ∷ items) = AllByRecursion (λ later. int_lt (rank later) (rank item) ≡ false) items × Rises rank items

-- no item has a higher rank than one before it
abbrev pub Falls : {X : Type 0} → (X → ℤ) → List X → Type 0
Falls rank [] = Unit {0}
Falls rank (item ∷ items) = AllByRecursion (λ later. int_lt (rank item) (rank later) ≡ false) items × Falls rank items

-- the item is of that rank
abbrev pub is_ranked : {X : Type 0} → (X → ℤ) → ℤ → X → Bool
is_ranked rank r item = not (int_lt (rank item) r) && not (int_lt r (rank item))

-- sorted has the items by rising rank, and of each rank the same items in the same order
pub record IsByRank {X : Type 0} (rank : X → ℤ) (items sorted : List X) : Type 0 where
  pub rising : Rises rank sorted
  pub same : (r : ℤ) → filter (is_ranked rank r) sorted ≡ filter (is_ranked rank r) items

-- the part is what is between items that are passed over and those after it: as many as the offset says are passed over, where
-- there are n; the part has no more items than the limit says, and is followed by none where there is no limit
pub record IsPart {X : Type 0} (offset : ℕ) (limit : Option ℕ) (items part : List X) : Type 0 where
  pub before : List X
  pub after : List X
  pub whole : items ≡ before ++ (part ++ after)
  pub passed : length before ≡ min offset (length items)
  pub max : (n : ℕ) → limit ≡ Some n → length part ≡ min n (length items - offset)
  pub all : limit ≡ None → after ≡ []
