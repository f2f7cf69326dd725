-- Which ids belong to one thread: those between which there is a chain of ids, each beside the next in one row.
-- Cited by `labels`, `rebuild`, `nm_state` and others.
use Rattle.std.specs.Prelude.{◌≡◌, ℕ, Bool, ◌&&◌, ◌||◌, IsTrue, List, [], ◌∷◌}
use Rattle.std.specs.List.{list_any}
use Rattle.nm_base.specs.Order.{has_text, same_text}
use Rattle.nm_base.specs.declared.facts.LinkRow.{LinkRow}

-- the ids of a row: that of its mail, and those that the mail links to
abbrev pub ids_of : LinkRow → List (List ℕ)
ids_of row = row.id ∷ row.links

-- two ids are together in one of the rows
abbrev pub stand_together : List LinkRow → List ℕ → List ℕ → Bool
stand_together rows a b = list_any (λ row. has_text (ids_of row) a && has_text (ids_of row) b) rows

-- a chain from a to b: each of its ids is together with the one before it in one row
abbrev pub IsChain : List LinkRow → List ℕ → List (List ℕ) → List ℕ → Type 0
IsChain rows a [] b = a ≡ b
IsChain rows a (next ∷ more) b = IsTrue (stand_together rows a next) × IsChain rows next more b

-- a and b are of one thread: there is a chain from a to b
abbrev pub Same : List LinkRow → List ℕ → List ℕ → Type 0
Same rows a b = (chain : List (List ℕ)) × IsChain rows a chain b

-- an id of the row is of one thread with this one
abbrev pub Touches : List LinkRow → LinkRow → List ℕ → Type 0
Touches rows row a = (id : List ℕ) × IsTrue (has_text (ids_of row) id) × Same rows a id

-- the same, computed: a row joins what its ids were of one thread with before
abbrev pub is_same : List LinkRow → List ℕ → List ℕ → Bool
is_same [] a b = same_text a b
is_same (row ∷ rows) a b = is_same rows a b || (list_any (is_same rows a) (ids_of row) && list_any (is_same rows b) (ids_of row))

-- there is a chain from the id to one of these
abbrev pub is_held : List LinkRow → List (List ℕ) → List ℕ → Bool
is_held rows ids id = list_any (is_same rows id) ids
