-- How a thread is named: by the least number that an id of it has.
-- Cited by `labels`, `nm_state`, `nm_render` and others.
use Rattle.std.specs.Prelude.{◌≡◌, ℕ, min, List, [], ◌∷◌, map, Option, Some, None, unwrap_or, Contains}
use Rattle.std.specs.List.{filter}
use Rattle.std.specs.Option.{option_map}
use Rattle.nm_base.specs.declared.facts.LinkRow.{LinkRow}
use Rattle.nm_threads.specs.Same.{is_same}

-- the least of some numbers, if there is one
abbrev pub least : List ℕ → Option ℕ
least [] = None
least (n ∷ more) = Some (unwrap_or (option_map (min n) (least more)) n)

-- the numbers of the entries that are of one thread with an id; an entry is an id and its number
abbrev pub thread_numbers : List LinkRow → List (List ℕ × ℕ) → List ℕ → List ℕ
thread_numbers rows entries id = map (λ entry. entry.1) (filter (λ entry. is_same rows id entry.0) entries)

-- the name of the thread of an id
abbrev pub thread_name : List LinkRow → List (List ℕ × ℕ) → List ℕ → Option ℕ
thread_name rows entries id = least (thread_numbers rows entries id)

-- no two ids have one number
abbrev pub AreDistinct : List (List ℕ × ℕ) → Type 0
AreDistinct entries = (a b : List ℕ) (n : ℕ) → Contains entries (a, n) → Contains entries (b, n) → a ≡ b
