-- Runs: the items of a list or of a map, cut into blocks. Cited by `items`, `room`, `runs` and others.
use Rattle.std.specs.Prelude.{ℕ, ◌<◌, List, [], length, slice_index_or}
use Rattle.std.specs.List.{flat_map}

-- the items of all runs, in order
abbrev pub flat : {X : Type 0} → List (List X) → List X
flat runs = flat_map (λ run. run) runs

-- the items of the run at a place
abbrev pub run_at : {X : Type 0} → List (List X) → ℕ → List X
run_at runs place = slice_index_or runs place []

-- no run is empty
abbrev pub HaveItems : {X : Type 0} → List (List X) → Type 0
HaveItems {X} runs = (place : ℕ) → place < length runs → 0 < length (run_at runs place)
