-- Pairs of numbers, of which some came later than the others. Cited by `merge` and `places`.
use Rattle.std.specs.Prelude.{ℕ, List, [], ◌∷◌}
use Rattle.std.specs.BTreeMap.{insert_entry}
use Rattle.std.specs.Ordering.{nat_cmp}

-- all of them in order: of two with one number the later one counts
abbrev pub merge : List (ℕ × ℕ) → List (ℕ × ℕ) → List (ℕ × ℕ)
merge [] early = early
merge (pair ∷ late) early = insert_entry nat_cmp (merge late early) pair.0 pair.1
