-- Pairs in any order as they are in the order of their keys. Cited by `message_tags`.
use Rattle.std.specs.Prelude.{ℕ, List, [], ◌∷◌}
use Rattle.std.specs.BTreeMap.{insert_entry}
use Rattle.std.specs.Cmp.Lexicographic.{slice_cmp}
use Rattle.std.specs.Ordering.{nat_cmp}

-- the pairs in the order of their keys; of two with one key the first counts
abbrev pub sorted_pairs : {V : Type 0} → List (List ℕ × V) → List (List ℕ × V)
sorted_pairs [] = []
sorted_pairs (pair ∷ pairs) = insert_entry (slice_cmp nat_cmp) (sorted_pairs pairs) pair.0 pair.1
