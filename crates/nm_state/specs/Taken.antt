-- Pairs that are taken from others key by key. Cited by `export`.
use Rattle.std.specs.Prelude.{◌≡◌, ℕ, List, if◌then◌else◌}
use Rattle.std.specs.Cmp.Lexicographic.{slice_cmp}
use Rattle.std.specs.Ordering.{is_eq, nat_cmp}
use Rattle.nm_tables.specs.FileTable.{at_text}

-- the new pairs have at this key what all have there, and at every other one what the old pairs have
abbrev pub TakesFrom : {V : Type 0} → List (List ℕ × V) → List ℕ → List (List ℕ × V) → List (List ℕ × V) → Type 0
TakesFrom all key old new = (other : List ℕ) → at_text other new ≡ (if is_eq (slice_cmp nat_cmp other key) then at_text key all else at_text other old)
