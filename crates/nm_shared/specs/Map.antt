-- What holds of the runs of a part of a map, and of the parts of a map. Cited by `part` and `shared_map`.
use Rattle.std.specs.Prelude.{◌≡◌, ℕ, List, length}
use Rattle.std.specs.declared.cmp.Ordering.{Ordering}
use Rattle.std.specs.List.Sorted.{IsStrictlySortedBy}
use Rattle.std.specs.Map.{keys_of}
use Rattle.nm_shared.specs.Runs.{flat, HaveItems}

-- the keys rise along the runs, no run is empty, and the pairs are counted
pub record IsMap {K V : Type 0} (cmp : K → K → Ordering) (runs : List (List (K × V))) (len : ℕ) : Type 0 where
  pub sorted : IsStrictlySortedBy cmp (keys_of (flat runs))
  pub filled : HaveItems runs
  pub counted : len ≡ length (flat runs)
