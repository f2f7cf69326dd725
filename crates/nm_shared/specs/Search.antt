-- What a binary search among runs, or in a run, finds: a place with the key on the right side of both neighbours.
-- Cited by `search`.
use Rattle.std.specs.Prelude.{◌≡◌, ◌≢◌, ℕ, ◌-◌, ◌<◌, ◌≤◌, List, length, slice_index_or}
use Rattle.std.specs.declared.cmp.Ordering.{Ordering}
use Rattle.std.specs.declared.cmp.Ordering.TheVariants.{Less, Greater}
use Rattle.nm_shared.specs.Runs.{run_at}

-- the run before the place doesn't begin above the key, and the one at the place does
pub record IsRunOf {K V : Type 0} (cmp : K → K → Ordering) (key : K) (runs : List (List (K × V))) (place : ℕ) : Type 0 where
  pub within : place ≤ length runs
  pub before : (entry : K × V) → 0 < place → cmp key (slice_index_or (run_at runs (place - 1)) 0 entry).0 ≢ Less
  pub after : (entry : K × V) → place < length runs → cmp key (slice_index_or (run_at runs place) 0 entry).0 ≡ Less

-- the key before the place is below the key, and the one at the place is not
pub record IsPlaceOf {K V : Type 0} (cmp : K → K → Ordering) (key : K) (entries : List (K × V)) (place : ℕ) : Type 0 where
  pub within : place ≤ length entries
  pub before : (entry : K × V) → 0 < place → cmp key (slice_index_or entries (place - 1) entry).0 ≡ Greater
  pub after : (entry : K × V) → place < length entries → cmp key (slice_index_or entries place entry).0 ≢ Greater
