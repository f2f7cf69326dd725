-- The steps of a search by halves: one for each probe. Cited by `dictionary`, `doc_places`, `starts` and `segment`.
use Rattle.std.specs.Prelude.{◌≡◌, ℕ, ◌+◌, ◌*◌, ◌^◌, ◌≤◌}

-- a search among n items takes p steps, where 2^p is at most 2n + 1
abbrev pub SearchSteps : ℕ → ℕ → ℕ → Type 0
SearchSteps n old new = (p : ℕ) × (new ≡ old + p) × (2 ^ p ≤ 2 * n + 1)
