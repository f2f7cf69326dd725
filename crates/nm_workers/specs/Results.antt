-- Results beside their inputs: what a relation between an input and a result says of lists of both.
-- Cited by `map`, `results` and `worker`.
use Rattle.std.specs.Prelude.{◌≡◌, ℕ, List, length, slice_get, Option, Some}
use Rattle.std.specs.List.{All}
use Rattle.std.specs.Option.{IsSomeAnd}
use Rattle.nm_workers.specs.declared.worker.Placed.{Placed}

-- there is an input at the place, and it may have this result
abbrev pub GivesAt : {A B : Type 0} → (A → B → Type 0) → List A → ℕ → B → Type 0
GivesAt gives inputs at value = IsSomeAnd (slice_get inputs at) (λ input. gives input value)

-- each result of a worker is one that the input in its place may have
abbrev pub AreGiven : {A B : Type 0} → (A → B → Type 0) → List A → List (Placed B) → Type 0
AreGiven gives inputs done = All (λ p. GivesAt gives inputs p.at p.value) done

-- there is a place for each input, and a result in it is one that this input may have
pub record FitPlaces {A B : Type 0} (gives : A → B → Type 0) (inputs : List A) (places : List (Option B)) : Type 0 where
  pub long : length places ≡ length inputs
  pub each : (at : ℕ) (value : B) → slice_get places at ≡ Some (Some value) → GivesAt gives inputs at value
