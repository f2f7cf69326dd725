-- Where a search in a rising list ends. Cited by `rising`.
use Rattle.std.specs.Prelude.{ℕ, ◌-◌, ◌<◌, ◌≤◌, List, length, slice_index}

-- from `start` on, the documents before the place are below `doc`, and the one at the place isn't
pub record IsPlaceOf (docs : List ℕ) (start doc place : ℕ) : Type 0 where
  pub order : start ≤ place
  pub within : place ≤ length docs
  pub before : start < place → slice_index docs (place - 1) < doc
  pub after : place < length docs → doc ≤ slice_index docs place
