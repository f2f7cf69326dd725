-- An index without files is one, whatever its numbers. For the proof of `base_of`.
use Rattle.std.proofs.Common.{ℕ, ◌≤◌, [], rules}
use Rattle.std.specs.List.{IsDistinct}
use Rattle.std.specs.List.Sorted.{IsStrictlySortedBy}
use Rattle.std.specs.Prelude.{Bool}
use Rattle.std.specs.declared.cmp.Ordering.{Ordering}
use Rattle.nm_model_index.specs.Valid.{IsValid}

none_twice : {K : Type 0} (same : K → K → Bool) → IsDistinct same []
unfolding IsDistinct
none_twice same = tt

none_sorted : {K : Type 0} (order : K → K → Ordering) → IsStrictlySortedBy order []
unfolding IsStrictlySortedBy
none_sorted order = tt

pub no_files_are_valid : (revision next : ℕ) → 1 ≤ next → IsValid record { revision = revision; next = next; files = []; kept = []; entries = []; tags = [] }
no_files_are_valid revision next h = record {
  paths = none_twice _;
  dates = search rules;
  rows = none_sorted _;
  ids = none_twice _;
  rising = none_sorted _;
  numbers = search rules;
  next = h;
  numbered = search rules;
  kept = search rules;
  held = search rules;
  live = λ id. search rules;
  in_order = none_sorted _;
  sets = search rules;
}
