-- Sets of tags: lists that ascend strictly by the bytes of the tags.
-- Cited by `tags`, `nm_tags`, `nm_flags` and others.
use Rattle.std.specs.Prelude.{ℕ, Bool, List}
use Rattle.std.specs.Cmp.Lexicographic.{slice_cmp}
use Rattle.std.specs.Ordering.{nat_cmp}
use Rattle.std.specs.BTreeMap.{is_at}
use Rattle.std.specs.Set.{remove_key}
use Rattle.nm_base.specs.Order.{has_text, insert}

abbrev pub has_tag : List (List ℕ) → List ℕ → Bool
has_tag tags tag = has_text tags tag

-- the tags and this one, at its place in the order
abbrev pub with_tag : List (List ℕ) → List ℕ → List (List ℕ)
with_tag tags tag = insert tags tag

-- the tags but this one
abbrev pub without_tag : List (List ℕ) → List ℕ → List (List ℕ)
without_tag tags tag = remove_key (is_at (slice_cmp nat_cmp tag)) tags
