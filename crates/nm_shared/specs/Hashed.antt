-- A map whose keys are found by their hashes. A hash leads to a slot; pairs whose hash leads to another key's slot are crowded.
-- Cited by `hashed_map` and `places`.
use Rattle.std.specs.Prelude.{◌≡◌, ℕ, ◌<◌, List, Option, Some, None, if◌then◌else◌}
use Rattle.std.specs.declared.cmp.Ordering.{Ordering}
use Rattle.std.specs.BTreeMap.{is_at}
use Rattle.std.specs.List.Sorted.{IsStrictlySortedBy}
use Rattle.std.specs.Map.{keys_of, lookup}
use Rattle.std.specs.Option.{option_and_then}
use Rattle.std.specs.Ordering.{is_eq, nat_cmp}

-- what there is at a number
abbrev pub at : {X : Type 0} → ℕ → List (ℕ × X) → Option X
at number pairs = lookup (is_at (nat_cmp number)) pairs

module _ {K V : Type 0} (cmp : K → K → Ordering) (hash : K → ℕ) where
  -- the value of a pair, if it is the key's
  abbrev pub value_of : K → Option (K × V) → Option V
  value_of key None = None
  value_of key (Some pair) = if is_eq (cmp key pair.0) then Some pair.1 else None

  -- the value in the slot to which the hash of the key leads, if the slot is the key's
  abbrev pub slot_value : List (ℕ × ℕ) → List (ℕ × (K × V)) → K → Option V
  slot_value places slots key = option_and_then (λ slot. value_of key (at slot slots)) (at (hash key) places)

  -- the hash of each key in a slot leads to this slot, and the key isn't crowded; slots rise, and come before the next one
  pub record IsHashed (places : List (ℕ × ℕ)) (slots : List (ℕ × (K × V))) (crowded : List (K × V)) (next : ℕ) : Type 0 where
    pub sorted : IsStrictlySortedBy nat_cmp (keys_of slots)
    pub below : (slot : ℕ) (pair : K × V) → at slot slots ≡ Some pair → slot < next
    pub placed : (slot : ℕ) (pair : K × V) → at slot slots ≡ Some pair → at (hash pair.0) places ≡ Some slot
    pub apart : (slot : ℕ) (pair : K × V) → at slot slots ≡ Some pair → lookup (is_at (cmp pair.0)) crowded ≡ None
