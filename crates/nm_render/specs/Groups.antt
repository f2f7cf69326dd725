-- Messages that are kept by the names of their threads. Cited by `groups`, `summary` and `summary_json`.
use Rattle.std.specs.Prelude.{ℕ, List, [], unwrap_or}
use Rattle.std.specs.BTreeMap.{BTreeMap, get}
use Rattle.std.specs.Ordering.{nat_cmp}

-- the messages under a name, none where there is no such name
abbrev pub listed : {X : Type 0} → BTreeMap ℕ (List X) → ℕ → List X
listed groups name = unwrap_or (get nat_cmp groups name) []
