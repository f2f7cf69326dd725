-- The maps that labels are kept in. A thread is a group of numbers; which number the group goes by is of no account.
-- Cited by `dead`, `thread_merge`, `labels` and others.
use Rattle.std.specs.Prelude.{◌≡◌, ℕ, Bool, false, ◌+◌, ◌<◌, ◌≤◌, ◌^◌, ◌==◌, ◌||◌, min, List, [], ◌∷◌, ◌++◌, length, map, Option, Some, None, Contains, if◌then◌else◌}
use Rattle.std.specs.BTreeMap.{is_at}
use Rattle.std.specs.Cmp.Lexicographic.{slice_cmp}
use Rattle.std.specs.List.Sorted.{IsStrictlySortedBy}
use Rattle.std.specs.Map.{keys_of, lookup}
use Rattle.std.specs.Option.{option_and_then, is_some}
use Rattle.std.specs.Ordering.{nat_cmp, ordering_then}
use Rattle.std.specs.declared.cmp.Ordering.{Ordering}
use Rattle.nm_threads.specs.Labels.{Label, Labelling, entries_of, has_entry, named}
use Rattle.nm_threads.specs.declared.maps.Maps.{Maps}
use Rattle.nm_threads.specs.declared.maps.Thread.{Thread}
use Rattle.nm_threads.specs.declared.maps.Member.{Member}

-- what a map has for a number
abbrev pub at : {V : Type 0} → ℕ → List (ℕ × V) → Option V
at key entries = lookup (is_at (nat_cmp key)) entries

-- the number that a map has for an id
abbrev pub at_id : List ℕ → List (List ℕ × ℕ) → Option ℕ
at_id id entries = lookup (is_at (slice_cmp nat_cmp id)) entries

-- pairs by their first number, then by their second
abbrev pub pair_cmp : ℕ × ℕ → ℕ × ℕ → Ordering
pair_cmp x y = ordering_then (nat_cmp x.0 y.0) (nat_cmp x.1 y.1)

abbrev pub at_pair : ℕ × ℕ → List ((ℕ × ℕ) × Member) → Option Member
at_pair pair entries = lookup (is_at (pair_cmp pair)) entries

-- the thread of a number
abbrev pub thread_at : List (ℕ × ℕ) → List (ℕ × Thread) → ℕ → Option Thread
thread_at groups threads number = option_and_then (λ group. at group threads) (at number groups)

abbrev pub name_in : Option Thread → ℕ
name_in None = 0
name_in (Some thread) = thread.name

-- the name of the thread of a number
abbrev pub name_at : List (ℕ × ℕ) → List (ℕ × Thread) → ℕ → ℕ
name_at groups threads number = name_in (thread_at groups threads number)

-- the labels that the maps make
abbrev pub labels_in : List (ℕ × List ℕ) → List (ℕ × ℕ) → List (ℕ × Thread) → List Label
labels_in ids groups threads = map (λ entry. record { id = entry.1; number = entry.0; name = name_at groups threads entry.0 }) ids

abbrev pub labelling_of : Maps → Labelling
labelling_of maps = record { labels = labels_in maps.ids maps.groups maps.threads; next = maps.next }

-- the number is this one
abbrev pub is_number : ℕ → Option ℕ → Bool
is_number number None = false
is_number number (Some other) = number == other

-- a pair is there for each number and its group, and no other
abbrev pub AreMembers : List ((ℕ × ℕ) × Member) → List (ℕ × ℕ) → Type 0
AreMembers members groups = (group number : ℕ) → is_some (at_pair (group, number) members) ≡ is_number group (at number groups)

-- no two groups have one name
abbrev pub AreApart : List (ℕ × Thread) → Type 0
AreApart threads = (g h : ℕ) (s t : Thread) → at g threads ≡ Some s → at h threads ≡ Some t → s.name ≡ t.name → g ≡ h

-- an id by its number, a number by its id, and the group of each number
pub record AreNumbers (maps : Maps) : Type 0 where
  pub ordered : IsStrictlySortedBy nat_cmp (keys_of maps.ids)
  pub below : (number : ℕ) (id : List ℕ) → Contains maps.ids (number, id) → (1 ≤ number) × (number < maps.next)
  pub once : (number : ℕ) (a b : List ℕ) → Contains maps.ids (number, a) → Contains maps.ids (number, b) → a ≡ b
  pub found : (id : List ℕ) (number : ℕ) → at_id id maps.numbers ≡ Some number → Contains maps.ids (number, id)
  pub kept : (id : List ℕ) (number : ℕ) → Contains maps.ids (number, id) → at_id id maps.numbers ≡ Some number
  pub fresh : (number group : ℕ) → at number maps.groups ≡ Some group → number < maps.next
  pub owned : (number group : ℕ) → at number maps.groups ≡ Some group → (id : List ℕ) × Contains maps.ids (number, id)
  pub members : AreMembers maps.members maps.groups
  pub small : (1 ≤ maps.next) × (maps.next ≤ 2 ^ 63)

-- the maps agree: an id by its number, a number by its id, its group, the group's thread
pub record AreMaps (maps : Maps) : Type 0 where
  pub ordered : IsStrictlySortedBy nat_cmp (keys_of maps.ids)
  pub below : (number : ℕ) (id : List ℕ) → Contains maps.ids (number, id) → (1 ≤ number) × (number < maps.next)
  pub once : (number : ℕ) (a b : List ℕ) → Contains maps.ids (number, a) → Contains maps.ids (number, b) → a ≡ b
  pub found : (id : List ℕ) (number : ℕ) → at_id id maps.numbers ≡ Some number → Contains maps.ids (number, id)
  pub kept : (id : List ℕ) (number : ℕ) → Contains maps.ids (number, id) → at_id id maps.numbers ≡ Some number
  pub grouped : (number : ℕ) (id : List ℕ) → Contains maps.ids (number, id) → (group : ℕ) × (thread : Thread) × (at number maps.groups ≡ Some group) × (at group maps.threads ≡ Some thread)
  pub fresh : (number group : ℕ) → at number maps.groups ≡ Some group → number < maps.next
  pub early : (group : ℕ) (thread : Thread) → at group maps.threads ≡ Some thread → (group < maps.next) × (thread.name < maps.next)
  pub owned : (number group : ℕ) → at number maps.groups ≡ Some group → (id : List ℕ) × Contains maps.ids (number, id)
  pub apart : AreApart maps.threads
  pub headed : (group : ℕ) (thread : Thread) → at group maps.threads ≡ Some thread → at thread.name maps.groups ≡ Some group
  pub counted : (group : ℕ) (thread : Thread) → at group maps.threads ≡ Some thread → thread.len ≡ length (named thread.name (labelling_of maps).labels)
  pub members : AreMembers maps.members maps.groups
  pub small : (1 ≤ maps.next) × (maps.next ≤ 2 ^ 63)

-- the labelling once an id has a number
abbrev pub given : Labelling → List ℕ → Labelling
given l id = if has_entry (entries_of l.labels) id then l else record { labels = l.labels ++ (record { id = id; number = l.next; name = l.next }) ∷ []; next = l.next + 1 }

-- the name of a thread once those of two names are joined
abbrev pub joined_name : ℕ → ℕ → ℕ → ℕ
joined_name x y name = if name == x || name == y then min x y else name

-- a label with the name of the joined thread
abbrev pub relabelled : ℕ → ℕ → Label → Label
relabelled x y label = record { id = label.id; number = label.number; name = joined_name x y label.name }
