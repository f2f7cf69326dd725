-- The ids of a thread, and messages of it that have a file. Cited by `hints`, `measured_labels` and `nm_parts`.
use Rattle.std.specs.Prelude.{◌≡◌, ℕ, true, false, List, map, filter, Option, Some, None, Contains}
use Rattle.std.specs.List.{list_any}
use Rattle.nm_base.specs.declared.facts.Facts.{Facts}
use Rattle.nm_base.specs.declared.facts.LinkRow.{LinkRow}
use Rattle.nm_commit.specs.Files.{has_id}
use Rattle.nm_threads.specs.Labels.{AreLabelsOf, Label, entries_of}
use Rattle.nm_threads.specs.Same.{is_same}

-- the ids of the thread of an id, by their numbers
abbrev pub thread_ids : List LinkRow → List (List ℕ × ℕ) → List ℕ → List (List ℕ)
thread_ids rows entries id = map (λ entry. entry.0) (filter (λ entry. is_same rows id entry.0) entries)

-- nothing, where a message of the thread of an id has a file, and else the ids of the thread
abbrev pub IsDeadThread : List Label → List (List ℕ × Facts) → List ℕ → Option (List (List ℕ)) → Type 0
IsDeadThread labels files id None = (rows : List LinkRow) → AreLabelsOf rows labels → list_any (has_id files) (thread_ids rows (entries_of labels) id) ≡ true
IsDeadThread labels files id (Some dead) = (rows : List LinkRow) → AreLabelsOf rows labels → (dead ≡ thread_ids rows (entries_of labels) id) × (list_any (has_id files) dead ≡ false)

-- the message has a file, and is of the thread of this name
pub record LivesIn (files : List (List ℕ × Facts)) (labels : List Label) (name : ℕ) (id : List ℕ) : Type 0 where
  pub live : has_id files id ≡ true
  pub number : ℕ
  pub label : Contains labels (record { id = id; number = number; name = name })
