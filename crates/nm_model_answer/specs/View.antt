-- A message as a query looks at it. Cited by `laws`, `nm_model_plan`, `nm_eval` and others.
use Rattle.std.specs.Prelude.{ℕ, ℤ, pos, List, [], ◌∷◌, Option, unwrap_or}
use Rattle.std.specs.List.{filter}
use Rattle.std.specs.BTreeMap.{is_at}
use Rattle.std.specs.Map.{lookup}
use Rattle.std.specs.Cmp.Lexicographic.{slice_cmp}
use Rattle.std.specs.Ordering.{nat_cmp}
use Rattle.nm_base.specs.Order.{same_text}
use Rattle.nm_base.specs.declared.facts.Facts.{Facts}
use Rattle.nm_commit.specs.Files.{paths_of}
use Rattle.nm_model_index.specs.Index.{rows_of}
use Rattle.nm_model_index.specs.declared.base.Base.{Base}
use Rattle.nm_threads.specs.Name.{thread_name}

-- the id of a message, its files in order of arrival, its tags, and the name of its thread
pub record View : Type 0 where
  pub id : List ℕ
  pub files : List (List ℕ × Facts)
  pub tags : List (List ℕ)
  pub thread : Option ℕ

-- the files of a message, in order of arrival
abbrev pub files_of : Base → List ℕ → List (List ℕ × Facts)
files_of index id = filter (λ file. same_text id file.1.id) index.files

-- their paths
abbrev pub message_paths : List (List ℕ × Facts) → List ℕ → List (List ℕ)
message_paths files id = paths_of (filter (λ file. same_text id file.1.id) files)

-- the tags of a message; none where it has no file
abbrev pub tags_of : Base → List ℕ → List (List ℕ)
tags_of index id = unwrap_or (lookup (is_at (slice_cmp nat_cmp id)) index.tags) []

-- a message of an index
abbrev pub view_of : Base → List ℕ → View
view_of index id = record { id = id; files = files_of index id; tags = tags_of index id; thread = thread_name (rows_of index) index.entries id }

-- the date of the lead file, which is the first
abbrev pub lead_date : List (List ℕ × Facts) → ℤ
lead_date [] = pos 0
lead_date (lead ∷ others) = lead.1.date
