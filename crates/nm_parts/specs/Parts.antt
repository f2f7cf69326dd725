-- The parts of a snapshot, and the index that they make. Cited by `commit_changes`, `changes`, `removal` and others.
use Rattle.std.specs.Prelude.{◌≡◌, ◌⊎◌, ℕ, true, List, Some, Contains, if◌then◌else◌}
use Rattle.std.specs.BTreeMap.{is_at}
use Rattle.std.specs.BTreeSet.{insert_key}
use Rattle.std.specs.Cmp.Lexicographic.{slice_cmp}
use Rattle.std.specs.Map.{remove_entry, values_of}
use Rattle.std.specs.Option.{is_some}
use Rattle.std.specs.Ordering.{nat_cmp}
use Rattle.nm_base.specs.Order.{IsSorted}
use Rattle.nm_base.specs.declared.facts.Facts.{Facts}
use Rattle.nm_base.specs.declared.facts.LinkRow.{LinkRow}
use Rattle.nm_commit.specs.Files.{has_id, without_path}
use Rattle.nm_model_index.specs.Index.{is_held, row_cmp, row_of, rows_of}
use Rattle.nm_model_index.specs.declared.base.Base.{Base}
use Rattle.nm_threads.specs.Labels.{AreLabelsOf, entries_of, is_in_rows}
use Rattle.nm_threads.specs.Same.{Same}
use Rattle.nm_tables.specs.FileTable.{AreFiled, at_text, files_in}
use Rattle.nm_tables.specs.Kept.{AreKept}
use Rattle.nm_parts.specs.declared.parts.Parts.{Parts}

-- the index that the parts make
abbrev pub base_of : Parts → Base
base_of parts =
    record {
      revision = parts.revision;
      next = parts.labels.next;
      files = files_in parts.file_table;
      kept = values_of parts.kept;
      entries = entries_of parts.labels.labels;
      tags = parts.tags;
    }

-- each kept row and each number is of a thread with a live message
pub record AreHeld (index : Base) : Type 0 where
  pub rows : (row : LinkRow) → Contains index.kept row → is_held index row.id ≡ true
  pub entries : (entry : List ℕ × ℕ) → Contains index.entries entry → is_held index entry.0 ≡ true

-- just the messages that have a file have tags, and each a set of them
pub record AreTagged (files : List (List ℕ × Facts)) (tags : List (List ℕ × List (List ℕ))) : Type 0 where
  pub live : (id : List ℕ) → is_some (at_text id tags) ≡ has_id files id
  pub sets : (id : List ℕ) (set : List (List ℕ)) → at_text id tags ≡ Some set → IsSorted set

-- the parts agree: the files by their maps, the kept rows by their bytes, the labels by the rows of both, the tags by the
-- messages of the files
pub record AreParts (parts : Parts) : Type 0 where
  pub filed : AreFiled parts.file_table
  pub kept : AreKept parts.kept
  pub labels : AreLabelsOf (rows_of (base_of parts)) parts.labels.labels
  pub held : AreHeld (base_of parts)
  pub tagged : AreTagged (files_in parts.file_table) parts.tags

-- the index with other files
abbrev pub with_files : Base → List (List ℕ × Facts) → Base
with_files index files = record index { files = files }

-- the tags once the mail of a message went: those of others, and its own where it has another file
abbrev pub tags_after : List (List ℕ × Facts) → List (List ℕ × List (List ℕ)) → List ℕ → List (List ℕ × List (List ℕ))
tags_after files tags id = (if has_id files id then tags else remove_entry (is_at (slice_cmp nat_cmp id)) tags)

-- the index after a mail went, before what nothing holds goes
abbrev pub without_file : Base → List ℕ → Facts → Base
without_file index path facts =
    record index {
      files = without_path index.files path;
      kept = insert_key row_cmp index.kept (row_of facts);
      tags = tags_after (without_path index.files path) index.tags facts.id;
    }

-- the same parts while the thread of an id may have lost its last live message
pub record AreLoose (parts : Parts) (id : List ℕ) : Type 0 where
  pub filed : AreFiled parts.file_table
  pub kept : AreKept parts.kept
  pub labels : AreLabelsOf (rows_of (base_of parts)) parts.labels.labels
  pub known : is_in_rows (rows_of (base_of parts)) id ≡ true
  pub rows : (row : LinkRow) → Contains (values_of parts.kept) row → (is_held (base_of parts) row.id ≡ true) ⊎ Same (rows_of (base_of parts)) row.id id
  pub entries : (entry : List ℕ × ℕ) → Contains (entries_of parts.labels.labels) entry → (is_held (base_of parts) entry.0 ≡ true) ⊎ Same (rows_of (base_of parts)) entry.0 id
  pub tagged : AreTagged (files_in parts.file_table) parts.tags
