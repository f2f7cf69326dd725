-- What a change that takes no mail out does to each of two halves: the labels; the files and the tags.
-- Cited by `halves`.
use Rattle.std.specs.Prelude.{◌≡◌, ℕ, List, [], ◌∷◌, ◌++◌, true, if◌then◌else◌}
use Rattle.std.specs.BTreeMap.{insert_entry}
use Rattle.std.specs.Cmp.Lexicographic.{slice_cmp}
use Rattle.std.specs.Ordering.{nat_cmp}
use Rattle.nm_base.specs.declared.facts.Facts.{Facts}
use Rattle.nm_base.specs.declared.facts.LinkRow.{LinkRow}
use Rattle.nm_commit.specs.Files.{has_id, with_moved}
use Rattle.nm_commit.specs.declared.change.Change.{Change}
use Rattle.nm_commit.specs.declared.change.Change.TheVariants.{Add, Drop, Move, SetTags}
use Rattle.nm_model_index.specs.Index.{first_tags, row_of}
use Rattle.nm_threads.specs.Labels.{AreLabelsOf, Labelling, entries_of, numbered}
use Rattle.nm_tables.specs.FileTable.{AreFiled, files_in}
use Rattle.nm_parts.specs.Parts.{AreTagged}
use Rattle.nm_parts.specs.declared.halves.Filed.{Filed}

-- the change leaves each mail in the index
abbrev pub TakesNoneOut : Change → Type 0
TakesNoneOut (Add path facts) = Unit {0}
TakesNoneOut (Drop path) = ⊥
TakesNoneOut (Move from to) = Unit {0}
TakesNoneOut (SetTags id tags) = Unit {0}

-- the labels before and after the change: its ids have numbers, and its row is one of their rows
abbrev pub IsLabelledBy : Change → Labelling → Labelling → Type 0
IsLabelledBy (Add path facts) old new =
    ((entries_of new.labels, new.next) ≡ numbered (entries_of old.labels) old.next (facts.id ∷ facts.links))
    × ((rows : List LinkRow) → AreLabelsOf rows old.labels → AreLabelsOf (row_of facts ∷ rows) new.labels)
IsLabelledBy (Drop path) old new = ⊥
IsLabelledBy (Move from to) old new = new ≡ old
IsLabelledBy (SetTags id tags) old new = new ≡ old

-- each takes what the ones before it leave to what it leaves
abbrev pub InTurn : {X S : Type 0} → (X → S → S → Type 0) → List X → S → S → Type 0
InTurn does [] old new = new ≡ old
InTurn does (x ∷ xs) old new = (mid : _) × does x old mid × InTurn does xs mid new

-- a mail has come, and a message without a file has its first tags
pub record HasComeIn (path : List ℕ) (facts : Facts) (old new : Filed) : Type 0 where
  pub filed : AreFiled new.file_table
  pub files : files_in new.file_table ≡ files_in old.file_table ++ (path, facts) ∷ []
  pub tags : new.tags ≡ (if has_id (files_in old.file_table) facts.id then old.tags else insert_entry (slice_cmp nat_cmp) old.tags facts.id (first_tags facts.marks))
  pub tagged : AreTagged (files_in old.file_table) old.tags → AreTagged (files_in old.file_table ++ (path, facts) ∷ []) new.tags

-- the files and tags before and after the change
abbrev pub IsFiledBy : Change → Filed → Filed → Type 0
IsFiledBy (Add path facts) old new = HasComeIn path facts old new
IsFiledBy (Drop path) old new = ⊥
IsFiledBy (Move from to) old new = AreFiled new.file_table × (files_in new.file_table ≡ with_moved (files_in old.file_table) from to) × (new.tags ≡ old.tags)
IsFiledBy (SetTags id tags) old new =
    (new.file_table ≡ old.file_table) × (new.tags ≡ insert_entry (slice_cmp nat_cmp) old.tags id tags)
    × (AreTagged (files_in old.file_table) old.tags → has_id (files_in old.file_table) id ≡ true → AreTagged (files_in old.file_table) new.tags)
