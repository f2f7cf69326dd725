-- The index as lists, and what a change and a commit make of it. A message is live where it has a file. A row of ids is the
-- id of a mail and the ids that it links to; an id that is only linked to is a ghost.
-- Cited by `base`, `nm_model_plan`, `nm_record` and others.
use Rattle.std.specs.Prelude.{ℕ, ◌+◌, Bool, List, [], ◌∷◌, ◌++◌, fold, filter, map, codes, if◌then◌else◌}
use Rattle.std.specs.List.{list_any}
use Rattle.std.specs.BTreeMap.{insert_entry, is_at}
use Rattle.std.specs.BTreeSet.{insert_key}
use Rattle.std.specs.Map.{remove_entry}
use Rattle.std.specs.Cmp.Lexicographic.{slice_cmp}
use Rattle.std.specs.Ordering.{nat_cmp}
use Rattle.std.specs.declared.cmp.Ordering.{Ordering}
use Rattle.nm_base.specs.Order.{same_text}
use Rattle.nm_base.specs.declared.facts.Facts.{Facts}
use Rattle.nm_base.specs.declared.facts.LinkRow.{LinkRow}
use Rattle.nm_base.specs.declared.facts.Marks.{Marks}
use Rattle.nm_codec.specs.Encoding.{list_bytes, text_bytes}
use Rattle.nm_commit.specs.Files.{has_id, with_moved, without_path}
use Rattle.nm_commit.specs.declared.change.Change.{Change}
use Rattle.nm_commit.specs.declared.change.Change.TheVariants.{Add, Drop, Move, SetTags}
use Rattle.nm_commit.specs.declared.change.Commit.{Commit}
use Rattle.nm_model_index.specs.declared.base.Base.{Base}
use Rattle.nm_threads.specs.Same.{is_same}

abbrev pub empty_index : Base
empty_index = record { revision = 0; next = 1; files = []; kept = []; entries = []; tags = [] }

-- the id of a mail, and those that it links to
abbrev pub row_of : Facts → LinkRow
row_of facts = record { id = facts.id; links = facts.links }

-- the rows of all files, and those kept of files that went
abbrev pub rows_of : Base → List LinkRow
rows_of index = map (λ file. row_of file.1) index.files ++ index.kept

-- the entry is of the id
abbrev pub is_of : List ℕ → List ℕ × ℕ → Bool
is_of id entry = same_text id entry.0

-- the id has a number
abbrev pub has_entry : Base → List ℕ → Bool
has_entry index id = list_any (is_of id) index.entries

-- the index in which the id has a number: its own, or the next one
abbrev pub with_entry : Base → List ℕ → Base
with_entry index id = (if has_entry index id then index else record index { entries = index.entries ++ (id, index.next) ∷ []; next = index.next + 1 })

-- the tags of a message that becomes live, in order
abbrev pub first_tags : Marks → List (List ℕ)
first_tags marks =
    (if marks.attachment then codes "attachment" ∷ [] else []) ++ (if marks.encrypted then codes "encrypted" ∷ [] else []) ++ codes "inbox" ∷ []
    ++ (if marks.signed then codes "signed" ∷ [] else []) ++ codes "unread" ∷ []

-- the message has these tags and no others
abbrev pub with_tags : Base → List ℕ → List (List ℕ) → Base
with_tags index id tags = record index { tags = insert_entry (slice_cmp nat_cmp) index.tags id tags }

-- the tags of a message that has no file yet are its first ones
abbrev pub with_first_tags : Base → Facts → Base
with_first_tags index facts = (if has_id index.files facts.id then index else with_tags index facts.id (first_tags facts.marks))

-- a mail has come: its id and then its links have numbers, and a message that becomes live has its first tags
abbrev pub with_mail : Base → List ℕ → Facts → Base
with_mail index path facts =
    let tagged = with_first_tags (fold with_entry index (facts.id ∷ facts.links)) facts in
    record tagged { files = tagged.files ++ (path, facts) ∷ [] }

-- the order of kept rows: that of their bytes, as a text and a list of texts
abbrev pub row_bytes : LinkRow → List ℕ
row_bytes row = text_bytes row.id ++ list_bytes text_bytes row.links

abbrev pub row_cmp : LinkRow → LinkRow → Ordering
row_cmp a b = slice_cmp nat_cmp (row_bytes a) (row_bytes b)

-- there is a chain from the id to a live one
abbrev pub is_held : Base → List ℕ → Bool
is_held index id = list_any (λ file. is_same (rows_of index) id file.1.id) index.files

-- the rows and entries of threads that have a live message
abbrev pub pruned : Base → Base
pruned index = record index { kept = filter (λ row. is_held index row.id) index.kept; entries = filter (λ entry. is_held index entry.0) index.entries }

-- the index without the tags of a message that is no longer live
abbrev pub without_dead_tags : Base → List ℕ → Base
without_dead_tags index id = (if has_id index.files id then index else record index { tags = remove_entry (is_at (slice_cmp nat_cmp id)) index.tags })

-- a mail is removed: its row is kept, and then what no live message holds goes
abbrev pub without_mail : Base → List ℕ → Facts → Base
without_mail index path facts =
    without_dead_tags (pruned (record index { files = without_path index.files path; kept = insert_key row_cmp index.kept (row_of facts) })) facts.id

-- the files that are at the path, one at most
abbrev pub files_at : Base → List ℕ → List (List ℕ × Facts)
files_at index path = filter (λ file. same_text path file.0) index.files

-- the file that is there is missing, if there is one
abbrev pub without_first : Base → List ℕ → List (List ℕ × Facts) → Base
without_first index path [] = index
without_first index path (file ∷ more) = without_mail index path file.1

-- the index after a change
abbrev pub applied : Base → Change → Base
applied index (Add path facts) = with_mail index path facts
applied index (Drop path) = without_first index path (files_at index path)
applied index (Move from to) = record index { files = with_moved index.files from to }
applied index (SetTags id tags) = with_tags index id tags

abbrev pub with_revision : ℕ → Base → Base
with_revision revision index = record index { revision = revision }

-- the index after a commit: its changes in order, and one revision more
abbrev pub committed : Base → Commit → Base
committed index commit = with_revision (index.revision + 1) (fold applied index commit.changes)

-- the index after commits, the first of them first
abbrev pub folded : Base → List Commit → Base
folded index commits = fold committed index commits

-- the ids of messages that have a file, by their numbers
abbrev pub live_ids : List (List ℕ × Facts) → List (List ℕ × ℕ) → List (List ℕ)
live_ids files entries = map (λ entry. entry.0) (filter (λ entry. has_id files entry.0) entries)
