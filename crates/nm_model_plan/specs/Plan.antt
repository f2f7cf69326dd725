-- The commits of a command: first those of what has come, one for each batch of files that was read, then that of what is
-- missing. Each is made on the index that those before it leave.
-- Cited by `laws`, `nm_scan`, `nm_writer` and others.
use Rattle.std.specs.Prelude.{◌≡◌, ℕ, ℤ, false, not, List, [], ◌∷◌, ◌++◌, map, filter}
use Rattle.std.specs.List.{AllByRecursion, IsDistinct, flat_map}
use Rattle.nm_base.specs.Limits.{IsDate}
use Rattle.nm_base.specs.Order.{has_text, same_text}
use Rattle.nm_base.specs.declared.facts.Facts.{Facts}
use Rattle.nm_model_answer.specs.NewText.{gone, listed_in}
use Rattle.nm_model_answer.specs.Changes.{wanted_for}
use Rattle.nm_model_answer.specs.declared.request.Request.{Request}
use Rattle.nm_model_answer.specs.declared.request.Request.TheVariants.{New, Count, Search, Dump, Show, Tag, Restore}
use Rattle.nm_commit.specs.Files.{has_path, paths_of}
use Rattle.nm_commit.specs.declared.change.Change.{Change}
use Rattle.nm_commit.specs.declared.change.Change.TheVariants.{Add, Drop}
use Rattle.nm_commit.specs.declared.change.Commit.{Commit}
use Rattle.nm_model_index.specs.Index.{folded}
use Rattle.nm_model_index.specs.declared.base.Base.{Base}
use Rattle.nm_maildir.specs.declared.given.Given.{Given}
use Rattle.nm_model_plan.specs.Moves.{tag_commits}
use Rattle.nm_model_plan.specs.NameTags.{commit_of}

-- the listed paths that the index lacks
abbrev pub to_read : List (List ℕ × Facts) → List (List ℕ) → List (List ℕ)
to_read files listed = filter (λ path. not (has_path files path)) listed

abbrev pub add_of : List ℕ × Facts → Change
add_of arrival = Add arrival.0 arrival.1

abbrev pub drop_of : List ℕ → Change
drop_of path = Drop path

-- the messages of some files
abbrev pub message_ids : List (List ℕ × Facts) → List (List ℕ)
message_ids files = map (λ file. file.1.id) files

-- the files that are not listed any more
abbrev pub removed_files : List (List ℕ × Facts) → List (List ℕ) → List (List ℕ × Facts)
removed_files files listed = filter (λ file. not (has_text listed file.0)) files

-- The commit of the mails that a batch found, where it found some: they come, and their messages get the tags that names say.
abbrev pub batch_commit : Base → List (List ℕ × Facts) → List Commit
batch_commit index added = commit_of index (map add_of added) (message_ids added)

-- The commit of what isn't listed any more of these files, where there is something: it goes, and so do tags by names.
abbrev pub removed_commit : Base → List (List ℕ × Facts) → List (List ℕ) → List Commit
removed_commit index files listed = commit_of index (map drop_of (gone files listed)) (message_ids (removed_files files listed))

-- one commit after the other for each batch in which mails were found
abbrev pub batch_commits : Base → List (List (List ℕ × Facts)) → List Commit
batch_commits index [] = []
batch_commits index (added ∷ batches) = batch_commit index added ++ batch_commits (folded index (batch_commit index added)) batches

-- the mails of all batches
abbrev pub all_added : List (List (List ℕ × Facts)) → List (List ℕ × Facts)
all_added batches = flat_map (λ added. added) batches

-- the commits of the mails that were found, batch by batch, and then that of what isn't listed any more
abbrev pub new_commits : Base → List (List ℕ) → List (List (List ℕ × Facts)) → List Commit
new_commits index listed batches = batch_commits index batches ++ removed_commit (folded index (batch_commits index batches)) index.files listed

-- The commits that are due while these paths are left to read: nothing is removed before all are read.
abbrev pub commits_so_far : Base → List (List ℕ) → List (List (List ℕ × Facts)) → List (List ℕ) → List Commit
commits_so_far index listed batches [] = new_commits index listed batches
commits_so_far index listed batches (path ∷ left) = batch_commits index batches

-- The commits that are due to a request, by its input, the moment, the index before it and what the mail folder gave: to a `new` with the
-- mails that it has found in batches, while these paths are left to read; to a `tag` or a
-- `restore` with the renames that were tried. What only reads
-- makes none.
abbrev pub due_commits : Request → List ℕ → ℤ → Base → List Given → List (List (List ℕ × Facts)) → List (List ℕ) → List Commit
due_commits New input moment index given batches left = commits_so_far index (listed_in given) batches left
due_commits (Count ask) input moment index given batches left = []
due_commits (Search ask) input moment index given batches left = []
due_commits (Dump ask) input moment index given batches left = []
due_commits (Show ask) input moment index given batches left = []
due_commits (Tag ask) input moment index given batches left = tag_commits index (wanted_for (Tag ask) input moment index) given
due_commits (Restore ask) input moment index given batches left = tag_commits index (wanted_for (Restore ask) input moment index) given

-- the files after a `new`: what was added comes after what was there, and what is missing is no longer there
abbrev pub files_after_new : List (List ℕ × Facts) → List (List ℕ) → List (List ℕ × Facts) → List (List ℕ × Facts)
files_after_new files listed added = filter (λ file. not (has_text (gone files listed) file.0)) (files ++ added)

-- Mails that have come: no two at one path, none where the index has a file, each with a date in the range.
pub record AreAdded (files added : List (List ℕ × Facts)) : Type 0 where
  pub once : IsDistinct same_text (paths_of added)
  pub fresh : AllByRecursion (λ path. has_path files path ≡ false) (paths_of added)
  pub dated : AllByRecursion (λ arrival. IsDate arrival.1.date) added
