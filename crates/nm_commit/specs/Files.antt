-- The files of an index in order of arrival, each with the facts of its mail: what a change makes of them, and which commits fit them.
-- Cited by `nm_model_index`, `nm_model_answer`, `nm_model_plan` and others.
use Rattle.std.specs.Prelude.{◌≡◌, ℕ, Bool, true, false, not, List, [], ◌∷◌, ◌++◌, length, fold, map, filter, ◌<◌, if◌then◌else◌}
use Rattle.nm_base.specs.Limits.{IsDate}
use Rattle.nm_base.specs.Order.{has_text, same_text}
use Rattle.nm_base.specs.declared.facts.Facts.{Facts}
use Rattle.nm_commit.specs.declared.change.Change.{Change}
use Rattle.nm_commit.specs.declared.change.Change.TheVariants.{Add, Drop, Move, SetTags}
use Rattle.nm_commit.specs.declared.change.Commit.{Commit}

abbrev pub paths_of : List (List ℕ × Facts) → List (List ℕ)
paths_of files = map (λ file. file.0) files

-- one of the files is there
abbrev pub has_path : List (List ℕ × Facts) → List ℕ → Bool
has_path files path = has_text (paths_of files) path

-- the files but the one that is there
abbrev pub without_path : List (List ℕ × Facts) → List ℕ → List (List ℕ × Facts)
without_path files path = filter (λ file. not (same_text path file.0)) files

-- one of the files is a mail of the message
abbrev pub has_id : List (List ℕ × Facts) → List ℕ → Bool
has_id files id = has_text (map (λ file. file.1.id) files) id

-- the path of a file after a move
abbrev pub moved_path : List ℕ → List ℕ → List ℕ → List ℕ
moved_path from to path = (if same_text from path then to else path)

-- the files with the one that is at `from` at `to`, in its place
abbrev pub with_moved : List (List ℕ × Facts) → List ℕ → List ℕ → List (List ℕ × Facts)
with_moved files from to = map (λ file. (moved_path from to file.0, file.1)) files

-- the files after a change; tags are beside them
abbrev pub changed : List (List ℕ × Facts) → Change → List (List ℕ × Facts)
changed files (Add path facts) = files ++ (path, facts) ∷ []
changed files (Drop path) = without_path files path
changed files (Move from to) = with_moved files from to
changed files (SetTags id tags) = files

-- a mail comes where none is and has a date in the range; one goes from where it is, or moves from there to where none is;
-- tags are set of a message that has a file
abbrev pub FitsChange : List (List ℕ × Facts) → Change → Type 0
FitsChange files (Add path facts) = (has_path files path ≡ false) × IsDate facts.date
FitsChange files (Drop path) = has_path files path ≡ true
FitsChange files (Move from to) = (has_path files from ≡ true) × (has_path files to ≡ false)
FitsChange files (SetTags id tags) = has_id files id ≡ true

-- each change fits the files that the changes before it leave
abbrev pub FitChanges : List (List ℕ × Facts) → List Change → Type 0
FitChanges files [] = Unit {0}
FitChanges files (change ∷ changes) = FitsChange files change × FitChanges (changed files change) changes

-- the commit has a change, and its changes fit
pub record Fits (files : List (List ℕ × Facts)) (commit : Commit) : Type 0 where
  pub some : 0 < length commit.changes
  pub each : FitChanges files commit.changes

-- the files after a commit: its changes in order
abbrev pub files_with : List (List ℕ × Facts) → Commit → List (List ℕ × Facts)
files_with files commit = fold changed files commit.changes

-- the files after commits, the first of them first
abbrev pub files_after : List (List ℕ × Facts) → List Commit → List (List ℕ × Facts)
files_after files commits = fold files_with files commits
