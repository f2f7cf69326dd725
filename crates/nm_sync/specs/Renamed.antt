-- The renames after a commit of tags, one after the other: what each becomes, what is kept of those that are done, and what the folder is asked.
-- Cited by `renames`, `nm_writer`, `nm_history` and others.
use Rattle.std.specs.Prelude.{◌≡◌, ℕ, Bool, List, [], ◌∷◌, ◌++◌, Option, None, Some, Ok, fold, unwrap_or}
use Rattle.std.specs.BTreeMap.{BTreeMap, get}
use Rattle.std.specs.Cmp.Lexicographic.{slice_cmp}
use Rattle.std.specs.List.{flat_map}
use Rattle.std.specs.Ordering.{nat_cmp}
use Rattle.nm_base.specs.declared.facts.Facts.{Facts}
use Rattle.nm_commit.specs.Files.{changed, has_path}
use Rattle.nm_flags.specs.declared.renames.Rename.{Rename}
use Rattle.nm_maildir.specs.Observed.{ObservedMail, tree_with}
use Rattle.nm_maildir.specs.Tree.{Tree, renamed_of}
use Rattle.nm_maildir.specs.declared.answers.MailError.{MailError}
use Rattle.nm_maildir.specs.declared.answers.Renamed.{Renamed}
use Rattle.nm_maildir.specs.declared.given.Given.{Given}
use Rattle.nm_maildir.specs.declared.given.Given.TheVariants as givens
use Rattle.nm_model_answer.specs.RenameOutcomes.{Outcome, answer_given, note_of, outcomes}
use Rattle.nm_model_plan.specs.Moves.{move_given}
use Rattle.nm_sync.specs.declared.renames.RenameLog.{RenameLog}

-- the files of the index once the moves that were noted are made
abbrev pub files_given : List (List ℕ × Facts) → List Given → List (List ℕ × Facts)
files_given files given = fold changed files (flat_map move_given given)

-- what becomes of these renames, by what was noted
abbrev pub outcomes_given : List (List ℕ × Facts) → List Rename → List Given → List Outcome
outcomes_given files plan given = outcomes files plan (flat_map answer_given given)

-- just the renames that are to be tried are noted, the first of them
abbrev pub AreTried : List (List ℕ × Facts) → List Rename → List Given → Type 0
AreTried files plan given = given ≡ flat_map note_of (outcomes_given files plan given)

-- what became of a rename, whatever comes after it, and what is noted of it
pub record IsDone (files : List (List ℕ × Facts)) (rename : Rename) (old new : List Given) : Type 0 where
  pub outcome : Outcome
  pub first : (more : List Rename) (told : List Renamed) → outcomes files (rename ∷ more) (flat_map answer_given (note_of outcome) ++ told) ≡ outcome ∷ outcomes (files_given files (note_of outcome)) more told
  pub given_is : new ≡ old ++ note_of outcome

-- whether a file is there, as it is kept of the paths that moves freed and took, and else as it was before them
abbrev pub HasPlaces : List (List ℕ × Facts) → List (List ℕ × Facts) → BTreeMap (List ℕ) Bool → Type 0
HasPlaces before files places = (path : List ℕ) → has_path files path ≡ unwrap_or (get (slice_cmp nat_cmp) places path) (has_path before path)

-- of the renames that are done it is kept which paths their moves freed and took
abbrev pub IsKept : List (List ℕ × Facts) → RenameLog → Type 0
IsKept files done = HasPlaces files (fold changed files done.moves) done.places

-- the tree after renames, each answered as the tree then was
abbrev pub AnswersAlong : Tree → List Given → Tree → Type 0
AnswersAlong tree [] after = after ≡ tree
AnswersAlong tree (givens.Listed paths ∷ more) after = ⊥
AnswersAlong tree (givens.Read path answer ∷ more) after = ⊥
AnswersAlong tree (givens.Renamed from to answer ∷ more) after = (answer ≡ renamed_of tree from to) × AnswersAlong (tree_with {E = MailError} tree from to (Ok answer)) more after

-- the same, where the folder's tree is known
abbrev pub TreesAlong : Option Tree → List Given → Option Tree → Type 0
TreesAlong None given after = after ≡ None
TreesAlong (Some tree) given after = (left : Tree) × (after ≡ Some left) × AnswersAlong tree given left

-- The folder is asked for the renames that are noted, and for nothing else.
pub record AsksRenames (old new : ObservedMail) (old_given new_given : List Given) : Type 0 where
  pub more : List Given
  pub given_is : new_given ≡ old_given ++ more
  pub tree : TreesAlong old.tree more new.tree
  pub reads : new.reads ≡ old.reads
