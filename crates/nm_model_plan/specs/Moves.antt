-- The renames that follow a commit of tags: that just those are noted which are tried, and the commit of the files that were moved.
-- Cited by `tag_laws`, `nm_writer` and `nm_history`.
use Rattle.std.specs.Prelude.{◌≡◌, ℕ, List, [], ◌∷◌, ◌++◌, length}
use Rattle.std.specs.List.{flat_map}
use Rattle.nm_model_answer.specs.RenameOutcomes.{note_of, renames_done, renames_for}
use Rattle.nm_commit.specs.declared.change.Change.{Change}
use Rattle.nm_commit.specs.declared.change.Change.TheVariants.{Move}
use Rattle.nm_commit.specs.declared.change.Commit.{Commit}
use Rattle.nm_model_index.specs.declared.base.Base.{Base}
use Rattle.nm_maildir.specs.declared.answers.Renamed.{Renamed}
use Rattle.nm_maildir.specs.declared.answers.Renamed.TheVariants as answers
use Rattle.nm_maildir.specs.declared.given.Given.{Given}
use Rattle.nm_maildir.specs.declared.given.Given.TheVariants as givens
use Rattle.nm_model_plan.specs.TagCommit.{commit_with, tag_commit}

-- what was given is the answers to the renames that are tried, in order; n of all renames are done
abbrev pub HasTried : Base → Base → List Given → Type 0
HasTried index wanted given = given ≡ flat_map note_of (renames_done index wanted given)

-- all renames are done
abbrev pub HasDoneAll : Base → Base → List Given → Type 0
HasDoneAll index wanted given = length (renames_done index wanted given) ≡ length (renames_for index wanted)

-- the file has its new path
abbrev pub move_if : List ℕ → List ℕ → Renamed → List Change
move_if from to answers.Moved = Move from to ∷ []
move_if from to answers.Missing = []
move_if from to answers.Exists = []

-- the move of a file that was renamed
abbrev pub move_given : Given → List Change
move_given (givens.Listed paths) = []
move_given (givens.Read path answer) = []
move_given (givens.Renamed from to answer) = move_if from to answer

-- the commit of the files that were moved, where there are some
abbrev pub move_commit : List Given → List Commit
move_commit given = commit_with (flat_map move_given given)

-- the commits of a command that wants these tags, with what the mail folder gave
abbrev pub tag_commits : Base → Base → List Given → List Commit
tag_commits index wanted given = tag_commit index wanted ++ move_commit given
