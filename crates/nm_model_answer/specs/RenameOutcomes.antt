-- The files whose names follow their tags: which renames are tried, what becomes of each, and the reply to a command that sets tags.
--   reply := ("not renamed: " ("missing" | "exists" | "long") " " PATH LF)*
-- Cited by `nm_writer`, `nm_log`, `nm_session` and others.
use Rattle.std.specs.Prelude.{ℕ, not, List, [], ◌∷◌, ◌++◌, filter, Option, None, Some, codes, if◌then◌else◌}
use Rattle.std.specs.Cmp.Lexicographic.{pointwise}
use Rattle.std.specs.List.{flat_map}
use Rattle.nm_base.specs.Order.{same_text}
use Rattle.nm_base.specs.declared.facts.Facts.{Facts}
use Rattle.nm_commit.specs.Files.{has_path, with_moved}
use Rattle.nm_flags.specs.Renames.{renames}
use Rattle.nm_flags.specs.declared.renames.Rename.{Rename}
use Rattle.nm_model_index.specs.Index.{live_ids}
use Rattle.nm_model_index.specs.declared.base.Base.{Base}
use Rattle.nm_maildir.specs.declared.answers.Renamed.{Renamed}
use Rattle.nm_maildir.specs.declared.answers.Renamed.TheVariants as answers
use Rattle.nm_maildir.specs.declared.given.Given.{Given}
use Rattle.nm_maildir.specs.declared.given.Given.TheVariants as givens
use Rattle.nm_model_answer.specs.View.{message_paths, tags_of}
use Rattle.nm_model_answer.specs.declared.sync_report.SyncReport.{SyncReport}
use Rattle.nm_model_answer.specs.declared.sync_report.Unmoved.{Unmoved}
use Rattle.nm_model_answer.specs.declared.sync_report.Unmoved.TheVariants as unmoved

-- the messages whose tags aren't those that are wanted, by their numbers
abbrev pub changed_ids : Base → Base → List (List ℕ)
changed_ids index wanted = filter (λ id. not (pointwise same_text (tags_of index id) (tags_of wanted id))) (live_ids index.files index.entries)

-- the files of these messages that have to be renamed, by numbers and then in order of arrival
abbrev pub renames_for : Base → Base → List Rename
renames_for index wanted = flat_map (λ id. renames (tags_of wanted id) (message_paths index.files id)) (changed_ids index wanted)

-- where a rename goes: the new path is too long, or a path of the index, or neither, and then the rename is tried
pub data Target : Type 0 where
  IsLong : Target
  IsTaken : Target
  IsFree : List ℕ → Target

-- where a rename to this path goes, if there is one that isn't too long
abbrev pub target_of : List (List ℕ × Facts) → Option (List ℕ) → Target
target_of files None = IsLong
target_of files (Some path) = if has_path files path then IsTaken else IsFree path

-- what became of a rename: it wasn't tried, as its target was too long or taken; or it was, and this is the answer
pub data Outcome : Type 0 where
  WasLong : List ℕ → Outcome
  WasTaken : List ℕ → Outcome
  WasTried : List ℕ → List ℕ → Renamed → Outcome

-- the files of the index once the move is made, where the answer is that the file was moved
abbrev pub files_moved : List (List ℕ × Facts) → List ℕ → List ℕ → Renamed → List (List ℕ × Facts)
files_moved files from to answers.Moved = with_moved files from to
files_moved files from to answers.Missing = files
files_moved files from to answers.Exists = files

-- What became of the renames, by the answers to those that were tried: each looks at the index as the moves before it leave it.
-- Where the answers end, the next rename that is to be tried isn't done, nor is any after it.
abbrev pub outcomes : List (List ℕ × Facts) → List Rename → List Renamed → List Outcome
outcomes files [] told = []
outcomes files (rename ∷ more) told =
    elim (target_of files rename.to) [
      | IsLong ↦ WasLong rename.from ∷ outcomes files more told
      | IsTaken ↦ WasTaken rename.from ∷ outcomes files more told
      | IsFree to ↦ elim told [ [] ↦ [] | answer ∷ others ↦ WasTried rename.from to answer ∷ outcomes (files_moved files rename.from to answer) more others ]
    ]

-- the answer to a rename, as it was noted
abbrev pub answer_given : Given → List Renamed
answer_given (givens.Listed paths) = []
answer_given (givens.Read path answer) = []
answer_given (givens.Renamed from to answer) = answer ∷ []

-- what became of the renames that setting these tags asks for, by what the mail folder gave
abbrev pub renames_done : Base → Base → List Given → List Outcome
renames_done index wanted given = outcomes index.files (renames_for index wanted) (flat_map answer_given given)

-- what is noted of a rename that was tried
abbrev pub note_of : Outcome → List Given
note_of (WasLong path) = []
note_of (WasTaken path) = []
note_of (WasTried from to answer) = givens.Renamed from to answer ∷ []

-- why a file that was tried keeps its name
abbrev pub unmoved_by : List ℕ → Renamed → List (List ℕ × Unmoved)
unmoved_by path answers.Moved = []
unmoved_by path answers.Missing = (path, unmoved.Missing) ∷ []
unmoved_by path answers.Exists = (path, unmoved.Exists) ∷ []

-- why a file keeps its name
abbrev pub unmoved_in : Outcome → List (List ℕ × Unmoved)
unmoved_in (WasLong path) = (path, unmoved.Long) ∷ []
unmoved_in (WasTaken path) = (path, unmoved.Exists) ∷ []
unmoved_in (WasTried from to answer) = unmoved_by from answer

-- what is reported of the files that keep their names
abbrev pub sync_report : Base → Base → List Given → SyncReport
sync_report index wanted given = record { unmoved = flat_map unmoved_in (renames_done index wanted given) }

-- the word for why a file keeps its name
abbrev pub unmoved_name : Unmoved → List ℕ
unmoved_name unmoved.Missing = codes "missing"
unmoved_name unmoved.Exists = codes "exists"
unmoved_name unmoved.Long = codes "long"

-- the line on a file that keeps its name
abbrev pub unmoved_line : List ℕ × Unmoved → List ℕ
unmoved_line file = codes "not renamed: " ++ unmoved_name file.1 ++ codes " " ++ file.0 ++ codes "\n"

-- the reply: a line for each file that keeps its name, and nothing where there is none
abbrev pub sync_text : SyncReport → List ℕ
sync_text report = flat_map unmoved_line report.unmoved
