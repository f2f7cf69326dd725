-- How a `new` reads the files that the index lacks: in batches, one after the other. A batch is closed at 256 answers, or once the
-- bytes that it found reach 67,108,864, or where no file is left.
-- Cited by `batch_reader` and `nm_writer`.
use Rattle.std.specs.Prelude.{◌≡◌, ◌⊎◌, ℕ, ◌+◌, ◌<◌, ◌≤◌, List, [], ◌∷◌, ◌++◌, length, take, Option, IfSome}
use Rattle.nm_base.specs.Limits.{full_bytes, max_mail_bytes}
use Rattle.nm_base.specs.declared.facts.Facts.{Facts}
use Rattle.nm_maildir.specs.Observed.{ObservedMail}
use Rattle.nm_maildir.specs.Tree.{Tree, got_of}
use Rattle.nm_maildir.specs.declared.answers.Got.{Got}
use Rattle.nm_maildir.specs.declared.answers.Got.TheVariants as got
use Rattle.nm_maildir.specs.declared.given.Given.{Given}
use Rattle.nm_model_plan.specs.Plan.{all_added}
use Rattle.nm_scan.specs.FileReads.{HasRead, HasReadAll, NotesReads, Reads, full_answers}

-- how many bytes a read finds
abbrev pub found_len : Got → ℕ
found_len (got.Found bytes) = length bytes
found_len got.Missing = 0
found_len got.TooLong = 0

-- how many bytes are found at a path
abbrev pub len_at : Tree → List ℕ → ℕ
len_at tree path = found_len (got_of tree path max_mail_bytes)

-- how many are found at all of these
abbrev pub len_at_all : Tree → List (List ℕ) → ℕ
len_at_all tree [] = 0
len_at_all tree (path ∷ paths) = len_at tree path + len_at_all tree paths

-- A batch that has read these paths is open.
pub record IsOpen (tree : Option Tree) (read : List (List ℕ)) : Type 0 where
  pub few : length read < full_answers
  pub small : IfSome tree (λ t. len_at_all t read < full_bytes)

-- one that has read these is full
abbrev pub IsFull : Option Tree → List (List ℕ) → Type 0
IsFull tree read = (full_answers ≤ length read) ⊎ IfSome tree (λ t. full_bytes ≤ len_at_all t read)

-- These paths are one batch, and those are after it: it was open before the last of its paths, and with it is full, or none is left.
pub record IsBatch (tree : Option Tree) (read rest : List (List ℕ)) : Type 0 where
  pub before : List (List ℕ)
  pub last : List ℕ
  pub read_are : read ≡ before ++ last ∷ []
  pub was_open : IsOpen tree before
  pub closed : (rest ≡ []) ⊎ IsFull tree read

-- The first of the paths were read in batches, one after the other, each noted; these mails were found in each, and these paths are left.
abbrev pub ReadsBatches : Option Tree → List Given → List (List ℕ) → List (List (List ℕ × Facts)) → List (List ℕ) → Type 0
ReadsBatches tree given paths [] left = (given ≡ []) × (left ≡ paths)
ReadsBatches tree given paths (added ∷ more) left =
    (read rest : List (List ℕ)) × (answers others : List Given) × (paths ≡ read ++ rest) × (given ≡ answers ++ others)
    × IsBatch tree read rest × Reads tree answers read added × ReadsBatches tree others rest more left

-- Of a batch that is still open the first paths were read, which is noted, or none.
pub record IsUnfinished (tree : Option Tree) (given : List Given) (paths : List (List ℕ)) : Type 0 where
  pub answered : ℕ
  pub notes : NotesReads tree given (take answered paths)
  pub is_open : IsOpen tree (take answered paths)

-- One batch of the paths was read, which is noted after what was noted before; these are after it, and these mails were found.
pub record HasReadBatch (old new : ObservedMail) (old_given new_given : List Given) (paths rest : List (List ℕ)) (added : List (List ℕ × Facts)) : Type 0 where
  pub read : List (List ℕ)
  pub paths_are : paths ≡ read ++ rest
  pub batch : IsBatch old.tree read rest
  pub all : HasReadAll old new old_given new_given read added

-- The reading stopped in a batch: of its paths the first were read, no more than a batch has, which is noted after what was noted before.
pub record StopsInBatch (old new : ObservedMail) (old_given new_given : List Given) (paths : List (List ℕ)) : Type 0 where
  pub first : HasRead old new old_given new_given paths
  pub few : first.reading.asked ≤ full_answers
  pub is_open : IsOpen old.tree (take first.reading.answered paths)

-- The first of the paths were read in batches, and nothing else was asked; that is noted after what was noted before.
pub record HasReadBatches (old new : ObservedMail) (old_given new_given : List Given) (paths : List (List ℕ)) (batches : List (List (List ℕ × Facts)))
    (left : List (List ℕ)) : Type 0 where
  pub read : List (List ℕ)
  pub paths_are : paths ≡ read ++ left
  pub all : HasReadAll old new old_given new_given read (all_added batches)
  pub reading : ReadsBatches old.tree all.given paths batches left

-- The same, and of the next batch the first paths were read perhaps, where it stopped: no more than one batch has.
pub record HasReadSome (old new : ObservedMail) (old_given new_given : List Given) (paths : List (List ℕ)) (batches : List (List (List ℕ × Facts)))
    (left : List (List ℕ)) : Type 0 where
  pub answers : List Given
  pub further : List Given
  pub given_is : new_given ≡ old_given ++ (answers ++ further)
  pub reading : ReadsBatches old.tree answers paths batches left
  pub unfinished : IsUnfinished old.tree further left
  pub first : HasRead old new old_given new_given paths
  pub few : first.reading.asked + length left ≤ length paths + full_answers
