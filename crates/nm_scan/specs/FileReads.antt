-- What is read of a mail folder: what each file holds, and what is noted of the answers.
-- Cited by `batch_reader` and `nm_writer`.
use Rattle.std.specs.Prelude.{◌≡◌, ℕ, ◌+◌, ◌≤◌, List, [], ◌∷◌, ◌++◌, length, map, take, Option, Some, None, IfSome, is_some, if◌then◌else◌}
use Rattle.std.specs.List.{flat_map, AllByRecursion}
use Rattle.std.specs.Option.{option_map}
use Rattle.nm_base.specs.declared.facts.Facts.{Facts}
use Rattle.nm_base.specs.declared.refusals.Skip.{Skip}
use Rattle.nm_base.specs.Limits.{IsDate, max_mail_bytes}
use Rattle.nm_model_answer.specs.NewText.{mail_at, skip_at}
use Rattle.nm_commit.specs.Files.{paths_of}
use Rattle.nm_extract.specs.Mail.{facts_of}
use Rattle.nm_maildir.specs.Tree.{Tree, got_of}
use Rattle.nm_maildir.specs.declared.answers.Got.{Got}
use Rattle.nm_maildir.specs.declared.answers.Got.TheVariants as got
use Rattle.nm_maildir.specs.declared.given.Given.{Given}
use Rattle.nm_maildir.specs.declared.given.Given.TheVariants as givens
use Rattle.nm_maildir.specs.declared.given.ReadAnswer.{ReadAnswer}
use Rattle.nm_maildir.specs.declared.given.ReadAnswer.TheVariants as answers
use Rattle.nm_maildir.specs.Observed.{ObservedMail}

-- the answers that close a batch
abbrev pub full_answers : ℕ
full_answers = 256

-- what a read says of a file
abbrev pub answer_of : Got → ReadAnswer
answer_of (got.Found bytes) = if is_some (facts_of bytes) then answers.Mail else answers.NotMail
answer_of got.Missing = answers.Missing
answer_of got.TooLong = answers.TooLong

-- the mail that is found there, if it is one
abbrev pub arrival : List ℕ → Option Facts → List (List ℕ × Facts)
arrival path None = []
arrival path (Some facts) = (path, facts) ∷ []

-- the mail that a read finds, if it finds one
abbrev pub arrival_of : List ℕ → Got → List (List ℕ × Facts)
arrival_of path (got.Found bytes) = arrival path (facts_of bytes)
arrival_of path got.Missing = []
arrival_of path got.TooLong = []

abbrev pub answer_at : Tree → List ℕ → ReadAnswer
answer_at tree path = answer_of (got_of tree path max_mail_bytes)

abbrev pub arrival_at : Tree → List ℕ → List (List ℕ × Facts)
arrival_at tree path = arrival_of path (got_of tree path max_mail_bytes)

-- what the tree answers to reads of these paths
abbrev pub answers_at : Tree → List (List ℕ) → List (List ℕ × ReadAnswer)
answers_at tree paths = map (λ path. (path, answer_at tree path)) paths

-- a path and the answer to its read, as it is noted
abbrev pub read_of : List ℕ × ReadAnswer → Given
read_of read = givens.Read read.0 read.1

-- the path of a read that found mail
abbrev pub mail_in : List ℕ × ReadAnswer → List (List ℕ)
mail_in read = mail_at read.0 read.1

-- why a file that was read is passed over
abbrev pub skip_in : List ℕ × ReadAnswer → List (List ℕ × Skip)
skip_in read = skip_at read.0 read.1

-- the paths read so far, and these
abbrev pub read_with : Option (List (List ℕ)) → List (List ℕ) → Option (List (List ℕ))
read_with reads paths = option_map (λ before. before ++ paths) reads

-- the mail folder after these paths were read in it, where nothing failed
abbrev pub after_reads : ObservedMail → List (List ℕ) → ObservedMail
after_reads mail paths = record { tree = mail.tree; reads = read_with mail.reads paths; faults = mail.faults }

-- Each path was read, in order, and its answer is noted; a tree that is known says which answers these are.
pub record NotesReads (tree : Option Tree) (given : List Given) (paths : List (List ℕ)) : Type 0 where
  pub reads : List (List ℕ × ReadAnswer)
  pub given_is : given ≡ map read_of reads
  pub each : map (λ read. read.0) reads ≡ paths
  pub told : IfSome tree (λ t. reads ≡ answers_at t paths)

-- Each path was read, and the arrivals are those that were found to be mail.
pub record Reads (tree : Option Tree) (given : List Given) (paths : List (List ℕ)) (added : List (List ℕ × Facts)) : Type 0 where
  pub notes : NotesReads tree given paths
  pub mails : paths_of added ≡ flat_map mail_in notes.reads
  pub dated : AllByRecursion (λ arrival. IsDate arrival.1.date) added
  pub told : IfSome tree (λ t. added ≡ flat_map (arrival_at t) paths)

-- Of the paths the first were read, in order. Each answer is noted, but for those of the last batch where the reading stopped in it.
pub record ReadsFirst (old new : ObservedMail) (given : List Given) (paths : List (List ℕ)) : Type 0 where
  pub answered : ℕ
  pub asked : ℕ
  pub within : asked ≤ length paths
  pub last : (answered ≤ asked) × (asked ≤ answered + full_answers)
  pub notes : NotesReads old.tree given (take answered paths)
  pub read : new.reads ≡ read_with old.reads (take asked paths)

-- the facts that a read found
abbrev pub found_in : Got → Option Facts
found_in (got.Found bytes) = facts_of bytes
found_in got.Missing = None
found_in got.TooLong = None

-- what is made of a read
pub record Classifies (got : Got) (classified : ReadAnswer × Option Facts) : Type 0 where
  pub answer : classified.0 ≡ answer_of got
  pub facts : classified.1 ≡ found_in got
  pub dated : IfSome classified.1 (λ facts. IsDate facts.date)

-- A read that is not noted: the path was asked for, or not even that.
pub record AsksOnce (old new : ObservedMail) (path : List ℕ) : Type 0 where
  pub asked : ℕ
  pub once : asked ≤ 1
  pub read : new.reads ≡ read_with old.reads (take asked (path ∷ []))
  pub tree : new.tree ≡ old.tree

-- Of the paths the first were read, and that is noted after what was noted before.
pub record HasRead (old new : ObservedMail) (old_given new_given : List Given) (paths : List (List ℕ)) : Type 0 where
  pub given : List Given
  pub given_is : new_given ≡ old_given ++ given
  pub reading : ReadsFirst old new given paths
  pub tree : new.tree ≡ old.tree

-- All the paths were read, and these arrivals were found.
pub record HasReadAll (old new : ObservedMail) (old_given new_given : List Given) (paths : List (List ℕ)) (added : List (List ℕ × Facts)) : Type 0 where
  pub given : List Given
  pub given_is : new_given ≡ old_given ++ given
  pub reading : Reads old.tree given paths added
  pub mail : new ≡ after_reads old paths
