-- The files of a batch as they were found, before it is known which of them are mail; and what is made of each.
-- Cited by `classes`, `files` and `parts`.
use Rattle.std.specs.Prelude.{◌≡◌, ◌⊎◌, ℕ, ◌+◌, ◌-◌, ◌<◌, ◌≤◌, List, [], ◌∷◌, ◌++◌, length, map, take, Option, IfSome, Result, OnErr, OnOk}
use Rattle.std.specs.List.{AllByRecursion, AllZip}
use Rattle.nm_base.specs.declared.facts.Facts.{Facts}
use Rattle.nm_base.specs.Limits.{full_bytes, max_mail_bytes}
use Rattle.nm_maildir.specs.Observed.{HasMailCause, ObservedMail}
use Rattle.nm_maildir.specs.Tree.{Tree, got_of}
use Rattle.nm_maildir.specs.declared.answers.Got.{Got}
use Rattle.nm_maildir.specs.declared.answers.MailError.{MailError}
use Rattle.nm_maildir.specs.declared.given.Given.{Given}
use Rattle.nm_maildir.specs.declared.given.Given.TheVariants as givens
use Rattle.nm_scan.specs.Batches.{IsBatch, IsOpen, len_at_all}
use Rattle.nm_scan.specs.FileReads.{Classifies, NotesReads, Reads, after_reads, arrival, full_answers, read_with}
use Rattle.nm_scan.specs.declared.classes.Classified.{Classified}
use Rattle.nm_scan.specs.declared.files.Lacks.{Lacks}

-- the paths of these files
abbrev pub paths_found : List (List ℕ × Got) → List (List ℕ)
paths_found found = map (λ one. one.0) found

-- a tree that is known says what each read found
abbrev pub AreKnown : Option Tree → List (List ℕ × Got) → Type 0
AreKnown tree found = AllByRecursion (λ one. IfSome tree (λ t. one.1 ≡ got_of t one.0 max_mail_bytes)) found

-- Each of these paths was read, in order, and this was found.
pub record HasFound (old new : ObservedMail) (found : List (List ℕ × Got)) : Type 0 where
  pub told : AreKnown old.tree found
  pub mail : new ≡ after_reads old (paths_found found)

-- One batch of the paths was read, and this was found; these are after it.
pub record HasFoundBatch (old new : ObservedMail) (paths rest : List (List ℕ)) (found : List (List ℕ × Got)) : Type 0 where
  pub paths_are : paths ≡ paths_found found ++ rest
  pub batch : IsBatch old.tree (paths_found found) rest
  pub all : HasFound old new found

-- The reading stopped in a batch: of its paths the first were read, and this was found, and then perhaps more.
pub record StopsFinding (old new : ObservedMail) (paths : List (List ℕ)) (found : List (List ℕ × Got)) : Type 0 where
  pub asked : ℕ
  pub within : asked ≤ length paths
  pub last : (length found ≤ asked) × (asked ≤ full_answers)
  pub front : paths_found found ≡ take (length found) paths
  pub told : AreKnown old.tree found
  pub read : new.reads ≡ read_with old.reads (take asked paths)
  pub tree : new.tree ≡ old.tree
  pub is_open : IsOpen old.tree (paths_found found)

-- what a batch lacks at first
abbrev pub lacks_all : Lacks
lacks_all = record { answers = full_answers; bytes = full_bytes }

-- the batch has no path yet and lacks all bytes, or it was open before the last of its paths
abbrev pub IsBegun : Option Tree → List (List ℕ) → ℕ → Type 0
IsBegun tree read bytes = ((read ≡ []) × (bytes ≡ full_bytes)) ⊎ ((before : List (List ℕ)) × (last : List ℕ) × (read ≡ before ++ last ∷ []) × IsOpen tree before)

-- A batch goes on: the first of the paths were read, these are left, this was found, and so much lacks until it is full.
pub record InBatch (old now : ObservedMail) (paths rest : List (List ℕ)) (found : List (List ℕ × Got)) (lacks : Lacks) : Type 0 where
  pub paths_are : paths ≡ paths_found found ++ rest
  pub all : HasFound old now found
  pub answers_left : lacks.answers + length found ≡ full_answers
  pub bytes_left : IfSome old.tree (λ t. lacks.bytes ≡ full_bytes - len_at_all t (paths_found found))
  pub begun : IsBegun old.tree (paths_found found) lacks.bytes

-- nothing more belongs to the batch: no path is left, or it is full
abbrev pub IsClosed : List (List ℕ) → Lacks → Type 0
IsClosed rest lacks = (rest ≡ []) ⊎ ((lacks.answers ≡ 0) ⊎ (lacks.bytes ≡ 0))

-- The reading of a batch goes on, or has stopped with this error, of which the count of faults tells.
pub record IsReading (old now : ObservedMail) (paths rest : List (List ℕ)) (found : List (List ℕ × Got)) (lacks : Lacks) (read : Result (Unit {0}) MailError) : Type 0 where
  pub goes_on : OnOk read (InBatch old now paths rest found lacks)
  pub stopped : OnErr read (StopsFinding old now paths found)
  pub cause : HasMailCause old.faults now.faults read

-- A part of a batch was read, whatever was read of it before.
pub record ReadsOn (old new : ObservedMail) (rest left : List (List ℕ)) (lacks less : Lacks) (found : List (List ℕ × Got)) (before after : Result (Unit {0}) MailError) : Type 0 where
  pub reads : (first : ObservedMail) (paths : List (List ℕ)) (so_far : List (List ℕ × Got)) → IsReading first old paths rest so_far lacks before
      → IsReading first new paths left (so_far ++ found) less after

-- what is made of a file that was found
pub record IsClassified (found : List ℕ × Got) (classified : Classified) : Type 0 where
  pub path : classified.path ≡ found.0
  pub classes : Classifies found.1 (classified.answer, classified.facts)

-- One batch of the paths was read, and each of its files is listed.
pub record HasClassifiedBatch (old new : ObservedMail) (paths rest : List (List ℕ)) (all : List Classified) : Type 0 where
  pub found : List (List ℕ × Got)
  pub batch : HasFoundBatch old new paths rest found
  pub each : AllZip IsClassified found all

-- The reading stopped in a batch, or memory did; of what was found the first are reported.
pub record StopsClassifying (old new : ObservedMail) (paths : List (List ℕ)) (all : List Classified) : Type 0 where
  pub found : List (List ℕ × Got)
  pub stops : StopsFinding old new paths found
  pub each : AllZip IsClassified found all

-- what is given of it
abbrev pub given_of : Classified → Given
given_of classified = givens.Read classified.path classified.answer

-- the mail that it is, if it is one
abbrev pub mail_found : Classified → List (List ℕ × Facts)
mail_found classified = arrival classified.path classified.facts

-- The first of these are noted after what was noted before, and another is not.
pub record HasNotedFront (all : List Classified) (old new : List Given) : Type 0 where
  pub front : List Classified
  pub next : Classified
  pub rest : List Classified
  pub all_are : all ≡ front ++ next ∷ rest
  pub given_is : new ≡ old ++ map given_of front

-- All of these files are noted after what was noted before, and these of them are mail.
pub record HasNotedAll (found : List (List ℕ × Got)) (old new : List Given) (added : List (List ℕ × Facts)) : Type 0 where
  pub given : List Given
  pub given_is : new ≡ old ++ given
  pub reading : (tree : Option Tree) → AreKnown tree found → Reads tree given (paths_found found) added

-- The first of these files are noted after what was noted before, or none of them, and never all.
pub record HasNotedSome (found : List (List ℕ × Got)) (old new : List Given) : Type 0 where
  pub given : List Given
  pub given_is : new ≡ old ++ given
  pub answered : ℕ
  pub some : (answered ≡ 0) ⊎ (answered < length found)
  pub reading : (tree : Option Tree) → AreKnown tree found → NotesReads tree given (take answered (paths_found found))
