-- A journal on a disk, and what a call makes of it. Cited by `append`, `journal`, `test_index` and others.
use Rattle.std.specs.Prelude.{◌≡◌, ◌⊎◌, ℕ, ◌+◌, Bool, true, false, List, [], ◌∷◌, ◌++◌, length, Option, IfSome}
use Rattle.nm_disk.specs.declared.disk.FileNo.{FileNo}
use Rattle.nm_disk.specs.declared.state.DiskState.{DiskState}
use Rattle.nm_disk.specs.Observed.{Moments}
use Rattle.nm_journal.specs.declared.journal.JournalError.{JournalError}
use Rattle.nm_journal.specs.declared.journal.JournalError.TheVariants.{BadIndex, DiskFault, NoMemory}
use Rattle.nm_journal.specs.Moments.{LeavesOnly}
use Rattle.nm_journal.specs.Records.{HasRecords, records_of}

-- the file of a journal, where its records begin, where its closed gate is, how many records there are, and whether it has failed
pub record JournalState : Type 0 where
  pub file : FileNo
  pub start : ℕ
  pub gate : ℕ
  pub count : ℕ
  pub failed : Bool

-- the number of a record, from 1, the moment at which it was acknowledged, and its body
pub record ReceiptState : Type 0 where
  pub number : ℕ
  pub clock : ℕ
  pub body : List ℕ

-- The journal is on the disk with these records: whatever a crash leaves has them, and then a closed gate.
pub record StandsOn (state : DiskState) (journal : JournalState) (bodies : List (List ℕ)) : Type 0 where
  pub gate : journal.gate ≡ journal.start + length (records_of bodies)
  pub count : journal.count ≡ length bodies
  pub every : LeavesOnly journal.file (HasRecords journal.start bodies) state

-- the records from before, or these and the new one
abbrev pub IsBeforeOrAfter : ℕ → List (List ℕ) → List ℕ → List ℕ → Type 0
IsBeforeOrAfter start bodies body bytes = HasRecords start bodies bytes ⊎ HasRecords start (bodies ++ body ∷ []) bytes

-- the journal with one record more
abbrev pub with_record : JournalState → List ℕ → JournalState
with_record journal body = record journal { gate = journal.gate + 5 + length body; count = journal.count + 1 }

-- it is so of the moments, where they are known at the beginning and at the end
abbrev pub IfKnown : Option Moments → Option Moments → (Moments → Moments → Type 0) → Type 0
IfKnown old new holds = IfSome old (λ old. IfSome new (λ new. holds old new))

-- the error is a fault of the disk
abbrev pub is_disk_fault : JournalError → Bool
is_disk_fault DiskFault = true
is_disk_fault (BadIndex file at) = false
is_disk_fault NoMemory = false
