-- A file between the two halves of an append. Cited by `append`.
use Rattle.std.specs.Prelude.{◌≡◌, ◌≢◌, ℕ, ◌+◌, List, ◌∷◌, ◌++◌, length, drop}
use Rattle.nm_disk.specs.declared.disk.FileNo.{FileNo}
use Rattle.nm_disk.specs.declared.state.DiskState.{DiskState}
use Rattle.nm_journal.specs.Frame.{framed}
use Rattle.nm_journal.specs.Moments.{LeavesOnly}
use Rattle.nm_journal.specs.Records.{AreBodies, HasRecords, records_of}

-- the records, a closed gate, and after it the frame of one record more
pub record HasStaged (start : ℕ) (bodies : List (List ℕ)) (body bytes : List ℕ) : Type 0 where
  pub fit : AreBodies bodies
  pub gate : ℕ
  pub closed : gate ≢ 1
  pub rest : List ℕ
  pub is : drop start bytes ≡ records_of bodies ++ gate ∷ (framed body ++ rest)

-- whatever a crash leaves of the file has these records, and then a closed gate at this place
pub record EndsAt (state : DiskState) (file : FileNo) (start gate : ℕ) (bodies : List (List ℕ)) : Type 0 where
  pub ends : gate ≡ start + length (records_of bodies)
  pub every : LeavesOnly file (HasRecords start bodies) state

-- the same, with the frame of one record more after the gate
pub record StagedAt (state : DiskState) (file : FileNo) (start gate : ℕ) (bodies : List (List ℕ)) (body : List ℕ) : Type 0 where
  pub ends : gate ≡ start + length (records_of bodies)
  pub every : LeavesOnly file (HasStaged start bodies body) state
