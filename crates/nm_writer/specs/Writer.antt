-- A writer, and what it means that it is on a disk. Cited by `commit`, `new`, `nm_session` and others.
use Rattle.std.specs.Prelude.{◌≡◌, ℕ, List, Option}
use Rattle.nm_commit.specs.declared.change.Commit.{Commit}
use Rattle.nm_disk.specs.declared.disk.FileNo.TheVariants.{Head}
use Rattle.nm_disk.specs.declared.state.DiskState.{DiskState}
use Rattle.nm_model_index.specs.declared.base.Base.{Base}
use Rattle.nm_journal.specs.Journal.{JournalState, StandsOn}
use Rattle.nm_publish.specs.Published.{Published}
use Rattle.nm_replay.specs.StoredIndex.{HasCommits}

-- the journal, what was published since the opening, the index after it, which is shown, the commits begun, the clocks of those
-- acknowledged, and the faults of the disk when it closed
pub record WriterState : Type 0 where
  pub journal : JournalState
  pub published : Published
  pub shown : Base
  pub begun : List Commit
  pub acked : List ℕ
  pub closed : Option ℕ

-- whatever a crash leaves has records of these commits, and the index shown is the one after them
pub record StandsOnIndex (state : DiskState) (writer : WriterState) : Type 0 where
  pub bodies : List (List ℕ)
  pub commits : List Commit
  pub file : writer.journal.file ≡ Head
  pub start : writer.journal.start ≡ 0
  pub journal : StandsOn state writer.journal bodies
  pub holds : HasCommits bodies commits writer.shown
