-- What a command that sets tags leaves of the writer. Cited by `tag`.
use Rattle.std.specs.Prelude.{◌≡◌, ◌⊎◌, ℕ, List, [], ◌++◌, Some, length, Result, Ok, Err}
use Rattle.std.specs.List.{flat_map}
use Rattle.nm_base.specs.declared.facts.Facts.{Facts}
use Rattle.nm_commit.specs.declared.change.Commit.{Commit}
use Rattle.nm_flags.specs.declared.renames.Rename.{Rename}
use Rattle.nm_model_index.specs.declared.base.Base.{Base}
use Rattle.nm_maildir.specs.declared.given.Given.{Given}
use Rattle.nm_model_answer.specs.RenameOutcomes.{sync_report, unmoved_in}
use Rattle.nm_model_plan.specs.Moves.{HasDoneAll, HasTried, move_commit, tag_commits}
use Rattle.nm_model_plan.specs.TagCommit.{tag_commit}
use Rattle.nm_model_answer.specs.declared.sync_report.SyncReport.{SyncReport}
use Rattle.nm_sync.specs.Renamed.{outcomes_given}
use Rattle.nm_writer.specs.Writer.{WriterState}
use Rattle.nm_writer.specs.AfterCommit.{FailsWithin, HasCommitted, IsAfterCommits, PassesWithin, StopsWithin, with_commits}
use Rattle.nm_writer.specs.declared.write_error.WriteError.{WriteError}
use Rattle.nm_writer.specs.declared.write_error.WriteError.TheVariants as errors

-- these commits are made, or what refuses one leaves those before it
pub record MakesOrRefuses (old : WriterState) (due : List Commit) (faults : ℕ) (new : WriterState) : Type 0 where
  pub outcome : Result (Unit {0}) WriteError
  pub after : IsAfterCommits old due faults outcome new

-- What the renames leave, and the commit of the moves after them. Where the folder fails in a rename, or as the names are synced, the
-- commit of the moves so far is made where nothing refuses it.
abbrev pub IsAfterRenames : List (List ℕ × Facts) → List Rename → List Given → WriterState → ℕ → Result SyncReport WriteError → WriterState → Type 0
IsAfterRenames files plan given old faults (Ok report) new =
    (length (outcomes_given files plan given) ≡ length plan) × HasCommitted old (move_commit given) new × (report.unmoved ≡ flat_map unmoved_in (outcomes_given files plan given))
IsAfterRenames files plan given old faults (Err errors.MailFault) new = MakesOrRefuses old (move_commit given) faults new
IsAfterRenames files plan given old faults (Err errors.DiskFault) new = FailsWithin old (move_commit given) faults new
IsAfterRenames files plan given old faults (Err (errors.Closed fault)) new = ⊥
IsAfterRenames files plan given old faults (Err (errors.Limit limit)) new = PassesWithin old (move_commit given) limit new
IsAfterRenames files plan given old faults (Err errors.NoMemory) new = StopsWithin old (move_commit given) new

-- What a command that wants these tags leaves, the folder being asked as was noted. The commit of tags is made, all renames are done, and
-- the commit of the moves is made; or by its error: the folder failed in a rename or as the names were synced, and the tags stay, and the
-- moves made so far where nothing refuses their commit; or one of the commits failed on the disk or would pass a limit; it may be out of memory anywhere.
abbrev pub IsAfterTags : Base → List Given → WriterState → ℕ → Result SyncReport WriteError → WriterState → Type 0
IsAfterTags wanted given old faults (Ok report) new =
    HasTried old.shown wanted given × HasDoneAll old.shown wanted given × HasCommitted old (tag_commits old.shown wanted given) new × (report ≡ sync_report old.shown wanted given)
IsAfterTags wanted given old faults (Err errors.MailFault) new =
    HasTried old.shown wanted given
    × ((mid : WriterState) × HasCommitted old (tag_commit old.shown wanted) mid × MakesOrRefuses mid (move_commit given) faults new)
IsAfterTags wanted given old faults (Err errors.DiskFault) new = HasTried old.shown wanted given × FailsWithin old (tag_commits old.shown wanted given) faults new
IsAfterTags wanted given old faults (Err (errors.Closed fault)) new = (old.closed ≡ Some fault) × (given ≡ []) × (new ≡ old)
IsAfterTags wanted given old faults (Err (errors.Limit limit)) new = HasTried old.shown wanted given × PassesWithin old (tag_commits old.shown wanted given) limit new
IsAfterTags wanted given old faults (Err errors.NoMemory) new = HasTried old.shown wanted given × StopsWithin old (tag_commits old.shown wanted given) new

-- No rename was asked of the folder before the tags were set: nothing was asked, or what was published since begins with the commit of the
-- tags.
abbrev pub SetsTagsFirst : Base → List Given → WriterState → WriterState → Type 0
SetsTagsFirst wanted given old new =
    (given ≡ []) ⊎ ((moves : List Commit) × (new.published ≡ with_commits old.published (tag_commit old.shown wanted ++ moves)))
