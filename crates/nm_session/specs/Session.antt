-- What a session leaves, from the opening of the index to the last line; and what is where no index is opened.
-- Cited by `plan` and `session`.
use Rattle.std.specs.Prelude.{◌≡◌, ℤ, ◌≤◌, Bool, List, [], IfSome, length}
use Rattle.nm_disk.specs.Observed.{ObservedDisk, bytes_now}
use Rattle.nm_disk.specs.declared.disk.FileNo.TheVariants.{Head}
use Rattle.nm_faults.specs.Faults.{HasRisen}
use Rattle.nm_history.specs.Call.{Devices, Ran}
use Rattle.nm_history.specs.CrashPrefix.{CrashPrefix}
use Rattle.nm_history.specs.OpeningIndex.{IsUnwritten, OpeningIndex}
use Rattle.nm_model_index.specs.declared.base.Base.{Base}
use Rattle.nm_io.specs.Observed.{ObservedSink}
use Rattle.nm_lanes.specs.declared.script.Phase.{Phase}
use Rattle.nm_log.specs.declared.log.SessionLog.{SessionLog}
use Rattle.nm_maildir.specs.Observed.{ObservedMail}
use Rattle.nm_trace.specs.ReservedLog.{HasRoom}
use Rattle.nm_session.specs.Run.{HasRun}
use Rattle.nm_session.specs.Turns.{places_in}
use Rattle.nm_session.specs.declared.plan.Plan.{Plan}
use Rattle.nm_replay.specs.StoredIndex.{HoldsNoIndex, PassesLimit}
use Rattle.nm_replay.specs.declared.open_error.OpenError.{OpenError}
use Rattle.nm_replay.specs.declared.open_error.OpenError.TheVariants as errors

-- The phases were run from the index that the disk held, all of them unless the output failed, and every moment since leaves the commits that were
-- acknowledged.
pub record IsSession (moment : ℤ) (entry : Devices) (phases : List Phase) (session : Bool) (mail : ObservedMail) (disk : ObservedDisk) (out : ObservedSink) (failed : Bool) (log : SessionLog) : Type 0 where
  pub opening : Base
  pub opening_index : OpeningIndex Ran entry.disk disk opening
  pub run : HasRun moment opening entry phases session mail disk.faults out failed log
  pub crash_prefix : CrashPrefix entry.disk disk log.steps log.acked

-- why no index is opened
abbrev pub HasOpenCause : ObservedDisk → ObservedDisk → OpenError → Type 0
HasOpenCause old new errors.DiskFault = HasRisen old.faults new.faults
HasOpenCause old new (errors.BadIndex file at) = (file ≡ Head) × IfSome old.told (λ moments. HoldsNoIndex (bytes_now moments Head) at)
HasOpenCause old new (errors.Limit limit) = IfSome old.told (λ moments. PassesLimit (bytes_now moments Head) limit)
HasOpenCause old new errors.NoMemory = Unit {0}

-- No index was opened: no line was run, nothing was written, and every moment leaves the index that the disk held.
pub record IsUnopened (old_mail new_mail : ObservedMail) (old new : ObservedDisk) (error : OpenError) : Type 0 where
  pub mail : new_mail ≡ old_mail
  pub cause : HasOpenCause old new error
  pub unwritten : IsUnwritten old new
  pub crash_prefix : CrashPrefix old new [] []

-- ---- before the opening

-- places are there for all turns of the phases, and for all lanes
pub record IsPlanned (phases : List Phase) (plan : Plan) : Type 0 where
  pub count : plan.count ≡ length phases
  pub none : plan.lanes.0 ≡ []
  pub spare : 15 ≤ plan.lanes.1
  pub reserved : HasRoom (places_in phases) plan.reserved
