-- What was run of the phases of a session. Cited by `phases` and `session`.
use Rattle.std.specs.Prelude.{◌≡◌, ℕ, ℤ, ◌≤◌, Bool, List, length, take}
use Rattle.nm_history.specs.Call.{Devices}
use Rattle.nm_history.specs.LineResult.{Place}
use Rattle.nm_history.specs.PrintedOut.{GainsReplies}
use Rattle.nm_model_index.specs.declared.base.Base.{Base}
use Rattle.nm_io.specs.Observed.{ObservedSink}
use Rattle.nm_lanes.specs.declared.script.Phase.{Phase}
use Rattle.nm_maildir.specs.Observed.{ObservedMail}
use Rattle.nm_session.specs.Loop.{HasNoted, HasRunSome}
use Rattle.nm_session.specs.Turns.{planned_from}
use Rattle.nm_trace.specs.declared.reserved_log.ReservedLog.{ReservedLog}

-- The first of these phases were run and noted, all of them or, where the output failed, up to the one whose replies failed.
pub record HasRunPhases (moment : ℤ) (session failed : Bool) (opening : Base) (mail : ObservedMail) (disk_faults : ℕ) (phases : List Phase) (reserved : ReservedLog) (place : Place)
    (old new : ObservedSink) : Type 0 where
  pub count : ℕ
  pub within : count ≤ length phases
  pub noted : HasNoted (planned_from 0 (take count phases)) reserved place
  pub ran : (entry : Devices) → entry.mail ≡ mail → entry.disk.faults ≡ disk_faults → HasRunSome moment opening entry (planned_from 0 (take count phases)) reserved place
  pub out : GainsReplies failed session phases count reserved.logs.0 old new
