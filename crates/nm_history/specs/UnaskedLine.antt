-- The log of a single command that is refused before the mail folder and the disk are asked, and what the call answers.
-- Cited by `laws` and `nm_top`.
use Rattle.std.specs.Prelude.{ℕ, [], ◌∷◌, false}
use Rattle.nm_log.specs.Replies.{refusal_line, status_of}
use Rattle.nm_log.specs.declared.log.Done.{Done}
use Rattle.nm_log.specs.declared.log.LineLog.{LineLog}
use Rattle.nm_log.specs.declared.outcome.Outcome.{Outcome}

-- The line is the first of lane 0, at the revision before any commit; it was given nothing, and the devices had failed so often.
abbrev pub refused_log : Outcome → ℕ → ℕ → LineLog
refused_log why mail disk = record {
  phase = 0;
  lane = 0;
  line = 1;
  revision = 0;
  status = status_of why;
  outcome = why;
  text = refusal_line why;
  given = [];
  mail_faults = mail;
  disk_faults = disk;
  disk_failed = false;
}

-- the call has the status of the line, which is alone in the log
abbrev pub refused_done : Outcome → ℕ → ℕ → Done
refused_done why mail disk =
    record { status = status_of why; log = record { steps = []; lines = refused_log why mail disk ∷ []; acked = [] } }
