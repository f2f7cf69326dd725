-- What a single command leaves, whose line is alone in its phase. Cited by `command`.
use Rattle.std.specs.Prelude.{ℕ, ℤ}
use Rattle.nm_disk.specs.Observed.{ObservedDisk}
use Rattle.nm_history.specs.LineResult.{Place}
use Rattle.nm_lanes.specs.declared.script.ScriptLine.{ScriptLine}
use Rattle.nm_line.specs.Line.{place_at}
use Rattle.nm_maildir.specs.Observed.{ObservedMail}
use Rattle.nm_phase.specs.LineLog.{IsNoted}
use Rattle.nm_phase.specs.Taken.{IsBarrierNoted}
use Rattle.nm_trace.specs.declared.reserved_log.ReservedLog.{ReservedLog}
use Rattle.nm_writer.specs.Writer.{WriterState}

-- The line was run and noted in the first phase, and then the phase ended.
pub record HasRunAlone (moment : ℤ) (old : Place) (line : ScriptLine) (before after : ReservedLog) (writer : WriterState) (mail : ObservedMail) (disk : ObservedDisk) : Type 0 where
  pub left : ℕ
  pub between : ReservedLog
  pub noted : IsNoted moment 0 old line before between (place_at writer mail disk left)
  pub ended : IsBarrierNoted between after
