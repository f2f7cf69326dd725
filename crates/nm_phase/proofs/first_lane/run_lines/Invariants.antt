use Rattle.std.proofs.Common.{◌≤◌, drop, length, map, take}
use Rattle.nm_base.specs.Limits.{max_commits}
use Rattle.nm_disk.specs.Observed.{ObservedDisk}
use Rattle.nm_history.specs.Call.{lines_of_lane}
use Rattle.nm_model_index.specs.declared.base.Base.{Base}
use Rattle.nm_line.specs.Line.{IsEven, place_at}
use Rattle.nm_phase.specs.Taken.{AreTaken}
use Rattle.nm_line.specs.Desk.{KeepsLoans, Stands}
use Rattle.nm_trace.specs.ReservedLog.{HasSpare}
use Rattle.nm_phase.specs.Turns.{planned_line}
use Rattle.nm_writer.specs.Durable.{IsDurable}
use Rattle.nm_phase.proofs.first_lane.run_lines.Given as goal

-- the lines so far were run and noted, and for the others there are places
abbrev pub invariant-lines : goal.invariant-lines
invariant-lines g l =
    let mail = g.M.Maildir in
    let disk = g.D.Disk in
    let old = place_at l.initial.desk.writer.now (mail.observed l.initial.desk.mail.now) (disk.observed l.initial.desk.disk.now) l.initial.left in
    let new = place_at l.desk.writer.now (mail.observed l.desk.mail.now) (disk.observed l.desk.disk.now) l.left in
    record {
      taken : AreTaken l.crew.setting.now.moment (map (planned_line l.phase) (lines_of_lane (take l.line-index l.lines) 0)) old l.initial.reserved l.reserved new;
      spare : HasSpare (length (lines_of_lane (drop l.line-index l.lines) 0)) (length l.desk.writer.now.begun) l.reserved;
      even : IsEven l.desk.writer.now;
      few : length l.desk.writer.now.begun ≤ max_commits;
      stands : Stands l.desk.writer.now (disk.observed l.desk.disk.now);
      durable : (entry : ObservedDisk) (opening : Base) → IsDurable entry opening (disk.observed l.initial.desk.disk.now) l.initial.desk.writer.now → IsDurable entry opening (disk.observed l.desk.disk.now) l.desk.writer.now;
      loans : KeepsLoans l.initial.desk l.desk;
    }
