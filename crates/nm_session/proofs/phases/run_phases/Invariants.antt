use Rattle.std.proofs.Common.{drop, length, take, ◌≡◌}
use Rattle.std.specs.List.{All}
use Rattle.nm_disk.specs.Observed.{ObservedDisk}
use Rattle.nm_history.specs.Call.{Devices}
use Rattle.nm_history.specs.PrintedOut.{HandsOnReplies}
use Rattle.nm_model_index.specs.declared.base.Base.{Base}
use Rattle.nm_line.specs.Line.{place_at}
use Rattle.nm_session.specs.Loop.{HasNoted, HasRunSome}
use Rattle.nm_line.specs.Desk.{Stands}
use Rattle.nm_trace.specs.ReservedLog.{HasSpare}
use Rattle.nm_phase.specs.Observations.{IsLaneAt}
use Rattle.nm_session.specs.Turns.{places_in, planned_from}
use Rattle.nm_phase.specs.Stage.{KeepsLoans}
use Rattle.nm_session.proofs.phases.run_phases.Given as goal
use Rattle.nm_writer.specs.Durable.{IsDurable}

-- the phases so far were run and noted, and their replies printed and handed on
abbrev pub invariant-phases : goal.invariant-phases
invariant-phases g l =
    let mail = g.M.Maildir in
    let disk = g.D.Disk in
    let sink = g.O.Sink in
    let place = place_at l.stage.writer.now (mail.observed l.stage.mail.now) (disk.observed l.stage.disk.now) l.left in
    record {
      noted : HasNoted (planned_from 0 (take l.number l.asked.phases.now)) l.stage.reserved.now place;
      spare : HasSpare (places_in (drop l.number l.asked.phases.now)) (length l.stage.writer.now.begun) l.stage.reserved.now;
      steps : l.stage.reserved.now.steps ≡ l.initial.stage.reserved.now.steps;
      ran : (entry : Devices) → entry.mail ≡ mail.observed l.initial.stage.mail.now → entry.disk.faults ≡ (disk.observed l.initial.stage.disk.now).faults
          → HasRunSome l.asked.crew.now.setting.now.moment l.initial.stage.writer.now.shown entry (planned_from 0 (take l.number l.asked.phases.now)) l.stage.reserved.now place;
      lanes : All (IsLaneAt l.asked.crew.now.setting.now.moment l.asked.phases.now l.number l.stage.writer.now.published.book) l.lanes;
      stands : Stands l.stage.writer.now (disk.observed l.stage.disk.now);
      durable : (entry : ObservedDisk) (opening : Base) → IsDurable entry opening (disk.observed l.initial.stage.disk.now) l.initial.stage.writer.now → IsDurable entry opening (disk.observed l.stage.disk.now) l.stage.writer.now;
      printed : l.printed ≡ length l.stage.reserved.now.logs.0;
      gained : HandsOnReplies l.asked.session l.number l.stage.reserved.now.logs.0 (sink.observed l.initial.stage.out.now) (sink.observed l.stage.out.now);
      loans : KeepsLoans l.initial.stage l.stage;
    }
