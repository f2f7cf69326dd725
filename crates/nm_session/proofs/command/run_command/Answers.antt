use Rattle.std.proofs.Common.{arith, ◌∷◌, [], List, false, inl, refl, sym, subst, ◌∙◌}
use Rattle.nm_base.specs.Limits.{max_mail_bytes}
use Rattle.nm_disk.specs.Observed.{ObservedDisk}
use Rattle.nm_history.specs.Call.{devices, single_phase}
use Rattle.nm_history.specs.PrintedOut.{printed_by}
use Rattle.nm_io.specs.Observed.{StreamAppends}
use Rattle.nm_lanes.specs.declared.script.Phase.{Phase}
use Rattle.nm_line.specs.Line.{place_at}
use Rattle.nm_log.specs.declared.log.LineLog.{LineLog}
use Rattle.nm_phase.specs.Taken.{AreTaken}
use Rattle.nm_session.specs.Phases.{HasRunPhases}
use Rattle.nm_session.specs.Run.{IsKept}
use Rattle.nm_phase.specs.Turns.{planned_phase}
use Rattle.nm_session.specs.Turns.{planned_from}
use Rattle.nm_session.proofs.EndLemmas.{has-run, is-kept, noted-none, some-none, steps-fit}
use Rattle.nm_session.proofs.PrintLemmas.{printed-once}
use Rattle.nm_session.proofs.RunLemmas.{noted-there, some-there}
use Rattle.nm_session.proofs.SessionLemmas.{open-caused, opening-held, ran-prefix, unasked-prefix, unasked-unwritten, unopened-prefix}
use Rattle.nm_session.proofs.command.run_command.Goals as goal
use Rattle.nm_writer.specs.Durable.{IsDurable}

pub returns-in_default-clause-refused : goal.returns-in_default-clause-refused
returns-in_default-clause-refused g c =
    record {
      mail = refl;
      cause = tt;
      unwritten = unasked-unwritten (g.D.Disk.observed c.args.disk.now);
      crash_prefix = unasked-prefix c.a_refused_opening_keeps_the_index.ensures (g.D.Disk.observed c.args.disk.now) (g.D.Disk.reads_an_image c.args.disk.now);
    }

pub returns-in-Err-clause-refused : goal.returns-in-Err-clause-refused
returns-in-Err-clause-refused g c =
    let old = g.D.Disk.observed c.args.disk.now in
    let new = g.D.Disk.observed c.open.new.disk in
    let h = c.in-Err.ensures in
    record {
      mail = refl;
      cause = open-caused old new c.in-Err.error h.cause h.bad h.file;
      unwritten = h.syncs;
      crash_prefix = unopened-prefix c.a_refused_opening_keeps_the_index.ensures old new (g.D.Disk.reads_an_image c.args.disk.now) (g.D.Disk.reads_an_image c.open.new.disk) h.syncs;
    }

-- the values of a command that went on from its opening
pub finish-requires-clause-room : goal.finish-requires-clause-room
finish-requires-clause-room g c =
    let done = c.run_alone in
    let moment = c.args.crew.now.setting.now.moment in
    let words = c.requires.0 in
    let input = c.requires.1.0 in
    let phase = single_phase words input in
    let ran = done.ensures.ran words input c.requires.1.1 in
    let before = c.in-Ok.reserved in
    let writer = c.in-Ok-open.opened.writer in
    let first = place_at writer (g.M.Maildir.observed c.args.mail.now) (g.D.Disk.observed c.open.new.disk) max_mail_bytes in
    let last = place_at done.new.writer (g.M.Maildir.observed done.new.mail) (g.D.Disk.observed done.new.disk) ran.left in
    let fresh = c.in-Ok-open.ensures.fresh in
    let none = noted-none before first 2 c.in-Ok.ensures fresh.0 fresh.1 in
    let taken : AreTaken moment (planned_phase 0 phase) first before done.new.reserved last = (last, ran.between, inl (refl, ran.noted), (last, done.new.reserved, (ran.ended, refl), (refl, refl))) in
    let noted = noted-there moment (phase ∷ []) 0 phase (omega arith) refl first last before done.new.reserved taken none c.turn_laws.ensures in
    (steps-fit 2 (planned_from 0 (phase ∷ [])) before done.new.reserved last (omega arith) c.in-Ok.ensures noted (ran.ended.steps ∙ ran.noted.steps)).1

pub returns-in-Ok-open-clause-ran : goal.returns-in-Ok-open-clause-ran
returns-in-Ok-open-clause-ran g c = λ words input asked source err.
    let mail = g.M.Maildir in
    let disk = g.D.Disk in
    let sink = g.O.Sink in
    let done = c.run_alone in
    let moment = c.args.crew.now.setting.now.moment in
    let phase = single_phase words input in
    let phases : List Phase = phase ∷ [] in
    let ran = done.ensures.ran words input asked in
    let before = c.in-Ok.reserved in
    let after = done.new.reserved in
    let writer = c.in-Ok-open.opened.writer in
    let old = disk.observed c.args.disk.now in
    let opened = disk.observed c.open.new.disk in
    let new = disk.observed done.new.disk in
    let h = c.in-Ok-open.ensures in
    let log = c.finish.result in
    let failed = c.print_all-failed.result in
    let first = place_at writer (mail.observed c.args.mail.now) opened max_mail_bytes in
    let last = place_at done.new.writer (mail.observed done.new.mail) new ran.left in
    let none = noted-none before first 2 c.in-Ok.ensures h.fresh.0 h.fresh.1 in
    let taken : AreTaken moment (planned_phase 0 phase) first before after last = (last, ran.between, inl (refl, ran.noted), (last, after, (ran.ended, refl), (refl, refl))) in
    let noted = noted-there moment phases 0 phase (omega arith) refl first last before after taken none c.turn_laws.ensures in
    let so : HasRunPhases moment false failed writer.shown (mail.observed c.args.mail.now) opened.faults phases after last (sink.observed c.args.out.now) (sink.observed c.print_all-failed.new.out) = record {
      count = 1;
      within = omega arith;
      noted = noted;
      ran = λ entry mail_is disk_is. some-there moment phases 0 phase (omega arith) refl first last before after taken none c.turn_laws.ensures writer.shown entry
          (some-none c.first_laws.ensures moment entry before first 2 c.in-Ok.ensures h.published.0 h.published.1 h.fresh.0 h.fresh.1 h.fresh.2 mail_is disk_is refl);
      out = printed-once failed phases after.logs.0 (sink.observed c.args.out.now) (sink.observed c.print_all-failed.new.out) refl
          (subst (λ (l : List LineLog). StreamAppends failed (sink.observed c.args.out.now) (sink.observed c.print_all-failed.new.out) (printed_by false l)) c.as_slice.ensures c.print_all-failed.ensures);
    } in
    let run = has-run moment false failed writer.shown (devices (mail.observed c.args.mail.now) old source (sink.observed c.args.out.now) err) phases after last (mail.observed c.args.mail.now) opened.faults
    (sink.observed c.args.out.now) (sink.observed c.print_all-failed.new.out) log so refl (sym h.cause) refl c.finish.ensures in
    let kept : (entry : ObservedDisk) → IsDurable entry writer.shown opened writer → IsKept entry writer.shown new log =
    λ entry durable. is-kept entry new writer.shown (planned_from 0 phases) after last log noted (done.ensures.durable entry writer.shown durable) c.finish.ensures in
    let since = kept opened h.durable in
    record {
      opening = writer.shown;
      opening_index = opening-held writer.shown old.told opened.told h.index;
      run = run;
      crash_prefix = ran-prefix c.a_session_keeps_its_commits.ensures writer.shown log.steps log.acked old opened new
          (disk.reads_an_image c.args.disk.now) (disk.reads_an_image done.new.disk) h.index h.synced (λ quiet. (kept old (h.durable_from_entry quiet)).kept) since.kept run.clocks since.clocks;
    }
