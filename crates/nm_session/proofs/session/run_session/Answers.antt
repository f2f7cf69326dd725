use Rattle.std.proofs.Common.{rules, arith, ◌≡◌, List, refl, sym, subst, take}
use Rattle.std.specs.List.{AllByRecursion}
use Rattle.nm_disk.specs.Observed.{ObservedDisk}
use Rattle.nm_history.specs.Call.{devices}
use Rattle.nm_line.specs.Line.{place_at}
use Rattle.nm_publish.specs.Published.{Published}
use Rattle.nm_session.specs.Run.{IsKept}
use Rattle.nm_session.specs.Turns.{places_in, planned_from}
use Rattle.nm_session.proofs.EndLemmas.{has-run, is-kept, steps-fit}
use Rattle.nm_session.proofs.SessionLemmas.{open-caused, opening-held, ran-prefix, unasked-prefix, unasked-unwritten, unopened-prefix}
use Rattle.nm_session.proofs.ReaderLemmas.{all-replicated}
use Rattle.nm_session.proofs.TurnLemmas.{places-cut, planned-within}
use Rattle.nm_session.proofs.session.run_session.Goals as goal
use Rattle.nm_writer.specs.Durable.{IsDurable}

pub returns-in-Err-clause-refused : goal.returns-in-Err-clause-refused
returns-in-Err-clause-refused g c =
    record {
      mail = refl;
      cause = tt;
      unwritten = unasked-unwritten (g.D.Disk.observed c.args.disk.now);
      crash_prefix = unasked-prefix c.a_refused_opening_keeps_the_index.ensures (g.D.Disk.observed c.args.disk.now) (g.D.Disk.reads_an_image c.args.disk.now);
    }

pub returns-in-Err-open-clause-refused : goal.returns-in-Err-open-clause-refused
returns-in-Err-open-clause-refused g c =
    let old = g.D.Disk.observed c.args.disk.now in
    let new = g.D.Disk.observed c.open.new.disk in
    let h = c.in-Err-open.ensures in
    record {
      mail = refl;
      cause = open-caused old new c.in-Err-open.error h.cause h.bad h.file;
      unwritten = h.syncs;
      crash_prefix = unopened-prefix c.a_refused_opening_keeps_the_index.ensures old new (g.D.Disk.reads_an_image c.args.disk.now) (g.D.Disk.reads_an_image c.open.new.disk) h.syncs;
    }

pub run_all-failed-requires-clause-lanes : goal.run_all-failed-requires-clause-lanes
run_all-failed-requires-clause-lanes g c =
    let published = c.in-Ok-open.field-0.writer.published in
    let all = c.lanes_with-lanes.ensures published.book
    (subst (λ (l : List Published). AllByRecursion (λ (reader : Published). reader.book ≡ published.book) l) (sym c.in-Ok-open.ensures.readers) (all-replicated _ published)) in
    search (rules, all)

pub finish-requires-clause-room : goal.finish-requires-clause-room
finish-requires-clause-room g c =
    let done = c.run_all-failed in
    let run = done.ensures.run in
    let phases = c.args.phases.now in
    let place = place_at done.new.opened.writer (g.M.Maildir.observed done.new.mail) (g.D.Disk.observed done.new.disk) done.result.0 in
    (steps-fit (places_in phases) (planned_from 0 (take run.count phases)) c.in-Ok.plan.reserved done.new.opened.reserved place
    (omega (arith, planned-within 0 (take run.count phases), places-cut run.count phases)) c.in-Ok.ensures.reserved run.noted done.ensures.steps).1

pub returns-in-Ok-open-clause-ran : goal.returns-in-Ok-open-clause-ran
returns-in-Ok-open-clause-ran g c =
    let mail = g.M.Maildir in
    let disk = g.D.Disk in
    let sink = g.O.Sink in
    let moment = c.args.crew.now.setting.now.moment in
    let phases = c.args.phases.now in
    let done = c.run_all-failed in
    let log = c.finish.result in
    let writer = c.in-Ok-open.field-0.writer in
    let old = disk.observed c.args.disk.now in
    let opened = disk.observed c.open.new.disk in
    let new = disk.observed done.new.disk in
    let h = c.in-Ok-open.ensures in
    let so = done.ensures.run in
    let place = place_at done.new.opened.writer (mail.observed done.new.mail) new done.result.0 in
    let kept : (entry : ObservedDisk) → IsDurable entry writer.shown opened writer → IsKept entry writer.shown new log =
    λ entry durable. is-kept entry new writer.shown (planned_from 0 (take so.count phases)) done.new.opened.reserved place log so.noted (done.ensures.durable entry writer.shown durable) c.finish.ensures in
    λ input err.
    let run = has-run moment c.args.session done.result.1 writer.shown (devices (mail.observed c.args.mail.now) old input (sink.observed c.args.out.now) err) phases done.new.opened.reserved place (mail.observed c.args.mail.now) opened.faults
    (sink.observed c.args.out.now) (sink.observed done.new.out) log so refl (sym h.cause) refl c.finish.ensures in
    let since = kept opened h.durable in
    record {
      opening = writer.shown;
      opening_index = opening-held writer.shown old.told opened.told h.index;
      run = run;
      crash_prefix = ran-prefix c.a_session_keeps_its_commits.ensures writer.shown log.steps log.acked old opened new
          (disk.reads_an_image c.args.disk.now) (disk.reads_an_image done.new.disk) h.index h.synced (λ quiet. (kept old (h.durable_from_entry quiet)).kept) since.kept run.clocks since.clocks;
    }
