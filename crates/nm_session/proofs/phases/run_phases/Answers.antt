use Rattle.std.proofs.Common.{rules, ◌≡◌, ℕ, ◌+◌, ◌<◌, ◌≤◌, Some, None, List, sym, length, refl, ◌∙◌, ap, subst, arith, slice_get}
use Rattle.nm_base.specs.Limits.{max_mail_bytes}
use Rattle.nm_history.specs.PrintedOut.{HandsOnReplies}
use Rattle.nm_io.specs.Observed.{ObservedSink}
use Rattle.nm_lanes.specs.declared.script.Phase.{Phase}
use Rattle.nm_log.specs.declared.log.LineLog.{LineLog}
use Rattle.nm_line.specs.Line.{place_at}
use Rattle.nm_session.specs.PrintedReplies.{PrintsRest}
use Rattle.nm_trace.specs.ReservedLog.{HasSpare}
use Rattle.nm_phase.specs.Turns.{planned_phase}
use Rattle.nm_session.specs.Turns.{places_in}
use Rattle.nm_session.proofs.EndLemmas.{noted-none, some-none}
use Rattle.nm_session.proofs.PhaseLemmas.{steps-all}
use Rattle.nm_session.proofs.PrintLemmas.{printed-none}
use Rattle.nm_session.proofs.RunLemmas.{failed-there, noted-there, printed-there, printed-within, some-there, spare-here, spare-there}
use Rattle.nm_session.proofs.TurnLemmas.{get-some}
use Rattle.nm_session.proofs.phases.run_phases.Goals as goal

same-phase : (one other : Phase) → Some one ≡ Some other → one ≡ other
same-phase one other e = cc

pub phases-init : goal.phases-init
phases-init g c =
    let mail = g.M.Maildir in
    let disk = g.D.Disk in
    let sink = g.O.Sink in
    let place = place_at c.args.stage.now.writer.now (mail.observed c.args.stage.now.mail.now) (disk.observed c.args.stage.now.disk.now) max_mail_bytes in
    let reserved = c.requires.reserved in
    let fresh = c.requires.fresh in
    record {
      noted = noted-none c.args.stage.now.reserved.now place (places_in c.args.asked.now.phases.now) reserved fresh.0 fresh.1;
      spare = subst (λ (n : ℕ). HasSpare (places_in c.args.asked.now.phases.now) n c.args.stage.now.reserved.now) (sym (ap length fresh.0)) reserved.spare;
      steps = refl;
      ran = λ entry mail_is disk_is. some-none c.first_laws.ensures c.args.asked.now.crew.now.setting.now.moment entry c.args.stage.now.reserved.now place (places_in c.args.asked.now.phases.now) reserved c.requires.published.0 c.requires.published.1 fresh.0 fresh.1 fresh.2 mail_is disk_is refl;
      lanes = c.requires.lanes;
      stands = c.requires.stands;
      durable = λ entry opening h. h;
      loans = record { reserved = refl; writer = refl; mail = refl; disk = refl; out = refl };
      printed = sym (ap length reserved.logs);
      gained = subst (λ (l : List LineLog). HandsOnReplies c.args.asked.now.session 0 l (sink.observed c.args.stage.now.out.now) (sink.observed c.args.stage.now.out.now)) (sym reserved.logs)
          (printed-none c.args.asked.now.session (sink.observed c.args.stage.now.out.now));
    }

pub phases-preserved : goal.phases-preserved
phases-preserved g c =
    let mail = g.M.Maildir in
    let disk = g.D.Disk in
    let sink = g.O.Sink in
    let moment = c.args.asked.now.crew.now.setting.now.moment in
    let phases = c.args.asked.now.phases.now in
    let number = c.phases.number in
    let within : number < length phases = omega (arith, c.phases-test.true, c.requires.count) in
    let found = get-some phases number within in
    let phase : Phase = found.0 in
    let is = found.2 in
    let old = place_at c.phases.stage.writer.now (mail.observed c.phases.stage.mail.now) (disk.observed c.phases.stage.disk.now) c.phases.left in
    let done = c.run_one-left in
    let new = place_at done.new.self.writer.now (mail.observed done.new.self.mail.now) (disk.observed done.new.self.disk.now) done.result in
    let before = c.phases.stage.reserved.now in
    let after = done.new.self.reserved.now in
    let so_far = c.phases.invariant in
    let taken = done.ensures.taken phase found.1 in
    let gained = subst (λ (o : ObservedSink). HandsOnReplies c.args.asked.now.session number before.logs.0 (sink.observed c.args.stage.now.out.now) o) (sym done.ensures.out) so_far.gained in
    let prints = printed-there moment phases number phase within is old new before after taken so_far.noted c.args.asked.now.session c.phases.printed so_far.printed (sink.observed c.args.stage.now.out.now) (sink.observed done.new.self.out.now)
    (sink.observed c.print_rest.new.out) gained c.in-Some.now (subst (λ (l : List LineLog). PrintsRest c.args.asked.now.session l c.phases.printed (sink.observed done.new.self.out.now) (sink.observed c.print_rest.new.out) (Some c.in-Some.now)) c.as_slice.ensures c.in-Some.ensures) in
    record {
      noted = noted-there moment phases number phase within is old new before after taken so_far.noted c.turn_laws.ensures;
      spare = spare-there moment phases number phase within is old new before after taken c.turn_laws.ensures so_far.spare;
      steps = steps-all moment (planned_phase number phase) old new before after taken ∙ so_far.steps;
      ran = λ entry mail_is disk_is. some-there moment phases number phase within is old new before after taken so_far.noted c.turn_laws.ensures c.args.stage.now.writer.now.shown entry (so_far.ran entry mail_is disk_is);
      lanes = done.ensures.lanes;
      stands = done.ensures.stands;
      durable = λ entry opening h. done.ensures.durable entry opening (so_far.durable entry opening h);
      printed = prints.0;
      gained = prints.1;
      loans = record { reserved = done.ensures.loans.reserved ∙ so_far.loans.reserved; writer = done.ensures.loans.writer ∙ so_far.loans.writer; mail = done.ensures.loans.mail ∙ so_far.loans.mail; disk = done.ensures.loans.disk ∙ so_far.loans.disk; out = done.ensures.loans.out ∙ so_far.loans.out };
    }

pub returns-in-None : goal.returns-in-None
returns-in-None g c =
    let mail = g.M.Maildir in
    let disk = g.D.Disk in
    let sink = g.O.Sink in
    let moment = c.args.asked.now.crew.now.setting.now.moment in
    let phases = c.args.asked.now.phases.now in
    let number = c.phases.number in
    let within : number < length phases = omega (arith, c.phases-test.true, c.requires.count) in
    let found = get-some phases number within in
    let phase : Phase = found.0 in
    let is = found.2 in
    let old = place_at c.phases.stage.writer.now (mail.observed c.phases.stage.mail.now) (disk.observed c.phases.stage.disk.now) c.phases.left in
    let done = c.run_one-left in
    let new = place_at done.new.self.writer.now (mail.observed done.new.self.mail.now) (disk.observed done.new.self.disk.now) done.result in
    let before = c.phases.stage.reserved.now in
    let after = done.new.self.reserved.now in
    let so_far = c.phases.invariant in
    let taken = done.ensures.taken phase found.1 in
    let gained = subst (λ (o : ObservedSink). HandsOnReplies c.args.asked.now.session number before.logs.0 (sink.observed c.args.stage.now.out.now) o) (sym done.ensures.out) so_far.gained in
    record {
      run = record {
        count = number + 1;
        within = omega (arith, within);
        noted = noted-there moment phases number phase within is old new before after taken so_far.noted c.turn_laws.ensures;
        ran = λ entry mail_is disk_is. some-there moment phases number phase within is old new before after taken so_far.noted c.turn_laws.ensures c.args.stage.now.writer.now.shown entry (so_far.ran entry mail_is disk_is);
        out = failed-there moment phases number phase within is old new before after taken so_far.noted c.args.asked.now.session c.phases.printed so_far.printed (sink.observed c.args.stage.now.out.now) (sink.observed done.new.self.out.now)
            (sink.observed c.print_rest.new.out) gained
            (subst (λ (l : List LineLog). PrintsRest c.args.asked.now.session l c.phases.printed (sink.observed done.new.self.out.now) (sink.observed c.print_rest.new.out) None) c.as_slice.ensures c.in-None.ensures);
      };
      steps = steps-all moment (planned_phase number phase) old new before after taken ∙ so_far.steps;
      durable = λ entry opening h. done.ensures.durable entry opening (so_far.durable entry opening h);
      loans = record { reserved = done.ensures.loans.reserved ∙ so_far.loans.reserved; writer = done.ensures.loans.writer ∙ so_far.loans.writer; mail = done.ensures.loans.mail ∙ so_far.loans.mail; disk = done.ensures.loans.disk ∙ so_far.loans.disk; out = done.ensures.loans.out ∙ so_far.loans.out };
    }

pub returns : goal.returns
returns g c =
    let mail = g.M.Maildir in
    let disk = g.D.Disk in
    let place = place_at c.phases.stage.writer.now (mail.observed c.phases.stage.mail.now) (disk.observed c.phases.stage.disk.now) c.phases.left in
    let so_far = c.phases.invariant in
    let phases = c.args.asked.now.phases.now in
    let whole : c.phases.number ≡ length phases = omega (arith, c.phases-test.false, c.requires.count) in
    record {
      run = record {
        count = c.phases.number;
        within = omega (arith, whole);
        noted = so_far.noted;
        ran = so_far.ran;
        out = (whole, so_far.gained);
      };
      steps = so_far.steps;
      durable = so_far.durable;
      loans = so_far.loans;
    }

pub run_one-left-requires-clause-number : goal.run_one-left-requires-clause-number
run_one-left-requires-clause-number g c = omega (arith, c.phases-test.true, c.requires.count)

pub run_one-left-requires-clause-spare : goal.run_one-left-requires-clause-spare
run_one-left-requires-clause-spare g c =
    let mail = g.M.Maildir in
    let disk = g.D.Disk in
    let phases = c.args.asked.now.phases.now in
    let number = c.phases.number in
    let within : number < length phases = omega (arith, c.phases-test.true, c.requires.count) in
    let found = get-some phases number within in
    let old = place_at c.phases.stage.writer.now (mail.observed c.phases.stage.mail.now) (disk.observed c.phases.stage.disk.now) c.phases.left in
    let here : HasSpare (length (planned_phase number found.0)) (length c.phases.stage.writer.now.begun) c.phases.stage.reserved.now =
    spare-here c.args.asked.now.crew.now.setting.now.moment phases number found.0 within found.2 old old c.phases.stage.reserved.now c.phases.stage.reserved.now (length c.phases.stage.writer.now.begun) c.phases.invariant.spare in
    let all : (phase : Phase) → slice_get phases number ≡ Some phase → HasSpare (length (planned_phase number phase)) (length c.phases.stage.writer.now.begun) c.phases.stage.reserved.now =
    λ phase is. subst (λ (p : Phase). HasSpare (length (planned_phase number p)) (length c.phases.stage.writer.now.begun) c.phases.stage.reserved.now) (same-phase found.0 phase (sym found.1 ∙ is)) here in
    search (rules, all)

pub run_one-left-requires-clause-even : goal.run_one-left-requires-clause-even
run_one-left-requires-clause-even g c = search (rules, c.phases.invariant.noted.even)

pub run_one-left-requires-clause-few : goal.run_one-left-requires-clause-few
run_one-left-requires-clause-few g c = search (rules, c.phases.invariant.noted.within)

pub print_rest-requires : goal.print_rest-requires
print_rest-requires g c =
    let mail = g.M.Maildir in
    let disk = g.D.Disk in
    let sink = g.O.Sink in
    let moment = c.args.asked.now.crew.now.setting.now.moment in
    let phases = c.args.asked.now.phases.now in
    let number = c.phases.number in
    let within : number < length phases = omega (arith, c.phases-test.true, c.requires.count) in
    let found = get-some phases number within in
    let phase : Phase = found.0 in
    let is = found.2 in
    let old = place_at c.phases.stage.writer.now (mail.observed c.phases.stage.mail.now) (disk.observed c.phases.stage.disk.now) c.phases.left in
    let done = c.run_one-left in
    let new = place_at done.new.self.writer.now (mail.observed done.new.self.mail.now) (disk.observed done.new.self.disk.now) done.result in
    let before = c.phases.stage.reserved.now in
    let after = done.new.self.reserved.now in
    let so_far = c.phases.invariant in
    let taken = done.ensures.taken phase found.1 in
    subst (λ (l : List LineLog). c.phases.printed ≤ length l) (sym c.as_slice.ensures) (
    printed-within moment phases number phase within is old new before after taken so_far.noted c.args.asked.now.session c.phases.printed so_far.printed (sink.observed c.args.stage.now.out.now) (sink.observed c.phases.stage.out.now) (sink.observed c.phases.stage.out.now) so_far.gained)
