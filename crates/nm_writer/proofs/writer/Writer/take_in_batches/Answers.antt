use Rattle.std.proofs.Common.{rules, ℕ, List, Ok, Err, refl, sym, ◌∙◌, subst, arith}
use Rattle.std.specs.Vec.Iter.{into_iter_items}
use Rattle.std.proofs.lemmas.List.{nil_from_length}
use Rattle.nm_faults.specs.Faults.{Counts}
use Rattle.nm_writer.proofs.BatchLemmas.{all_batches, batch_smaller, in_batches, next_fits, next_in_batches, refused_batches}
use Rattle.nm_writer.specs.Batch.{AreUnknown, IsAfterBatches}
use Rattle.nm_writer.specs.AfterCommit.{is_read_fault, is_write_fault}
use Rattle.nm_writer.proofs.writer.Writer.take_in_batches.Goals as goal

pub batches-init : goal.batches-init
batches-init g c =
    let mail = g.M.Maildir in
    record {
      batches = in_batches (record {
        fits = c.new_commits_fit.ensures;
        first = c.no_batch_is_read_at_first.ensures;
        more = c.a_batch_more_is_read.ensures;
        finished = c.batches_are_finished.ensures;
        unfinished = c.a_batch_that_stops_is_unfinished.ensures;
      }) (record { mail = mail.observed c.args.mail.now; given = c.args.given.now }) (into_iter_items c.into_iter-paths.result) (into_iter_items c.into_iter-paths.result) c.args.self.now refl;
      whole = search rules;
      alive = c.requires.alive;
      mail_same = refl;
      disk_same = refl;
      stands = c.requires.stands;
      durable = λ entry opening h. h;
    }

pub take_in_batch-requires-clause-alive : goal.take_in_batch-requires-clause-alive
take_in_batch-requires-clause-alive g c = search (rules, c.batches.invariant.alive)

pub take_in_batch-requires-clause-fit : goal.take_in_batch-requires-clause-fit
take_in_batch-requires-clause-fit g c =
    let mail = g.M.Maildir in
    let fits = next_fits (record {
      fits = c.new_commits_fit.ensures;
      first = c.no_batch_is_read_at_first.ensures;
      more = c.a_batch_more_is_read.ensures;
      finished = c.batches_are_finished.ensures;
      unfinished = c.a_batch_that_stops_is_unfinished.ensures;
    }) (record { mail = mail.observed c.args.mail.now; given = c.args.given.now }) (record { mail = mail.observed c.batches.mail; given = c.batches.given }) (into_iter_items c.into_iter-paths.result) (into_iter_items c.batches.paths)
    c.args.self.now c.batches.self c.batches.invariant.batches
    (subst (AreUnknown c.args.self.now.shown.files) (sym (c.into_iter-paths.ensures.rest ∙ c.into_vec.ensures)) c.requires.unknown) in
    search (rules, fits)

pub take_in_batch-requires-clause-stands : goal.take_in_batch-requires-clause-stands
take_in_batch-requires-clause-stands g c = search (rules, c.batches.invariant.stands)

pub batches-smaller : goal.batches-smaller
batches-smaller g c =
    let mail = g.M.Maildir in
    let fewer = batch_smaller (record { mail = mail.observed c.batches.mail; given = c.batches.given }) (record { mail = mail.observed c.take_in_batch.new.mail; given = c.take_in_batch.new.given })
    (into_iter_items c.batches.paths) (into_iter_items c.take_in_batch.new.paths) c.batches.self c.take_in_batch.new.self (g.D.Disk.observed c.take_in_batch.new.disk).faults c.in-Ok.field-0 c.in-Ok.ensures.after in
    omega (arith, fewer, c.in-Ok.ensures.whole, c.batches.invariant.whole)

pub batches-preserved : goal.batches-preserved
batches-preserved g c =
    let mail = g.M.Maildir in
    let so_far = c.batches.invariant in
    let alive = c.in-Ok.ensures.after.2.closed ∙ so_far.alive in
    record {
      batches = next_in_batches (record {
        fits = c.new_commits_fit.ensures;
        first = c.no_batch_is_read_at_first.ensures;
        more = c.a_batch_more_is_read.ensures;
        finished = c.batches_are_finished.ensures;
        unfinished = c.a_batch_that_stops_is_unfinished.ensures;
      }) (record { mail = mail.observed c.args.mail.now; given = c.args.given.now }) (record { mail = mail.observed c.batches.mail; given = c.batches.given }) (into_iter_items c.into_iter-paths.result) (into_iter_items c.batches.paths)
          c.args.self.now c.batches.self so_far.batches (record { mail = mail.observed c.take_in_batch.new.mail; given = c.take_in_batch.new.given }) (into_iter_items c.take_in_batch.new.paths) c.take_in_batch.new.self
          (g.D.Disk.observed c.take_in_batch.new.disk).faults c.in-Ok.field-0 c.in-Ok.ensures.after;
      whole = c.in-Ok.ensures.whole;
      alive = alive;
      mail_same = c.in-Ok.ensures.mail_cause ∙ so_far.mail_same;
      disk_same = c.in-Ok.ensures.disk_cause ∙ so_far.disk_same;
      stands = c.in-Ok.ensures.stands alive;
      durable = λ entry opening h. c.in-Ok.ensures.durable entry opening (so_far.durable entry opening h);
    }

pub returns-in-Err-clause-after : goal.returns-in-Err-clause-after
returns-in-Err-clause-after g c =
    let mail = g.M.Maildir in
    let faults = (g.D.Disk.observed c.take_in_batch.new.disk).faults in
    subst (λ (l : List (List ℕ)). IsAfterBatches {T = Unit {0}} (record { mail = mail.observed c.args.mail.now; given = c.args.given.now }) (record { mail = mail.observed c.take_in_batch.new.mail; given = c.take_in_batch.new.given })
    l c.args.self.now faults (Err c.in-Err.error) c.take_in_batch.new.self) (c.into_iter-paths.ensures.rest ∙ c.into_vec.ensures)
    (refused_batches (record {
      fits = c.new_commits_fit.ensures;
      first = c.no_batch_is_read_at_first.ensures;
      more = c.a_batch_more_is_read.ensures;
      finished = c.batches_are_finished.ensures;
      unfinished = c.a_batch_that_stops_is_unfinished.ensures;
    }) (record { mail = mail.observed c.args.mail.now; given = c.args.given.now }) (record { mail = mail.observed c.batches.mail; given = c.batches.given }) (into_iter_items c.into_iter-paths.result) (into_iter_items c.batches.paths)
    c.args.self.now c.batches.self c.batches.invariant.batches (record { mail = mail.observed c.take_in_batch.new.mail; given = c.take_in_batch.new.given }) (into_iter_items c.take_in_batch.new.paths) c.take_in_batch.new.self
    faults c.in-Err.error (omega (arith, c.batches-test.true, c.len.ensures, c.batches.invariant.whole)) c.in-Err.ensures.after)

pub returns-in-Err-clause-mail_cause : goal.returns-in-Err-clause-mail_cause
returns-in-Err-clause-mail_cause g c = subst (λ (n : ℕ). Counts (is_read_fault c.in-Err.error) n (g.M.Maildir.observed c.take_in_batch.new.mail).faults) c.batches.invariant.mail_same c.in-Err.ensures.mail_cause

pub returns-in-Err-clause-disk_cause : goal.returns-in-Err-clause-disk_cause
returns-in-Err-clause-disk_cause g c = subst (λ (n : ℕ). Counts (is_write_fault c.in-Err.error) n (g.D.Disk.observed c.take_in_batch.new.disk).faults) c.batches.invariant.disk_same c.in-Err.ensures.disk_cause

pub returns-in-Err-clause-durable : goal.returns-in-Err-clause-durable
returns-in-Err-clause-durable g c = λ entry opening h. c.in-Err.ensures.durable entry opening (c.batches.invariant.durable entry opening h)

pub returns-clause-after : goal.returns-clause-after
returns-clause-after g c =
    let mail = g.M.Maildir in
    let none = nil_from_length (into_iter_items c.batches.paths) (omega (arith, c.batches-test.false, c.len.ensures, c.batches.invariant.whole)) in
    subst (λ (l : List (List ℕ)). IsAfterBatches {T = Unit {0}} (record { mail = mail.observed c.args.mail.now; given = c.args.given.now }) (record { mail = mail.observed c.batches.mail; given = c.batches.given })
    l c.args.self.now 0 (Ok tt) c.batches.self) (c.into_iter-paths.ensures.rest ∙ c.into_vec.ensures)
    (all_batches (record {
      fits = c.new_commits_fit.ensures;
      first = c.no_batch_is_read_at_first.ensures;
      more = c.a_batch_more_is_read.ensures;
      finished = c.batches_are_finished.ensures;
      unfinished = c.a_batch_that_stops_is_unfinished.ensures;
    }) (record { mail = mail.observed c.args.mail.now; given = c.args.given.now }) (record { mail = mail.observed c.batches.mail; given = c.batches.given }) (into_iter_items c.into_iter-paths.result) (into_iter_items c.batches.paths)
    c.args.self.now c.batches.self c.batches.invariant.batches 0 tt none)

pub returns-clause-mail_cause : goal.returns-clause-mail_cause
returns-clause-mail_cause g c = c.batches.invariant.mail_same

pub returns-clause-disk_cause : goal.returns-clause-disk_cause
returns-clause-disk_cause g c = c.batches.invariant.disk_same

pub returns-clause-stands : goal.returns-clause-stands
returns-clause-stands g c = λ alive. c.batches.invariant.stands

pub returns-clause-durable : goal.returns-clause-durable
returns-clause-durable g c = c.batches.invariant.durable
