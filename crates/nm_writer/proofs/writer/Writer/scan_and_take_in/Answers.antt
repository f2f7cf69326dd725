use Rattle.std.proofs.Common.{rules, ℕ, List, [], Ok, Err, drop, sym, ap, ◌∙◌, subst}
use Rattle.nm_commit.specs.declared.change.Change.{Change}
use Rattle.nm_model_index.specs.Fits.{FitInTurn}
use Rattle.nm_model_index.specs.declared.base.Base.{Base}
use Rattle.nm_maildir.specs.Observed.{ObservedMail}
use Rattle.nm_model_plan.specs.NameTags.{commit_of}
use Rattle.nm_sync.specs.Listed.{HasListed}
use Rattle.nm_sync.specs.Noted.{since}
use Rattle.nm_writer.proofs.NewLemmas.{after-let_go, after-refused, asks-refused, gone-fit, unknown-listed}
use Rattle.nm_writer.specs.Batch.{IsAfterBatches}
use Rattle.nm_writer.specs.AfterCommit.{IsAfterCommits}
use Rattle.nm_writer.proofs.writer.Writer.scan_and_take_in.Goals as goal

pub take_in_batches-requires-clause-unknown : goal.take_in_batches-requires-clause-unknown
take_in_batches-requires-clause-unknown g c =
    let listed = subst (λ (b : Base). HasListed (g.M.Maildir.observed c.args.mail.now).tree b.files c.args.given.now c.compare.new.given c.in-Ok.compared) c.snapshot.ensures c.in-Ok.ensures.ok in
    let unknown = unknown-listed (g.M.Maildir.observed c.args.mail.now).tree c.args.self.now.shown.files c.args.given.now c.compare.new.given c.in-Ok.compared listed in
    search (rules, unknown)

pub let_go-requires-clause-fit : goal.let_go-requires-clause-fit
let_go-requires-clause-fit g c =
    let mail = g.M.Maildir in
    let here = c.in-Ok.ensures in
    let old = mail.observed c.args.mail.now in
    let new = c.take_in_batches.new in
    let listed = subst (λ (b : Base). HasListed old.tree b.files c.args.given.now c.compare.new.given c.in-Ok.compared) c.snapshot.ensures here.ok in
    let made = subst (λ (m : ObservedMail). IsAfterBatches {T = Unit {0}} (record { mail = m; given = c.compare.new.given }) (record { mail = mail.observed new.mail; given = new.given })
    c.in-Ok.compared.unknown c.args.self.now 0 (Ok tt) new.self) here.mail c.in-Ok-take_in_batches.ensures.after in
    let fit = subst (λ (l : List Change). FitInTurn new.self.shown (commit_of new.self.shown l c.in-Ok.compared.removed_ids)) (sym c.in_ok-went.ensures)
    (gone-fit (record { fits = c.new_commits_fit.ensures; in_one = c.batches_are_what_was_read.ensures }) c.args.given.now
    (record { mail = old; given = c.compare.new.given }) (record { mail = mail.observed new.mail; given = new.given })
    c.in-Ok.compared c.args.self.now listed new.self made.0 made.1 made.2) in
    search (rules, fit)

pub returns-in-Ok-take_in_batches-clause-after : goal.returns-in-Ok-take_in_batches-clause-after
returns-in-Ok-take_in_batches-clause-after g c =
    let mail = g.M.Maildir in
    let here = c.in-Ok.ensures in
    let compared = c.in-Ok.compared in
    let old = mail.observed c.args.mail.now in
    let new = c.take_in_batches.new in
    let faults = (g.D.Disk.observed c.let_go.new.disk).faults in
    let listed = subst (λ (b : Base). HasListed old.tree b.files c.args.given.now c.compare.new.given compared) c.snapshot.ensures here.ok in
    let made = subst (λ (m : ObservedMail). IsAfterBatches {T = Unit {0}} (record { mail = m; given = c.compare.new.given }) (record { mail = mail.observed new.mail; given = new.given })
    compared.unknown c.args.self.now 0 (Ok tt) new.self) here.mail c.in-Ok-take_in_batches.ensures.after in
    after-let_go (record { fits = c.new_commits_fit.ensures; in_one = c.batches_are_what_was_read.ensures }) c.args.given.now
    (record { mail = old; given = c.compare.new.given }) (record { mail = mail.observed new.mail; given = new.given })
    compared c.args.self.now listed new.self made.0 made.1 made.2 c.let_go.new.self faults c.let_go.result c.len-removed.result c.in_ok-before.before c.split_at.result.1.now
    c.len-removed.ensures (c.in_ok-before.ensures ∙ c.snapshot-2.ensures)
    (c.split_at.ensures.back ∙ (ap (λ (n : ℕ). drop n c.as_slice.result.now) c.len-given_before.ensures ∙ ap (since c.args.given.now) c.as_slice.ensures))
    (subst (λ (l : List Change). IsAfterCommits new.self (commit_of new.self.shown l compared.removed_ids) faults c.let_go.result c.let_go.new.self) c.in_ok-went.ensures c.let_go.ensures.after) c.let_go.ensures.report

pub returns-clause-after : goal.returns-clause-after
returns-clause-after g c =
    let mail = g.M.Maildir in
    let here = c.in-Ok.ensures in
    let compared = c.in-Ok.compared in
    let old = mail.observed c.args.mail.now in
    let new = c.take_in_batches.new in
    let faults = (g.D.Disk.observed new.disk).faults in
    let listed = subst (λ (b : Base). HasListed old.tree b.files c.args.given.now c.compare.new.given compared) c.snapshot.ensures here.ok in
    let made = subst (λ (m : ObservedMail). IsAfterBatches {T = Unit {0}} (record { mail = m; given = c.compare.new.given }) (record { mail = mail.observed new.mail; given = new.given })
    compared.unknown c.args.self.now faults (Err c.in-Err.error) new.self) here.mail c.in-Err.ensures.after in
    after-refused (record { fits = c.new_commits_fit.ensures; in_one = c.batches_are_what_was_read.ensures }) c.args.given.now
    (record { mail = old; given = c.compare.new.given }) (record { mail = mail.observed new.mail; given = new.given })
    compared c.args.self.now listed new.self faults c.in-Err.error made

pub returns-in-Ok-take_in_batches-clause-asks : goal.returns-in-Ok-take_in_batches-clause-asks
returns-in-Ok-take_in_batches-clause-asks g c =
    let mail = g.M.Maildir in
    let here = c.in-Ok.ensures in
    let compared = c.in-Ok.compared in
    let old = mail.observed c.args.mail.now in
    let new = c.take_in_batches.new in
    let listed = subst (λ (b : Base). HasListed old.tree b.files c.args.given.now c.compare.new.given compared) c.snapshot.ensures here.ok in
    let made = subst (λ (m : ObservedMail). IsAfterBatches {T = Unit {0}} (record { mail = m; given = c.compare.new.given }) (record { mail = mail.observed new.mail; given = new.given })
    compared.unknown c.args.self.now 0 (Ok tt) new.self) here.mail c.in-Ok-take_in_batches.ensures.after in
    c.a_new_asks_what_it_notes.ensures old (mail.observed new.mail) c.args.self.now.shown.files c.args.given.now c.compare.new.given new.given compared made.0 [] listed made.1

pub returns-clause-asks : goal.returns-clause-asks
returns-clause-asks g c =
    let mail = g.M.Maildir in
    let here = c.in-Ok.ensures in
    let compared = c.in-Ok.compared in
    let old = mail.observed c.args.mail.now in
    let new = c.take_in_batches.new in
    let faults = (g.D.Disk.observed new.disk).faults in
    let listed = subst (λ (b : Base). HasListed old.tree b.files c.args.given.now c.compare.new.given compared) c.snapshot.ensures here.ok in
    let made = subst (λ (m : ObservedMail). IsAfterBatches {T = Unit {0}} (record { mail = m; given = c.compare.new.given }) (record { mail = mail.observed new.mail; given = new.given })
    compared.unknown c.args.self.now faults (Err c.in-Err.error) new.self) here.mail c.in-Err.ensures.after in
    asks-refused c.a_new_asks_what_it_notes.ensures c.args.given.now (record { mail = old; given = c.compare.new.given }) (record { mail = mail.observed new.mail; given = new.given })
    compared c.args.self.now listed new.self faults c.in-Err.error made
