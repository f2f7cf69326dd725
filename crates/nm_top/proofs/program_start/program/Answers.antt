use Rattle.std.proofs.Common.{List, ℕ, refl, subst}
use Rattle.nm_disk.specs.Observed.{ObservedDisk}
use Rattle.nm_history.specs.Call.{call_of, devices}
use Rattle.nm_history.specs.Complete.{IsComplete}
use Rattle.nm_log.specs.declared.log.Setting.{Setting}
use Rattle.nm_maildir.specs.Observed.{ObservedMail}
use Rattle.nm_top.specs.Drill.{CallHistory}
use Rattle.nm_top.specs.Program.{GoesOnWith, called, command_words, no_index, no_mail, opened, opened_disk, opened_mail, setting_by}
use Rattle.nm_top.proofs.ProgramLemmas.{disk-same, mail-same}
use Rattle.nm_top.proofs.program_start.program.Goals as goal

pub returns-in-Ok-open-2 : goal.returns-in-Ok-open-2
returns-in-Ok-open-2 g c =
    let done = c.notmuch in
    let start = c.args.start.now in
    let words = c.args.words.now in
    let leading = c.in-Ok.leading in
    let mail = g.M.Maildir.observed c.open.new.self in
    let disk = g.D.Disk.observed c.args.disk.now in
    let input = g.I.Source.observed c.args.input.now in
    let out = g.O.Sink.observed c.args.out.now in
    let err = g.E.Sink.observed c.args.err.now in
    let held = g.D.Disk.observed c.open-in-Ok-open.new.self in
    let there = g.D.DiskFolder.moments_at c.args.disk.now leading.index in
    let after = devices (g.M.Maildir.observed done.new.mail) (g.D.Disk.observed done.new.disk) (g.I.Source.observed done.new.input) (g.O.Sink.observed done.new.out) (g.E.Sink.observed done.new.err) in
    let same = disk-same (opened_disk there disk) held c.in-Ok-open-2.ensures.told c.in-Ok-open-2.ensures.clock c.in-Ok-open-2.ensures.cause in
    opened leading c.in-Ok.ensures.exact
    (subst (λ (m : ObservedMail). GoesOnWith start words leading there (devices m disk input out err) after done.result)
    (mail-same (opened_mail (g.M.MailFolder.tree_at c.args.mail.now leading.mail) (g.M.Maildir.observed c.args.mail.now)) mail c.in-Ok-open.ensures.tree c.in-Ok-open.ensures.reads c.in-Ok-open.ensures.cause)
    (called
    (subst (λ (d : ObservedDisk). CallHistory (call_of (command_words words leading) (setting_by start leading) (devices mail d input out err) after done.result)) same
    (subst (λ (ws : List (List ℕ)). CallHistory (call_of ws (setting_by start leading) (devices mail held input out err) after done.result)) c.command_words-command.ensures
    (subst (λ (s : Setting). CallHistory (call_of c.command_words-command.result.now s (devices mail held input out err) after done.result)) c.setting_by-setting.ensures done.ensures.history)))
    (subst (λ (d : ObservedDisk). IsComplete (call_of (command_words words leading) (setting_by start leading) (devices mail d input out err) after done.result)) same
    (subst (λ (ws : List (List ℕ)). IsComplete (call_of ws (setting_by start leading) (devices mail held input out err) after done.result)) c.command_words-command.ensures
    (subst (λ (s : Setting). IsComplete (call_of c.command_words-command.result.now s (devices mail held input out err) after done.result)) c.setting_by-setting.ensures done.ensures.complete)))))

pub returns-in-Ok-open : goal.returns-in-Ok-open
returns-in-Ok-open g c =
    let leading = c.in-Ok.leading in
    let mail = g.M.Maildir.observed c.open.new.self in
    let input = g.I.Source.observed c.args.input.now in
    let out = g.O.Sink.observed c.args.out.now in
    opened leading c.in-Ok.ensures.exact
    (subst (λ (m : ObservedMail). GoesOnWith c.args.start.now c.args.words.now leading (g.D.DiskFolder.moments_at c.args.disk.now leading.index)
    (devices m (g.D.Disk.observed c.args.disk.now) input out (g.E.Sink.observed c.args.err.now))
    (devices mail (g.D.Disk.observed c.open-in-Ok-open.new.self) input out (g.E.Sink.observed c.ended_early.new.err)) c.ended_early.result)
    (mail-same (opened_mail (g.M.MailFolder.tree_at c.args.mail.now leading.mail) (g.M.Maildir.observed c.args.mail.now)) mail c.in-Ok-open.ensures.tree c.in-Ok-open.ensures.reads c.in-Ok-open.ensures.cause)
    (no_index refl c.in-Err-open.ensures.cause c.in-Err-open.ensures.told
    (record { ended = c.ended_early.ensures.ended; input = refl; out = refl; says = c.ended_early.ensures.says })))

pub returns-in-Ok : goal.returns-in-Ok
returns-in-Ok g c =
    no_mail c.in-Ok.leading c.in-Ok.ensures.exact c.in-Err.ensures.cause (record { tree = c.in-Err.ensures.tree; reads = c.in-Err.ensures.reads }) refl
    (record { ended = c.ended_early-in-Err.ensures.ended; input = refl; out = refl; says = c.ended_early-in-Err.ensures.says })
