use Rattle.nm_sync.specs.Noted.{since}
use Rattle.nm_writer.proofs.MailLemmas.{mail-told}
use Rattle.nm_writer.proofs.writer.Writer.new_mail.Goals as goal

pub returns-in-None-clause-mail : goal.returns-in-None-clause-mail
returns-in-None-clause-mail g c =
    mail-told (record { in_one = c.batches_are_what_was_read.ensures; after = c.the_files_after_new.ensures; leaves = c.new_leaves_what_is_listed.ensures })
    (g.M.Maildir.observed c.args.mail.now).tree (since c.args.given.now c.scan_and_take_in.new.given) c.args.self.now c.scan_and_take_in.new.self (g.D.Disk.observed c.scan_and_take_in.new.disk).faults c.scan_and_take_in.result c.scan_and_take_in.ensures.after
