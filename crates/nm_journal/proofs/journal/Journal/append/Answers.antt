use Rattle.std.proofs.Common.{arith, sym}
use Rattle.nm_journal.proofs.AppendLemmas.{journal_stands}
use Rattle.nm_journal.proofs.journal.Journal.append.Goals as goal

pub returns-in-Ok-clause-stands : goal.returns-in-Ok-clause-stands
returns-in-Ok-clause-stands g c =
    let at = c.self.inside in
    journal_stands (g.D.Disk.observed c.args.disk.now).told (g.D.Disk.observed c.write_record.new.disk).told c.args.self.now
    at.file at.start at.gate at.count _ _ at.failed c.args.frame.now (sym c.self.view_is) (omega (arith, c.len.ensures.len)) (omega arith) c.in-Ok.ensures.written
