use Rattle.nm_writer.proofs.EntryLemmas.{durable-entry, durable-here}
use Rattle.nm_writer.proofs.writer.Writer.open.Goals as goal

pub returns-clause-durable : goal.returns-clause-durable
returns-clause-durable g c =
    let disk = g.D.Disk in
    let opened = c.open_head in
    durable-here (disk.observed c.args.disk.now) (disk.observed opened.new.disk) opened.result opened.ensures.fresh opened.ensures.published opened.ensures.clock opened.ensures.stands

pub returns-clause-durable_from_entry : goal.returns-clause-durable_from_entry
returns-clause-durable_from_entry g c =
    let disk = g.D.Disk in
    let opened = c.open_head in
    durable-entry c.a_sync_leaves_nothing_new.ensures (disk.observed c.args.disk.now) (disk.observed opened.new.disk) opened.result (disk.reads_an_image c.args.disk.now) opened.ensures.fresh opened.ensures.published opened.ensures.clock opened.ensures.index opened.ensures.any_moment opened.ensures.syncs
