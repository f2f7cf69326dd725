use Rattle.nm_journal.proofs.OpenLemmas.{header_told}
use Rattle.nm_journal.proofs.record_reader.read_header.Goals as goal

pub returns-clause-header : goal.returns-clause-header
returns-clause-header g c =
    header_told (g.D.Disk.observed c.args.disk.now).told c.args.file c.args.gate c.read_at.new.into c.header_of.result c.in_ok-count.count c.read_at.auto.into
    c.in_ok-count.ensures.bytes c.in_ok-count.ensures.count c.header_of.ensures.count c.header_of.ensures.bytes c.header_of.ensures.fits
