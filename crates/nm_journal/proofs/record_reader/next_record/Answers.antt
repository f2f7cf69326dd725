use Rattle.std.proofs.Common.{arith, ◌≤◌, ◌-◌, ◌+◌}
use Rattle.nm_journal.proofs.OpenLemmas.{next_told, no_fault_told, room_told}
use Rattle.nm_journal.proofs.record_reader.next_record.Goals as goal

pub read_body-requires-clause-there : goal.read_body-requires-clause-there
read_body-requires-clause-there g c =
    let fits : c.in_ok-header.header.len ≤ c.args.len - (c.args.gate + 5) = omega arith in
    room_told (g.D.Disk.observed c.args.disk.now).told (g.D.Disk.observed c.read_header.new.disk).told c.args.file c.args.gate c.args.len c.in_ok-header.header
    c.in_ok-header.ensures.looks.told c.requires c.in_ok-header.ensures.header (omega arith) fits

pub returns-in-Ok-clause-next : goal.returns-in-Ok-clause-next
returns-in-Ok-clause-next g c =
    next_told (g.D.Disk.observed c.args.disk.now).told (g.D.Disk.observed c.read_header.new.disk).told c.args.file c.args.gate c.in_ok-header.header _
    c.in_ok-header.ensures.looks.told c.in_ok-header.ensures.header c.in-Ok.ensures.body c.in-Ok.ensures.within.0 c.if-header-ne1.false (omega arith)

pub returns-in-Err-clause-bad : goal.returns-in-Err-clause-bad
returns-in-Err-clause-bad g c =
    no_fault_told (g.D.Disk.observed c.args.disk.now).told (g.D.Disk.observed c.read_header.new.disk).told c.args.file c.args.gate _
    c.in_ok-header.ensures.looks.told c.in-Err.ensures.bad
