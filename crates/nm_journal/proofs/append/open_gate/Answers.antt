use Rattle.std.proofs.Common.{[], ◌∷◌}
use Rattle.nm_journal.proofs.AppendLemmas.{open_failed, open_goes, open_stands, room_for_gate}
use Rattle.nm_journal.proofs.ClockLemmas.{then-on, ticked}
use Rattle.nm_journal.proofs.OtherLemmas.{others_synced, others_unwritten}
use Rattle.nm_journal.proofs.append.open_gate.Goals as goal

pub write_at-requires : goal.write_at-requires
write_at-requires g c =
    room_for_gate c.args.file c.args.gate c.args.frame.now c.len-len.ensures.fits
    (g.D.Disk.observed c.args.disk.now).told (g.D.Disk.reads_an_image c.args.disk.now) c.requires

pub returns-in_err-write_at-clause-any_moment : goal.returns-in_err-write_at-clause-any_moment
returns-in_err-write_at-clause-any_moment g c =
    open_failed c.args.file c.args.gate c.args.frame.now c.len-len.ensures.fits
    (g.D.Disk.observed c.args.disk.now).told (g.D.Disk.observed c.write_at.new.self).told (g.D.Disk.reads_an_image c.args.disk.now) c.in_err-write_at.ensures.writes.told

pub returns-clause-opened : goal.returns-clause-opened
returns-clause-opened g c =
    open_stands c.args.file c.args.gate c.args.frame.now c.len-len.ensures.fits c.sync.result
    (g.D.Disk.observed c.args.disk.now).told (g.D.Disk.observed c.write_at.new.self).told (g.D.Disk.observed c.sync.new.self).told
    (g.D.Disk.reads_an_image c.args.disk.now) c.in_ok-write_at.ensures.writes.told c.sync.ensures.told

pub returns-clause-any_moment : goal.returns-clause-any_moment
returns-clause-any_moment g c =
    open_goes c.args.file c.args.gate c.args.frame.now c.len-len.ensures.fits c.sync.result
    (g.D.Disk.observed c.args.disk.now).told (g.D.Disk.observed c.write_at.new.self).told (g.D.Disk.observed c.sync.new.self).told
    (g.D.Disk.reads_an_image c.args.disk.now) c.in_ok-write_at.ensures.writes.told c.sync.ensures.told

pub returns-in_err-write_at-clause-clock : goal.returns-in_err-write_at-clause-clock
returns-in_err-write_at-clause-clock g c =
    ticked (g.D.Disk.observed c.args.disk.now).clock (g.D.Disk.observed c.write_at.new.self).clock c.write_at.result c.write_at.ensures.writes.clock

pub returns-clause-clock : goal.returns-clause-clock
returns-clause-clock g c =
    then-on (g.D.Disk.observed c.args.disk.now).clock (g.D.Disk.observed c.write_at.new.self).clock (g.D.Disk.observed c.sync.new.self).clock
    (ticked (g.D.Disk.observed c.args.disk.now).clock (g.D.Disk.observed c.write_at.new.self).clock c.write_at.result c.write_at.ensures.writes.clock)
    (ticked (g.D.Disk.observed c.write_at.new.self).clock (g.D.Disk.observed c.sync.new.self).clock c.sync.result c.sync.ensures.clock)

pub returns-in_err-write_at-clause-others : goal.returns-in_err-write_at-clause-others
returns-in_err-write_at-clause-others g c =
    others_unwritten c.args.file c.args.gate (1 ∷ []) (g.D.Disk.observed c.args.disk.now).told (g.D.Disk.observed c.write_at.new.self).told c.in_err-write_at.ensures.writes.told

pub returns-clause-others : goal.returns-clause-others
returns-clause-others g c =
    others_synced c.args.file c.args.gate (1 ∷ []) c.sync.result
    (g.D.Disk.observed c.args.disk.now).told (g.D.Disk.observed c.write_at.new.self).told (g.D.Disk.observed c.sync.new.self).told
    (g.D.Disk.reads_an_image c.write_at.new.self) c.in_ok-write_at.ensures.writes.told c.sync.ensures.told
