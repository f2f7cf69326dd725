use Rattle.nm_journal.proofs.AppendLemmas.{is_staged, only_staged, record_goes, record_stands}
use Rattle.nm_journal.proofs.ClockLemmas.{then-on}
use Rattle.nm_journal.proofs.OtherLemmas.{others_twice}
use Rattle.nm_journal.proofs.append.write_record.Goals as goal

pub returns-in_err-stage-clause-any_moment : goal.returns-in_err-stage-clause-any_moment
returns-in_err-stage-clause-any_moment g c =
    only_staged c.args.file c.args.gate c.args.frame.now (g.D.Disk.observed c.args.disk.now).told (g.D.Disk.observed c.stage.new.disk).told c.stage.ensures.any_moment

pub open_gate-requires : goal.open_gate-requires
open_gate-requires g c =
    is_staged c.args.file c.args.gate c.args.frame.now (g.D.Disk.observed c.args.disk.now).told (g.D.Disk.observed c.stage.new.disk).told
    c.in_ok-stage.ensures.staged c.requires.ends

pub returns-clause-written : goal.returns-clause-written
returns-clause-written g c =
    record_stands c.args.file c.args.gate c.args.frame.now c.open_gate.result
    (g.D.Disk.observed c.args.disk.now).told (g.D.Disk.observed c.stage.new.disk).told (g.D.Disk.observed c.open_gate.new.disk).told
    c.in_ok-stage.ensures.staged c.open_gate.ensures.opened

pub returns-clause-any_moment : goal.returns-clause-any_moment
returns-clause-any_moment g c =
    record_goes c.args.file c.args.gate c.args.frame.now
    (g.D.Disk.observed c.args.disk.now).told (g.D.Disk.observed c.stage.new.disk).told (g.D.Disk.observed c.open_gate.new.disk).told
    c.stage.ensures.any_moment c.in_ok-stage.ensures.staged c.open_gate.ensures.any_moment

pub returns-clause-clock : goal.returns-clause-clock
returns-clause-clock g c =
    then-on (g.D.Disk.observed c.args.disk.now).clock (g.D.Disk.observed c.stage.new.disk).clock (g.D.Disk.observed c.open_gate.new.disk).clock c.stage.ensures.clock c.open_gate.ensures.clock

pub returns-clause-others : goal.returns-clause-others
returns-clause-others g c =
    others_twice c.args.file (g.D.Disk.observed c.args.disk.now).told (g.D.Disk.observed c.stage.new.disk).told (g.D.Disk.observed c.open_gate.new.disk).told
    c.stage.ensures.others c.open_gate.ensures.others
