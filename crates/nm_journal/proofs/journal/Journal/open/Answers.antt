use Rattle.nm_journal.proofs.SyncLemmas.{sync_failed, sync_failed_only, sync_goes, sync_goes_only, sync_goes_or_fails, sync_stands}
use Rattle.nm_journal.proofs.journal.Journal.open.Goals as goal

pub returns-in_err-sync-clause-any_moment : goal.returns-in_err-sync-clause-any_moment
returns-in_err-sync-clause-any_moment g c =
    sync_failed c.args.file (g.D.Disk.observed c.args.disk.now).told (g.D.Disk.observed c.sync.new.self).told c.in_err-sync.ensures.told

pub returns-in_err-gate-clause-any_moment : goal.returns-in_err-gate-clause-any_moment
returns-in_err-gate-clause-any_moment g c =
    sync_goes c.args.file (g.D.Disk.observed c.args.disk.now).told (g.D.Disk.observed c.sync.new.self).told (g.D.Disk.observed c.read_records.new.disk).told
    (g.D.Disk.reads_an_image c.args.disk.now) c.in_ok-sync.ensures.told c.read_records.ensures.told

pub returns-clause-stands : goal.returns-clause-stands
returns-clause-stands g c =
    sync_stands c.args.file (g.D.Disk.observed c.args.disk.now).told (g.D.Disk.observed c.sync.new.self).told (g.D.Disk.observed c.read_records.new.disk).told
    c.args.at c.in_ok-gate.gate _ c.in_ok-gate.bodies c.in_ok-sync.ensures.told c.read_records.ensures.told c.in_ok-gate.ensures.records c.in_ok-gate.ensures.gate c.len.ensures

pub returns-clause-any_moment : goal.returns-clause-any_moment
returns-clause-any_moment g c =
    sync_goes c.args.file (g.D.Disk.observed c.args.disk.now).told (g.D.Disk.observed c.sync.new.self).told (g.D.Disk.observed c.read_records.new.disk).told
    (g.D.Disk.reads_an_image c.args.disk.now) c.in_ok-sync.ensures.told c.read_records.ensures.told

pub returns-in_err-sync-clause-syncs : goal.returns-in_err-sync-clause-syncs
returns-in_err-sync-clause-syncs g c =
    sync_failed_only (g.D.Disk.observed c.args.disk.now).told (g.D.Disk.observed c.sync.new.self).told c.in_err-sync.ensures.told

pub returns-in_err-gate-clause-syncs : goal.returns-in_err-gate-clause-syncs
returns-in_err-gate-clause-syncs g c =
    sync_goes_or_fails (g.D.Disk.observed c.args.disk.now).told (g.D.Disk.observed c.sync.new.self).told (g.D.Disk.observed c.read_records.new.disk).told
    c.in_ok-sync.ensures.told c.read_records.ensures.told

pub returns-clause-synced : goal.returns-clause-synced
returns-clause-synced g c =
    sync_goes_only (g.D.Disk.observed c.args.disk.now).told (g.D.Disk.observed c.sync.new.self).told (g.D.Disk.observed c.read_records.new.disk).told
    c.in_ok-sync.ensures.told c.read_records.ensures.told

pub returns-clause-syncs : goal.returns-clause-syncs
returns-clause-syncs g c =
    sync_goes_or_fails (g.D.Disk.observed c.args.disk.now).told (g.D.Disk.observed c.sync.new.self).told (g.D.Disk.observed c.read_records.new.disk).told
    c.in_ok-sync.ensures.told c.read_records.ensures.told
