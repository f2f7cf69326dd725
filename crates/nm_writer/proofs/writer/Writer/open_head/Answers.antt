use Rattle.std.proofs.Common.{ℕ, List, sym, subst}
use Rattle.nm_commit.specs.declared.change.Commit.{Commit}
use Rattle.nm_disk.specs.Calls.{GoesOn}
use Rattle.nm_disk.specs.Observed.{bytes_now}
use Rattle.nm_disk.specs.declared.disk.FileNo.TheVariants.{Head}
use Rattle.nm_model_index.specs.declared.base.Base.{Base}
use Rattle.nm_journal.specs.Journal.{StandsOn}
use Rattle.nm_replay.specs.StoredIndex.{HasCommits, HoldsWithin}
use Rattle.nm_writer.proofs.EntryLemmas.{opened-stands}
use Rattle.nm_writer.proofs.writer.Writer.open_head.Goals as goal

pub returns-clause-index : goal.returns-clause-index
returns-clause-index g c =
    let disk = g.D.Disk in
    let old = (disk.observed c.args.disk.now).told in
    let new = (disk.observed c.replay_head.new.disk).told in
    subst (λ (b : Base). GoesOn (λ o n. HoldsWithin (bytes_now o Head) b) old new) (sym c.in_ok-started.ensures.index) c.in_ok-journal.ensures.index

pub returns-clause-stands : goal.returns-clause-stands
returns-clause-stands g c =
    let disk = g.D.Disk in
    let old = (disk.observed c.args.disk.now).told in
    let new = (disk.observed c.replay_head.new.disk).told in
    opened-stands old new _ c.in_ok-journal.ensures.journal.0 c.in_ok-journal.ensures.journal.1
    (subst (λ (b : Base). GoesOn (λ o n. (bodies : List (List ℕ)) × (commits : List Commit) × StandsOn n.present c.in_ok-journal.field-0.journal bodies × HasCommits bodies commits b) old new) (sym c.in_ok-started.ensures.index) c.in_ok-journal.ensures.stands)
