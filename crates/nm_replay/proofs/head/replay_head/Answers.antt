use Rattle.std.proofs.Common.{ℕ, List, subst, ◌∙◌}
use Rattle.nm_replay.proofs.HeadLemmas.{opened-index, opened-stands}
use Rattle.nm_replay.proofs.ReplayLemmas.{Replayed}
use Rattle.nm_replay.proofs.head.replay_head.Goals as goal

pub returns-clause-index : goal.returns-clause-index
returns-clause-index g c =
    let disk = g.D.Disk in
    opened-index (disk.observed c.args.disk.now).told (disk.observed c.open.new.disk).told c.in_ok-journal.bodies c.in_ok-index.index c.in_ok-journal.ensures.records
    (subst (λ (l : List (List ℕ)). Replayed l c.in_ok-index.index) (c.as_slice.ensures ∙ c.in_ok-shared.ensures) c.in_ok-index.ensures.ok)

pub returns-clause-stands : goal.returns-clause-stands
returns-clause-stands g c =
    let disk = g.D.Disk in
    opened-stands (disk.observed c.args.disk.now).told (disk.observed c.open.new.disk).told c.in_ok-journal.bodies c.in_ok-journal.journal c.in_ok-index.index c.in_ok-journal.ensures.stands
    (subst (λ (l : List (List ℕ)). Replayed l c.in_ok-index.index) (c.as_slice.ensures ∙ c.in_ok-shared.ensures) c.in_ok-index.ensures.ok)
