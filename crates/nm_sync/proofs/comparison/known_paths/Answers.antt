use Rattle.nm_sync.proofs.ScanLemmas.{known-end, known-rising}
use Rattle.nm_sync.proofs.comparison.known_paths.Goals as goal

pub returns-clause-paths : goal.returns-clause-paths
returns-clause-paths c =
    known-end c.args.shown.now.files c.paths-path-items.result c.into_iter-path-iterator.result c.paths.path-iterator c.paths.known
    c.paths-path-items.ensures.sorted c.paths-path-items.ensures.paths c.into_iter-path-iterator.ensures.into_iter_gives c.in-None.ensures.steps.0 c.paths.invariant

pub returns-clause-rising : goal.returns-clause-rising
returns-clause-rising c =
    known-rising c.paths-path-items.result c.into_iter-path-iterator.result c.paths.path-iterator c.paths.known
    c.paths-path-items.ensures.sorted c.into_iter-path-iterator.ensures.into_iter_gives c.in-None.ensures.steps.0 c.paths.invariant
