use Rattle.std.proofs.Common.{◌∙◌, arith}
use Rattle.nm_sync.proofs.MergeLemmas.{only_end, only_is}
use Rattle.nm_sync.proofs.merge.only_in.Goals as goal

pub returns : goal.returns
returns c = only_end c.args.others.now c.args.paths.now c.paths.only c.paths.rest.now c.paths.path-index (omega (arith, c.paths-test.false)) c.paths.invariant ∙ only_is c.args.others.now c.args.paths.now c.requires.paths c.requires.others
