use Rattle.std.proofs.Common.{arith}
use Rattle.nm_name.proofs.CutLemmas.{parted_at}
use Rattle.nm_name.proofs.cuts.cut_at_last.Goals as goal

pub returns : goal.returns
returns c = parted_at c.args.wanted c.from.result c.args.text.now c.rsplit_once.result c.from.ensures c.rsplit_once.ensures.cases (omega (arith, c.from.ensures, c.requires))
