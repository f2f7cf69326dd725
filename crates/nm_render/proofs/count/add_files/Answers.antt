use Rattle.std.proofs.Common.{arith, ap, length}
use Rattle.nm_render.proofs.CountLemmas.{no_files}
use Rattle.nm_render.proofs.count.add_files.Goals as goal

pub returns-in_default : goal.returns-in_default
returns-in_default c = omega (arith, ap length (no_files c.args.id.now c.args.snapshot.now.files c.in_default.ensures))
