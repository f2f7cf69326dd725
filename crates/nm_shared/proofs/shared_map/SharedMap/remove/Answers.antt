use Rattle.std.proofs.Common.{ap, ◌∙◌}
use Rattle.std.specs.BTreeMap.{is_at}
use Rattle.std.specs.Map.{lookup}
use Rattle.nm_shared.proofs.EntryLemmas.{lookup_removed}
use Rattle.nm_shared.proofs.shared_map.SharedMap.remove.Goals as goal

pub returns-clause-found : goal.returns-clause-found
returns-clause-found g c = λ other. ap (lookup (is_at (g.K.Ord.cmp other))) c.in_ok-take_out.ensures.ok ∙ lookup_removed g.met.K.Ord.total c.args.key.now other c.args.self.now c.take_out.ensures.sorted
