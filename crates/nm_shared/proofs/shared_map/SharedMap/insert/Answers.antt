use Rattle.std.proofs.Common.{ap, ◌∙◌}
use Rattle.std.specs.BTreeMap.{is_at}
use Rattle.std.specs.Map.{lookup}
use Rattle.nm_shared.proofs.EntryLemmas.{lookup_inserted}
use Rattle.nm_shared.proofs.shared_map.SharedMap.insert.Goals as goal

pub returns-then-begins_part-clause-found : goal.returns-then-begins_part-clause-found
returns-then-begins_part-clause-found g c = λ other. ap (lookup (is_at (g.K.Ord.cmp other))) c.in_ok-push_part.ensures.ok ∙ lookup_inserted g.met.K.Ord.total c.args.key other c.args.self.now c.args.value

pub returns-clause-found : goal.returns-clause-found
returns-clause-found g c = λ other. ap (lookup (is_at (g.K.Ord.cmp other))) c.in_ok-put.ensures.ok ∙ lookup_inserted g.met.K.Ord.total c.args.key other c.args.self.now c.args.value
