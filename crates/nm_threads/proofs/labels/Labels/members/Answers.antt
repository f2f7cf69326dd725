use Rattle.std.proofs.Common.{sym, subst}
use Rattle.std.specs.List.{IsDistinct}
use Rattle.nm_base.specs.Order.{same_text}
use Rattle.nm_threads.proofs.ThreadLemmas.{distinct_named}
use Rattle.nm_threads.proofs.labels.Labels.members.Goals as goal

pub returns-clause-once : goal.returns-clause-once
returns-clause-once g c = subst (IsDistinct same_text) (sym c.in_ok-ids.ensures.ids) (distinct_named c.self.inside.maps c.self.invariant c.args.name)
