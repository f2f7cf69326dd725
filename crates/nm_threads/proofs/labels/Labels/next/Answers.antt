use Rattle.std.proofs.Common.{subst}
use Rattle.nm_threads.specs.Labels.{IsLabelling}
use Rattle.nm_threads.proofs.RowLemmas.{maps_labelling}
use Rattle.nm_threads.proofs.labels.Labels.next.Goals as goal

pub returns-clause-labelling : goal.returns-clause-labelling
returns-clause-labelling c = subst IsLabelling c.self.view_is (maps_labelling c.self.inside.maps c.self.invariant)
