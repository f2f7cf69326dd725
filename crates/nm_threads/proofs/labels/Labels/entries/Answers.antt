use Rattle.std.proofs.Common.{ap, ◌∙◌}
use Rattle.nm_threads.specs.Labels.{Labelling, entries_of}
use Rattle.nm_threads.proofs.EntryLemmas.{entries_are}
use Rattle.nm_threads.proofs.labels.Labels.entries.Goals as goal

pub returns : goal.returns
returns c = c.of.ensures ∙ entries_are c.self.inside.maps.groups c.self.inside.maps.threads c.self.inside.maps.ids ∙ ap (λ (l : Labelling). entries_of l.labels) c.self.view_is
