use Rattle.std.proofs.Common.{ap, ◌∙◌}
use Rattle.nm_threads.specs.Labels.{without_name}
use Rattle.nm_threads.specs.Maps.{labelling_of}
use Rattle.nm_threads.proofs.RemoveLemmas.{none_without, maps_gone, labels_gone}
use Rattle.nm_threads.proofs.removal.remove_named.Goals as goal

pub returns-in_default-clause-labels : goal.returns-in_default-clause-labels
returns-in_default-clause-labels c = none_without c.args.name (labelling_of c.args.maps.now).labels c.in_default.ensures

pub returns-clause-maps : goal.returns-clause-maps
returns-clause-maps c =
    maps_gone c.args.maps.now c.remove_numbers.new.maps c.requires c.in-Some.group c.in-Some.ensures.0 c.in-Some.ensures.1 c.in_ok-remove_numbers.ensures.numbers c.in_ok-remove_numbers.ensures.threads c.in_ok-remove_numbers.ensures.next c.in_ok-remove_numbers.ensures.ids
    c.in_ok-remove_numbers.ensures.groups c.remove.new.self c.in_ok-remove.ensures.found

pub returns-clause-labels : goal.returns-clause-labels
returns-clause-labels c =
    labels_gone c.args.maps.now c.remove_numbers.new.maps c.requires c.in-Some.group c.in-Some.ensures.0 c.in-Some.ensures.1 c.in_ok-remove_numbers.ensures.numbers c.in_ok-remove_numbers.ensures.threads c.in_ok-remove_numbers.ensures.next c.in_ok-remove_numbers.ensures.ids
    c.in_ok-remove_numbers.ensures.groups c.remove.new.self c.in_ok-remove.ensures.found
    ∙ ap (λ name. without_name name (labelling_of c.args.maps.now).labels) c.in-Some.ensures.2
