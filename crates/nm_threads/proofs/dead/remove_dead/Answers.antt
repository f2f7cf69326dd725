use Rattle.std.proofs.Common.{refl, sym, ◌∙◌, not, take, nat_eq, arith}
use Rattle.std.specs.List.{list_any}
use Rattle.nm_threads.specs.Maps.{labelling_of}
use Rattle.nm_threads.proofs.DeadLemmas.{labels_more, labels_held}
use Rattle.nm_threads.proofs.FilterLemmas.{filter_all}
use Rattle.nm_threads.proofs.dead.remove_dead.Goals as goal

pub dead-init : goal.dead-init
dead-init c = record {
  maps = c.requires;
  next = refl;
  labels = sym (filter_all (λ label. not (list_any (nat_eq label.name) (take 0 c.as_slice-name-items.result.now))) (labelling_of c.args.maps.now).labels (λ a among. refl));
}

pub dead-preserved : goal.dead-preserved
dead-preserved c = record {
  maps = c.in_ok-remove_named.ensures.maps;
  next = c.in_ok-remove_named.ensures.next ∙ c.dead.invariant.next;
  labels = labels_more c.as_slice-name-items.result.now c.dead.name-index c.dead-test.true (labelling_of c.args.maps.now).labels (labelling_of c.dead.maps).labels (labelling_of c.remove_named.new.maps).labels c.dead.invariant.labels c.in_ok-remove_named.ensures.labels;
}

pub returns-clause-labels : goal.returns-clause-labels
returns-clause-labels c =
    labels_held c.args.maps.now c.requires c.args.live.now c.in_ok-held.held c.in_ok-held.ensures c.as_slice-name-items.result.now (c.as_slice-name-items.ensures ∙ c.in_ok-dead.ensures) c.dead.name-index (omega arith) (labelling_of c.dead.maps).labels c.dead.invariant.labels
