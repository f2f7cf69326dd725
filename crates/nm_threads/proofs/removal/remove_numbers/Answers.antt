use Rattle.std.proofs.Common.{refl, sym, ◌∙◌, not, take, nat_eq, arith}
use Rattle.std.specs.List.{list_any}
use Rattle.nm_threads.proofs.FilterLemmas.{filter_all}
use Rattle.nm_threads.proofs.RemoveLemmas.{ids_gone, groups_gone, group_here, ids_all, groups_all}
use Rattle.nm_threads.proofs.removal.remove_numbers.Goals as goal

pub numbers-init : goal.numbers-init
numbers-init c = record {
  numbers = c.requires.numbers;
  ids = sym (filter_all (λ e. not (list_any (nat_eq e.0) (take 0 c.args.numbers.now))) c.args.maps.now.ids (λ e among. refl));
  groups = λ n. refl;
  threads = refl;
  next = refl;
}

pub remove_number-requires-clause-numbers : goal.remove_number-requires-clause-numbers
remove_number-requires-clause-numbers c = c.numbers.invariant.numbers

pub remove_number-requires-clause-group : goal.remove_number-requires-clause-group
remove_number-requires-clause-group c = group_here c.args.numbers.now c.numbers.number-index c.numbers-test.true c.args.group c.args.maps.now.groups c.numbers.maps.groups c.numbers.invariant.groups c.requires.sorted c.requires.group

pub numbers-preserved : goal.numbers-preserved
numbers-preserved c = record {
  numbers = c.in_ok-remove_number.ensures.numbers;
  ids = ids_gone c.args.numbers.now c.numbers.number-index c.numbers-test.true c.args.maps.now.ids c.numbers.maps.ids c.remove_number.new.maps.ids c.numbers.invariant.ids c.in_ok-remove_number.ensures.ids;
  groups = groups_gone c.args.numbers.now c.numbers.number-index c.numbers-test.true c.args.maps.now.groups c.numbers.maps.groups c.remove_number.new.maps.groups c.numbers.invariant.groups c.in_ok-remove_number.ensures.groups;
  threads = c.in_ok-remove_number.ensures.threads ∙ c.numbers.invariant.threads;
  next = c.in_ok-remove_number.ensures.next ∙ c.numbers.invariant.next;
}

pub returns-clause-numbers : goal.returns-clause-numbers
returns-clause-numbers c = c.numbers.invariant.numbers

pub returns-clause-ids : goal.returns-clause-ids
returns-clause-ids c = ids_all c.args.numbers.now c.numbers.number-index c.args.group (omega arith) c.args.maps.now.groups c.requires.group c.args.maps.now.ids c.numbers.maps.ids c.numbers.invariant.ids

pub returns-clause-groups : goal.returns-clause-groups
returns-clause-groups c = groups_all c.args.numbers.now c.numbers.number-index c.args.group (omega arith) c.args.maps.now.groups c.requires.group c.numbers.maps.groups c.numbers.invariant.groups

pub returns-clause-threads : goal.returns-clause-threads
returns-clause-threads c = c.numbers.invariant.threads

pub returns-clause-next : goal.returns-clause-next
returns-clause-next c = c.numbers.invariant.next
