use Rattle.std.proofs.Common.{sym, ap, subst, ℕ, List, [], ◌+◌, ◌∷◌, ◌≤◌, take, arith}
use Rattle.std.proofs.lemmas.List.{drop_all}
use Rattle.nm_threads.specs.Labels.{entries_of, numbered}
use Rattle.nm_threads.specs.Maps.{labelling_of}
use Rattle.nm_threads.proofs.RowLemmas.{room_first, row_numbers, row_labels, row_room, more_numbers, more_labels, row_ends}
use Rattle.nm_threads.specs.Work.{link_steps}
use Rattle.nm_threads.proofs.StepLemmas.{exact_more}
use Rattle.nm_threads.proofs.WorkLemmas.{potential_given}
use Rattle.nm_threads.proofs.rows.add.Goals as goal

pub give_number-requires-clause-room : goal.give_number-requires-clause-room
give_number-requires-clause-room g c = room_first (entries_of (labelling_of c.args.maps.now).labels) c.args.maps.now.next c.args.row.now.id c.args.row.now.links 9223372036854775808 c.requires.room

pub links-init : goal.links-init
links-init g c = record {
  maps = c.in_ok-number.ensures.maps;
  numbers = row_numbers c.args.maps.now c.give_number.new.maps c.args.row.now.id c.as_slice-link-items.result.now c.in_ok-number.ensures.given;
  labels = row_labels c.args.maps.now c.give_number.new.maps c.args.row.now.id c.as_slice-link-items.result.now c.requires.maps c.in_ok-number.ensures.given;
  own = c.in_ok-number.ensures.number;
  steps = omega (arith, c.tick.ensures);
  looked = omega (arith, c.tick.ensures);
  exact = λ rows labels. omega (arith, c.tick.ensures);
  work = λ f doubles. omega (arith, c.tick.ensures, potential_given f c.args.maps.now c.give_number.new.maps c.requires.maps c.in_ok-number.ensures.maps c.args.row.now.id c.in_ok-number.ensures.given);
}

pub add_link-requires-clause-room : goal.add_link-requires-clause-room
add_link-requires-clause-room g c =
    row_room c.args.maps.now c.links.maps c.args.row.now.id c.as_slice-link-items.result.now c.links.link-index c.links-test.true c.link-item.result (sym c.link-item.is) 9223372036854775808
    (subst (λ items. (numbered (entries_of (labelling_of c.args.maps.now).labels) c.args.maps.now.next (c.args.row.now.id ∷ items)).1 ≤ 9223372036854775808) (sym c.as_slice-link-items.ensures) c.requires.room) c.links.invariant.numbers

pub links-preserved : goal.links-preserved
links-preserved g c = record {
  maps = c.in_ok-add_link.ensures.maps;
  numbers =
      more_numbers c.args.maps.now c.links.maps c.args.row.now.id c.as_slice-link-items.result.now c.links.link-index c.links-test.true c.link-item.result (sym c.link-item.is) c.add_link.new.maps c.in_ok-add_link.ensures.links c.links.invariant.numbers;
  labels = λ rows labels.
      more_labels c.args.maps.now c.links.maps c.args.row.now.id c.as_slice-link-items.result.now c.links.link-index c.links-test.true c.link-item.result (sym c.link-item.is) c.add_link.new.maps c.in_ok-add_link.ensures.links rows (c.links.invariant.labels rows labels);
  looked = omega (arith, c.links.invariant.looked, c.in_ok-add_link.ensures.exact);
  exact = λ rows labels.
      exact_more c.args.maps.now c.links.maps c.add_link.new.maps c.links.invariant.maps c.in_ok-add_link.ensures.maps rows c.args.row.now.id c.in_ok-number.number c.as_slice-link-items.result.now c.links.link-index c.links-test.true c.link-item.result (sym c.link-item.is)
      c.links.invariant.own c.in_ok-add_link.ensures.own c.in_ok-add_link.ensures.links c.links.invariant.numbers (c.links.invariant.labels rows labels) c.links.steps c.add_link.new.steps c.in_ok-add_link.ensures.exact
      (c.args.steps.now + (1 + link_steps rows (entries_of (labelling_of c.args.maps.now).labels, c.args.maps.now.next) c.args.row.now.id [] c.as_slice-link-items.result.now)) (c.links.invariant.exact rows labels);
  own = c.in_ok-add_link.ensures.own;
  steps = omega (arith, c.links.invariant.steps, c.in_ok-add_link.ensures.steps);
  work = λ f doubles. omega (arith, c.links.invariant.work f doubles, c.in_ok-add_link.ensures.work f doubles);
}

pub returns-clause-labels : goal.returns-clause-labels
returns-clause-labels g c = λ rows labels. row_ends rows c.args.row.now (labelling_of c.links.maps).labels c.as_slice-link-items.result.now c.links.link-index c.as_slice-link-items.ensures (omega arith) (c.links.invariant.labels rows labels)

pub returns-clause-exact : goal.returns-clause-exact
returns-clause-exact g c = λ rows labels.
    let old : List (List ℕ × ℕ) × ℕ = (entries_of (labelling_of c.args.maps.now).labels, c.args.maps.now.next) in
    omega (
      arith,
      c.links.invariant.exact rows labels,
      ap (link_steps rows old c.args.row.now.id (take c.links.link-index c.as_slice-link-items.result.now)) (drop_all c.links.link-index c.as_slice-link-items.result.now (omega arith)),
      ap (link_steps rows old c.args.row.now.id []) c.as_slice-link-items.ensures,
    )
