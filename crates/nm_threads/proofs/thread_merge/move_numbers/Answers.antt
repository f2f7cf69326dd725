use Rattle.std.proofs.Common.{ap, ◌∙◌, arith, cond, get_or, take, nat_eq}
use Rattle.std.specs.Prelude.{Some}
use Rattle.std.specs.List.{list_any}
use Rattle.std.specs.Ordering.{is_eq}
use Rattle.nm_threads.specs.Maps.{at, pair_cmp}
use Rattle.nm_threads.proofs.MemberLemmas.{members_moved, groups_more, number_among, stands_by}
use Rattle.nm_threads.proofs.thread_merge.move_numbers.Goals as goal

pub numbers-preserved : goal.numbers-preserved
numbers-preserved g c = record {
  members =
      members_moved c.numbers.members c.insert-in-numbers.new.self c.numbers.groups c.insert.new.self c.args.from c.args.to (get_or c.args.numbers.now c.numbers.number-index 0) (record {}) c.numbers.invariant.members
      (stands_by c.args.from c.args.to (at (get_or c.args.numbers.now c.numbers.number-index 0) c.args.groups.now) (at (get_or c.args.numbers.now c.numbers.number-index 0) c.numbers.groups)
      (list_any (nat_eq (get_or c.args.numbers.now c.numbers.number-index 0)) (take c.numbers.number-index c.args.numbers.now)) (c.numbers.invariant.groups (get_or c.args.numbers.now c.numbers.number-index 0))
      (number_among c.args.numbers.now c.numbers.number-index c.args.from c.args.groups.now c.numbers-test.true c.requires.numbers))
      c.in_ok-insert.ensures.found
      (λ pair. c.in_ok-insert-2.ensures.found pair ∙ ap (λ rest. cond (is_eq (pair_cmp pair (c.args.to, get_or c.args.numbers.now c.numbers.number-index 0))) (Some (record {})) rest) (c.in_ok-remove.ensures.found pair));
  groups = groups_more c.args.numbers.now c.numbers.number-index c.args.to c.numbers.groups c.insert.new.self c.args.groups.now c.numbers-test.true c.in_ok-insert.ensures.found c.numbers.invariant.groups;
  steps = omega (arith, c.tick.ensures, c.numbers.invariant.steps);
}
