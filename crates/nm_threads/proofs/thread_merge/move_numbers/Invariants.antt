use Rattle.std.proofs.Common.{◌≡◌, ◌+◌, ℕ, cond, take, nat_eq}
use Rattle.std.specs.Prelude.{Some}
use Rattle.std.specs.List.{list_any}
use Rattle.nm_threads.specs.Maps.{at, AreMembers}
use Rattle.nm_threads.proofs.thread_merge.move_numbers.Given as goal

abbrev pub invariant-numbers : goal.invariant-numbers
invariant-numbers g l = record {
  members : AreMembers l.members l.groups;
  groups : (number : ℕ) → at number l.groups ≡ cond (list_any (nat_eq number) (take l.number-index l.numbers)) (Some l.to) (at number l.initial.groups);
  steps : l.steps ≡ l.initial.steps + l.number-index;
}
