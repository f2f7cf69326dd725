use Rattle.std.proofs.Common.{◌≡◌, ◌+◌, take}
use Rattle.std.specs.List.{filter_map}
use Rattle.nm_threads.specs.Maps.{at}
use Rattle.nm_threads.proofs.members.ids_at.Given as goal

abbrev pub invariant-numbers : goal.invariant-numbers
invariant-numbers g l = record {
  ids : l.found ≡ filter_map (λ number. at number l.ids) (take l.number-index l.numbers);
  steps : l.steps ≡ l.initial.steps + l.number-index;
}
