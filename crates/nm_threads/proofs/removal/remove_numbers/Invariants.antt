use Rattle.std.proofs.Common.{◌≡◌, ℕ, cond, not, take, nat_eq}
use Rattle.std.specs.Prelude.{None}
use Rattle.std.specs.List.{filter, list_any}
use Rattle.nm_threads.specs.Maps.{at, AreNumbers}
use Rattle.nm_threads.proofs.removal.remove_numbers.Given as goal

abbrev pub invariant-numbers : goal.invariant-numbers
invariant-numbers l = record {
  numbers : AreNumbers l.maps;
  ids : l.maps.ids ≡ filter (λ e. not (list_any (nat_eq e.0) (take l.number-index l.numbers))) l.fn.maps.ids;
  groups : (n : ℕ) → at n l.maps.groups ≡ cond (list_any (nat_eq n) (take l.number-index l.numbers)) None (at n l.fn.maps.groups);
  threads : l.maps.threads ≡ l.fn.maps.threads;
  next : l.maps.next ≡ l.fn.maps.next;
}
