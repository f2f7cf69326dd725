use Rattle.std.proofs.Common.{◌≡◌, ℕ, List, ◌++◌, take}
use Rattle.nm_eval.specs.Numbers.{live_at_numbers}
use Rattle.nm_changes.proofs.wanted_tags.add_all_numbered.Given as goal

abbrev pub invariant-found : goal.invariant-found
invariant-found l = (ids : List (List ℕ)) → l.initial.numbered.entries ≡ live_at_numbers l.before ids → l.numbered.entries ≡ live_at_numbers l.before (ids ++ take l.id-index l.found)
