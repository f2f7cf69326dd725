use Rattle.std.proofs.Common.{◌≡◌, ◌++◌, take}
use Rattle.std.specs.List.{filter}
use Rattle.nm_lookup.proofs.documents.push_living.Given as goal

-- those so far that live
abbrev pub invariant-found : goal.invariant-found
invariant-found g l = l.docs ≡ l.initial.docs ++ filter (g.C.Condition.holds l.living) (take l.doc-index l.found)
