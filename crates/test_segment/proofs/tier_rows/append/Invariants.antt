use Rattle.std.proofs.Common.{◌≡◌, ◌++◌, take}
use Rattle.test_segment.proofs.tier_rows.append.Given as goal

abbrev pub invariant-docs : goal.invariant-docs
invariant-docs l = l.list ≡ l.initial.list ++ take l.doc-index l.docs
