use Rattle.std.proofs.Common.{◌≡◌}
use Rattle.std.specs.Prelude.{fold}
use Rattle.nm_query.specs.GroupTerms.{part, unparted}
use Rattle.nm_query.proofs.group.part_all.Given as goal

abbrev pub invariant-items : goal.invariant-items
invariant-items l = l.parted ≡ fold (part l.kind) unparted l.yielded
