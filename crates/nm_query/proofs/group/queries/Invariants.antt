use Rattle.std.proofs.Common.{◌≡◌, map}
use Rattle.nm_query.specs.Groups.{query_of}
use Rattle.nm_query.proofs.group.queries.Given as goal

abbrev pub invariant-items : goal.invariant-items
invariant-items l = l.queries ≡ map query_of l.yielded
