use Rattle.std.proofs.Common.{◌≡◌, take}
use Rattle.nm_query.proofs.query.+copying.Given as goal

abbrev pub invariant-copies-queries : goal.invariant-copies-queries
invariant-copies-queries l = l.copied ≡ take l.query-index l.queries
