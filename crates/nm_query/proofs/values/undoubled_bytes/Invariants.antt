use Rattle.std.proofs.Common.{◌≡◌, ◌++◌, length}
use Rattle.nm_query.specs.Values.{undoubled}
use Rattle.nm_query.proofs.values.undoubled_bytes.Given as goal

-- so far, and what is left, is all
abbrev pub invariant-bytes : goal.invariant-bytes
invariant-bytes l = l.said.items ++ undoubled l.rest ≡ undoubled l.text

abbrev pub decreases-bytes : goal.decreases-bytes
decreases-bytes l = length l.rest
