use Rattle.std.proofs.Common.{◌≡◌, ◌≤◌, drop}
use Rattle.nm_query.proofs.ParenLemmas.{told}
use Rattle.nm_query.specs.Faults.{unmatched_from}
use Rattle.nm_query.proofs.faults.unmatched.Given as goal

-- what the rest tells of the parenthesis that is open is what all tells
abbrev pub invariant-tokens : goal.invariant-tokens
invariant-tokens l = (l.open ≤ l.placed-index) × (told l.open l.outermost (drop l.placed-index l.tokens) ≡ unmatched_from 0 l.tokens)
