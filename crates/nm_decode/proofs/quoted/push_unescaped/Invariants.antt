use Rattle.std.proofs.Common.{◌≡◌, ◌++◌, length}
use Rattle.nm_decode.specs.QuotedPrintable.{unescaped}
use Rattle.nm_decode.proofs.quoted.push_unescaped.Given as goal

abbrev pub invariant-escapes : goal.invariant-escapes
invariant-escapes l = l.out.items ++ unescaped l.rest ≡ l.initial.out.items ++ unescaped l.text

abbrev pub decreases-escapes : goal.decreases-escapes
decreases-escapes l = length l.rest
