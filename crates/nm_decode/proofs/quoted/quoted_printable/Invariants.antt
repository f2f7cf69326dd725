use Rattle.std.proofs.Common.{◌≡◌, ◌++◌, length}
use Rattle.nm_decode.specs.QuotedPrintable.{quoted_of}
use Rattle.nm_decode.proofs.quoted.quoted_printable.Given as goal

abbrev pub invariant-lines : goal.invariant-lines
invariant-lines l = l.out.items ++ quoted_of l.rest ≡ quoted_of l.bytes

abbrev pub decreases-lines : goal.decreases-lines
decreases-lines l = length l.rest
