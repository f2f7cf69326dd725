use Rattle.std.proofs.Common.{◌≡◌, ◌+◌, ◌≤◌, length}
use Rattle.nm_text.specs.QuotedStrings.{quoted_len}
use Rattle.nm_text.proofs.quoted_strings.quoted_len.Given as goal

abbrev pub invariant-pairs : goal.invariant-pairs
invariant-pairs l = (quoted_len l.text + length l.rest ≡ quoted_len l.rest + length l.text) × (length l.rest ≤ length l.text)

abbrev pub decreases-pairs : goal.decreases-pairs
decreases-pairs l = length l.rest
