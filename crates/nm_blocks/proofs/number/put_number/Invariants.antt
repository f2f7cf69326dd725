use Rattle.std.proofs.Common.{◌≡◌, ◌++◌}
use Rattle.nm_blocks.specs.Numbers.{number_bytes}
use Rattle.nm_blocks.proofs.number.put_number.Given as goal

-- what is written, and what is still to write, is all
abbrev pub invariant-groups : goal.invariant-groups
invariant-groups l = l.draft ++ number_bytes l.rest ≡ l.fn.draft ++ number_bytes l.number

abbrev pub decreases-groups : goal.decreases-groups
decreases-groups l = l.rest
