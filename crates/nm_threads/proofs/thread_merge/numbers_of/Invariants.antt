use Rattle.std.proofs.Common.{◌≡◌, ◌++◌, length}
use Rattle.std.specs.BTreeMap.Range.{entries_from}
use Rattle.nm_threads.specs.Maps.{pair_cmp}
use Rattle.nm_threads.proofs.MemberLemmas.{front}
use Rattle.nm_threads.proofs.thread_merge.numbers_of.Given as goal

-- the numbers so far, and those at the front of what is left, are those at the front of all
abbrev pub invariant-members : goal.invariant-members
invariant-members l = l.numbers ++ front l.group l.rest ≡ front l.group (entries_from (pair_cmp (l.group, 0)) l.members)

abbrev pub decreases-members : goal.decreases-members
decreases-members l = length l.rest
