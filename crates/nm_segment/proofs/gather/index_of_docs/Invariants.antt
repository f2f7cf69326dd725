use Rattle.std.proofs.Common.{◌≡◌, List, ◌++◌, length}
use Rattle.nm_segment.specs.Docs.{Occurrence, occurrences, texts}
use Rattle.nm_segment.specs.Gather.{HasGathered}
use Rattle.nm_segment.proofs.gather.index_of_docs.Given as goal

-- what was taken is gathered
abbrev pub invariant-words : goal.invariant-words
invariant-words l = (taken : List Occurrence) × (taken ++ l.words ≡ occurrences l.docs) × HasGathered l.gathered (texts taken) taken

abbrev pub decreases-words : goal.decreases-words
decreases-words l = length l.words
