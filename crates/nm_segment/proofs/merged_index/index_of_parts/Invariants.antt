use Rattle.std.proofs.Common.{◌+◌, ◌-◌, ◌++◌, length}
use Rattle.nm_segment.specs.Docs.{words}
use Rattle.nm_segment.specs.Merge.{docs_of_part}
use Rattle.nm_segment.proofs.WalkLemmas.{HasMerged}
use Rattle.nm_segment.proofs.merged_index.index_of_parts.Given as goal

abbrev pub invariant-words : goal.invariant-words
invariant-words l = HasMerged (words l.front.segment.now) l.at (words l.back.segment.now) l.other (docs_of_part l.front ++ docs_of_part l.back) l.words l.runs

abbrev pub decreases-words : goal.decreases-words
decreases-words l = (length (words l.front.segment.now) - l.at) + (length (words l.back.segment.now) - l.other)
