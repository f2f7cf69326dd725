use Rattle.std.proofs.Common.{◌++◌}
use Rattle.nm_segment.specs.Docs.{hits_of}
use Rattle.nm_segment.specs.Merge.{docs_of_part}
use Rattle.nm_segment.proofs.RunsLemmas.{HasRuns}
use Rattle.nm_segment.proofs.merged_index.add_runs.Given as goal

-- the fields so far have their runs
abbrev pub invariant-fields : goal.invariant-fields
invariant-fields l = HasRuns l.initial.runs l.runs l.number (hits_of (docs_of_part l.front ++ docs_of_part l.back) l.next.word.now)
