use Rattle.std.proofs.Common.{◌≡◌, ◌++◌, List}
use Rattle.nm_segment.specs.Docs.{Occurrence, hits_in, texts}
use Rattle.nm_segment.specs.Gather.{HasGathered, shown}
use Rattle.nm_segment.specs.Runs.{AreRuns}
use Rattle.nm_segment.proofs.gather.Gathered.index.Given as goal

-- the words so far, with those that are left, are all; and they have their runs
abbrev pub invariant-words : goal.invariant-words
invariant-words l = record {
  words : l.words ++ shown l.word-iterator ≡ shown l.self.order.keys;
  runs : (found : List Occurrence) → HasGathered l.self (texts found) found → AreRuns l.runs l.words (hits_in found);
}
