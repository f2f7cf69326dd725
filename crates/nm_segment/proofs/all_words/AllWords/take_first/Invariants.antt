use Rattle.std.proofs.Common.{◌≡◌, [], length}
use Rattle.std.specs.List.{AllByRecursion}
use Rattle.nm_segment.specs.Docs.{AreFew, current_words, occurrences}
use Rattle.nm_segment.proofs.all_words.AllWords.take_first.Given as goal

-- no word was found so far, so that all that were left are in the documents that are left
abbrev pub invariant-docs : goal.invariant-docs
invariant-docs l = record {
  words : occurrences l.self-inside.rest.now ≡ l.fn.self;
  none : current_words l.self-inside.current ≡ [];
  few : AllByRecursion (λ d. AreFew d.lists) l.self-inside.rest.now;
}

abbrev pub decreases-docs : goal.decreases-docs
decreases-docs l = length l.self-inside.rest.now
