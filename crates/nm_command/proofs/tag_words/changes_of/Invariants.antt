use Rattle.std.proofs.Common.{◌≡◌, length}
use Rattle.nm_command.specs.TagWords.{changes_of}
use Rattle.nm_command.proofs.TagLemmas.{with_ops}
use Rattle.nm_command.proofs.tag_words.changes_of.Given as goal

-- what was asked so far, and what the rest asks, are all that is asked
abbrev pub invariant-words : goal.invariant-words
invariant-words l = with_ops l.ops (changes_of l.rest) ≡ changes_of l.words

abbrev pub decreases-words : goal.decreases-words
decreases-words l = length l.rest
