use Rattle.std.proofs.Common.{◌≡◌, length}
use denote.Shadow.{shadow}
use denote.Text.{Utf8}
use Rattle.nm_tags.specs.TagLines.{asked_in}
use Rattle.nm_tags.proofs.LineLemmas.{with_ops}
use Rattle.nm_tags.proofs.batch.read_ops.Given as goal

-- what was asked so far, and what the rest asks, are all that is asked
abbrev pub invariant-words : goal.invariant-words
invariant-words l = shadow (Utf8 l.rest) × (with_ops l.ops (asked_in l.rest) ≡ asked_in l.text)

abbrev pub decreases-words : goal.decreases-words
decreases-words l = length l.rest
