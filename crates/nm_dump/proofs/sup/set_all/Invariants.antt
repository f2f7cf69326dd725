use Rattle.std.proofs.Common.{◌≡◌, length}
use denote.Shadow.{shadow}
use denote.Text.{Utf8}
use Rattle.nm_tags.specs.TagLines.{words_in}
use Rattle.nm_model_answer.specs.Sup.{set_all}
use Rattle.nm_dump.proofs.DumpLemmas.{with_ops}
use Rattle.nm_dump.proofs.sup.set_all.Given as goal

-- the tags so far, and those of the rest, are all
abbrev pub invariant-words : goal.invariant-words
invariant-words l = shadow (Utf8 l.rest) × (with_ops l.ops (set_all (words_in l.rest)) ≡ set_all (words_in l.text))

abbrev pub decreases-words : goal.decreases-words
decreases-words l = length l.rest
