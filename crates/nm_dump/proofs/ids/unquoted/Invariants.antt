use Rattle.std.proofs.Common.{◌≡◌, length}
use Rattle.nm_model_answer.specs.BatchTag.{unquoted}
use Rattle.nm_dump.proofs.QuoteLemmas.{with_bytes}
use Rattle.nm_dump.proofs.ids.unquoted.Given as goal

-- what was read so far, and what the rest says, are all
abbrev pub invariant-bytes : goal.invariant-bytes
invariant-bytes l = with_bytes l.text (unquoted l.rest) ≡ unquoted l.quoted

abbrev pub decreases-bytes : goal.decreases-bytes
decreases-bytes l = length l.rest
