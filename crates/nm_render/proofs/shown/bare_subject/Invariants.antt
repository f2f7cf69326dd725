use Rattle.std.proofs.Common.{◌≡◌, ◌≤◌, ℕ, length}
use Rattle.nm_model_answer.specs.Summary.{bare_subject, without_replies}
use Rattle.nm_render.proofs.shown.bare_subject.Given as goal

-- what is left, without as many marks as it may have, is the whole without all
abbrev pub invariant-replies : goal.invariant-replies
invariant-replies l = (n : ℕ) × (length l.rest ≤ n) × (without_replies n l.rest ≡ bare_subject l.subject)

abbrev pub decreases-replies : goal.decreases-replies
decreases-replies l = length l.rest
