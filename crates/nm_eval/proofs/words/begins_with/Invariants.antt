use Rattle.std.proofs.Common.{◌≡◌, length}
use Rattle.nm_base.specs.AskedWords.{begins_with}
use Rattle.nm_eval.proofs.words.begins_with.Given as goal

-- what is left begins with what is still wanted where all begins with all
abbrev pub invariant-words : goal.invariant-words
invariant-words l = begins_with l.starts l.wanted l.rest ≡ begins_with l.starts l.words l.list

abbrev pub decreases-words : goal.decreases-words
decreases-words l = length l.wanted
