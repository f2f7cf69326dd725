use Rattle.std.proofs.Common.{◌≡◌, ℕ, ◌<◌, true, get_or, []}
use Rattle.nm_command.specs.Options.{begins_with_dashes}
use Rattle.nm_command.proofs.leading_options.leading_words.Given as goal

-- all so far begin with dashes
abbrev pub invariant-words : goal.invariant-words
invariant-words l = (k : ℕ) → k < l.at → begins_with_dashes (get_or l.words k []) ≡ true
