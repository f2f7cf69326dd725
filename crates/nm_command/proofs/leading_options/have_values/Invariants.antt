use Rattle.std.proofs.Common.{◌≡◌, length, map}
use Rattle.std.specs.List.{list_all}
use Rattle.nm_command.specs.LeadingOptions.{cut_option}
use Rattle.nm_command.specs.LeadingParser.{has_value}
use Rattle.nm_command.proofs.leading_options.have_values.Given as goal

-- what is left decides
abbrev pub invariant-words : goal.invariant-words
invariant-words l = list_all has_value (map cut_option l.rest) ≡ list_all has_value (map cut_option l.words)

abbrev pub decreases-words : goal.decreases-words
decreases-words l = length l.rest
