use Rattle.std.proofs.Common.{◌≡◌, length}
use Rattle.nm_command.specs.Options.{read_options}
use Rattle.nm_command.specs.Settings.{nothing_set}
use Rattle.nm_command.proofs.options.read_options.Given as goal

-- what is left says the rest
abbrev pub invariant-options : goal.invariant-options
invariant-options l = read_options l.command l.settings l.rest ≡ read_options l.command nothing_set l.words

abbrev pub decreases-options : goal.decreases-options
decreases-options l = length l.rest
