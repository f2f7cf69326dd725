use Rattle.nm_command.proofs.RepeatLemmas.{another-given, nothing-given, repeated-given}
use Rattle.nm_command.proofs.laws.an_option_stands_once.Goals as goal

pub returns-clause-nothing : goal.returns-clause-nothing
returns-clause-nothing c = nothing-given

pub returns-clause-same : goal.returns-clause-same
returns-clause-same c = repeated-given

pub returns-clause-another : goal.returns-clause-another
returns-clause-another c = another-given
