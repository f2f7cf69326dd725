use Rattle.std.proofs.Common.{ap}
use Rattle.std.specs.Option.{is_some}
use Rattle.nm_threads.proofs.NameLemmas.{name_one, name_le, name_some}
use Rattle.nm_threads.proofs.laws.the_name_is_the_least_number.Goals as goal

pub returns-clause-one : goal.returns-clause-one
returns-clause-one c = name_one

pub returns-clause-none_below : goal.returns-clause-none_below
returns-clause-none_below c = name_le

pub returns-clause-named : goal.returns-clause-named
returns-clause-named c = λ rows entries a id m among same. let name = name_some rows entries a id m among same in ap is_some name.1
