use Rattle.std.proofs.Common.{length}
use Rattle.nm_dates.proofs.NumberLemmas.{more_digits}
use Rattle.nm_dates.proofs.numbers.number.Goals as goal

pub returns-clause-bound : goal.returns-clause-bound
returns-clause-bound c = more_digits (length c.args.text.now) c.args.max c.number_of.result c.if-not-is_number.ensures.few c.number_of.ensures.bound
