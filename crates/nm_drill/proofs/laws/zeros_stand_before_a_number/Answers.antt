use Rattle.nm_drill.proofs.DigitLemmas.{last_digits-decimal}
use Rattle.nm_drill.proofs.laws.zeros_stand_before_a_number.Goals as goal

pub returns : goal.returns
returns c = last_digits-decimal
