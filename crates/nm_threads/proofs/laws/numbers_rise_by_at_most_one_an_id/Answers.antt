use Rattle.nm_threads.proofs.RowLemmas.{numbered_le, numbered_most}
use Rattle.nm_threads.proofs.laws.numbers_rise_by_at_most_one_an_id.Goals as goal

pub returns-clause-low : goal.returns-clause-low
returns-clause-low c = λ entries next ids. numbered_le ids entries next

pub returns-clause-high : goal.returns-clause-high
returns-clause-high c = λ entries next ids. numbered_most ids entries next
