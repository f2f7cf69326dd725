use Rattle.std.proofs.Common.{sym}
use Rattle.nm_segment.proofs.GatherLemmas.{met_again}
use Rattle.nm_segment.proofs.gather.Gathered.number_of.Goals as goal

pub returns-in-Some-clause-words : goal.returns-in-Some-clause-words
returns-in-Some-clause-words c = λ found h. met_again c.args.self.now found c.args.word.now h c.in-Some.number.now (sym c.in-Some.ensures.value)
