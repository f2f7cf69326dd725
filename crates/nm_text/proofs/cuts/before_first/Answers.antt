use Rattle.nm_text.proofs.PlaceLemmas.{before_utf8}
use Rattle.nm_text.proofs.cuts.before_first.Goals as goal

pub returns-clause-text : goal.returns-clause-text
returns-clause-text c = λ ascii u. before_utf8 c.args.wanted c.args.bytes.now c.first_place.result c.first_place.ensures.place ascii u
