use Rattle.nm_tags.proofs.LineLemmas.{cut_after_sign}
use Rattle.nm_tags.proofs.batch.op_of.Goals as goal

pub range_from-requires : goal.range_from-requires
range_from-requires c = λ _. cut_after_sign c.args.word.now c.utf8.word c.requires
