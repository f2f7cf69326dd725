use Rattle.nm_command.proofs.TagLemmas.{cut_after_sign}
use Rattle.nm_command.proofs.tag_words.op_of.Goals as goal

pub range_from-requires : goal.range_from-requires
range_from-requires c = λ _. cut_after_sign c.args.word.now c.utf8.word c.requires
