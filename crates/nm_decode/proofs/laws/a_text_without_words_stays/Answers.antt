use Rattle.nm_decode.proofs.MarkLaw.{without_marks}
use Rattle.nm_decode.proofs.laws.a_text_without_words_stays.Goals as goal

pub returns : goal.returns
returns c = without_marks c.args.text.now c.requires
