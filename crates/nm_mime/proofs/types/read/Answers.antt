use Rattle.nm_mime.proofs.TypeLemmas.{kind_utf8}
use Rattle.nm_mime.proofs.types.read.Goals as goal

pub text_of-requires : goal.text_of-requires
text_of-requires c = kind_utf8 c.args.text.now c.args.run.now c.in_ok-lowercase.field-0.items c.requires.run c.in_ok-lowercase.ensures.value
