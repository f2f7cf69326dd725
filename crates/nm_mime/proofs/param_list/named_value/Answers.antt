use Rattle.std.proofs.Common.{sym, subst}
use Rattle.std.specs.Prelude.{IsUtf8}
use Rattle.nm_mime.proofs.Utf8Lemmas.{trimmed_utf8}
use Rattle.nm_mime.proofs.param_list.named_value.Goals as goal

pub text_of-requires : goal.text_of-requires
text_of-requires c = c.in_ok-name.ensures.text (subst IsUtf8 (sym c.trimmed.ensures) (trimmed_utf8 c.args.name.now c.requires.name))

pub text_of-requires-2 : goal.text_of-requires-2
text_of-requires-2 c = c.in_ok-value.ensures.text c.requires.text
