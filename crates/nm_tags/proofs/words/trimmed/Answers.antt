use Rattle.std.proofs.Common.{sym, ap, subst, ◌∙◌}
use Rattle.std.specs.Str.{IsUtf8}
use Rattle.nm_text.specs.WhiteSpace.{trimmed}
use Rattle.nm_tags.proofs.SpaceLemmas.{utf8_trimmed}
use Rattle.nm_tags.proofs.words.trimmed.Goals as goal

pub as_text-requires : goal.as_text-requires
as_text-requires c = subst IsUtf8 (sym (c.trimmed-kept.ensures ∙ ap trimmed c.as_bytes.ensures.value)) (utf8_trimmed c.args.text.now c.utf8.text)
