-- The name is ASCII.
use Rattle.std.proofs.Common.{sym, ◌∙◌, ap, subst, map}
use Rattle.std.specs.Prelude.{IsUtf8}
use Rattle.std.specs.Char.{to_ascii_lowercase}
use Rattle.nm_header.proofs.FieldLemmas.{name_utf8}
use Rattle.nm_header.proofs.field_line.name_text.Goals as goal

pub text_of-requires : goal.text_of-requires
text_of-requires c = subst IsUtf8 (sym (c.in_ok-lower.ensures.value ∙ ap (map to_ascii_lowercase) c.name_in.ensures)) (name_utf8 c.args.line.now c.requires)
