use Rattle.std.proofs.Common.{sym, subst, ◌∙◌}
use Rattle.std.specs.Prelude.{IsUtf8}
use Rattle.nm_mime.proofs.Utf8Lemmas.{sign_utf8}
use Rattle.nm_mime.proofs.param_list.add_named.Goals as goal

pub named_value-requires-clause-text : goal.named_value-requires-clause-text
named_value-requires-clause-text c =
    subst IsUtf8 (sym c.trimmed_start.ensures.value) (sign_utf8 c.args.after.now (sym c.begins_with.ensures ∙ c.if-not-begins_with.false) c.requires.after)
