use Rattle.std.proofs.Common.{subst, sym, ap, ◌∙◌}
use Rattle.std.specs.Prelude.{IsUtf8}
use Rattle.nm_query.specs.Values.{undoubled}
use Rattle.nm_query.proofs.QuoteLemmas.{undoubled_utf8}
use Rattle.nm_query.proofs.values.undoubled.Goals as goal

pub text_of-requires : goal.text_of-requires
text_of-requires c =
    subst IsUtf8 (sym (c.in_ok-undoubled_bytes.ensures ∙ ap undoubled c.as_bytes.ensures.value)) (undoubled_utf8 c.args.text.now c.utf8.text)
