use Rattle.std.proofs.Common.{sym, subst, ◌∙◌}
use Rattle.std.specs.Prelude.{IsUtf8}
use Rattle.nm_mime.proofs.Utf8Lemmas.{quote_utf8, run_utf8}
use Rattle.nm_mime.proofs.param_list.value_bytes.Goals as goal

pub returns-then-begins_with-clause-text : goal.returns-then-begins_with-clause-text
returns-then-begins_with-clause-text c = λ u. c.in_ok-said.ensures.text (quote_utf8 c.args.text.now (sym c.begins_with.ensures ∙ c.if-begins_with.true) u)

pub returns-clause-text : goal.returns-clause-text
returns-clause-text c = λ u. subst IsUtf8 (sym (c.in_ok-value.ensures.items ∙ c.run.ensures)) (run_utf8 c.args.text.now u)
