use Rattle.std.proofs.Common.{sym, subst, take, ◌∙◌, ap}
use Rattle.std.specs.Prelude.{IsUtf8}
use Rattle.nm_mime.proofs.Utf8Lemmas.{front_utf8}
use Rattle.nm_mime.proofs.param_list.quoted_text.Goals as goal

pub returns-clause-text : goal.returns-clause-text
returns-clause-text c = λ u. c.in_ok-said.ensures.text (subst IsUtf8 (sym (c.split_at.ensures.front ∙ ap (λ n. take n c.args.text.now) c.quoted_len.ensures.value)) (front_utf8 c.args.text.now u))
