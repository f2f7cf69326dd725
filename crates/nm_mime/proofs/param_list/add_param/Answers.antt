use Rattle.std.proofs.Common.{sym, subst, take, drop, ◌∙◌, ap}
use Rattle.std.specs.Prelude.{IsUtf8}
use Rattle.nm_mime.proofs.Utf8Lemmas.{name_utf8, rest_utf8}
use Rattle.nm_mime.proofs.param_list.add_param.Goals as goal

pub add_named-requires-clause-name : goal.add_named-requires-clause-name
add_named-requires-clause-name c = subst IsUtf8 (sym (c.split_at.ensures.front ∙ ap (λ n. take n c.args.text.now) c.name_len.ensures.value)) (name_utf8 c.args.text.now c.requires.utf8)

pub add_named-requires-clause-after : goal.add_named-requires-clause-after
add_named-requires-clause-after c = subst IsUtf8 (sym (c.split_at.ensures.back ∙ ap (λ n. drop n c.args.text.now) c.name_len.ensures.value)) (rest_utf8 c.args.text.now c.requires.utf8)
