use Rattle.std.proofs.Common.{◌≡◌, true, sym, ap, subst, ◌∙◌}
use Rattle.nm_tags.specs.TagLines.{after_first_word, asked_in, is_tag_word, op_of, with_op}
use Rattle.nm_tags.proofs.LineLemmas.{asked_first}
use Rattle.nm_tags.proofs.batch.next_tag_word.Goals as goal

pub returns-in-Some-clause-asked : goal.returns-in-Some-clause-asked
returns-in-Some-clause-asked c =
    let is : is_tag_word c.in-Some.word.now ≡ true = sym c.is_tag_word.ensures ∙ c.if-is_tag_word.true in
    asked_first c.args.text.now (subst (λ w. is_tag_word w ≡ true) c.in-Some.ensures.first is)
    ∙ (ap (λ w. with_op (op_of w) (asked_in (after_first_word c.args.text.now))) (sym c.in-Some.ensures.first) ∙ ap (λ t. with_op (op_of c.in-Some.word.now) (asked_in t)) (sym c.in-Some.ensures.after))
