use Rattle.std.proofs.Common.{sym, ap, ◌∙◌}
use Rattle.std.specs.List.{list_any}
use Rattle.nm_model_answer.specs.Matches.{names_tag}
use Rattle.nm_eval.proofs.exclusion.+naming.Goals as goal

pub names_tag-returns-in-And : goal.names_tag-returns-in-And
names_tag-returns-in-And t c =
    c.any_names.ensures ∙ ap (list_any (λ query. names_tag query c.args.tag.now)) c.as_slice.ensures
    ∙ sym (c.a_tree_names_the_tags_of_its_queries.ensures.all c.in-And.queries c.args.tag.now) ∙ ap (λ query. names_tag query c.args.tag.now) (sym c.in-And.is)

pub names_tag-returns-in-Or : goal.names_tag-returns-in-Or
names_tag-returns-in-Or t c =
    c.any_names-in-Or.ensures ∙ ap (list_any (λ query. names_tag query c.args.tag.now)) c.as_slice-in-Or.ensures
    ∙ sym (c.a_tree_names_the_tags_of_its_queries.ensures.one c.in-Or.queries c.args.tag.now) ∙ ap (λ query. names_tag query c.args.tag.now) (sym c.in-Or.is)

pub names_tag-returns-in-Xor : goal.names_tag-returns-in-Xor
names_tag-returns-in-Xor t c =
    c.any_names-in-Xor.ensures ∙ ap (list_any (λ query. names_tag query c.args.tag.now)) c.as_slice-in-Xor.ensures
    ∙ sym (c.a_tree_names_the_tags_of_its_queries.ensures.odd c.in-Xor.queries c.args.tag.now) ∙ ap (λ query. names_tag query c.args.tag.now) (sym c.in-Xor.is)
