use Rattle.nm_query.proofs.CutLemmas.{cut_after, inside}
use Rattle.nm_query.proofs.lexeme.further_at.Goals as goal

pub returns-in-Some-clause-cut : goal.returns-in-Some-clause-cut
returns-in-Some-clause-cut c =
    inside c.name_term.result _ _ (λ lexeme h. cut_after c.args.text.now c.in-Some.rest.now c.in-Some.prefix.len lexeme.len c.in-Some.ensures.2 c.in-Some.ensures.1 h.0 h.1) c.name_term.ensures.cut
