use Rattle.std.proofs.Common.{◌||◌, codes, sym, ap, ◌∙◌}
use Rattle.std.proofs.lemmas.Bool.{or_left}
use Rattle.nm_model_answer.specs.Places.{is_in}
use Rattle.nm_eval.proofs.PlaceLemmas.{maildir_where, not_in_maildir}
use Rattle.nm_eval.proofs.places.lies_in_maildir.Goals as goal

pub returns-then-is_in : goal.returns-then-is_in
returns-then-is_in c =
    c.if-is_in.true
    ∙ sym (maildir_where c.args.folder.now c.args.path.now c.in-Some.rest.now c.in-Some.ensures
    ∙ or_left (is_in (codes "new") c.in-Some.rest.now) (is_in (codes "cur") c.in-Some.rest.now) (sym c.is_in.ensures ∙ c.if-is_in.true))

pub returns-else-is_in : goal.returns-else-is_in
returns-else-is_in c =
    c.is_in-else-is_in.ensures
    ∙ sym (maildir_where c.args.folder.now c.args.path.now c.in-Some.rest.now c.in-Some.ensures
    ∙ ap (λ new. new || is_in (codes "cur") c.in-Some.rest.now) (sym c.is_in.ensures ∙ c.if-is_in.false))

pub returns-in-None : goal.returns-in-None
returns-in-None c = sym (not_in_maildir c.args.folder.now c.args.path.now c.in-None.ensures)
