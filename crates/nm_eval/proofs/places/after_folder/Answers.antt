use Rattle.std.proofs.Common.{List, ℕ, sym, subst, ◌∙◌}
use Rattle.nm_eval.proofs.PlaceLemmas.{Strips, no_front, slash_after, stripped}
use Rattle.nm_eval.proofs.places.after_folder.Goals as goal

pub returns-in-Some : goal.returns-in-Some
returns-in-Some c =
    slash_after c.args.folder.now c.args.path.now c.in-Some.rest.now c.strip_prefix-in-Some.result (sym c.is_empty.ensures ∙ c.if-is_empty.false)
    (stripped c.args.folder.now c.args.path.now c.in-Some.rest c.in-Some.ensures.cases)
    (subst (λ (front : List ℕ). Strips c.in-Some.rest.now front c.strip_prefix-in-Some.result) c.as_slice.ensures c.strip_prefix-in-Some.ensures.cases)

pub returns-in-None : goal.returns-in-None
returns-in-None c = no_front c.args.folder.now c.args.path.now (sym c.is_empty.ensures ∙ c.if-is_empty.false) c.in-None.ensures.cases
