use Rattle.std.proofs.Common.{not, sym, ap, ◌∙◌}
use Rattle.nm_eval.proofs.PlaceLemmas.{in_where, not_below, not_in}
use Rattle.nm_eval.proofs.places.is_in.Goals as goal

pub returns-in-Some : goal.returns-in-Some
returns-in-Some c = ap not c.has_slash.ensures ∙ sym (in_where c.args.folder.now c.args.path.now c.in-Some.rest.now c.in-Some.ensures)

pub returns-in-None : goal.returns-in-None
returns-in-None c = sym (not_in c.args.folder.now c.args.path.now (not_below c.args.folder.now c.args.path.now c.in-None.ensures))
