use Rattle.std.proofs.Common.{◌∙◌}
use Rattle.nm_eval.proofs.PlaceLemmas.{below_told}
use Rattle.nm_eval.proofs.places.is_below.Goals as goal

pub returns : goal.returns
returns c = c.is_some.ensures ∙ below_told c.args.folder.now c.args.path.now c.after_folder.result c.after_folder.ensures
