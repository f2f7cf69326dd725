use Rattle.std.proofs.Common.{sym, ◌∙◌}
use Rattle.nm_render.proofs.TagLemmas.{old_stays}
use Rattle.nm_render.proofs.lists.add_tag.Goals as goal

pub returns-then-has : goal.returns-then-has
returns-then-has c = sym (old_stays c.args.tags.now c.args.tag.now c.iter.ensures.sorted (sym c.has.ensures ∙ c.if-has.true))
