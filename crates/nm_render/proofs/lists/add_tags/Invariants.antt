use Rattle.std.proofs.Common.{◌≡◌, fold, length}
use Rattle.nm_base.specs.Order.{insert}
use Rattle.nm_model_answer.specs.View.{tags_of}
use Rattle.nm_render.proofs.lists.add_tags.Given as goal

-- the tags so far with those that are left are all
abbrev pub invariant-tags : goal.invariant-tags
invariant-tags l = fold insert l.tags l.rest ≡ fold insert l.initial.tags (tags_of l.snapshot l.id)

abbrev pub decreases-tags : goal.decreases-tags
decreases-tags l = length l.rest
