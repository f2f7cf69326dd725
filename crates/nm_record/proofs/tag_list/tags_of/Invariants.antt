use Rattle.std.proofs.Common.{◌≡◌, take}
use Rattle.nm_record.proofs.tag_list.tags_of.Given as goal

abbrev pub invariant-tags : goal.invariant-tags
invariant-tags l = l.tags ≡ take l.tag-index l.tag-items
