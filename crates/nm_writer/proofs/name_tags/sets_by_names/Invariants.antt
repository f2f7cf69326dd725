use Rattle.std.proofs.Common.{◌≡◌, map, take}
use Rattle.std.specs.List.{flat_map}
use Rattle.nm_model_answer.specs.View.{tags_of}
use Rattle.nm_model_plan.specs.NameTags.{named_tags, set_tags}
use Rattle.nm_writer.specs.NameTags.{set_of}
use Rattle.nm_writer.proofs.name_tags.sets_by_names.Given as goal

abbrev pub invariant-ids : goal.invariant-ids
invariant-ids l = map set_of l.sets ≡ flat_map (λ id. set_tags id (tags_of l.after id) (named_tags l.after id)) (take l.id-index l.ids)
