use Rattle.std.proofs.Common.{◌≡◌, take}
use Rattle.std.specs.List.{flat_map}
use Rattle.nm_model_answer.specs.View.{tags_of}
use Rattle.nm_model_plan.specs.NameTags.{set_tags}
use Rattle.nm_changes.specs.WantedTags.{renames_of}
use Rattle.nm_changes.proofs.tag_plan.plan_tags.Given as goal

-- those of the messages so far
abbrev pub invariant-ids : goal.invariant-ids
invariant-ids l = record {
  changes : l.changes ≡ flat_map (λ id. set_tags id (tags_of l.shown id) (tags_of l.wanted.after id)) (take l.id-index l.wanted.ids);
  renames : l.plan ≡ flat_map (renames_of l.shown l.wanted.after) (take l.id-index l.wanted.ids);
}
