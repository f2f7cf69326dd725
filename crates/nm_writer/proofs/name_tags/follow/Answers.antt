use Rattle.std.proofs.Common.{rules, ◌≡◌, subst, map}
use Rattle.nm_model_index.specs.declared.base.Base.{Base}
use Rattle.nm_model_plan.specs.NameTags.{follow_names, live_of}
use Rattle.nm_state.specs.Snapshot.{retagged}
use Rattle.nm_writer.specs.NameTags.{set_of}
use Rattle.nm_writer.proofs.NameTagLemmas.{follow-is, sets-live}
use Rattle.nm_writer.proofs.name_tags.follow.Goals as goal

pub with_tags-requires : goal.with_tags-requires
with_tags-requires c =
    let live : c.as_slice.result.now ≡ live_of c.in_ok-after.after c.args.ids.now = search rules in
    let sets = follow-is c.in_ok-after.after c.args.ids.now c.as_slice.result.now c.in_ok-sets.sets live c.in_ok-sets.ensures in
    record { live = sets-live c.in_ok-after.after c.args.ids.now c.in_ok-sets.sets sets }

pub returns : goal.returns
returns c =
    let live : c.as_slice.result.now ≡ live_of c.in_ok-after.after c.args.ids.now = search rules in
    let sets = follow-is c.in_ok-after.after c.args.ids.now c.as_slice.result.now c.in_ok-sets.sets live c.in_ok-sets.ensures in
    record {
      sets = subst (λ (after : Base). map set_of c.in_ok-sets.sets ≡ follow_names after c.args.ids.now) c.in_ok-after.ensures sets;
      next = subst (λ (after : Base). c.in_ok-next.next ≡ retagged after c.in_ok-sets.sets) c.in_ok-after.ensures c.in_ok-next.ensures;
    }
