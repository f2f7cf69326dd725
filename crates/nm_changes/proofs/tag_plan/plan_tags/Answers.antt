use Rattle.std.proofs.Common.{◌≡◌, ℕ, List, ap, ◌∙◌, arith, length, take, take_all}
use Rattle.std.specs.List.{flat_map}
use Rattle.nm_model_answer.specs.View.{tags_of}
use Rattle.nm_model_plan.specs.NameTags.{set_tags}
use Rattle.nm_changes.specs.WantedTags.{renames_of}
use Rattle.nm_changes.proofs.TagPlanLemmas.{changes-are, renames-are}
use Rattle.nm_changes.proofs.tag_plan.plan_tags.Goals as goal

pub returns-clause-changes : goal.returns-clause-changes
returns-clause-changes c =
    let wanted = c.args.wanted.now in
    let all : take c.ids.id-index wanted.ids ≡ wanted.ids = take_all c.ids.id-index wanted.ids (omega (arith, c.ids-test.false, ap (λ (l : List (List ℕ)). length l) c.as_slice-id-items.ensures)) in
    changes-are c.args.shown.now wanted.after wanted.ids c.requires.touched c.ids.changes
    (c.ids.invariant.changes ∙ ap (λ (l : List (List ℕ)). flat_map (λ id. set_tags id (tags_of c.args.shown.now id) (tags_of wanted.after id)) l) all)

pub returns-clause-renames : goal.returns-clause-renames
returns-clause-renames c =
    let wanted = c.args.wanted.now in
    let all : take c.ids.id-index wanted.ids ≡ wanted.ids = take_all c.ids.id-index wanted.ids (omega (arith, c.ids-test.false, ap (λ (l : List (List ℕ)). length l) c.as_slice-id-items.ensures)) in
    renames-are c.args.shown.now wanted.after wanted.ids c.requires.touched c.ids.plan
    (c.ids.invariant.renames ∙ ap (λ (l : List (List ℕ)). flat_map (renames_of c.args.shown.now wanted.after) l) all)
