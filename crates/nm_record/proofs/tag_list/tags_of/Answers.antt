use Rattle.std.proofs.Common.{ℕ, List, ◌∙◌, ap, take}
use Rattle.nm_base.specs.Tags.{with_tag}
use Rattle.nm_record.proofs.TagLemmas.{set_more}
use Rattle.nm_record.proofs.tag_list.tags_of.Goals as goal

pub tags-preserved : goal.tags-preserved
tags-preserved c =
    let items = c.as_slice-tag-items.result.now in
    let before : List (List ℕ) = take c.tags.tag-index items in
    let here = set_more items c.tags.tag-index c.tag-item.result (rw c.as_slice-tag-items.ensures c.requires) c.tags-test.true in
    c.in_ok-add.ensures.ok ∙ ap (λ (ts : List (List ℕ)). with_tag ts c.in_ok-copy.field-0) c.tags.invariant
    ∙ ap (λ (t : List ℕ). with_tag before t) (c.in_ok-copy.ensures ∙ c.tag-item.is) ∙ here
