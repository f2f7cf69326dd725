use Rattle.std.proofs.Common.{◌+◌, length, min, refl, ap, sym, ◌∙◌, arith}
use Rattle.std.specs.List.{flat_map, list_all}
use Rattle.nm_base.specs.Limits.{max_count}
use Rattle.nm_codec.specs.StepLaws.{both}
use Rattle.nm_record.specs.Facts.{tag_grammar}
use Rattle.nm_record.proofs.LenLemmas.{len_end, len_turn, sorted_rises, tag_turn}
use Rattle.nm_record.proofs.tag_list.TagsFormatFormat.len.Goals as goal

pub tags-init : goal.tags-init
tags-init c =
    let same = c.into_iter-tag-iterator.ensures.into_iter_gives ∙ c.iter-tag-items.ensures.rest in
    (ap (λ tags. min (4 + length (flat_map tag_grammar.bytes tags)) max_count) same, ap (list_all tag_grammar.is_value) same, refl)

pub tags-preserved : goal.tags-preserved
tags-preserved c =
    let all = c.args.value.now in (
      len_turn tag_grammar.bytes c.tags.tag-iterator c.next.new.self all c.in-Some.tag.now c.tags.len c.len.result c.saturating_add-len.result c.in-Some.ensures.steps c.tags.invariant.0 c.len.ensures.len c.saturating_add-len.ensures,
      tag_turn tag_grammar.is_value c.tags.tag-iterator c.next.new.self all c.in-Some.tag.now c.in-Some.ensures.steps c.tags.invariant.1 c.len.ensures.value,
      omega (arith, c.saturating_add-len.ensures),
    )

pub returns-clause-len : goal.returns-clause-len
returns-clause-len c = len_end tag_grammar.bytes c.tags.tag-iterator c.args.value.now c.tags.len c.in-None.ensures.steps.0 c.tags.invariant.2 c.tags.invariant.0

pub returns-clause-value : goal.returns-clause-value
returns-clause-value c =
    let all = c.args.value.now in
    both _ _ (sym c.tags.invariant.1 ∙ ap (list_all tag_grammar.is_value) c.in-None.ensures.steps.0) (sorted_rises all c.iter-tag-items.ensures.sorted)
