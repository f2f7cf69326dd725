use Rattle.std.proofs.Common.{◌≡◌, ◌+◌, length, min}
use Rattle.std.specs.List.{flat_map, list_all}
use Rattle.nm_base.specs.Limits.{max_count}
use Rattle.nm_record.specs.Facts.{tag_grammar}
use Rattle.nm_record.proofs.tag_list.TagsFormatFormat.len.Given as goal

abbrev pub invariant-tags : goal.invariant-tags
invariant-tags l =
    (min (l.len + length (flat_map tag_grammar.bytes l.tag-iterator)) max_count ≡ min (4 + length (flat_map tag_grammar.bytes l.value)) max_count)
    × (list_all tag_grammar.is_value l.tag-iterator ≡ list_all tag_grammar.is_value l.value) × (l.len ≡ min l.len max_count)
