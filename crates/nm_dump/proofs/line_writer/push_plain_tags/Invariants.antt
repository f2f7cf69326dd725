use Rattle.std.proofs.Common.{◌≡◌, ◌++◌, ◌∷◌, length}
use Rattle.std.specs.List.{flat_map, join_with_byte}
use Rattle.nm_dump.specs.Tags.{AreTags}
use Rattle.nm_dump.proofs.line_writer.push_plain_tags.Given as goal

-- the text so far, and the tags that are left with a space before each, are all; and all are tags where those that are left are
abbrev pub invariant-tags : goal.invariant-tags
invariant-tags l = record {
  text : l.text ++ flat_map (λ tag. 32 ∷ tag) l.rest ≡ l.fn.text ++ join_with_byte 32 l.tags;
  tags : AreTags l.rest → AreTags l.tags;
}

abbrev pub decreases-tags : goal.decreases-tags
decreases-tags l = length l.rest
