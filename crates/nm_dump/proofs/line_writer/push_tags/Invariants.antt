use Rattle.std.proofs.Common.{◌≡◌, ◌++◌, length}
use Rattle.std.specs.List.{flat_map}
use Rattle.nm_model_answer.specs.Dump.{written_tag}
use Rattle.nm_dump.specs.Tags.{AreTags}
use Rattle.nm_dump.proofs.line_writer.push_tags.Given as goal

-- the text so far, and the tags that are left, are all; and all are tags where those that are left are
abbrev pub invariant-tags : goal.invariant-tags
invariant-tags l = record {
  text : l.text ++ flat_map written_tag l.rest ≡ l.initial.text ++ flat_map written_tag l.tags;
  tags : AreTags l.rest → AreTags l.tags;
}

abbrev pub decreases-tags : goal.decreases-tags
decreases-tags l = length l.rest
