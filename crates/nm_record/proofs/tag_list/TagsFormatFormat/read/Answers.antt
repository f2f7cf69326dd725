use Rattle.std.specs.Cmp.Lexicographic.{slice_cmp}
use Rattle.std.specs.Ordering.{nat_cmp}
use Rattle.nm_codec.specs.ReadSteps.{is_below}
use Rattle.nm_codec.specs.RisingLaws.{read_rises}
use Rattle.nm_record.specs.Facts.{tag_grammar}
use Rattle.nm_record.proofs.tag_list.TagsFormatFormat.read.Goals as goal

pub tags_of-requires : goal.tags_of-requires
tags_of-requires c = read_rises (is_below (slice_cmp nat_cmp)) tag_grammar.read c.args.reader.now.rest c.in_ok-tags.tags c.read.new.reader.rest c.in_ok-tags.ensures.0
