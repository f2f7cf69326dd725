-- A set of tags in bytes: its tags, which rise strictly by their bytes. Cited by `lens`, `tag_list` and `nm_state`.
use Rattle.std.specs.Prelude.{ℕ, List}
use Rattle.std.specs.Cmp.Lexicographic.{slice_cmp}
use Rattle.std.specs.Ordering.{nat_cmp}
use Rattle.nm_codec.specs.Grammar.{Grammar, rising_grammar}
use Rattle.nm_codec.specs.ReadSteps.{is_below}
use Rattle.nm_record.specs.Facts.{tag_grammar}

abbrev pub tags_grammar : Grammar (List (List ℕ))
tags_grammar = rising_grammar (is_below (slice_cmp nat_cmp)) tag_grammar
