use Rattle.std.proofs.Common.{◌≡◌, ◌++◌, map}
use Rattle.std.specs.List.{flat_map, slice_split}
use Rattle.nm_words.specs.Words.{is_cut, words_in}
use Rattle.nm_words.proofs.text.add_line.Given as goal

-- the words so far gave what was found
abbrev pub invariant-words : goal.invariant-words
invariant-words l = l.found ≡ l.fn.found ++ words_in (flat_map (slice_split is_cut) (map (λ w. w.now) l.yielded))
