use Rattle.std.proofs.Common.{◌≡◌, ◌++◌, length}
use denote.Text.{Utf8}
use denote.Shadow.{shadow}
use Rattle.std.specs.List.{slice_split}
use Rattle.nm_words.specs.Words.{chosen, is_cut, words_in}
use Rattle.nm_words.proofs.pieces.add_pieces.Given as goal

-- so far, and what is left, is all
abbrev pub invariant-pieces : goal.invariant-pieces
invariant-pieces l = shadow (Utf8 l.left) × (l.found ++ words_in (chosen l.named (slice_split is_cut l.left)) ≡ l.fn.found ++ words_in (chosen l.named (slice_split is_cut l.text)))

abbrev pub decreases-pieces : goal.decreases-pieces
decreases-pieces l = length l.left
