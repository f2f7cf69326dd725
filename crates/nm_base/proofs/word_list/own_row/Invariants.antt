use Rattle.std.proofs.Common.{◌≡◌, ◌++◌, true, length}
use Rattle.std.specs.List.{list_all}
use Rattle.nm_base.specs.WordList.{is_kept}
use Rattle.nm_base.proofs.word_list.own_row.Given as goal

-- the words so far, and those that are left, are all
abbrev pub invariant-words : goal.invariant-words
invariant-words l = (l.row ++ l.words ≡ l.lent) × (list_all is_kept l.words ≡ true)

abbrev pub decreases-words : goal.decreases-words
decreases-words l = length l.words
