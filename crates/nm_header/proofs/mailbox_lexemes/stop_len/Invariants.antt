use Rattle.std.proofs.Common.{ℕ, ◌≤◌, List, length}
use Rattle.nm_header.proofs.LexemeLemmas.{GoneTo}
use Rattle.nm_header.proofs.mailbox_lexemes.stop_len.Given as goal

-- some lexemes are passed, none of which begins with such a special
abbrev pub invariant-lexemes : goal.invariant-lexemes
invariant-lexemes l = ((before : List (List ℕ)) × GoneTo l.specials l.text l.left before) × (length l.left ≤ length l.text)

abbrev pub decreases-lexemes : goal.decreases-lexemes
decreases-lexemes l = length l.left
