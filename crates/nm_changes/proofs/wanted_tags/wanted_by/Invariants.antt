use Rattle.std.proofs.Common.{take}
use Rattle.nm_changes.proofs.WantedTagLemmas.{InWanting}
use Rattle.nm_changes.proofs.wanted_tags.wanted_by.Given as goal

-- what is wanted after the lines so far, and which messages they found
abbrev pub invariant-lines : goal.invariant-lines
invariant-lines l = InWanting l.moment l.shown (take l.line-index l.lines) l.after l.numbered.entries
