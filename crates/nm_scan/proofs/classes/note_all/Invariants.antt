use Rattle.std.proofs.Common.{◌≡◌, length}
use Rattle.nm_scan.proofs.NoteLemmas.{InNotes}
use Rattle.nm_scan.proofs.classes.note_all.Given as goal

-- the first are noted, and the others are left
abbrev pub invariant-all : goal.invariant-all
invariant-all l = record {
  notes : InNotes l.fn.all.items l.classified-iterator.rest.items l.initial.given l.given l.added;
  whole : l.classified-iterator.rest.len ≡ length l.classified-iterator.rest.items;
}
