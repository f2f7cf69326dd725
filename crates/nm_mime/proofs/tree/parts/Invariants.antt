use Rattle.std.proofs.Common.{◌≡◌, ◌++◌, length}
use Rattle.nm_mime.specs.PartReader.{StandInside, mail_of, parts_to_come}
use Rattle.nm_mime.specs.Parts.{parts_of}
use Rattle.nm_mime.proofs.tree.parts.Given as goal

-- so far, and what is still to come, is all
abbrev pub invariant-parts : goal.invariant-parts
invariant-parts l = record {
  all : l.found ++ parts_to_come l.reader ≡ parts_of l.bytes;
  mail : mail_of l.reader ≡ l.bytes;
  stand : StandInside l.reader;
}

abbrev pub decreases-parts : goal.decreases-parts
decreases-parts l = length (parts_to_come l.reader)
