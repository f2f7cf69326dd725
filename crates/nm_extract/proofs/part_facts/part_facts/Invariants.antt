use Rattle.std.proofs.Common.{◌≡◌, fold, length}
use Rattle.nm_extract.specs.PartFacts.{facts_of_parts}
use Rattle.nm_extract.specs.PartSteps.{with_part}
use Rattle.nm_mime.specs.PartReader.{StandInside, mail_of, parts_to_come}
use Rattle.nm_mime.specs.Parts.{parts_of}
use Rattle.nm_extract.proofs.part_facts.part_facts.Given as goal

-- so far, and what is still to come, is all
abbrev pub invariant-parts : goal.invariant-parts
invariant-parts l = record {
  facts : fold (with_part l.mail) l.facts (parts_to_come l.reader) ≡ facts_of_parts l.mail (parts_of l.mail);
  mail : mail_of l.reader ≡ l.mail;
  stand : StandInside l.reader;
}

abbrev pub decreases-parts : goal.decreases-parts
decreases-parts l = length (parts_to_come l.reader)
