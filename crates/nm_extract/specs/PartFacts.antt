-- What the parts of a mail say. Cited by `part_facts`.
use Rattle.std.specs.Prelude.{ℕ, List, map}
use Rattle.std.specs.List.{flat_map}
use Rattle.nm_extract.specs.WordLists.{attachment_list, body_list, marks_of}
use Rattle.nm_extract.specs.declared.part_facts.PartFacts.{PartFacts}
use Rattle.nm_mime.specs.declared.entity.Part.{Part}

-- what these parts of a mail say
abbrev pub facts_of_parts : List ℕ → List Part → PartFacts
facts_of_parts mail parts = record {
  types = map (λ part. part.kind) parts;
  attachments = flat_map attachment_list parts;
  bodies = flat_map (body_list mail) parts;
  marks = marks_of parts;
}
