-- What the parts of a mail say, one part after the other: what the private functions say. Cited by `part_facts`.
use Rattle.std.specs.Prelude.{ℕ, false, ◌||◌, List, [], ◌∷◌, ◌++◌, codes}
use Rattle.std.specs.Str.{bytes_eq}
use Rattle.nm_base.specs.declared.facts.Marks.{Marks}
use Rattle.nm_extract.specs.WordLists.{attachment_list, body_list}
use Rattle.nm_extract.specs.declared.part_facts.PartFacts.{PartFacts}
use Rattle.nm_mime.specs.declared.entity.Part.{Part}

-- before the first part
abbrev pub no_part_facts : PartFacts
no_part_facts = record { types = []; attachments = []; bodies = []; marks = record { attachment = false; signed = false; encrypted = false } }

-- the marks with those of one part more
abbrev pub with_marks : Marks → Part → Marks
with_marks marks part = record {
  attachment = marks.attachment || part.attached;
  signed = marks.signed || bytes_eq part.kind (codes "multipart/signed");
  encrypted = marks.encrypted || bytes_eq part.kind (codes "multipart/encrypted");
}

-- what the parts say, with one part more
abbrev pub with_part : List ℕ → PartFacts → Part → PartFacts
with_part mail facts part = record {
  types = facts.types ++ part.kind ∷ [];
  attachments = facts.attachments ++ attachment_list part;
  bodies = facts.bodies ++ body_list mail part;
  marks = with_marks facts.marks part;
}
