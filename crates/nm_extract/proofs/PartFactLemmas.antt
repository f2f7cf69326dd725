-- What the parts say, one after the other, is what all of them say. For the proof of `part_facts`.
use Rattle.std.proofs.Common.{◌≡◌, ℕ, Bool, ◌||◌, List, [], ◌∷◌, ◌++◌, fold, map, sym, ap, ◌∙◌, append_assoc, codes}
use Rattle.std.proofs.Math.Bool.{or-false, or_assoc}
use Rattle.std.proofs.lemmas.List.{append-nil}
use Rattle.std.specs.List.{flat_map}
use Rattle.std.specs.Str.{bytes_eq}
use Rattle.nm_base.specs.declared.facts.FieldWords.{FieldWords}
use Rattle.nm_base.specs.declared.facts.Marks.{Marks}
use Rattle.nm_extract.specs.PartFacts.{facts_of_parts}
use Rattle.nm_extract.specs.PartSteps.{no_part_facts, with_marks, with_part}
use Rattle.nm_extract.specs.WordLists.{attachment_list, body_list, has_attachment, has_type}
use Rattle.nm_extract.specs.declared.part_facts.PartFacts.{PartFacts}
use Rattle.nm_mime.specs.declared.entity.Part.{Part}

-- the marks of these parts beside others
abbrev with_all_marks : Marks → List Part → Marks
with_all_marks marks parts = record {
  attachment = marks.attachment || has_attachment parts;
  signed = marks.signed || has_type parts (codes "multipart/signed");
  encrypted = marks.encrypted || has_type parts (codes "multipart/encrypted");
}

-- what these parts say after what was said
abbrev with_all : List ℕ → PartFacts → List Part → PartFacts
with_all mail facts parts = record {
  types = facts.types ++ map (λ part. part.kind) parts;
  attachments = facts.attachments ++ flat_map attachment_list parts;
  bodies = facts.bodies ++ flat_map (body_list mail) parts;
  marks = with_all_marks facts.marks parts;
}

marks_are : (a b c x y z : Bool) → a ≡ x → b ≡ y → c ≡ z → let one : Marks = record { attachment = a; signed = b; encrypted = c } in let other : Marks = record { attachment = x; signed = y; encrypted = z } in one ≡ other
marks_are a b c x y z e f g = cc

facts_are : (types texts : List (List ℕ)) (attachments names bodies words : List FieldWords) (marks others : Marks) → types ≡ texts → attachments ≡ names → bodies ≡ words → marks ≡ others
    → let one : PartFacts = record { types = types; attachments = attachments; bodies = bodies; marks = marks } in let other : PartFacts = record { types = texts; attachments = names; bodies = words; marks = others } in one ≡ other
facts_are types texts attachments names bodies words marks others e f g h = cc

none_more : (mail : List ℕ) (facts : PartFacts) → facts ≡ with_all mail facts []
none_more mail facts =
    facts_are facts.types (facts.types ++ []) facts.attachments (facts.attachments ++ []) facts.bodies (facts.bodies ++ []) facts.marks (with_all_marks facts.marks [])
    (sym (append-nil facts.types)) (sym (append-nil facts.attachments)) (sym (append-nil facts.bodies))
    (marks_are facts.marks.attachment facts.marks.signed facts.marks.encrypted _ _ _ (sym (or-false facts.marks.attachment)) (sym (or-false facts.marks.signed)) (sym (or-false facts.marks.encrypted)))

one_more : (mail : List ℕ) (facts : PartFacts) (part : Part) (parts : List Part) → with_all mail (with_part mail facts part) parts ≡ with_all mail facts (part ∷ parts)
one_more mail facts part parts =
    facts_are ((facts.types ++ part.kind ∷ []) ++ map (λ p. p.kind) parts) (facts.types ++ part.kind ∷ map (λ p. p.kind) parts)
    ((facts.attachments ++ attachment_list part) ++ flat_map attachment_list parts) (facts.attachments ++ (attachment_list part ++ flat_map attachment_list parts))
    ((facts.bodies ++ body_list mail part) ++ flat_map (body_list mail) parts) (facts.bodies ++ (body_list mail part ++ flat_map (body_list mail) parts))
    (with_all_marks (with_marks facts.marks part) parts) (with_all_marks facts.marks (part ∷ parts))
    (append_assoc facts.types (part.kind ∷ []) (map (λ p. p.kind) parts)) (append_assoc facts.attachments (attachment_list part) (flat_map attachment_list parts))
    (append_assoc facts.bodies (body_list mail part) (flat_map (body_list mail) parts))
    (marks_are _ _ _ _ _ _ (or_assoc facts.marks.attachment part.attached (has_attachment parts))
    (or_assoc facts.marks.signed (bytes_eq part.kind (codes "multipart/signed")) (has_type parts (codes "multipart/signed")))
    (or_assoc facts.marks.encrypted (bytes_eq part.kind (codes "multipart/encrypted")) (has_type parts (codes "multipart/encrypted"))))

from_here : (mail : List ℕ) (parts : List Part) (facts : PartFacts) → fold (with_part mail) facts parts ≡ with_all mail facts parts
from_here mail [] facts = none_more mail facts
from_here mail (part ∷ parts) facts = from_here mail parts (with_part mail facts part) ∙ one_more mail facts part parts

pub all_parts : (mail : List ℕ) (parts : List Part) → fold (with_part mail) no_part_facts parts ≡ facts_of_parts mail parts
all_parts mail parts = from_here mail parts no_part_facts

-- a turn, and the end
pub parts-turn : (mail : List ℕ) (facts after : PartFacts) (part : Part) (rest more : List Part) (all : PartFacts) → rest ≡ part ∷ more → after ≡ with_part mail facts part
    → fold (with_part mail) facts rest ≡ all → fold (with_part mail) after more ≡ all
parts-turn mail facts after part rest more all e a g =
    ap (λ f. fold (with_part mail) f more) a ∙ ap (fold (with_part mail) facts) (sym e) ∙ g

pub parts-end : (mail : List ℕ) (facts all : PartFacts) (rest : List Part) → rest ≡ [] → fold (with_part mail) facts rest ≡ all → facts ≡ all
parts-end mail facts all rest e g = ap (fold (with_part mail) facts) (sym e) ∙ g
