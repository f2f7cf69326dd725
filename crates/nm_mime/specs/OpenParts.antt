-- What is still to be read in the parts that are opened, and the entities that this represents.
-- Cited by `part_reader` and `open_parts`.
use Rattle.std.specs.Prelude.{ℕ, ◌<◌, ◌≤◌, List, [], ◌∷◌, ◌++◌, if◌then◌else◌}
use Rattle.nm_mime.specs.Children.{delimiters_of, spans_of}
use Rattle.nm_mime.specs.Parts.{IsWithin, bytes_in, entities_from, entity_in, is_opened}
use Rattle.nm_mime.specs.Roles.{is_multipart}
use Rattle.nm_mime.specs.declared.entity.Entity.{Entity}
use Rattle.nm_mime.specs.declared.entity.Opening.{Opening}
use Rattle.nm_mime.specs.declared.open_parts.OpenMultipart.{OpenMultipart}
use Rattle.nm_mime.specs.declared.open_parts.Pending.{Pending}
use Rattle.nm_mime.specs.declared.open_parts.Pending.TheVariants.{Mail, Multipart}

-- what is to be read in a part that was just opened: the mail that its content is, or all parts of a multipart
abbrev pub pending_of : Opening → Pending
pending_of opening =
    if is_multipart opening.part.kind then Multipart (record { part = opening.part; delimiters = delimiters_of opening.boundary; before = 0; at = opening.part.from })
    else Mail (entity_in opening.part 0 (record { from = opening.part.from; to = opening.part.to }))

-- that, if the part is opened
abbrev pub pending_in : Opening → List Pending
pending_in opening = if is_opened opening.part.role then pending_of opening ∷ [] else []

-- the entities in a multipart from a place on
abbrev pub open_entities : List ℕ → OpenMultipart → List Entity
open_entities mail multipart =
    entities_from multipart.part multipart.before (spans_of multipart.delimiters multipart.part.to (bytes_in mail multipart.at multipart.part.to))

-- the entities that are still to be read there
abbrev pub entities_in : List ℕ → Pending → List Entity
entities_in mail (Mail entity) = entity ∷ []
entities_in mail (Multipart multipart) = open_entities mail multipart

-- the entities that are still to be read in all of these
abbrev pub entities_to_come : List ℕ → List Pending → List Entity
entities_to_come mail [] = []
entities_to_come mail (pending ∷ more) = entities_in mail pending ++ entities_to_come mail more

-- the multipart is inside a mail of this length, its parts are not too deep, and its place is inside it
pub record IsOpenInside (len : ℕ) (multipart : OpenMultipart) : Type 0 where
  pub few : multipart.before ≤ multipart.at
  pub rises : multipart.at ≤ multipart.part.to
  pub ends : multipart.part.to ≤ len
  pub depth : multipart.part.depth < 32

-- what is to be read is inside a mail of this length
abbrev pub IsPendingInside : ℕ → Pending → Type 0
IsPendingInside len (Mail entity) = IsWithin len entity
IsPendingInside len (Multipart multipart) = IsOpenInside len multipart

-- each of them does
abbrev pub AllInside : ℕ → List Pending → Type 0
AllInside len [] = Unit {0}
AllInside len (pending ∷ more) = IsPendingInside len pending × AllInside len more
