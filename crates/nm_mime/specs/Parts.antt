-- The tree of parts (RFC 2046, section 5): each part comes before those in it.
-- Cited by `part_reader`, `open_parts`, `nm_extract` and others.
use Rattle.std.specs.Prelude.{ℕ, zero, suc, ◌+◌, ◌-◌, ◌≤◌, Bool, true, false, ◌&&◌, ◌==◌, List, [], ◌∷◌, length, take, drop, codes, if◌then◌else◌}
use Rattle.std.specs.List.{flat_map}
use Rattle.std.specs.Str.{bytes_eq}
use Rattle.nm_header.specs.Fields.{header_of}
use Rattle.nm_header.specs.Texts.{field_text}
use Rattle.nm_header.specs.declared.header.HeaderList.{HeaderList}
use Rattle.nm_mime.specs.Children.{delimiters_of, spans_of}
use Rattle.nm_mime.specs.Params.{value_of}
use Rattle.nm_mime.specs.Roles.{encoding_of, filename_of, is_attachment, is_multipart, role_of}
use Rattle.nm_mime.specs.Types.{type_of}
use Rattle.nm_mime.specs.declared.children.Span.{Span}
use Rattle.nm_mime.specs.declared.entity.Entity.{Entity}
use Rattle.nm_mime.specs.declared.entity.Part.{Part}
use Rattle.nm_mime.specs.declared.entity.Opening.{Opening}
use Rattle.nm_mime.specs.declared.roles.Encoding.{Encoding}
use Rattle.nm_mime.specs.declared.roles.Role.{Role}
use Rattle.nm_mime.specs.declared.roles.Role.TheVariants.{Opened, Readable, Signature, Unread}
use Rattle.nm_mime.specs.declared.types.ContentType.{ContentType}

-- the bytes from one place to another
abbrev pub bytes_in : List ℕ → ℕ → ℕ → List ℕ
bytes_in mail from to = take (to - from) (drop from mail)

-- the entity is inside a mail of this length, and is not too deep
pub record IsWithin (len : ℕ) (entity : Entity) : Type 0 where
  pub rises : entity.from ≤ entity.to
  pub ends : entity.to ≤ len
  pub depth : entity.depth ≤ 32

-- the content of the part is inside a mail of this length, and is not too deep
pub record IsInside (len : ℕ) (part : Part) : Type 0 where
  pub rises : part.from ≤ part.to
  pub ends : part.to ≤ len
  pub depth : part.depth ≤ 32

-- the boundary that a type names, or nothing
abbrev pub boundary_of : ContentType → List ℕ
boundary_of type = value_of type.params (codes "boundary")

-- an entity whose content begins n bytes after its front, and what its fields say
abbrev pub part_from : Entity → ℕ → ContentType → List ℕ → Encoding → Part
part_from entity rest type disposition encoding = record {
  depth = entity.depth;
  kind = type.kind;
  charset = value_of type.params (codes "charset");
  encoding = encoding;
  attached = is_attachment disposition;
  filename = filename_of disposition type.params;
  role = role_of (is_attachment disposition) entity.signature entity.depth type.kind (boundary_of type) encoding;
  from = entity.from + rest;
  to = entity.to;
}

-- that part, with the boundary that its type names
abbrev pub opening_from : Entity → ℕ → ContentType → List ℕ → Encoding → Opening
opening_from entity rest type disposition encoding =
    record { part = part_from entity rest type disposition encoding; boundary = boundary_of type }

-- the part of an entity with this header
abbrev pub opening_in : Entity → HeaderList → Opening
opening_in entity header = opening_from entity header.rest (type_of entity.digest (field_text header.list (codes "content-type"))) (field_text header.list (codes "content-disposition")) (encoding_of (field_text header.list (codes "content-transfer-encoding")))

-- the part of an entity, and the boundary that its type names
unfoldable pub opening_of : List ℕ → Entity → Opening
opening_of mail entity = opening_in entity (header_of (bytes_in mail entity.from entity.to))

-- the second part of a multipart/signed
abbrev pub is_signature : Part → ℕ → Bool
is_signature part before = before == 1 && bytes_eq part.kind (codes "multipart/signed")

-- a span in a part as an entity; n come before it
abbrev pub entity_in : Part → ℕ → Span → Entity
entity_in part before span = record {
  depth = part.depth + 1;
  from = span.from;
  to = span.to;
  digest = bytes_eq part.kind (codes "multipart/digest");
  signature = is_signature part before;
}

-- the spans in a part as entities, the first of which has n before it
abbrev pub entities_from : Part → ℕ → List Span → List Entity
entities_from part before [] = []
entities_from part before (span ∷ more) = entity_in part before span ∷ entities_from part (before + 1) more

-- its content is read as parts
abbrev pub is_opened : Role → Bool
is_opened Opened = true
is_opened Readable = false
is_opened Unread = false
is_opened Signature = false

-- the spans in a part that is opened: those of a multipart, or the mail that the content is
abbrev pub inside : List ℕ → Opening → List Span
inside mail opening =
    if is_multipart opening.part.kind then spans_of (delimiters_of opening.boundary) opening.part.to (bytes_in mail opening.part.from opening.part.to)
    else record { from = opening.part.from; to = opening.part.to } ∷ []

-- the entities in a part, if it is opened
unfoldable pub children_of : List ℕ → Opening → List Entity
children_of mail opening = if is_opened opening.part.role then entities_from opening.part 0 (inside mail opening) else []

-- the part of an entity, and those in it down to the n-th level
abbrev pub parts_upto : ℕ → List ℕ → Entity → List Part
parts_upto zero mail entity = []
parts_upto (suc n) mail entity =
    (opening_of mail entity).part ∷ flat_map (parts_upto n mail) (children_of mail (opening_of mail entity))

-- the whole mail
abbrev pub whole_of : List ℕ → Entity
whole_of mail = record { depth = 0; from = 0; to = length mail; digest = false; signature = false }

-- the parts of a mail, from depth 0 to depth 32
unfoldable pub parts_of : List ℕ → List Part
parts_of mail = parts_upto 33 mail (whole_of mail)
