-- Reading the parts of a mail one by one: which are still to come. Cited by `part_reader`.
use Rattle.std.specs.Prelude.{ℕ, ◌-◌, List, length, reverse}
use Rattle.std.specs.List.{flat_map}
use Rattle.nm_mime.specs.Parts.{parts_upto}
use Rattle.nm_mime.specs.OpenParts.{AllInside, entities_to_come}
use Rattle.nm_mime.specs.declared.entity.Entity.{Entity}
use Rattle.nm_mime.specs.declared.entity.Part.{Part}
use Rattle.nm_mime.specs.declared.part_reader.PartReader.{PartReader}

-- the parts of these entities, each before those in it
unfoldable pub entity_parts : List ℕ → List Entity → List Part
entity_parts mail entities = flat_map (λ entity. parts_upto (33 - entity.depth) mail entity) entities

-- the mail that is read
abbrev pub mail_of : PartReader → List ℕ
mail_of reader = reader.mail.now

-- the parts that are still to come
abbrev pub parts_to_come : PartReader → List Part
parts_to_come reader = entity_parts reader.mail.now (entities_to_come reader.mail.now (reverse reader.rest))

-- what is still to be read is inside the mail
abbrev pub StandInside : PartReader → Type 0
StandInside reader = AllInside (length reader.mail.now) (reverse reader.rest)
