use Rattle.std.proofs.Common.{◌≡◌, map, filter, take}
use Rattle.nm_extract.specs.PartText.{is_readable, part_text}
use Rattle.nm_extract.proofs.body_text.part_texts.Given as goal

-- the texts of the parts so far
abbrev pub invariant-parts : goal.invariant-parts
invariant-parts l = l.texts ≡ map (part_text l.mail) (filter (λ part. is_readable part.role) (take l.part-index l.parts))
