use Rattle.std.proofs.Common.{◌≡◌, map, filter, take}
use Rattle.nm_header.specs.Texts.{is_named, text_in}
use Rattle.nm_header.proofs.texts.all_texts.Given as goal

-- the texts of the fields so far
abbrev pub invariant-fields : goal.invariant-fields
invariant-fields l = l.texts ≡ map text_in (filter (is_named l.name) (take l.field-index l.fields))
