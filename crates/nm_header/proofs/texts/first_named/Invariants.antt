use Rattle.std.proofs.Common.{◌≡◌, drop}
use Rattle.std.specs.Prelude.{find}
use Rattle.nm_header.specs.Texts.{is_named}
use Rattle.nm_header.proofs.texts.first_named.Given as goal

-- none of the fields so far has the name
abbrev pub invariant-fields : goal.invariant-fields
invariant-fields l = find (is_named l.name) (drop l.field-index l.fields) ≡ find (is_named l.name) l.fields
