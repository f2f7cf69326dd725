use Rattle.std.proofs.Common.{◌≡◌, ◌++◌, take}
use Rattle.std.specs.List.{flat_map}
use Rattle.nm_header.specs.Ids.{ids_of}
use Rattle.nm_extract.proofs.ids.add_field_ids.Given as goal

abbrev pub invariant-texts : goal.invariant-texts
invariant-texts l = l.found.items ≡ l.initial.found.items ++ flat_map ids_of (take l.text-index l.text-items)
