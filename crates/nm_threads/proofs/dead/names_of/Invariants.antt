use Rattle.std.proofs.Common.{◌≡◌, ℕ, take}
use Rattle.std.specs.List.{list_any}
use Rattle.std.specs.Option.{is_some}
use Rattle.nm_threads.specs.Labels.{is_named}
use Rattle.nm_threads.specs.Maps.{at, labelling_of}
use Rattle.nm_threads.proofs.dead.names_of.Given as goal

abbrev pub invariant-ids : goal.invariant-ids
invariant-ids l = (name : ℕ) → is_some (at name l.names) ≡ list_any (is_named (labelling_of l.maps).labels name) (take l.id-index l.ids)
