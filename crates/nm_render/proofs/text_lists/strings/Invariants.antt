use Rattle.std.proofs.Common.{◌≡◌, map, take}
use Rattle.serde_json.specs.Data.{string}
use Rattle.serde_json.specs.View.{view}
use Rattle.nm_render.proofs.text_lists.strings.Given as goal

abbrev pub invariant-texts : goal.invariant-texts
invariant-texts l = map view l.values.items ≡ map string (take l.text-index l.texts)
