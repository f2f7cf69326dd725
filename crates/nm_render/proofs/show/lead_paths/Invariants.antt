use Rattle.std.proofs.Common.{◌≡◌, take}
use Rattle.nm_model_answer.specs.Show.{lead_paths}
use Rattle.nm_render.proofs.show.lead_paths.Given as goal

abbrev pub invariant-ids : goal.invariant-ids
invariant-ids l = l.paths ≡ lead_paths l.snapshot (take l.id-index l.ids)
