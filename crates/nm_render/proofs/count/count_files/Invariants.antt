use Rattle.std.proofs.Common.{◌≡◌, length, take}
use Rattle.nm_model_answer.specs.Count.{files_of_all}
use Rattle.nm_render.proofs.count.count_files.Given as goal

abbrev pub invariant-ids : goal.invariant-ids
invariant-ids l = l.number ≡ length (files_of_all l.snapshot (take l.id-index l.ids))
