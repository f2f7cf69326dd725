use Rattle.std.proofs.Common.{◌≡◌, take}
use Rattle.nm_model_answer.specs.Count.{thread_names}
use Rattle.nm_render.proofs.count.count_threads.Given as goal

abbrev pub invariant-ids : goal.invariant-ids
invariant-ids l = l.names.keys ≡ thread_names l.snapshot (take l.id-index l.ids)
