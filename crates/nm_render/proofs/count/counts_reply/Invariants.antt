use Rattle.std.proofs.Common.{◌≡◌, take}
use Rattle.nm_model_answer.specs.Count.{counts_found}
use Rattle.nm_render.proofs.count.counts_reply.Given as goal

abbrev pub invariant-queries : goal.invariant-queries
invariant-queries l = l.text ≡ counts_found l.ask l.snapshot l.moment (take l.query-index l.queries)
