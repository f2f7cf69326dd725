use Rattle.std.proofs.Common.{◌≡◌, map}
use Rattle.nm_model_answer.specs.Search.{rank_of}
use Rattle.nm_render.proofs.order.ranked.Given as goal

-- the messages so far come after their ranks
abbrev pub invariant-ids : goal.invariant-ids
invariant-ids l = l.ranked.items ≡ map (λ id. (rank_of l.snapshot l.oldest id, id)) l.yielded
