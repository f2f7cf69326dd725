use Rattle.std.proofs.Common.{◌≡◌, ◌≤◌, ℕ, length, nat_eq, take}
use Rattle.std.specs.List.{list_any}
use Rattle.nm_model_answer.specs.Search.{threads_of}
use Rattle.nm_render.proofs.lists.first_threads.Given as goal

-- the threads so far are those of the messages so far, no more than are asked for, and what was seen is these
abbrev pub invariant-ids : goal.invariant-ids
invariant-ids l =
    (l.names ≡ threads_of l.snapshot (take l.id-index l.ids)) × (length l.names ≤ l.most)
    × ((name : ℕ) → list_any (nat_eq name) l.seen ≡ list_any (nat_eq name) l.names)
