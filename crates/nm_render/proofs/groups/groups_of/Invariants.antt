use Rattle.std.proofs.Common.{◌≡◌, ℕ, nat_eq, take, true}
use Rattle.std.specs.List.{list_any}
use Rattle.nm_model_answer.specs.Summary.{in_thread}
use Rattle.nm_render.specs.Groups.{listed}
use Rattle.nm_render.proofs.groups.groups_of.Given as goal

abbrev pub invariant-ids : goal.invariant-ids
invariant-ids l = (name : ℕ) → list_any (nat_eq name) l.names ≡ true → listed l.groups name ≡ in_thread l.snapshot name (take l.id-index l.ids)
