use Rattle.std.proofs.Common.{◌≡◌, take}
use Rattle.nm_eval.specs.Numbers.{live_at_numbers}
use Rattle.nm_eval.proofs.numbers.by_numbers.Given as goal

-- the messages so far are at their numbers
abbrev pub invariant-ids : goal.invariant-ids
invariant-ids l = l.numbered.entries ≡ live_at_numbers l.snapshot (take l.id-index l.ids)
