use Rattle.std.proofs.Common.{◌≡◌, ◌+◌, take}
use Rattle.nm_state.specs.Renumbered.{counted}
use Rattle.nm_state.proofs.fresh_numbers.counted.Given as goal

abbrev pub invariant-entries : goal.invariant-entries
invariant-entries l = record { all : l.all ≡ counted 1 (take l.entry-index l.entries); number : l.number ≡ 1 + l.entry-index }
