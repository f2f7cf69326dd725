use Rattle.std.proofs.Common.{◌≡◌, ◌++◌, take}
use Rattle.std.specs.List.{flat_map}
use Rattle.std.specs.Int.{w32, to_be_bytes}
use Rattle.nm_journal.proofs.frame.Frame.of_pieces.Given as goal

abbrev pub invariant-others : goal.invariant-others
invariant-others l = l.bytes.items ≡ to_be_bytes w32 l.fn.len ++ (l.first ++ flat_map (λ piece. piece) (take l.piece-index l.others))
