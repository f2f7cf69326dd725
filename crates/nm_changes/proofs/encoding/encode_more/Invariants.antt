use Rattle.std.proofs.Common.{◌≡◌, ◌++◌, map, take}
use Rattle.nm_record.specs.Commits.{change_bytes}
use Rattle.nm_changes.proofs.encoding.encode_more.Given as goal

abbrev pub invariant-changes : goal.invariant-changes
invariant-changes l = l.pieces ≡ l.initial.pieces ++ map change_bytes (take l.change-index l.changes)
