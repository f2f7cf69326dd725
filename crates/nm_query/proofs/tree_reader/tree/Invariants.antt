use Rattle.std.proofs.Common.{◌≡◌}
use Rattle.nm_query.specs.Levels.{nothing_read, read_after}
use Rattle.nm_query.proofs.tree_reader.tree.Given as goal

abbrev pub invariant-tokens : goal.invariant-tokens
invariant-tokens l = l.reading ≡ read_after nothing_read l.yielded
