use Rattle.std.proofs.Common.{◌≡◌, ◌++◌, length, map, not}
use Rattle.std.specs.List.{filter}
use Rattle.std.specs.Option.{is_some}
use Rattle.nm_threads.specs.Maps.{at}
use Rattle.nm_threads.proofs.dead.other_names.Given as goal

-- the others so far, and those among what is left, are all others
abbrev pub invariant-threads : goal.invariant-threads
invariant-threads l =
    l.others ++ filter (λ name. not (is_some (at name l.names))) (map (λ entry. entry.1.name) l.rest) ≡ filter (λ name. not (is_some (at name l.names))) (map (λ entry. entry.1.name) l.threads)

abbrev pub decreases-threads : goal.decreases-threads
decreases-threads l = length l.rest
