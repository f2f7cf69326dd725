use Rattle.std.proofs.Common.{rules}
use Rattle.nm_publish.proofs.RuleLemmas.{follows_alike}
use Rattle.nm_publish.proofs.seats.writer_seat.Goals as goal

pub publish-writer-requires-clause-next : goal.publish-writer-requires-clause-next
publish-writer-requires-clause-next g c = follows_alike _ _ (search rules) (search rules)
