use Rattle.std.proofs.Common.{IsTrue}
use Rattle.nm_publish.specs.Rule.{Follows}
use Rattle.nm_publish.proofs.RuleLemmas.{shows}
use Rattle.nm_publish.proofs.seats.publish.Goals as goal

pub publish_as-writer-requires : goal.publish_as-writer-requires
publish_as-writer-requires g c y is =
    let desk = c.put.new.writer.desk in
    let done : IsTrue c.put.result = search in
    let follows : Follows desk.shown.value c.args.job.1 = rw c.put.ensures.desk c.requires.next in
    shows _ _ desk.shown.value c.args.job.1 _ (c.put.ensures.pending done) follows y is
