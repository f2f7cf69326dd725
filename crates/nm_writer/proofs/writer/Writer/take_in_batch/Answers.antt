use Rattle.std.proofs.Common.{rules}
use Rattle.std.specs.Vec.Iter.{into_iter_items}
use Rattle.nm_writer.proofs.writer.Writer.take_in_batch.Goals as goal

pub commit_added-requires-clause-fit : goal.commit_added-requires-clause-fit
commit_added-requires-clause-fit g c =
    let fit = c.requires.fit (record { mail = g.M.Maildir.observed c.read_batch.new.mail; given = c.read_batch.new.given }) (into_iter_items c.read_batch.new.paths) c.in-Ok.added c.in-Ok.ensures.ok in
    search (rules, fit)
