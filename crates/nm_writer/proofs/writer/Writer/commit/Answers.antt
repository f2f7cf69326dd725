use Rattle.nm_writer.proofs.DurableLemmas.{durable-after, stands-alive}
use Rattle.nm_writer.proofs.writer.Writer.commit.Goals as goal

pub returns-clause-stands : goal.returns-clause-stands
returns-clause-stands g c =
    let disk = g.D.Disk in
    stands-alive (disk.observed c.args.disk.now) (disk.observed c.make.new.disk) c.args.self.now c.make.new.self c.args.commit c.make.result c.requires.stands c.make.ensures.after c.make.ensures.stands c.make.ensures.waits

pub returns-clause-durable : goal.returns-clause-durable
returns-clause-durable g c =
    let disk = g.D.Disk in
    λ entry opening h. durable-after c.nothing_new_twice_is_nothing_new.ensures entry (disk.observed c.args.disk.now) (disk.observed c.make.new.disk) opening c.args.self.now c.make.new.self c.args.commit c.make.result c.requires.alive h
    c.make.ensures.after c.make.ensures.rises c.make.ensures.any_moment c.make.ensures.others c.make.ensures.number c.make.ensures.stands c.make.ensures.waits
