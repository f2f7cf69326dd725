use Rattle.std.proofs.Common.{arith, []}
use Rattle.nm_disk.specs.Memory.{fresh_state}
use Rattle.nm_disk.specs.MemoryLaws.{length-past}
use Rattle.nm_disk.proofs.mem_disk.MemDiskDisk.clock.Goals as goal

pub returns-clause-told : goal.returns-clause-told
returns-clause-told c =
    let disk = c.args.self.now in
    omega (arith, c.moment.ensures, length-past (record { present = fresh_state disk.start; past = [] }) disk.events)
