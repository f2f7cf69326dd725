use Rattle.nm_disk.specs.MemoryLaws.{picked_is_image}
use Rattle.nm_disk.proofs.mem_disk.MemDisk.stop_at.Goals as goal

pub returns-in_err-state-clause-image : goal.returns-in_err-state-clause-image
returns-in_err-state-clause-image c = picked_is_image c.args.self.now c.args.call c.args.pick

pub returns-in_err-files-clause-image : goal.returns-in_err-files-clause-image
returns-in_err-files-clause-image c = picked_is_image c.args.self.now c.args.call c.args.pick

pub returns-clause-image : goal.returns-clause-image
returns-clause-image c = picked_is_image c.args.self.now c.args.call c.args.pick
