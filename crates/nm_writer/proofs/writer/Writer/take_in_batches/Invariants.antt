use Rattle.std.proofs.Common.{◌≡◌, None, length}
use Rattle.std.specs.Prelude.{IfSome}
use Rattle.std.specs.Vec.Iter.{into_iter_items, into_iter_len}
use Rattle.nm_disk.specs.Observed.{ObservedDisk}
use Rattle.nm_model_index.specs.declared.base.Base.{Base}
use Rattle.nm_writer.specs.Durable.{IsDurable}
use Rattle.nm_writer.specs.Writer.{StandsOnIndex}
use Rattle.nm_writer.proofs.BatchLemmas.{InBatches}
use Rattle.nm_writer.proofs.writer.Writer.take_in_batches.Given as goal

-- the first paths were read, and a commit was made of each batch with mail
abbrev pub invariant-batches : goal.invariant-batches
invariant-batches g l =
    let mail = g.M.Maildir in
    let disk = g.D.Disk in
    record {
      batches : InBatches (record { mail = mail.observed l.initial.mail; given = l.initial.given }) (record { mail = mail.observed l.mail; given = l.given }) (into_iter_items l.initial.paths) (into_iter_items l.paths) l.initial.self l.self;
      whole : into_iter_len l.paths ≡ length (into_iter_items l.paths);
      alive : l.self.closed ≡ None;
      mail_same : (mail.observed l.mail).faults ≡ (mail.observed l.initial.mail).faults;
      disk_same : (disk.observed l.disk).faults ≡ (disk.observed l.initial.disk).faults;
      stands : IfSome (disk.observed l.disk).told (λ moments. StandsOnIndex moments.present l.self);
      durable : (entry : ObservedDisk) (opening : Base) → IsDurable entry opening (disk.observed l.initial.disk) l.initial.self → IsDurable entry opening (disk.observed l.disk) l.self;
    }

abbrev pub decreases-batches : goal.decreases-batches
decreases-batches g l = into_iter_len l.paths
