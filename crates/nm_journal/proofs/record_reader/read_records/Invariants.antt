use Rattle.std.proofs.Common.{◌≡◌, ◌+◌, ◌-◌, ◌≤◌, ◌++◌, length, drop, IfSome}
use Rattle.nm_disk.specs.Observed.{bytes_now}
use Rattle.nm_journal.specs.Records.{AreBodies, records_of}
use Rattle.nm_journal.proofs.record_reader.read_records.Given as goal

-- so far open records were read, and what is left is at the gate
abbrev pub invariant-records : goal.invariant-records
invariant-records g l =
    let observed = g.D.Disk.observed in
    record {
      told : (observed l.disk).told ≡ (observed l.fn.disk).told;
      faults : (observed l.disk).faults ≡ (observed l.fn.disk).faults;
      gate : l.gate ≡ l.at + length (records_of l.bodies);
      few : length l.bodies ≤ l.gate;
      fit : AreBodies l.bodies;
      len : IfSome (observed l.disk).told (λ moments. l.len ≡ length (bytes_now moments l.file));
      is : IfSome (observed l.disk).told (λ moments. drop l.at (bytes_now moments l.file) ≡ records_of l.bodies ++ drop l.gate (bytes_now moments l.file));
    }

abbrev pub decreases-records : goal.decreases-records
decreases-records g l = l.len - l.gate
