use Rattle.std.proofs.Common.{◌≡◌, ◌≤◌, length, min, take}
use Rattle.nm_base.specs.Limits.{max_count}
use Rattle.nm_journal.specs.Records.{records_of}
use Rattle.nm_replay.proofs.ReplayLemmas.{Replayed}
use Rattle.nm_replay.proofs.replay.replayed.Given as goal

-- the bodies so far are commits, and the next gate is the end of their records
abbrev pub invariant-bodies : goal.invariant-bodies
invariant-bodies g l = record {
  replayed : Replayed (take l.at l.bodies) l.snapshot;
  gate : l.gate ≡ min (length (records_of (take l.at l.bodies))) max_count;
  within : l.at ≤ l.at-end;
  end : l.at-end ≡ length l.bodies;
}
