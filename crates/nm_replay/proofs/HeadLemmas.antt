-- What the records that were read leave. For the proof of `replay_head`.
use Rattle.std.proofs.Common.{ℕ, List, Option, None, Some, subst}
use Rattle.nm_commit.specs.declared.change.Commit.{Commit}
use Rattle.nm_disk.specs.Calls.{GoesOn}
use Rattle.nm_disk.specs.Observed.{Moments, bytes_now}
use Rattle.nm_disk.specs.declared.disk.FileNo.TheVariants.{Head}
use Rattle.nm_model_index.specs.declared.base.Base.{Base}
use Rattle.nm_journal.specs.Journal.{JournalState, StandsOn}
use Rattle.nm_journal.specs.Records.{HasRecords}
use Rattle.nm_replay.proofs.ReplayLemmas.{Replayed}
use Rattle.nm_replay.specs.StoredIndex.{HasCommits, HoldsWithin}

-- the index that the records which were read leave
pub opened-index : (old new : Option Moments) (bodies : List (List ℕ)) (shown : Base) → GoesOn (λ o n. HasRecords 0 bodies (bytes_now o Head)) old new → Replayed bodies shown → GoesOn (λ o n. HoldsWithin (bytes_now o Head) shown) old new
opened-index None None bodies shown records h = tt
opened-index None (Some n) bodies shown records h = absurd records
opened-index (Some o) None bodies shown records h = absurd records
opened-index (Some o) (Some n) bodies shown records h = record {
  held = record {
    commits = h.0;
    records = subst (λ (l : List (List ℕ)). HasRecords 0 l (bytes_now o Head)) h.1.bodies_are records;
    values = h.1.values;
    fit = h.1.fit;
    index_is = h.1.index_is;
  };
  within = h.2;
}

-- the journal is on the disk with them, whatever a crash leaves
pub opened-stands : (old new : Option Moments) (bodies : List (List ℕ)) (journal : JournalState) (index : Base) → GoesOn (λ o n. StandsOn n.present journal bodies) old new → Replayed bodies index
    → GoesOn (λ o n. (bodies : List (List ℕ)) × (commits : List Commit) × StandsOn n.present journal bodies × HasCommits bodies commits index) old new
opened-stands None None bodies journal index stands h = tt
opened-stands None (Some n) bodies journal index stands h = absurd stands
opened-stands (Some o) None bodies journal index stands h = absurd stands
opened-stands (Some o) (Some n) bodies journal index stands h = (bodies, h.0, stands, h.1)
