-- The banks stay as they were: no call writes them. With the commits of the head, that is what a session and a refused opening leave.
-- For the proofs of `a_refused_line_is_a_history`, `a_refused_opening_keeps_the_index` and `a_session_keeps_its_commits`.
use Rattle.std.proofs.Common.{◌≡◌, inr, ℕ, false, List, [], ◌∷◌, length, refl, sym, ◌∙◌, ap, subst}
use Rattle.nm_commit.specs.declared.change.Commit.{Commit}
use Rattle.nm_disk.specs.Calls.{synced}
use Rattle.nm_disk.specs.CrashStates.{IsImage, MayLeave, same_file}
use Rattle.nm_disk.specs.Observed.{Moments, bytes_now}
use Rattle.nm_disk.specs.declared.disk.FileNo.{FileNo}
use Rattle.nm_disk.specs.declared.disk.FileNo.TheVariants.{Head, BankA, BankB}
use Rattle.nm_disk.specs.declared.state.DiskState.{DiskState}
use Rattle.nm_disk.specs.declared.state.Range.{Range}
use Rattle.nm_model_index.specs.declared.base.Base.{Base}
use Rattle.nm_journal.specs.Moments.{IsSynced, LeavesNothingNew, LeavesOnly, SyncsOrFails}
use Rattle.nm_writer.specs.Durable.{KeptSince}
use Rattle.nm_replay.specs.StoredIndex.{HoldsIndex}
use Rattle.nm_history.specs.CrashPrefix.{IsMoment, IsUntouched, KeepsDisk}
use Rattle.nm_history.proofs.CrashLemmas.{is-new, left-quiet, quiet-settled}
use Rattle.nm_history.proofs.SettledLemmas.{pending-moment, refused-keeps, session-keeps, since-opened}

-- what a crash leaves of the file at a settled moment of the call is what a read gave when the call began
abbrev Settled : FileNo → Moments → Moments → Type 0
Settled file before now = (state : DiskState) (number : ℕ) (bytes : List ℕ) → IsMoment before now state number → MayLeave state file bytes → bytes ≡ bytes_now before file

-- what a read gives is one of what a crash leaves
untouched : (file : FileNo) (before now : Moments) → IsImage now.present now.present.now → LeavesNothingNew file before now → Settled file before now → IsUntouched file before now
untouched file before now image leaves settled = record {
  leaves = leaves;
  settled = settled;
  reads = λ since. settled now.present (length now.past) (bytes_now now file) (record { newer = []; older = now.past; order = refl; number_is = refl; since = since }) (image file);
}

synced-file : (file : FileNo) (entry state : DiskState) (bytes : List ℕ) → state ≡ synced entry → MayLeave state file bytes → bytes ≡ bytes_now (record { present = entry; past = [] }) file
synced-file file entry state bytes is left = left-quiet file (synced entry) bytes refl (subst (λ (s : DiskState). MayLeave s file bytes) is left)

refused-settled : (file : FileNo) (before now : Moments) (written : List Range) → before.present.written ≡ written → IsImage before.present before.present.now → SyncsOrFails before now → LeavesNothingNew file before now
    → Settled file before now
refused-settled file before now [] quiet image syncs leaves = quiet-settled file before now quiet image leaves
refused-settled file before now (range ∷ ranges) pending image syncs leaves = λ state number bytes moment left.
    synced-file file before.present state bytes (pending-moment before now range ranges pending state number moment syncs) left

-- a disk that was synced at most
pub refused-disk : (before now : Moments) → IsImage before.present before.present.now → IsImage now.present now.present.now → SyncsOrFails before now
    → ((file : FileNo) → LeavesNothingNew file before now) → KeepsDisk [] [] before now
refused-disk before now image image_now syncs leaves =
    let stays : (file : FileNo) → IsUntouched file before now = λ file.
    untouched file before now image_now (leaves file) (refused-settled file before now before.present.written refl image syncs (leaves file)) in
    record { head = refused-keeps before now image syncs (leaves Head); bank_a = stays BankA; bank_b = stays BankB }

-- a disk over which a session ran
module _ (twice : (file : FileNo) (old mid new : Moments) → LeavesNothingNew file old mid → LeavesNothingNew file mid new → LeavesNothingNew file old new)
    (syncs : (file : FileNo) (old new : Moments) → IsImage old.present old.present.now → SyncsOrFails old new → LeavesNothingNew file old new)
    (once : (bytes : List ℕ) (one other : Base) → HoldsIndex bytes one → HoldsIndex bytes other → one ≡ other)
    (opening : Base) (commits : List Commit) (acked : List ℕ) (before opened now : Moments) (image : IsImage before.present before.present.now) (image_now : IsImage now.present now.present.now)
    (held : HoldsIndex (bytes_now before Head) opening) (is : IsSynced before opened) (kept : KeptSince opening commits acked opened now) where
  leaves : (file : FileNo) → same_file Head file ≡ false → LeavesNothingNew file before now
  leaves file apart = twice file before opened now (syncs file before opened image (inr is)) (kept.others file apart)

  ran-settled : (file : FileNo) (written : List Range) → before.present.written ≡ written → same_file Head file ≡ false → Settled file before now
  ran-settled file [] quiet apart = quiet-settled file before now quiet image (leaves file apart)
  ran-settled file (range ∷ ranges) pending apart = λ state number bytes moment left.
      let since : LeavesNothingNew file opened now = kept.others file apart in
      let may : LeavesOnly file (MayLeave opened.present file) state =
      is-new (LeavesOnly file (MayLeave opened.present file)) since.states opened.present opened.past moment.newer state moment.older (sym since.are ∙ moment.order)
      (since-opened once opening commits acked before opened now held range ranges pending is kept state number moment) since.each (λ bytes left. left) in
      synced-file file before.present opened.present bytes (ap (λ (m : Moments). m.present) is) (may bytes left)

  ran-bank : (file : FileNo) → same_file Head file ≡ false → IsUntouched file before now
  ran-bank file apart = untouched file before now image_now (leaves file apart) (ran-settled file before.present.written refl apart)

  pub session-disk : (before.present.written ≡ [] → KeptSince opening commits acked before now) → KeepsDisk commits acked before now
  session-disk from_entry = record { head = session-keeps once opening commits acked before opened now held is from_entry kept; bank_a = ran-bank BankA refl; bank_b = ran-bank BankB refl }
