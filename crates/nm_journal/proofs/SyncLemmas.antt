-- The sync with which a journal is opened. For the proof of `Journal::open`.
use Rattle.std.proofs.Common.{◌≡◌, inl, inr, ℕ, ◌+◌, false, List, length, Option, None, Some, IfSome, sym, ap, subst, ◌∙◌}
use Rattle.nm_disk.specs.declared.disk.FileNo.{FileNo}
use Rattle.nm_disk.specs.Calls.{GoesOn, MayFail, synced}
use Rattle.nm_disk.specs.CrashStateLaws.{when_synced}
use Rattle.nm_disk.specs.CrashStates.{MayLeave, bytes_of}
use Rattle.nm_disk.specs.Observed.{Moments, bytes_now, later}
use Rattle.nm_journal.proofs.AppendLemmas.{ReadsAnImage}
use Rattle.nm_journal.proofs.MomentLemmas.{goes_from, goes_map}
use Rattle.nm_journal.proofs.OtherLemmas.{failed_sync, sync_went}
use Rattle.nm_journal.specs.Journal.{StandsOn}
use Rattle.nm_journal.specs.Moments.{IsSynced, LeavesNothingNew, SyncsOrFails}
use Rattle.nm_journal.specs.Records.{HasRecords, records_of}

-- a sync that failed
pub sync_failed : (file : FileNo) (x y : Option Moments) → GoesOn (λ old new. MayFail old new old.present.written) x y → GoesOn (LeavesNothingNew file) x y
sync_failed file x y fails = goes_map {Q = LeavesNothingNew file} (failed_sync file) x y fails

-- a sync that went well, and looks at the disk after it
pub sync_goes : (file : FileNo) (x y z : Option Moments) → IfSome x ReadsAnImage → GoesOn IsSynced x y → z ≡ y → GoesOn (LeavesNothingNew file) x z
sync_goes file x y z reads syncs e =
    subst (λ (o : Option Moments). GoesOn (LeavesNothingNew file) x o) (sym e)
    (goes_map {Q = LeavesNothingNew file} (λ (old new : Moments) (both : ReadsAnImage old × IsSynced old new). sync_went file old new both.0 both.1) x y (goes_from ReadsAnImage IsSynced x y reads syncs))

-- the journal that is opened is on the disk
pub sync_stands : (file : FileNo) (x y z : Option Moments) (at gate count : ℕ) (bodies : List (List ℕ)) → GoesOn (λ old new. new ≡ later old (synced old.present)) x y → z ≡ y
    → IfSome y (λ moments. HasRecords at bodies (bytes_now moments file)) → gate ≡ at + length (records_of bodies) → count ≡ length bodies
    → GoesOn (λ old new. StandsOn new.present (record { file = file; start = at; gate = gate; count = count; failed = false }) bodies) x z
sync_stands file None None z at gate count bodies syncs e has ends same =
    subst (λ (o : Option Moments). GoesOn (λ old new. StandsOn new.present (record { file = file; start = at; gate = gate; count = count; failed = false }) bodies) None o) (sym e) tt
sync_stands file None (Some new) z at gate count bodies syncs e has ends same = absurd syncs
sync_stands file (Some old) None z at gate count bodies syncs e has ends same = absurd syncs
sync_stands file (Some old) (Some new) z at gate count bodies syncs e has ends same =
    let now_same : bytes_now new file ≡ bytes_of file old.present.now = ap (λ (m : Moments). bytes_now m file) syncs in
    let stands : StandsOn new.present (record { file = file; start = at; gate = gate; count = count; failed = false }) bodies = record {
      gate = ends;
      count = same;
      every = λ bytes left.
          let left_synced : MayLeave (synced old.present) file bytes = subst (λ (m : Moments). MayLeave m.present file bytes) syncs left in
          subst (HasRecords at bodies) (now_same ∙ sym (when_synced old.present file bytes left_synced)) has;
    } in
    subst (λ (o : Option Moments). GoesOn (λ old new. StandsOn new.present (record { file = file; start = at; gate = gate; count = count; failed = false }) bodies) (Some old) o) (sym e) stands

-- nothing but that sync happened, or it failed
pub sync_failed_only : (x y : Option Moments) → GoesOn (λ old new. MayFail old new old.present.written) x y → GoesOn SyncsOrFails x y
sync_failed_only None None fails = tt
sync_failed_only None (Some new) fails = absurd fails
sync_failed_only (Some old) None fails = absurd fails
sync_failed_only (Some old) (Some new) fails = inl fails

pub sync_goes_only : (x y z : Option Moments) → GoesOn IsSynced x y → z ≡ y → GoesOn IsSynced x z
sync_goes_only x y z syncs e = subst (λ (o : Option Moments). GoesOn IsSynced x o) (sym e) syncs

pub sync_goes_or_fails : (x y z : Option Moments) → GoesOn IsSynced x y → z ≡ y → GoesOn SyncsOrFails x z
sync_goes_or_fails None None z syncs e = subst (λ (o : Option Moments). GoesOn SyncsOrFails None o) (sym e) tt
sync_goes_or_fails None (Some new) z syncs e = absurd syncs
sync_goes_or_fails (Some old) None z syncs e = absurd syncs
sync_goes_or_fails (Some old) (Some new) z syncs e = subst (λ (o : Option Moments). GoesOn SyncsOrFails (Some old) o) (sym e) (inr syncs)
