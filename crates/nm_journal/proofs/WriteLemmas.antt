-- A write and a sync: what a crash may leave of the file at each moment of the two.
-- For `AppendLemmas` and `SyncLemmas`.
use Rattle.std.proofs.Common.{◌≡◌, ℕ, List, ◌∷◌, length, Result, Ok, Err, MatchResult, OnOk, sym, ap, subst, ◌∙◌, refl}
use Rattle.nm_base.specs.declared.memory.Failed.{Failed}
use Rattle.nm_disk.specs.declared.disk.FileNo.{FileNo}
use Rattle.nm_disk.specs.declared.files.Files.{Files}
use Rattle.nm_disk.specs.declared.state.DiskState.{DiskState}
use Rattle.nm_disk.specs.declared.state.Range.{Range}
use Rattle.nm_disk.specs.Calls.{MayFail, range_of, synced, wrote}
use Rattle.nm_disk.specs.CrashStateLaws.{ComesOf, before_write, now_written, overwritten_comes_of, when_synced}
use Rattle.nm_disk.specs.CrashStates.{IsImage, MayLeave, bytes_of, overwritten}
use Rattle.nm_disk.specs.Observed.{Moments, later}
use Rattle.nm_journal.proofs.MomentLemmas.{through_failed, through_one, through_then}
use Rattle.nm_journal.specs.Moments.{GoesThrough, LeavesOnly}

-- a state by its parts
pub by_parts : (state : DiskState) (file : FileNo) (bytes : List ℕ) (files : Files) (written : List Range) → state.synced ≡ files → state.written ≡ written → MayLeave state file bytes
    → MayLeave (record { now = state.now; synced = files; written = written }) file bytes
by_parts state file bytes files written e f left =
    let P : Files → List Range → Type 0 = λ files written. MayLeave (record { now = state.now; synced = files; written = written }) file bytes in
    subst (λ written. P files written) f (subst (λ files. P files state.written) e left)

-- P holds of what comes of a crash state by the write, and Q of what a read gives after it
module _ (file : FileNo) (at : ℕ) (piece : List ℕ) (P Q : List ℕ → Type 0) (old : Moments) (law : IsImage old.present old.present.now)
    (torn : (before after : List ℕ) → MayLeave old.present file before → ComesOf at (length piece) before after → P after)
    (whole : Q (overwritten (bytes_of file old.present.now) at piece)) where
  abbrev pub range : List Range
  range = range_of file at (length piece) ∷ old.present.written

  torn_state : (state : DiskState) → state.synced ≡ old.present.synced → state.written ≡ range → LeavesOnly file P state
  torn_state state e f bytes left =
      let before = before_write old.present file at (length piece) state.now bytes (by_parts state file bytes old.present.synced range e f left) in
      torn before.0 bytes before.1 before.2

  -- a write that failed
  pub failed_write : (new : Moments) → MayFail old new range → GoesThrough file P old new
  failed_write new fails = through_failed file P old new range fails torn_state

  module _ (mid : Moments) (wrote_it : mid ≡ later old (wrote old.present file at piece)) where
    first : GoesThrough file P old mid
    first = through_one file P old mid (wrote old.present file at piece) wrote_it (torn_state (wrote old.present file at piece) refl refl)

    synced_mid : mid.present.synced ≡ old.present.synced
    synced_mid = ap (λ (m : Moments). m.present.synced) wrote_it

    written_mid : mid.present.written ≡ range
    written_mid = ap (λ (m : Moments). m.present.written) wrote_it

    -- what a crash leaves after the sync
    left_is : (bytes : List ℕ) → MayLeave (synced mid.present) file bytes → bytes ≡ overwritten (bytes_of file old.present.now) at piece
    left_is bytes left =
        when_synced mid.present file bytes left ∙ ap (λ (m : Moments). bytes_of file m.present.now) wrote_it ∙ now_written old.present file at piece

    -- the sync, good or failed
    pub write_and_sync : {T : Type 0} (new : Moments) (result : Result T Failed)
        → MatchResult result (λ _. new ≡ later mid (synced mid.present)) (λ _. MayFail mid new mid.present.written) → GoesThrough file P old new
    write_and_sync new (Ok done) is =
        through_then file P old mid new first (through_one file P mid new (synced mid.present) is
        (λ bytes left. subst P (sym (left_is bytes left)) (torn (bytes_of file old.present.now) _ (law file) (overwritten_comes_of (bytes_of file old.present.now) piece at))))
    write_and_sync new (Err e) fails =
        through_then file P old mid new first (through_failed file P mid new mid.present.written fails
        (λ state e f. torn_state state (e ∙ synced_mid) (f ∙ written_mid)))

    -- after a sync that went well
    pub synced_well : {T : Type 0} (new : Moments) (result : Result T Failed)
        → MatchResult result (λ _. new ≡ later mid (synced mid.present)) (λ _. MayFail mid new mid.present.written) → OnOk result (LeavesOnly file Q new.present)
    synced_well new (Ok done) is = λ bytes left.
        let now_left : MayLeave (synced mid.present) file bytes = subst (λ (m : Moments). MayLeave m.present file bytes) is left in
        subst Q (sym (left_is bytes now_left)) whole
    synced_well new (Err e) fails = tt
