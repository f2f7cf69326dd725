-- What calls leave of the files that they don't write, and a sync of all files.
-- For the proofs of `append`, `open_gate`, `stage` and others.
use Rattle.std.proofs.Common.{◌≡◌, inl, inr, ℕ, false, List, [], ◌∷◌, ◌++◌, length, Option, IfSome, Result, Ok, Err, sym, subst, true≢false}
use Rattle.std.specs.List.{AllByRecursion}
use Rattle.nm_base.specs.declared.memory.Failed.{Failed}
use Rattle.nm_disk.specs.Calls.{GoesOn, MayFail, range_of, synced, wrote}
use Rattle.nm_disk.specs.CrashStateLaws.{when_synced}
use Rattle.nm_disk.specs.CrashStates.{IsImage, MayLeave, same_file}
use Rattle.nm_disk.specs.Observed.{Moments}
use Rattle.nm_disk.specs.declared.disk.FileNo.{FileNo}
use Rattle.nm_disk.specs.declared.disk.FileNo.TheVariants.{Head, BankA, BankB}
use Rattle.nm_disk.specs.declared.files.Files.{Files}
use Rattle.nm_disk.specs.declared.state.DiskState.{DiskState}
use Rattle.nm_journal.proofs.AppendLemmas.{ReadsAnImage, SyncIs, WriteIsErr, WriteIsOk}
use Rattle.nm_journal.proofs.MomentLemmas.{goes_from, goes_map, goes_then, through_failed, through_map, through_one, through_then}
use Rattle.nm_journal.proofs.WriteLemmas.{by_parts}
use Rattle.nm_journal.specs.Moments.{IsSynced, LeavesNothingNew, LeavesOnly, SyncsOrFails, TouchesOnly}

-- what a crash leaves at the end it might have left at the beginning
left_at_end : (file : FileNo) (old new : Moments) (states : List DiskState) → AllByRecursion (LeavesOnly file (MayLeave old.present file)) states
    → new.present ∷ new.past ≡ states ++ old.present ∷ old.past → LeavesOnly file (MayLeave old.present file) new.present
left_at_end file old new [] each are = let same : new.present ≡ old.present = cc in λ bytes left. subst (λ (s : DiskState). MayLeave s file bytes) same left
left_at_end file old new (state ∷ states) each are = let same : new.present ≡ state = cc in λ bytes left. each.0 bytes (subst (λ (s : DiskState). MayLeave s file bytes) same left)

pub nothing_new_twice : (file : FileNo) (old mid new : Moments) → LeavesNothingNew file old mid → LeavesNothingNew file mid new → LeavesNothingNew file old new
nothing_new_twice file old mid new first second =
    through_then file (MayLeave old.present file) old mid new first
    (through_map file (MayLeave mid.present file) (MayLeave old.present file) (left_at_end file old mid first.states first.each first.are) mid new second)

-- a sync
pub sync_went : (file : FileNo) (old new : Moments) → IsImage old.present old.present.now → IsSynced old new → LeavesNothingNew file old new
sync_went file old new reads is =
    through_one file (MayLeave old.present file) old new (synced old.present) is
    (λ bytes left. subst (MayLeave old.present file) (sym (when_synced old.present file bytes left)) (reads file))

pub failed_sync : (file : FileNo) (old new : Moments) → MayFail old new old.present.written → LeavesNothingNew file old new
failed_sync file old new fails =
    through_failed file (MayLeave old.present file) old new old.present.written fails
    (λ state e f bytes left. by_parts state file bytes old.present.synced old.present.written e f left)

pub sync_or_fault : (file : FileNo) (old new : Moments) → IsImage old.present old.present.now → SyncsOrFails old new → LeavesNothingNew file old new
sync_or_fault file old new reads (inl fails) = failed_sync file old new fails
sync_or_fault file old new reads (inr is) = sync_went file old new reads is

sync_is : {T : Type 0} (file : FileNo) (result : Result T Failed) (old new : Moments) → IsImage old.present old.present.now → SyncIs result old new → LeavesNothingNew file old new
sync_is file (Ok done) old new reads is = sync_went file old new reads is
sync_is file (Err e) old new reads fails = failed_sync file old new fails

-- what a crash may leave of another file than the one that is written
unwritten : (state : DiskState) (file other : FileNo) (at n : ℕ) (now : Files) (bytes : List ℕ) → same_file file other ≡ false
    → MayLeave (record { now = now; synced = state.synced; written = range_of file at n ∷ state.written }) other bytes → MayLeave state other bytes
unwritten state Head Head at n now bytes apart left = absurd (true≢false apart)
unwritten state Head BankA at n now bytes apart left = left
unwritten state Head BankB at n now bytes apart left = left
unwritten state BankA Head at n now bytes apart left = left
unwritten state BankA BankA at n now bytes apart left = absurd (true≢false apart)
unwritten state BankA BankB at n now bytes apart left = left
unwritten state BankB Head at n now bytes apart left = left
unwritten state BankB BankA at n now bytes apart left = left
unwritten state BankB BankB at n now bytes apart left = absurd (true≢false apart)

module _ (file : FileNo) (at : ℕ) (piece : List ℕ) where
  write_went : (old new : Moments) → WriteIsOk file at piece old new → TouchesOnly file old new
  write_went old new is other apart =
      through_one other (MayLeave old.present other) old new (wrote old.present file at piece) is
      (λ bytes left. unwritten old.present file other at (length piece) (wrote old.present file at piece).now bytes apart left)

  failed_write : (old new : Moments) → WriteIsErr file at piece old new → TouchesOnly file old new
  failed_write old new fails other apart =
      through_failed other (MayLeave old.present other) old new (range_of file at (length piece) ∷ old.present.written) fails
      (λ state e f bytes left. unwritten old.present file other at (length piece) state.now bytes apart
      (by_parts state other bytes old.present.synced (range_of file at (length piece) ∷ old.present.written) e f left))

  -- a write that failed
  pub others_unwritten : (x y : Option Moments) → GoesOn (WriteIsErr file at piece) x y → GoesOn (TouchesOnly file) x y
  others_unwritten x y fails = goes_map {Q = TouchesOnly file} failed_write x y fails

  -- a write that went well, and a sync
  pub others_synced : {T : Type 0} (result : Result T Failed) (x y z : Option Moments) → IfSome y ReadsAnImage → GoesOn (WriteIsOk file at piece) x y → GoesOn (SyncIs result) y z → GoesOn (TouchesOnly file) x z
  others_synced result x y z reads writes syncs =
      goes_then {R = TouchesOnly file} (λ (old mid new : Moments) (is : WriteIsOk file at piece old mid) (both : ReadsAnImage mid × SyncIs result mid new) other apart.
      nothing_new_twice other old mid new (write_went old mid is other apart) (sync_is other result mid new both.0 both.1))
      x y z writes (goes_from ReadsAnImage (SyncIs result) y z reads syncs)

-- two calls one after the other
pub others_twice : (file : FileNo) (x y z : Option Moments) → GoesOn (TouchesOnly file) x y → GoesOn (TouchesOnly file) y z → GoesOn (TouchesOnly file) x z
others_twice file x y z first second =
    goes_then {R = TouchesOnly file} (λ (old mid new : Moments) (one : TouchesOnly file old mid) (two : TouchesOnly file mid new) other apart.
    nothing_new_twice other old mid new (one other apart) (two other apart)) x y z first second
