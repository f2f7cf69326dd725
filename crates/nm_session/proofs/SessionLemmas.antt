-- What a session leaves on the disk, from its opening and its lines.
-- For the proofs of `run_session`.
use Rattle.std.proofs.Common.{◌≡◌, inl, ℕ, List, [], Option, None, Some, IfSome, length, refl, arith}
use Rattle.nm_base.specs.declared.limit.Limit.{Limit}
use Rattle.nm_commit.specs.declared.change.Commit.{Commit}
use Rattle.nm_disk.specs.Calls.{GoesOn}
use Rattle.nm_disk.specs.CrashStates.{IsImage}
use Rattle.nm_disk.specs.Observed.{Moments, ObservedDisk, bytes_now}
use Rattle.nm_disk.specs.declared.disk.FileNo.{FileNo}
use Rattle.nm_disk.specs.declared.disk.FileNo.TheVariants.{Head}
use Rattle.nm_faults.specs.Faults.{Counts}
use Rattle.nm_history.specs.CrashPrefix.{CrashPrefix, KeepsDisk, appends}
use Rattle.nm_history.specs.Lines.{begun}
use Rattle.nm_history.specs.OpeningIndex.{IsUnwritten}
use Rattle.nm_model_index.specs.declared.base.Base.{Base}
use Rattle.nm_journal.specs.Journal.{IfKnown}
use Rattle.nm_journal.specs.Moments.{IsSynced, SyncsOrFails}
use Rattle.nm_model_machine.specs.declared.step.Step.{Step}
use Rattle.nm_session.specs.Session.{HasOpenCause}
use Rattle.nm_writer.specs.Durable.{KeptSince, NeverFall}
use Rattle.nm_replay.specs.OpenFaults.{HasOpenFault, IsOfHead, is_disk_fault}
use Rattle.nm_replay.specs.StoredIndex.{HoldsIndex, HoldsNoIndex, HoldsWithin, PassesLimit}
use Rattle.nm_replay.specs.declared.open_error.OpenError.{OpenError}
use Rattle.nm_replay.specs.declared.open_error.OpenError.TheVariants as errors

-- what a read gives is a crash state
abbrev ReadsAnImage : Option Moments → Type 0
ReadsAnImage told = IfSome told (λ moments. IsImage moments.present moments.present.now)

-- a disk that was not asked was not written
unwritten-told : (told : Option Moments) → GoesOn SyncsOrFails told told
unwritten-told None = tt
unwritten-told (Some m) = inl (inl refl)

pub unasked-unwritten : (disk : ObservedDisk) → IsUnwritten disk disk
unasked-unwritten disk = unwritten-told disk.told

module _ (stays : (before now : Moments) → IsImage before.present before.present.now → IsImage now.present now.present.now → SyncsOrFails before now → KeepsDisk [] [] before now) where
  unasked-told : (told : Option Moments) → ReadsAnImage told → IfKnown told told (KeepsDisk [] [])
  unasked-told None image = tt
  unasked-told (Some m) image = stays m m image image (inl (inl refl))

  -- a disk that was not asked
  pub unasked-prefix : (disk : ObservedDisk) → ReadsAnImage disk.told → CrashPrefix disk disk [] []
  unasked-prefix disk image = record { every_moment = unasked-told disk.told image; one_each = refl; clocks = omega arith }

  unopened-told : (old new : Option Moments) → ReadsAnImage old → ReadsAnImage new → GoesOn SyncsOrFails old new → IfKnown old new (KeepsDisk [] [])
  unopened-told None new image image_new syncs = tt
  unopened-told (Some before) None image image_new syncs = tt
  unopened-told (Some before) (Some now) image image_new syncs = stays before now image image_new syncs

  -- a disk on which no index was opened
  pub unopened-prefix : (old new : ObservedDisk) → ReadsAnImage old.told → ReadsAnImage new.told → GoesOn SyncsOrFails old.told new.told → CrashPrefix old new [] []
  unopened-prefix old new image image_new syncs = record { every_moment = unopened-told old.told new.told image image_new syncs; one_each = refl; clocks = omega arith }

module _ (keeps : (opening : Base) (commits : List Commit) (acked : List ℕ) (before opened now : Moments) → IsImage before.present before.present.now → IsImage now.present now.present.now → HoldsIndex (bytes_now before Head) opening → IsSynced before opened
    → (before.present.written ≡ [] → KeptSince opening commits acked before now) → KeptSince opening commits acked opened now → KeepsDisk commits acked before now) where
  ran-told : (opening : Base) (commits : List Commit) (acked : List ℕ) (old mid new : Option Moments) → ReadsAnImage old → ReadsAnImage new → GoesOn (λ before opened. HoldsWithin (bytes_now before Head) opening) old mid → GoesOn IsSynced old mid
      → (IfSome old (λ moments. moments.present.written ≡ []) → GoesOn (KeptSince opening commits acked) old new) → GoesOn (KeptSince opening commits acked) mid new → IfKnown old new (KeepsDisk commits acked)
  ran-told opening commits acked None mid new image image_new index syncs from_entry kept = tt
  ran-told opening commits acked (Some before) mid None image image_new index syncs from_entry kept = tt
  ran-told opening commits acked (Some before) None (Some now) image image_new index syncs from_entry kept = absurd syncs
  ran-told opening commits acked (Some before) (Some opened) (Some now) image image_new index syncs from_entry kept =
      keeps opening commits acked before opened now image image_new index.held syncs from_entry kept

  -- a disk on which a session ran
  pub ran-prefix : (opening : Base) (steps : List Step) (acked : List ℕ) (old mid new : ObservedDisk) → ReadsAnImage old.told → ReadsAnImage new.told → GoesOn (λ before opened. HoldsWithin (bytes_now before Head) opening) old.told mid.told → GoesOn IsSynced old.told mid.told
      → (IfSome old.told (λ moments. moments.present.written ≡ []) → GoesOn (KeptSince opening (begun steps) acked) old.told new.told) → GoesOn (KeptSince opening (begun steps) acked) mid.told new.told
      → length acked ≡ appends steps → NeverFall 0 acked new.clock → CrashPrefix old new steps acked
  ran-prefix opening steps acked old mid new image image_new index syncs from_entry kept each clocks = record {
    every_moment = ran-told opening (begun steps) acked old.told mid.told new.told image image_new index syncs from_entry kept;
    one_each = each;
    clocks = clocks;
  }

-- the index that was opened is the one that the disk held
pub opening-held : (opening : Base) (old mid : Option Moments) → GoesOn (λ before opened. HoldsWithin (bytes_now before Head) opening) old mid → IfSome old (λ moments. HoldsWithin (bytes_now moments Head) opening)
opening-held opening None mid index = tt
opening-held opening (Some before) None index = absurd index
opening-held opening (Some before) (Some opened) index = index

bad-told : (old new : Option Moments) (file : FileNo) (at : ℕ) → GoesOn (λ before now. HasOpenFault (bytes_now before Head) (errors.BadIndex file at)) old new → IfSome old (λ moments. HoldsNoIndex (bytes_now moments Head) at)
bad-told None new file at bad = tt
bad-told (Some before) None file at bad = absurd bad
bad-told (Some before) (Some now) file at bad = bad.1

passed-told : (old new : Option Moments) (limit : Limit) → GoesOn (λ before now. HasOpenFault (bytes_now before Head) (errors.Limit limit)) old new → IfSome old (λ moments. PassesLimit (bytes_now moments Head) limit)
passed-told None new limit passed = tt
passed-told (Some before) None limit passed = absurd passed
passed-told (Some before) (Some now) limit passed = passed

-- why no index was opened
pub open-caused : (old new : ObservedDisk) (error : OpenError) → Counts (is_disk_fault error) old.faults new.faults → GoesOn (λ before now. HasOpenFault (bytes_now before Head) error) old.told new.told → IsOfHead error → HasOpenCause old new error
open-caused old new errors.DiskFault counts bad file = counts
open-caused old new (errors.BadIndex file at) counts bad head = (head, bad-told old.told new.told file at bad)
open-caused old new (errors.Limit limit) counts passed file = passed-told old.told new.told limit passed
open-caused old new errors.NoMemory counts bad file = tt
