-- The two halves of an append, over disks whose moments are known or aren't.
-- For the proofs of `open_gate`, `stage`, `write_record` and others.
use Rattle.std.proofs.Common.{◌≡◌, ℕ, ◌+◌, ◌<◌, ◌≤◌, ◌^◌, List, [], ◌∷◌, ◌++◌, length, Option, None, Some, IfSome, Result, MatchResult, Ok, Err, OnOk, sym, subst, inl, arith, ◌∙◌, Bool, length-append}
use Rattle.nm_base.specs.declared.memory.Failed.{Failed}
use Rattle.nm_disk.specs.declared.disk.FileNo.{FileNo}
use Rattle.nm_disk.specs.Calls.{GoesOn, MayFail, range_of, synced, wrote}
use Rattle.nm_disk.specs.CrashStateLaws.{ComesOf}
use Rattle.nm_disk.specs.CrashStates.{IsImage, MayLeave, overwritten}
use Rattle.nm_disk.specs.Observed.{Moments, bytes_now, later}
use Rattle.nm_journal.proofs.MomentLemmas.{goes_both, goes_from, goes_map, goes_then, through_map, through_then}
use Rattle.nm_journal.proofs.RecordLemmas.{either, gate_opened, kept_after, length_past_gate, next_gate, of_staged, staged}
use Rattle.nm_journal.proofs.WriteLemmas.{failed_write, synced_well, write_and_sync}
use Rattle.nm_journal.specs.Frame.{framed}
use Rattle.nm_journal.specs.Journal.{IsBeforeOrAfter, JournalState, StandsOn}
use Rattle.nm_journal.specs.Moments.{GoesThrough}
use Rattle.nm_journal.specs.Records.{HasRecords}
use Rattle.nm_journal.specs.Staged.{EndsAt, HasStaged, StagedAt}

-- what a read gives is a crash state
abbrev pub ReadsAnImage : Moments → Type 0
ReadsAnImage moments = IsImage moments.present moments.present.now

-- the outcome of a write that went well, of one that failed, and of a sync
abbrev pub WriteIsOk : FileNo → ℕ → List ℕ → Moments → Moments → Type 0
WriteIsOk file at piece old new = new ≡ later old (wrote old.present file at piece)

abbrev pub WriteIsErr : FileNo → ℕ → List ℕ → Moments → Moments → Type 0
WriteIsErr file at piece old new = MayFail old new (range_of file at (length piece) ∷ old.present.written)

abbrev pub SyncIs : {T : Type 0} → Result T Failed → Moments → Moments → Type 0
SyncIs result old new = MatchResult result (λ _. new ≡ later old (synced old.present)) (λ _. MayFail old new old.present.written)

-- what is said of a step, whatever the records are
abbrev pub StageThrough : FileNo → ℕ → Moments → Moments → Type 0
StageThrough file gate old new =
    (start : ℕ) (bodies : List (List ℕ)) → EndsAt old.present file start gate bodies → GoesThrough file (HasRecords start bodies) old new

abbrev pub StageStands : {T : Type 0} → FileNo → ℕ → List ℕ → Result T Failed → Moments → Moments → Type 0
StageStands file gate body result old new =
    (start : ℕ) (bodies : List (List ℕ)) → EndsAt old.present file start gate bodies → OnOk result (StagedAt new.present file start gate bodies body)

abbrev pub OpenThrough : FileNo → ℕ → List ℕ → Moments → Moments → Type 0
OpenThrough file gate body old new =
    (start : ℕ) (bodies : List (List ℕ)) → StagedAt old.present file start gate bodies body → GoesThrough file (IsBeforeOrAfter start bodies body) old new

abbrev pub OpenStands : {T : Type 0} → FileNo → ℕ → List ℕ → Result T Failed → Moments → Moments → Type 0
OpenStands file gate body result old new =
    (start : ℕ) (bodies : List (List ℕ)) → StagedAt old.present file start gate bodies body
    → OnOk result (EndsAt new.present file start (gate + 5 + length body) (bodies ++ body ∷ []))

abbrev pub RecordThrough : FileNo → ℕ → List ℕ → Moments → Moments → Type 0
RecordThrough file gate body old new =
    (start : ℕ) (bodies : List (List ℕ)) → EndsAt old.present file start gate bodies → GoesThrough file (IsBeforeOrAfter start bodies body) old new

abbrev pub RecordStands : {T : Type 0} → FileNo → ℕ → List ℕ → Result T Failed → Moments → Moments → Type 0
RecordStands file gate body result old new =
    (start : ℕ) (bodies : List (List ℕ)) → EndsAt old.present file start gate bodies
    → OnOk result (EndsAt new.present file start (gate + 5 + length body) (bodies ++ body ∷ []))

on_ok : {T : Type 0} {P Q : Type 0} (result : Result T Failed) → (P → Q) → OnOk result P → OnOk result Q
on_ok (Ok done) f p = f p
on_ok (Err e) f p = tt

module _ (file : FileNo) (gate : ℕ) (body piece : List ℕ) (framed_it : piece ≡ framed body) where
  -- the write of the frame has room after the gate
  pub room_after : (x : Option Moments) → IfSome x ReadsAnImage
      → IfSome x (λ moments. (start : ℕ) × (bodies : List (List ℕ)) × EndsAt moments.present file start gate bodies)
      → IfSome x (λ moments. gate + 1 ≤ length (bytes_now moments file))
  room_after None reads ends = tt
  room_after (Some moments) reads ends =
      length_past_gate ends.0 gate ends.1 (bytes_now moments file) ends.2.ends (ends.2.every (bytes_now moments file) (reads file))

  -- what the frame's write leaves has the records
  torn_frame : (old : Moments) (start : ℕ) (bodies : List (List ℕ)) → EndsAt old.present file start gate bodies
      → (before after : List ℕ) → MayLeave old.present file before → ComesOf (gate + 1) (length piece) before after → HasRecords start bodies after
  torn_frame old start bodies at before after left comes = kept_after start gate (length piece) bodies before after at.ends (at.every before left) comes

  whole_frame : (old : Moments) (start : ℕ) (bodies : List (List ℕ)) → EndsAt old.present file start gate bodies → ReadsAnImage old
      → HasStaged start bodies body (overwritten (bytes_now old file) (gate + 1) piece)
  whole_frame old start bodies at reads =
      subst (λ (l : List ℕ). HasStaged start bodies body (overwritten (bytes_now old file) (gate + 1) l)) (sym framed_it)
      (staged start gate bodies body (bytes_now old file) at.ends (at.every (bytes_now old file) (reads file)))

  pub stage_failed : (x y : Option Moments) → IfSome x ReadsAnImage → GoesOn (WriteIsErr file (gate + 1) piece) x y
      → GoesOn (StageThrough file gate) x y
  stage_failed x y reads fails =
      goes_map {Q = StageThrough file gate} (λ (old new : Moments) (both : ReadsAnImage old × WriteIsErr file (gate + 1) piece old new) start bodies at.
      failed_write file (gate + 1) piece (HasRecords start bodies) (HasStaged start bodies body) old both.0
      (torn_frame old start bodies at) (whole_frame old start bodies at both.0) new both.1)
      x y (goes_from ReadsAnImage (WriteIsErr file (gate + 1) piece) x y reads fails)

  pub stage_goes : {T : Type 0} (result : Result T Failed) (x y z : Option Moments) → IfSome x ReadsAnImage → GoesOn (WriteIsOk file (gate + 1) piece) x y → GoesOn (SyncIs result) y z
      → GoesOn (StageThrough file gate) x z
  stage_goes result x y z reads writes syncs =
      goes_then {R = StageThrough file gate} (λ (old mid new : Moments) (both : ReadsAnImage old × WriteIsOk file (gate + 1) piece old mid) (sync_is : SyncIs result mid new) start bodies at.
      write_and_sync file (gate + 1) piece (HasRecords start bodies) (HasStaged start bodies body) old both.0
      (torn_frame old start bodies at) (whole_frame old start bodies at both.0) mid both.1 new result sync_is)
      x y z (goes_from ReadsAnImage (WriteIsOk file (gate + 1) piece) x y reads writes) syncs

  pub stage_stands : {T : Type 0} (result : Result T Failed) (x y z : Option Moments) → IfSome x ReadsAnImage → GoesOn (WriteIsOk file (gate + 1) piece) x y → GoesOn (SyncIs result) y z
      → GoesOn (StageStands file gate body result) x z
  stage_stands result x y z reads writes syncs =
      goes_then {R = StageStands file gate body result} (λ (old mid new : Moments) (both : ReadsAnImage old × WriteIsOk file (gate + 1) piece old mid) (sync_is : SyncIs result mid new) start bodies at.
      on_ok result (λ every. record { ends = at.ends; every = every })
      (synced_well file (gate + 1) piece (HasRecords start bodies) (HasStaged start bodies body) old both.0
      (torn_frame old start bodies at) (whole_frame old start bodies at both.0) mid both.1 new result sync_is))
      x y z (goes_from ReadsAnImage (WriteIsOk file (gate + 1) piece) x y reads writes) syncs

module _ (file : FileNo) (gate : ℕ) (body : List ℕ) (short : length body < 2 ^ 32) where
  -- the gate that is written is there
  pub room_for_gate : (x : Option Moments) → IfSome x ReadsAnImage
      → IfSome x (λ moments. (start : ℕ) × (bodies : List (List ℕ)) × StagedAt moments.present file start gate bodies body)
      → IfSome x (λ moments. gate ≤ length (bytes_now moments file))
  room_for_gate None reads at = tt
  room_for_gate (Some moments) reads at =
      let has = of_staged at.0 at.1 body (bytes_now moments file) (at.2.every (bytes_now moments file) (reads file)) in
      omega (arith, length_past_gate at.0 gate at.1 (bytes_now moments file) at.2.ends has)

  torn_gate : (old : Moments) (start : ℕ) (bodies : List (List ℕ)) → StagedAt old.present file start gate bodies body
      → (before after : List ℕ) → MayLeave old.present file before → ComesOf gate 1 before after → IsBeforeOrAfter start bodies body after
  torn_gate old start bodies at before after left comes = either start gate bodies body before after at.ends short (at.every before left) comes

  whole_gate : (old : Moments) (start : ℕ) (bodies : List (List ℕ)) → StagedAt old.present file start gate bodies body → ReadsAnImage old
      → HasRecords start (bodies ++ body ∷ []) (overwritten (bytes_now old file) gate (1 ∷ []))
  whole_gate old start bodies at reads = gate_opened start gate bodies body (bytes_now old file) at.ends short (at.every (bytes_now old file) (reads file))

  pub open_failed : (x y : Option Moments) → IfSome x ReadsAnImage → GoesOn (WriteIsErr file gate (1 ∷ [])) x y → GoesOn (OpenThrough file gate body) x y
  open_failed x y reads fails =
      goes_map {Q = OpenThrough file gate body} (λ (old new : Moments) (both : ReadsAnImage old × WriteIsErr file gate (1 ∷ []) old new) start bodies at.
      failed_write file gate (1 ∷ []) (IsBeforeOrAfter start bodies body) (HasRecords start (bodies ++ body ∷ [])) old both.0
      (torn_gate old start bodies at) (whole_gate old start bodies at both.0) new both.1)
      x y (goes_from ReadsAnImage (WriteIsErr file gate (1 ∷ [])) x y reads fails)

  pub open_goes : {T : Type 0} (result : Result T Failed) (x y z : Option Moments) → IfSome x ReadsAnImage → GoesOn (WriteIsOk file gate (1 ∷ [])) x y → GoesOn (SyncIs result) y z
      → GoesOn (OpenThrough file gate body) x z
  open_goes result x y z reads writes syncs =
      goes_then {R = OpenThrough file gate body} (λ (old mid new : Moments) (both : ReadsAnImage old × WriteIsOk file gate (1 ∷ []) old mid) (sync_is : SyncIs result mid new) start bodies at.
      write_and_sync file gate (1 ∷ []) (IsBeforeOrAfter start bodies body) (HasRecords start (bodies ++ body ∷ [])) old both.0
      (torn_gate old start bodies at) (whole_gate old start bodies at both.0) mid both.1 new result sync_is)
      x y z (goes_from ReadsAnImage (WriteIsOk file gate (1 ∷ [])) x y reads writes) syncs

  pub open_stands : {T : Type 0} (result : Result T Failed) (x y z : Option Moments) → IfSome x ReadsAnImage → GoesOn (WriteIsOk file gate (1 ∷ [])) x y → GoesOn (SyncIs result) y z
      → GoesOn (OpenStands file gate body result) x z
  open_stands result x y z reads writes syncs =
      goes_then {R = OpenStands file gate body result} (λ (old mid new : Moments) (both : ReadsAnImage old × WriteIsOk file gate (1 ∷ []) old mid) (sync_is : SyncIs result mid new) start bodies at.
      on_ok result (λ every. record { ends = next_gate start gate bodies body at.ends; every = every })
      (synced_well file gate (1 ∷ []) (IsBeforeOrAfter start bodies body) (HasRecords start (bodies ++ body ∷ [])) old both.0
      (torn_gate old start bodies at) (whole_gate old start bodies at both.0) mid both.1 new result sync_is))
      x y z (goes_from ReadsAnImage (WriteIsOk file gate (1 ∷ [])) x y reads writes) syncs

module _ (file : FileNo) (gate : ℕ) (body : List ℕ) where
  before_is_either : (start : ℕ) (bodies : List (List ℕ)) (a b : Moments) → GoesThrough file (HasRecords start bodies) a b → GoesThrough file (IsBeforeOrAfter start bodies body) a b
  before_is_either start bodies a b through = through_map file (HasRecords start bodies) (IsBeforeOrAfter start bodies body) (λ bytes has. inl has) a b through

  -- staging alone
  pub only_staged : (x y : Option Moments) → GoesOn (StageThrough file gate) x y → GoesOn (RecordThrough file gate body) x y
  only_staged x y through =
      goes_map {Q = RecordThrough file gate body} (λ (a b : Moments) (t : StageThrough file gate a b) start bodies at. before_is_either start bodies a b (t start bodies at)) x y through

  -- what staging leaves to the opening of the gate
  pub is_staged : (x y : Option Moments)
      → GoesOn (λ old new. (start : ℕ) (bodies : List (List ℕ)) → EndsAt old.present file start gate bodies → StagedAt new.present file start gate bodies body) x y
      → IfSome x (λ moments. (start : ℕ) × (bodies : List (List ℕ)) × EndsAt moments.present file start gate bodies)
      → IfSome y (λ moments. (start : ℕ) × (bodies : List (List ℕ)) × StagedAt moments.present file start gate bodies body)
  is_staged None None step at = tt
  is_staged None (Some b) step at = absurd step
  is_staged (Some a) None step at = absurd step
  is_staged (Some a) (Some b) step at = (at.0, at.1, step at.0 at.1 at.2)

  abbrev pub Staging : Moments → Moments → Type 0
  Staging old new = (start : ℕ) (bodies : List (List ℕ)) → EndsAt old.present file start gate bodies → StagedAt new.present file start gate bodies body

  pub record_goes : (x y z : Option Moments) → GoesOn (StageThrough file gate) x y → GoesOn Staging x y → GoesOn (OpenThrough file gate body) y z → GoesOn (RecordThrough file gate body) x z
  record_goes x y z through stages opens =
      goes_then {R = RecordThrough file gate body} (λ (a b c : Moments) (both : StageThrough file gate a b × Staging a b) (open_it : OpenThrough file gate body b c) start bodies at.
      through_then file (IsBeforeOrAfter start bodies body) a b c (before_is_either start bodies a b (both.0 start bodies at)) (open_it start bodies (both.1 start bodies at)))
      x y z (goes_both (StageThrough file gate) Staging x y through stages) opens

  pub record_stands : {T : Type 0} (result : Result T Failed) (x y z : Option Moments) → GoesOn Staging x y → GoesOn (OpenStands file gate body result) y z → GoesOn (RecordStands file gate body result) x z
  record_stands result x y z stages opens =
      goes_then {R = RecordStands file gate body result} (λ (a b c : Moments) (stage_it : Staging a b) (open_it : OpenStands file gate body result b c) start bodies at.
      open_it start bodies (stage_it start bodies at)) x y z stages opens

-- the journal is on the disk with one record more
pub journal_stands : (x y : Option Moments) (journal : JournalState) (file : FileNo) (start gate count next more : ℕ) (failed : Bool) (body : List ℕ)
    → journal ≡ record { file = file; start = start; gate = gate; count = count; failed = failed } → next ≡ gate + 5 + length body → more ≡ count + 1
    → GoesOn (λ old new. (from : ℕ) (bodies : List (List ℕ)) → EndsAt old.present file from gate bodies
    → EndsAt new.present file from (gate + 5 + length body) (bodies ++ body ∷ [])) x y
    → GoesOn (λ old new. (bodies : List (List ℕ)) → StandsOn old.present journal bodies
    → StandsOn new.present (record { file = file; start = start; gate = next; count = more; failed = failed }) (bodies ++ body ∷ [])) x y
journal_stands x y journal file start gate count next more failed body is same_next same_more goes =
    goes_map {Q = λ old new. (bodies : List (List ℕ)) → StandsOn old.present journal bodies
    → StandsOn new.present (record { file = file; start = start; gate = next; count = more; failed = failed }) (bodies ++ body ∷ [])}
    (λ (old new : Moments)
    (ends : (from : ℕ) (bodies : List (List ℕ)) → EndsAt old.present file from gate bodies
    → EndsAt new.present file from (gate + 5 + length body) (bodies ++ body ∷ [])) bodies was_on.
    let was = subst (λ (j : JournalState). StandsOn old.present j bodies) is was_on in
    let now = ends start bodies (record { ends = was.gate; every = was.every }) in
    record {
      gate = same_next ∙ now.ends;
      count = omega (arith, same_more, was.count, length-append bodies (body ∷ []));
      every = now.every;
    }) x y goes
