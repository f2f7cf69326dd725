-- Batches one after the other: what is read, and the commits that are made of it.
-- For the proof of `Writer::take_in_batches`.
use Rattle.std.proofs.Common.{◌≡◌, inl, inr, ℕ, ◌<◌, List, [], ◌∷◌, ◌++◌, Result, Ok, Err, length, refl, sym, ap, ◌∙◌, subst, append-nil, append_assoc, length-append, arith}
use Rattle.std.proofs.lemmas.List.Sums.{fold-append}
use Rattle.nm_base.specs.declared.facts.Facts.{Facts}
use Rattle.nm_commit.specs.declared.change.Commit.{Commit}
use Rattle.nm_faults.specs.Faults.{HasCauseOf}
use Rattle.nm_model_index.specs.Fits.{FitInTurn}
use Rattle.nm_model_index.specs.Index.{committed, folded}
use Rattle.nm_model_index.specs.declared.base.Base.{Base}
use Rattle.nm_maildir.specs.Observed.{ObservedMail}
use Rattle.nm_maildir.specs.declared.given.Given.{Given}
use Rattle.nm_model_plan.specs.Plan.{AreAdded, all_added, batch_commit, batch_commits, new_commits}
use Rattle.nm_scan.specs.Batches.{HasReadBatch, HasReadBatches, HasReadSome, StopsInBatch}
use Rattle.nm_scan.specs.FileReads.{HasRead}
use Rattle.nm_writer.proofs.ArrivalLemmas.{are-added}
use Rattle.nm_writer.proofs.DoneLemmas.{fit-first, fit-second, made-made, none-made, then-made}
use Rattle.nm_writer.specs.Batch.{AreUnknown, BatchFits, IsAfterBatch, IsAfterBatches, Reading}
use Rattle.nm_writer.specs.Writer.{WriterState}
use Rattle.nm_writer.specs.AfterCommit.{HasCommitted, IsAfterCommits, is_read_fault}
use Rattle.nm_writer.specs.declared.write_error.WriteError.{WriteError}
use Rattle.nm_writer.specs.declared.write_error.WriteError.TheVariants as errors

abbrev Batches : Type 0
Batches = List (List (List ℕ × Facts))

-- what makes commits is no fault of the mail folder
pub unread : {T : Type 0} (old new : WriterState) (due : List Commit) (faults before now : ℕ) (result : Result T WriteError) → IsAfterCommits old due faults result new → now ≡ before → HasCauseOf is_read_fault before now result
unread old new due faults before now (Ok done) after same = same
unread old new due faults before now (Err errors.MailFault) after same = absurd after
unread old new due faults before now (Err errors.DiskFault) after same = same
unread old new due faults before now (Err (errors.Closed fault)) after same = same
unread old new due faults before now (Err (errors.Limit limit)) after same = same
unread old new due faults before now (Err errors.NoMemory) after same = same

-- one batch

pub after-batch : (before now : Reading) (paths rest : List (List ℕ)) (added : List (List ℕ × Facts)) (old new : WriterState) (faults : ℕ) (result : Result (Unit {0}) WriteError)
    → HasReadBatch before.mail now.mail before.given now.given paths rest added → IsAfterCommits old (batch_commit old.shown added) faults result new → IsAfterBatch before now paths rest old faults result new
after-batch before now paths rest added old new faults (Ok done) read after = (added, read, after)
after-batch before now paths rest added old new faults (Err errors.MailFault) read after = absurd after
after-batch before now paths rest added old new faults (Err errors.DiskFault) read after = (added, read, after)
after-batch before now paths rest added old new faults (Err (errors.Closed fault)) read after = absurd after
after-batch before now paths rest added old new faults (Err (errors.Limit limit)) read after = (added, read, after)
after-batch before now paths rest added old new faults (Err errors.NoMemory) read after = inr (added, read, after)

-- the commits of one batch more
commits-more : (index : Base) (batches : Batches) (added : List (List ℕ × Facts))
    → batch_commits index (batches ++ added ∷ []) ≡ batch_commits index batches ++ batch_commit (folded index (batch_commits index batches)) added
commits-more index [] added = append-nil (batch_commit index added)
commits-more index (first ∷ batches) added =
    let here : List Commit = batch_commit index first in
    let next : Base = folded index here in
    ap (λ (l : List Commit). here ++ l) (commits-more next batches added)
    ∙ (sym (append_assoc here (batch_commits next batches) (batch_commit (folded next (batch_commits next batches)) added))
    ∙ ap (λ (b : Base). (here ++ batch_commits next batches) ++ batch_commit b added) (sym (fold-append committed index here (batch_commits next batches))))

-- Batches go on: the first of the paths were read, and a commit was made of each batch with mail.
pub record InBatches (before now : Reading) (paths left : List (List ℕ)) (old new : WriterState) : Type 0 where
  pub batches : Batches
  pub read : HasReadBatches before.mail now.mail before.given now.given paths batches left
  pub made : HasCommitted old (batch_commits old.shown batches) new

-- the laws by which they go on
pub record Laws : Type 0 where
  pub fits : (index : Base) (listed : List (List ℕ)) (batches : Batches) → AreAdded index.files (all_added batches) → FitInTurn index (new_commits index listed batches)
  pub first : (mail : ObservedMail) (given : List Given) (paths : List (List ℕ)) → HasReadBatches mail mail given given paths [] paths
  pub more : (old mid new : ObservedMail) (old_given mid_given new_given : List Given) (paths : List (List ℕ)) (batches : Batches) (left rest : List (List ℕ)) (added : List (List ℕ × Facts))
      → HasReadBatches old mid old_given mid_given paths batches left → HasReadBatch mid new mid_given new_given left rest added → HasReadBatches old new old_given new_given paths (batches ++ added ∷ []) rest
  pub finished : (old new : ObservedMail) (old_given new_given : List Given) (paths : List (List ℕ)) (batches : Batches) (left : List (List ℕ)) → HasReadBatches old new old_given new_given paths batches left
      → HasReadSome old new old_given new_given paths batches left
  pub unfinished : (old mid new : ObservedMail) (old_given mid_given new_given : List Given) (paths : List (List ℕ)) (batches : Batches) (left : List (List ℕ)) → HasReadBatches old mid old_given mid_given paths batches left
      → StopsInBatch mid new mid_given new_given left → HasReadSome old new old_given new_given paths batches left

module _ (laws : Laws) where
  pub in_batches : (before : Reading) (paths left : List (List ℕ)) (old : WriterState) → left ≡ paths → InBatches before before paths left old old
  in_batches before paths left old same =
      subst (λ (l : List (List ℕ)). InBatches before before paths l old old) (sym same) (record { batches = []; read = laws.first before.mail before.given paths; made = none-made old })

  module _ (before mid : Reading) (paths left : List (List ℕ)) (old w : WriterState) (h : InBatches before mid paths left old w) where
    more-are : (added : List (List ℕ × Facts)) → batch_commits old.shown (h.batches ++ added ∷ []) ≡ batch_commits old.shown h.batches ++ batch_commit w.shown added
    more-are added = commits-more old.shown h.batches added ∙ ap (λ (b : Base). batch_commits old.shown h.batches ++ batch_commit b added) (sym h.made.shown)

    -- the commits of one batch more fit
    pub next_fits : AreUnknown old.shown.files paths → BatchFits w.shown mid left
    next_fits unknown new rest added k =
        let all = laws.more before.mail mid.mail new.mail before.given mid.given new.given paths h.batches left rest added h.read k in
        let are : AreAdded old.shown.files (all_added (h.batches ++ added ∷ [])) =
        are-added old.shown.files paths all.read rest (all_added (h.batches ++ added ∷ [])) all.all.reading.notes.reads unknown all.paths_are all.all.reading.notes.each all.all.reading.mails all.all.reading.dated in
        let fit : FitInTurn old.shown (batch_commits old.shown h.batches ++ batch_commit w.shown added) =
        subst (FitInTurn old.shown) (more-are added) (fit-first old.shown (batch_commits old.shown (h.batches ++ added ∷ [])) _ (laws.fits old.shown [] (h.batches ++ added ∷ []) are)) in
        subst (λ (b : Base). FitInTurn b (batch_commit w.shown added)) (sym h.made.shown) (fit-second old.shown (batch_commits old.shown h.batches) (batch_commit w.shown added) fit)

    -- one batch more
    pub next_in_batches : (now : Reading) (rest : List (List ℕ)) (new : WriterState) (faults : ℕ) (done : Unit {0}) → IsAfterBatch {T = Unit {0}} mid now left rest w faults (Ok done) new → InBatches before now paths rest old new
    next_in_batches now rest new faults done (added, k, made) = record {
      batches = h.batches ++ added ∷ [];
      read = laws.more before.mail mid.mail now.mail before.given mid.given now.given paths h.batches left rest added h.read k;
      made = subst (λ (l : List Commit). HasCommitted old l new) (sym (more-are added)) (made-made old w new (batch_commits old.shown h.batches) (batch_commit w.shown added) h.made made);
    }

    -- no path is left
    pub all_batches : (faults : ℕ) (done : Unit {0}) → left ≡ [] → IsAfterBatches {T = Unit {0}} before mid paths old faults (Ok done) w
    all_batches faults done none = (
      h.batches,
      subst (λ (l : List (List ℕ)). HasReadSome before.mail mid.mail before.given mid.given paths h.batches l) none (laws.finished before.mail mid.mail before.given mid.given paths h.batches left h.read),
      h.made,
    )

    some-finished : (now : Reading) (rest : List (List ℕ)) (added : List (List ℕ × Facts)) → HasReadBatch mid.mail now.mail mid.given now.given left rest added
        → HasReadSome before.mail now.mail before.given now.given paths (h.batches ++ added ∷ []) rest
    some-finished now rest added k =
        laws.finished before.mail now.mail before.given now.given paths (h.batches ++ added ∷ []) rest
        (laws.more before.mail mid.mail now.mail before.given mid.given now.given paths h.batches left rest added h.read k)

    some-unfinished : (now : Reading) → StopsInBatch mid.mail now.mail mid.given now.given left → HasReadSome before.mail now.mail before.given now.given paths h.batches left
    some-unfinished now k = laws.unfinished before.mail mid.mail now.mail before.given mid.given now.given paths h.batches left h.read k

    refused : (new : WriterState) (added : List (List ℕ × Facts)) (faults : ℕ) (error : WriteError) → IsAfterCommits {T = Unit {0}} w (batch_commit w.shown added) faults (Err error) new
        → IsAfterCommits {T = Unit {0}} old (batch_commits old.shown (h.batches ++ added ∷ [])) faults (Err error) new
    refused new added faults error after =
        subst (λ (l : List Commit). IsAfterCommits {T = Unit {0}} old l faults (Err error) new) (sym (more-are added))
        (then-made {T = Unit {0}} old w new (batch_commits old.shown h.batches) (batch_commit w.shown added) faults (Err error) h.made after)

    none-stopped : (new : WriterState) → new ≡ w → HasCommitted old (batch_commits old.shown h.batches) new
    none-stopped new same = subst (λ (x : WriterState). HasCommitted old (batch_commits old.shown h.batches) x) (sym same) h.made

    stopped-in : (now : Reading) (new : WriterState) (faults : ℕ) (l : List (List ℕ)) → left ≡ l → 0 < length l → StopsInBatch mid.mail now.mail mid.given now.given left → new ≡ w
        → IsAfterBatches {T = Unit {0}} before now paths old faults (Err errors.MailFault) new
    stopped-in now new faults [] is some k same = absurd (omega (arith, some))
    stopped-in now new faults (path ∷ l) is some k same =
        (h.batches, path, l, subst (λ (p : List (List ℕ)). HasReadSome before.mail now.mail before.given now.given paths h.batches p) is (some-unfinished now k), none-stopped new same)

    -- a batch is refused, or the reading stops in it
    pub refused_batches : (now : Reading) (rest : List (List ℕ)) (new : WriterState) (faults : ℕ) (error : WriteError) → 0 < length left → IsAfterBatch {T = Unit {0}} mid now left rest w faults (Err error) new
        → IsAfterBatches {T = Unit {0}} before now paths old faults (Err error) new
    refused_batches now rest new faults errors.MailFault some after = stopped-in now new faults left refl some after.0 after.1
    refused_batches now rest new faults errors.DiskFault some (added, k, fails) = (h.batches ++ added ∷ [], rest, some-finished now rest added k, refused new added faults errors.DiskFault fails)
    refused_batches now rest new faults (errors.Closed fault) some after = absurd after
    refused_batches now rest new faults (errors.Limit limit) some (added, k, passes) = (h.batches ++ added ∷ [], rest, some-finished now rest added k, refused new added faults (errors.Limit limit) passes)
    refused_batches now rest new faults errors.NoMemory some (inl (k, same)) =
        (h.batches, left, some-unfinished now k, record { done = batch_commits old.shown h.batches; more = []; due_are = sym (append-nil (batch_commits old.shown h.batches)); made = none-stopped new same })
    refused_batches now rest new faults errors.NoMemory some (inr (added, k, stops)) = (h.batches ++ added ∷ [], rest, some-finished now rest added k, refused new added faults errors.NoMemory stops)

-- fewer paths are left
pub batch_smaller : (before now : Reading) (paths rest : List (List ℕ)) (old new : WriterState) (faults : ℕ) (done : Unit {0}) → IsAfterBatch {T = Unit {0}} before now paths rest old faults (Ok done) new → length rest < length paths
batch_smaller before now paths rest old new faults done (added, k, made) =
    omega (arith, ap length k.paths_are ∙ length-append k.read rest, ap length k.batch.read_are ∙ length-append k.batch.before (k.batch.last ∷ []))

-- what was read, however it ended
pub first-read : {T : Type 0} (before now : Reading) (paths : List (List ℕ)) (old new : WriterState) (faults : ℕ) (result : Result T WriteError) → IsAfterBatches before now paths old faults result new
    → HasRead before.mail now.mail before.given now.given paths
first-read before now paths old new faults (Ok done) (batches, some, made) = some.first
first-read before now paths old new faults (Err errors.MailFault) (batches, path, left, some, made) = some.first
first-read before now paths old new faults (Err errors.DiskFault) (batches, left, some, fails) = some.first
first-read before now paths old new faults (Err (errors.Closed fault)) after = absurd after
first-read before now paths old new faults (Err (errors.Limit limit)) (batches, left, some, passes) = some.first
first-read before now paths old new faults (Err errors.NoMemory) (batches, left, some, stops) = some.first
