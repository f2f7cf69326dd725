-- What a `new` leaves, from what was listed, what the batches left, and what the commit of what is missing left.
-- For the proof of `Writer::scan_and_take_in`.
use Rattle.std.proofs.Common.{◌≡◌, inr, ℕ, List, [], ◌∷◌, ◌++◌, Option, IfOk, Result, Ok, Err, length, map, refl, sym, ap, ◌∙◌, subst}
use Rattle.nm_model_answer.specs.NewText.{gone, listed_in, report_of}
use Rattle.nm_model_answer.specs.declared.report.NewReport.{NewReport}
use Rattle.nm_base.specs.declared.facts.Facts.{Facts}
use Rattle.nm_commit.specs.declared.change.Commit.{Commit}
use Rattle.nm_model_index.specs.Fits.{FitInTurn}
use Rattle.nm_model_index.specs.declared.base.Base.{Base}
use Rattle.nm_maildir.specs.Observed.{ObservedMail}
use Rattle.nm_maildir.specs.Tree.{Tree}
use Rattle.nm_maildir.specs.declared.given.Given.{Given}
use Rattle.nm_maildir.specs.declared.given.Given.TheVariants.{Listed}
use Rattle.nm_model_index.specs.Index.{folded}
use Rattle.nm_model_plan.specs.NameTags.{commit_of}
use Rattle.nm_model_plan.specs.Plan.{AreAdded, all_added, batch_commits, commits_so_far, drop_of, message_ids, new_commits, removed_commit, removed_files}
use Rattle.nm_scan.specs.Batches.{HasReadSome, ReadsBatches}
use Rattle.nm_scan.specs.FileReads.{Reads}
use Rattle.nm_scan.specs.Scan.{AsksNew, FindsBatches}
use Rattle.nm_writer.proofs.ArrivalLemmas.{are-added, are-unknown}
use Rattle.nm_writer.proofs.DoneLemmas.{fit-first, fit-second, refused-more, then-made}
use Rattle.nm_writer.proofs.NotedLemmas.{since-then}
use Rattle.nm_writer.specs.Batch.{AreUnknown, IsAfterBatches, Reading}
use Rattle.nm_sync.specs.Listed.{HasListed}
use Rattle.nm_sync.specs.Noted.{since}
use Rattle.nm_sync.specs.Report.{report_with}
use Rattle.nm_writer.specs.New.{AreNewCommits, IsAfterNew}
use Rattle.nm_writer.specs.Writer.{WriterState}
use Rattle.nm_writer.specs.AfterCommit.{HasCommitted, IsAfterCommits}
use Rattle.nm_sync.specs.declared.comparison.Compared.{Compared}
use Rattle.nm_writer.specs.declared.write_error.WriteError.{WriteError}
use Rattle.nm_writer.specs.declared.write_error.WriteError.TheVariants as errors

abbrev Batches : Type 0
Batches = List (List (List ℕ × Facts))

-- the laws on batches that were read
pub record Laws : Type 0 where
  pub fits : (index : Base) (listed : List (List ℕ)) (batches : Batches) → AreAdded index.files (all_added batches) → FitInTurn index (new_commits index listed batches)
  pub in_one : (tree : Option Tree) (given : List Given) (paths : List (List ℕ)) (batches : Batches) (left : List (List ℕ)) → ReadsBatches tree given paths batches left
      → (read : List (List ℕ)) × (paths ≡ read ++ left) × Reads tree given read (all_added batches)

-- what is unknown was listed
pub unknown-listed : (tree : Option Tree) (files : List (List ℕ × Facts)) (before given : List Given) (compared : Compared) → HasListed tree files before given compared → AreUnknown files compared.unknown
unknown-listed tree files before given compared h = subst (AreUnknown files) (sym h.unknown_are) (are-unknown files h.listed h.listing.rising)

-- the law on what a `new` asks
abbrev pub AsksSome : Type 0
AsksSome =
    (old new : ObservedMail) (files : List (List ℕ × Facts)) (before listed given : List Given) (compared : Compared) (batches : Batches) (left : List (List ℕ)) → HasListed old.tree files before listed compared
    → HasReadSome old new listed given compared.unknown batches left → AsksNew old new files (since before given)

-- what was asked where the batches were not all read, or not all their commits made
pub asks-refused : (law : AsksSome) (front : List Given) (before now : Reading) (compared : Compared) (old : WriterState) → HasListed before.mail.tree old.shown.files front before.given compared → (new : WriterState) (faults : ℕ) (error : WriteError)
    → IsAfterBatches {T = Unit {0}} before now compared.unknown old faults (Err error) new → AsksNew before.mail now.mail old.shown.files (since front now.given)
asks-refused law front before now compared old h new faults errors.MailFault (batches, path, left, some, made) = law before.mail now.mail old.shown.files front before.given now.given compared batches (path ∷ left) h some
asks-refused law front before now compared old h new faults errors.DiskFault (batches, left, some, fails) = law before.mail now.mail old.shown.files front before.given now.given compared batches left h some
asks-refused law front before now compared old h new faults (errors.Closed fault) after = absurd after
asks-refused law front before now compared old h new faults (errors.Limit limit) (batches, left, some, passes) = law before.mail now.mail old.shown.files front before.given now.given compared batches left h some
asks-refused law front before now compared old h new faults errors.NoMemory (batches, left, some, stops) = law before.mail now.mail old.shown.files front before.given now.given compared batches left h some

module _ (laws : Laws) (front : List Given) (before now : Reading) (compared : Compared) (old : WriterState) (h : HasListed before.mail.tree old.shown.files front before.given compared) where
  -- what was noted since the call began
  abbrev noted : List Given
  noted = since front now.given

  noted-are : (batches : Batches) (left : List (List ℕ)) (some : HasReadSome before.mail now.mail before.given now.given compared.unknown batches left) → noted ≡ Listed h.listed ∷ (some.answers ++ some.further)
  noted-are batches left some = since-then front before.given now.given (Listed h.listed ∷ []) (some.answers ++ some.further) h.given_is some.given_is

  -- what was found so far
  found : (batches : Batches) (left : List (List ℕ)) → HasReadSome before.mail now.mail before.given now.given compared.unknown batches left → FindsBatches before.mail.tree old.shown.files noted batches left
  found batches left some = record {
    listed = h.listed;
    listing = h.listing;
    answers = some.answers;
    further = some.further;
    given_is = noted-are batches left some;
    reading = subst (λ (l : List (List ℕ)). ReadsBatches before.mail.tree some.answers l batches left) h.unknown_are some.reading;
    unfinished = some.unfinished;
  }

  all-fit : (batches : Batches) (left : List (List ℕ)) → HasReadSome before.mail now.mail before.given now.given compared.unknown batches left → (listed : List (List ℕ)) → FitInTurn old.shown (new_commits old.shown listed batches)
  all-fit batches left some listed =
      let all = laws.in_one before.mail.tree some.answers compared.unknown batches left some.reading in
      laws.fits old.shown listed batches
      (are-added old.shown.files compared.unknown all.0 left (all_added batches) all.2.notes.reads (unknown-listed before.mail.tree old.shown.files front before.given compared h) all.1 all.2.notes.each all.2.mails all.2.dated)

  so_far-fit : (batches : Batches) (left listed : List (List ℕ)) → FitInTurn old.shown (new_commits old.shown listed batches) → FitInTurn old.shown (commits_so_far old.shown listed batches left)
  so_far-fit batches [] listed fit = fit
  so_far-fit batches (path ∷ left) listed fit = fit-first old.shown (batch_commits old.shown batches) (removed_commit (folded old.shown (batch_commits old.shown batches)) old.shown.files listed) fit

  -- the commits that are due of it
  are-new : (batches : Batches) (left : List (List ℕ)) → HasReadSome before.mail now.mail before.given now.given compared.unknown batches left
      → AreNewCommits before.mail.tree old.shown noted left (commits_so_far old.shown (listed_in noted) batches left)
  are-new batches left some = record {
    batches = batches;
    found = found batches left some;
    due_are = refl;
    fit = so_far-fit batches left (listed_in noted) (all-fit batches left some (listed_in noted));
  }

  so_far-refused : (batches : Batches) (left listed : List (List ℕ)) (new : WriterState) (faults : ℕ) (error : WriteError) → IsAfterCommits {T = Unit {0}} old (batch_commits old.shown batches) faults (Err error) new
      → IsAfterCommits {T = Unit {0}} old (commits_so_far old.shown listed batches left) faults (Err error) new
  so_far-refused batches [] listed new faults error after = refused-more (Unit {0}) (Unit {0}) old new (batch_commits old.shown batches) (removed_commit (folded old.shown (batch_commits old.shown batches)) old.shown.files listed) faults error after
  so_far-refused batches (path ∷ left) listed new faults error after = after

  -- the batches were not all read, or not all their commits made
  pub after-refused : (new : WriterState) (faults : ℕ) (error : WriteError) → IsAfterBatches {T = Unit {0}} before now compared.unknown old faults (Err error) new → IsAfterNew before.mail.tree noted old faults (Err error) new
  after-refused new faults errors.MailFault (batches, path, left, some, made) = inr (path, left, batch_commits old.shown batches, are-new batches (path ∷ left) some, made)
  after-refused new faults errors.DiskFault (batches, left, some, fails) =
      (left, commits_so_far old.shown (listed_in noted) batches left, are-new batches left some, so_far-refused batches left (listed_in noted) new faults errors.DiskFault fails)
  after-refused new faults (errors.Closed fault) after = absurd after
  after-refused new faults (errors.Limit limit) (batches, left, some, passes) =
      inr (left, commits_so_far old.shown (listed_in noted) batches left, are-new batches left some, so_far-refused batches left (listed_in noted) new faults (errors.Limit limit) passes)
  after-refused new faults errors.NoMemory (batches, left, some, stops) =
      inr (left, commits_so_far old.shown (listed_in noted) batches left, are-new batches left some, so_far-refused batches left (listed_in noted) new faults errors.NoMemory stops)

  -- they were
  module _ (mid : WriterState) (batches : Batches) (some : HasReadSome before.mail now.mail before.given now.given compared.unknown batches []) (made : HasCommitted old (batch_commits old.shown batches) mid) where
    gone-are : compared.gone ≡ gone old.shown.files (listed_in noted)
    gone-are = h.gone_are ∙ ap (λ (l : List Given). gone old.shown.files (listed_in l)) (sym (noted-are batches [] some))

    ids-are : compared.removed_ids ≡ message_ids (removed_files old.shown.files (listed_in noted))
    ids-are = h.ids_are ∙ ap (λ (l : List Given). message_ids (removed_files old.shown.files (listed_in l))) (sym (noted-are batches [] some))

    -- the commit of what is missing, on the index that the batches leave
    abbrev last : List Commit
    last = removed_commit (folded old.shown (batch_commits old.shown batches)) old.shown.files (listed_in noted)

    last-is : commit_of mid.shown (map drop_of compared.gone) compared.removed_ids ≡ last
    last-is =
        ap (λ (b : Base). commit_of b (map drop_of compared.gone) compared.removed_ids) made.shown
        ∙ (ap (λ (l : List (List ℕ)). commit_of (folded old.shown (batch_commits old.shown batches)) (map drop_of l) compared.removed_ids) gone-are
        ∙ ap (λ (l : List (List ℕ)). commit_of (folded old.shown (batch_commits old.shown batches)) (map drop_of (gone old.shown.files (listed_in noted))) l) ids-are)

    pub gone-fit : FitInTurn mid.shown (commit_of mid.shown (map drop_of compared.gone) compared.removed_ids)
    gone-fit =
        subst (FitInTurn mid.shown) (sym last-is)
        (subst (λ (b : Base). FitInTurn b last) (sym made.shown) (fit-second old.shown (batch_commits old.shown batches) last (all-fit batches [] some (listed_in noted))))

    all-made : (new : WriterState) (faults : ℕ) (result : Result NewReport WriteError) → IsAfterCommits mid (commit_of mid.shown (map drop_of compared.gone) compared.removed_ids) faults result new
        → IsAfterCommits old (new_commits old.shown (listed_in noted) batches) faults result new
    all-made new faults result after = then-made old mid new (batch_commits old.shown batches) last faults result made (subst (λ (l : List Commit). IsAfterCommits mid l faults result new) last-is after)

    after-all : (new : WriterState) (faults : ℕ) (result : Result NewReport WriteError) → IsAfterCommits old (new_commits old.shown (listed_in noted) batches) faults result new
        → IfOk result (λ report. report ≡ report_of old.shown.files new.shown.files noted) → IsAfterNew before.mail.tree noted old faults result new
    after-all new faults (Ok report) after reported = ((new_commits old.shown (listed_in noted) batches, are-new batches [] some, after), reported)
    after-all new faults (Err errors.MailFault) after reported = absurd after
    after-all new faults (Err errors.DiskFault) after reported = ([], new_commits old.shown (listed_in noted) batches, are-new batches [] some, after)
    after-all new faults (Err (errors.Closed fault)) after reported = absurd after
    after-all new faults (Err (errors.Limit limit)) after reported = inr ([], new_commits old.shown (listed_in noted) batches, are-new batches [] some, after)
    after-all new faults (Err errors.NoMemory) after reported = inr ([], new_commits old.shown (listed_in noted) batches, are-new batches [] some, after)

    report-of : (new : WriterState) (result : Result NewReport WriteError) (removed : ℕ) (was : Base) (lent : List Given) → removed ≡ length compared.gone → was ≡ old.shown → lent ≡ noted
        → IfOk result (λ report. report ≡ report_with removed was.files new.shown.files lent) → IfOk result (λ report. report ≡ report_of old.shown.files new.shown.files noted)
    report-of new (Err error) removed was lent count same given said = tt
    report-of new (Ok report) removed was lent count same given said =
        said
        ∙ (ap (λ n. report_with n was.files new.shown.files lent) (count ∙ ap length gone-are)
        ∙ (ap (λ (b : Base). report_with (length (gone old.shown.files (listed_in noted))) b.files new.shown.files lent) same
        ∙ ap (λ (l : List Given). report_with (length (gone old.shown.files (listed_in noted))) old.shown.files new.shown.files l) given))

    pub after-let_go : (new : WriterState) (faults : ℕ) (result : Result NewReport WriteError) (removed : ℕ) (was : Base) (lent : List Given) → removed ≡ length compared.gone → was ≡ old.shown → lent ≡ noted
        → IsAfterCommits mid (commit_of mid.shown (map drop_of compared.gone) compared.removed_ids) faults result new → IfOk result (λ report. report ≡ report_with removed was.files new.shown.files lent) → IsAfterNew before.mail.tree noted old faults result new
    after-let_go new faults result removed was lent count same given after said = after-all new faults result (all-made new faults result after) (report-of new result removed was lent count same given said)
