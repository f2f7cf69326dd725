-- What a `new` leaves of the writer.
use Rattle.std.specs.Prelude.{◌≡◌, ◌⊎◌, ◌&&◌, ℕ, true, false, List, [], ◌∷◌, Option, Some, is_some, Result, Ok, Err}
use Rattle.std.specs.List.{AllByRecursion, Contains}
use Rattle.nm_model_answer.specs.NewText.{listed_in, report_of}
use Rattle.nm_model_answer.specs.declared.report.NewReport.{NewReport}
use Rattle.nm_base.specs.Limits.{max_mail_bytes}
use Rattle.nm_base.specs.Order.{has_text}
use Rattle.nm_base.specs.declared.facts.Facts.{Facts}
use Rattle.nm_commit.specs.Files.{has_path}
use Rattle.nm_commit.specs.declared.change.Commit.{Commit}
use Rattle.nm_model_index.specs.Fits.{FitInTurn}
use Rattle.nm_model_index.specs.declared.base.Base.{Base}
use Rattle.nm_maildir.specs.Tree.{Tree, got_of}
use Rattle.nm_maildir.specs.declared.given.Given.{Given}
use Rattle.nm_model_plan.specs.Plan.{commits_so_far}
use Rattle.nm_scan.specs.Listing.{PassesListing}
use Rattle.nm_scan.specs.FileReads.{found_in}
use Rattle.nm_scan.specs.Scan.{FindsBatches}
use Rattle.nm_writer.specs.Writer.{WriterState}
use Rattle.nm_writer.specs.AfterCommit.{FailsWithin, HasCommitted, PassesWithin, StopsWithin}
use Rattle.nm_writer.specs.declared.write_error.WriteError.{WriteError}
use Rattle.nm_writer.specs.declared.write_error.WriteError.TheVariants as errors

-- The commits that are due while these paths are left to read; they fit the index one after the other.
pub record AreNewCommits (tree : Option Tree) (shown : Base) (given : List Given) (left : List (List ℕ)) (due : List Commit) : Type 0 where
  pub batches : List (List (List ℕ × Facts))
  pub found : FindsBatches tree shown.files given batches left
  pub due_are : due ≡ commits_so_far shown (listed_in given) batches left
  pub fit : FitInTurn shown due

-- What a `new` leaves. All paths are read, all commits due are made, and the report is that of the index before and after; or by its
-- error: the folder failed or passed a limit as it was listed, or it failed in a batch, and the commits of the batches before it stay;
-- the commit at which the disk failed, or that would pass a limit, is of the last batch read or of what is missing; memory may run out
-- anywhere.
abbrev pub IsAfterNew : Option Tree → List Given → WriterState → ℕ → Result NewReport WriteError → WriterState → Type 0
IsAfterNew tree given old faults (Ok report) new =
    ((due : List Commit) × AreNewCommits tree old.shown given [] due × HasCommitted old due new) × (report ≡ report_of old.shown.files new.shown.files given)
IsAfterNew tree given old faults (Err errors.MailFault) new =
    ((given ≡ []) × (new ≡ old))
    ⊎ ((path : List ℕ) × (left : List (List ℕ)) × (due : List Commit) × AreNewCommits tree old.shown given (path ∷ left) due × HasCommitted old due new)
IsAfterNew tree given old faults (Err errors.DiskFault) new =
    (left : List (List ℕ)) × (due : List Commit) × AreNewCommits tree old.shown given left due × FailsWithin old due faults new
IsAfterNew tree given old faults (Err (errors.Closed fault)) new = (old.closed ≡ Some fault) × (given ≡ []) × (new ≡ old)
IsAfterNew tree given old faults (Err (errors.Limit limit)) new =
    ((given ≡ []) × PassesListing tree limit × (new ≡ old))
    ⊎ ((left : List (List ℕ)) × (due : List Commit) × AreNewCommits tree old.shown given left due × PassesWithin old due limit new)
IsAfterNew tree given old faults (Err errors.NoMemory) new =
    (new ≡ old) ⊎ ((left : List (List ℕ)) × (due : List Commit) × AreNewCommits tree old.shown given left due × StopsWithin old due new)

-- ---- what a `new` that went well leaves

-- the facts of the mail that the tree has at the path, where it has one there that is no longer than a mail may be
abbrev pub facts_at : Tree → List ℕ → Option Facts
facts_at tree path = found_in (got_of tree path max_mail_bytes)

-- where one of these files is listed, the tree still has mail there
abbrev pub StillHolds : Tree → List (List ℕ × Facts) → List (List ℕ) → Type 0
StillHolds tree files listed = (path : List ℕ) → has_path files path ≡ true → has_text listed path ≡ true → is_some (facts_at tree path) ≡ true

-- none of the files was there before, and it has the facts of its bytes
abbrev pub HasCome : Tree → List (List ℕ × Facts) → List ℕ × Facts → Type 0
HasCome tree before file = (has_path before file.0 ≡ false) × (facts_at tree file.0 ≡ Some file.1)

-- The paths are the listed ones at which the tree has mail, given that it still has where a file was before. Each file is one of those before,
-- or has come and has the facts of its bytes.
pub record HoldsTheMail (tree : Tree) (listed : List (List ℕ)) (before after : List (List ℕ × Facts)) : Type 0 where
  pub paths : StillHolds tree before listed → (path : List ℕ) → has_path after path ≡ (has_text listed path && is_some (facts_at tree path))
  pub files : AllByRecursion (λ file. Contains before file ⊎ HasCome tree before file) after
