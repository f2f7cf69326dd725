-- What the batches of a `new` leave: one batch, and all of them.
use Rattle.std.specs.Prelude.{◌≡◌, ◌⊎◌, ℕ, false, List, [], ◌∷◌, Result, Ok, Err}
use Rattle.std.specs.List.{AllByRecursion, IsDistinct}
use Rattle.nm_base.specs.Order.{same_text}
use Rattle.nm_base.specs.declared.facts.Facts.{Facts}
use Rattle.nm_commit.specs.Files.{has_path}
use Rattle.nm_model_index.specs.Fits.{FitInTurn}
use Rattle.nm_model_index.specs.declared.base.Base.{Base}
use Rattle.nm_maildir.specs.Observed.{ObservedMail}
use Rattle.nm_maildir.specs.declared.given.Given.{Given}
use Rattle.nm_model_plan.specs.Plan.{batch_commit, batch_commits}
use Rattle.nm_scan.specs.Batches.{HasReadBatch, HasReadSome, StopsInBatch}
use Rattle.nm_writer.specs.Writer.{WriterState}
use Rattle.nm_writer.specs.AfterCommit.{FailsWithin, HasCommitted, PassesWithin, StopsWithin}
use Rattle.nm_writer.specs.declared.write_error.WriteError.{WriteError}
use Rattle.nm_writer.specs.declared.write_error.WriteError.TheVariants as errors

-- paths that the index lacks, each once
pub record AreUnknown (files : List (List ℕ × Facts)) (paths : List (List ℕ)) : Type 0 where
  pub once : IsDistinct same_text paths
  pub fresh : AllByRecursion (λ path. has_path files path ≡ false) paths

-- what was read before and after a call: what is observed of the folder, what is noted
pub record Reading : Type 0 where
  pub mail : ObservedMail
  pub given : List Given

-- whatever mails a batch of these paths finds, they fit the index
abbrev pub BatchFits : Base → Reading → List (List ℕ) → Type 0
BatchFits shown old paths =
    (new : Reading) (rest : List (List ℕ)) (added : List (List ℕ × Facts)) → HasReadBatch old.mail new.mail old.given new.given paths rest added
    → FitInTurn shown (batch_commit shown added)

-- What one batch leaves: it is read, and its commit is made where it found mail; or by the error the reading stops in it, or its commit is refused.
abbrev pub IsAfterBatch : {T : Type 0} → Reading → Reading → List (List ℕ) → List (List ℕ) → WriterState → ℕ → Result T WriteError → WriterState → Type 0
IsAfterBatch before now paths rest old faults (Ok done) new =
    (added : List (List ℕ × Facts)) × HasReadBatch before.mail now.mail before.given now.given paths rest added × HasCommitted old (batch_commit old.shown added) new
IsAfterBatch before now paths rest old faults (Err errors.MailFault) new = StopsInBatch before.mail now.mail before.given now.given paths × (new ≡ old)
IsAfterBatch before now paths rest old faults (Err errors.DiskFault) new =
    (added : List (List ℕ × Facts)) × HasReadBatch before.mail now.mail before.given now.given paths rest added × FailsWithin old (batch_commit old.shown added) faults new
IsAfterBatch before now paths rest old faults (Err (errors.Closed fault)) new = ⊥
IsAfterBatch before now paths rest old faults (Err (errors.Limit limit)) new =
    (added : List (List ℕ × Facts)) × HasReadBatch before.mail now.mail before.given now.given paths rest added × PassesWithin old (batch_commit old.shown added) limit new
IsAfterBatch before now paths rest old faults (Err errors.NoMemory) new =
    (StopsInBatch before.mail now.mail before.given now.given paths × (new ≡ old))
    ⊎ ((added : List (List ℕ × Facts)) × HasReadBatch before.mail now.mail before.given now.given paths rest added × StopsWithin old (batch_commit old.shown added) new)

-- What all batches of these paths leave: a commit for each that found mail; or by the error those of the first.
abbrev pub IsAfterBatches : {T : Type 0} → Reading → Reading → List (List ℕ) → WriterState → ℕ → Result T WriteError → WriterState → Type 0
IsAfterBatches before now paths old faults (Ok done) new =
    (batches : List (List (List ℕ × Facts))) × HasReadSome before.mail now.mail before.given now.given paths batches [] × HasCommitted old (batch_commits old.shown batches) new
IsAfterBatches before now paths old faults (Err errors.MailFault) new =
    (batches : List (List (List ℕ × Facts))) × (path : List ℕ) × (left : List (List ℕ)) × HasReadSome before.mail now.mail before.given now.given paths batches (path ∷ left)
    × HasCommitted old (batch_commits old.shown batches) new
IsAfterBatches before now paths old faults (Err errors.DiskFault) new =
    (batches : List (List (List ℕ × Facts))) × (left : List (List ℕ)) × HasReadSome before.mail now.mail before.given now.given paths batches left × FailsWithin old (batch_commits old.shown batches) faults new
IsAfterBatches before now paths old faults (Err (errors.Closed fault)) new = ⊥
IsAfterBatches before now paths old faults (Err (errors.Limit limit)) new =
    (batches : List (List (List ℕ × Facts))) × (left : List (List ℕ)) × HasReadSome before.mail now.mail before.given now.given paths batches left × PassesWithin old (batch_commits old.shown batches) limit new
IsAfterBatches before now paths old faults (Err errors.NoMemory) new =
    (batches : List (List (List ℕ × Facts))) × (left : List (List ℕ)) × HasReadSome before.mail now.mail before.given now.given paths batches left × StopsWithin old (batch_commits old.shown batches) new
