-- What a `new` asks a mail folder and finds there, for an index with these files.
-- Cited by `nm_writer` and `nm_history`.
use Rattle.std.specs.Prelude.{◌≡◌, ◌⊎◌, ℕ, ◌+◌, ◌≤◌, List, [], ◌∷◌, ◌++◌, length, Option}
use Rattle.nm_base.specs.declared.facts.Facts.{Facts}
use Rattle.nm_maildir.specs.Observed.{ObservedMail}
use Rattle.nm_maildir.specs.Tree.{Tree}
use Rattle.nm_maildir.specs.declared.given.Given.{Given}
use Rattle.nm_maildir.specs.declared.given.Given.TheVariants.{Listed}
use Rattle.nm_model_plan.specs.Plan.{to_read}
use Rattle.nm_scan.specs.Batches.{IsUnfinished, ReadsBatches}
use Rattle.nm_scan.specs.Listing.{IsListing}
use Rattle.nm_scan.specs.FileReads.{ReadsFirst, full_answers}

-- What a `new` has found so far: the listing is noted; of the listed paths that the index lacks the first were read in batches,
-- these mails were found in each, and these paths are left, of which an unfinished batch has read the first perhaps.
pub record FindsBatches (tree : Option Tree) (files : List (List ℕ × Facts)) (given : List Given) (batches : List (List (List ℕ × Facts))) (left : List (List ℕ)) : Type 0 where
  pub listed : List (List ℕ)
  pub listing : IsListing tree listed
  pub answers : List Given
  pub further : List Given
  pub given_is : given ≡ Listed listed ∷ (answers ++ further)
  pub reading : ReadsBatches tree answers (to_read files listed) batches left
  pub unfinished : IsUnfinished tree further left

-- The mail was listed, and of the listed paths that the index lacks the first were read, each once, in their order: those of whole batches,
-- whose mails were found, and of the paths that these leave no more than one batch has.
pub record ListsAndReads (old new : ObservedMail) (files : List (List ℕ × Facts)) (given : List Given) : Type 0 where
  pub batches : List (List (List ℕ × Facts))
  pub left : List (List ℕ)
  pub found : FindsBatches old.tree files given batches left
  pub answers : List Given
  pub given_is : given ≡ Listed found.listed ∷ answers
  pub reading : ReadsFirst old new answers (to_read files found.listed)
  pub few : reading.asked + length left ≤ length (to_read files found.listed) + full_answers

-- What a `new` asks and notes, however it ends: a listing that is not noted, and no read; or a listing, and then reads.
abbrev pub AsksNew : ObservedMail → ObservedMail → List (List ℕ × Facts) → List Given → Type 0
AsksNew old new files given = ((given ≡ []) × (new.reads ≡ old.reads)) ⊎ ListsAndReads old new files given
