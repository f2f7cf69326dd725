-- What a listing of a mail folder tells beside an index. Cited by `comparison`, `laws` and `nm_writer`.
use Rattle.std.specs.Prelude.{◌≡◌, ℕ, List, [], ◌∷◌, ◌++◌, Option}
use Rattle.nm_model_answer.specs.NewText.{gone}
use Rattle.nm_base.specs.declared.facts.Facts.{Facts}
use Rattle.nm_maildir.specs.Tree.{Tree}
use Rattle.nm_maildir.specs.declared.given.Given.{Given}
use Rattle.nm_maildir.specs.declared.given.Given.TheVariants.{Listed}
use Rattle.nm_model_plan.specs.Plan.{message_ids, removed_files, to_read}
use Rattle.nm_scan.specs.Listing.{IsListing}
use Rattle.nm_sync.specs.declared.comparison.Compared.{Compared}

-- The folder was listed, which is noted after what was noted before: these of the listed paths the index lacks, these of its own are
-- missing, and those are of these messages.
pub record HasListed (tree : Option Tree) (files : List (List ℕ × Facts)) (old_given new_given : List Given) (compared : Compared) : Type 0 where
  pub listed : List (List ℕ)
  pub listing : IsListing tree listed
  pub given_is : new_given ≡ old_given ++ Listed listed ∷ []
  pub unknown_are : compared.unknown ≡ to_read files listed
  pub gone_are : compared.gone ≡ gone files listed
  pub ids_are : compared.removed_ids ≡ message_ids (removed_files files listed)
