-- The files of a message. For the proof of `Message::of`.
use Rattle.std.proofs.Common.{◌≡◌, refl, ℕ, false, List, [], ◌∷◌, filter, Option, None, Some, MatchOption}
use Rattle.std.proofs.lemmas.Bool.{or_parts}
use Rattle.nm_base.specs.Order.{same_text}
use Rattle.nm_base.specs.declared.facts.Facts.{Facts}
use Rattle.nm_commit.specs.Files.{has_id}

-- none where no file is of the message
pub no_files : (files : List (List ℕ × Facts)) (id : List ℕ) → has_id files id ≡ false → filter (λ file. same_text id file.1.id) files ≡ []
no_files [] id none = refl
no_files (file ∷ files) id none = let parts = or_parts (same_text id file.1.id) (has_id files id) none in rw parts.0 (no_files files id parts.1)

-- what a snapshot tells of the files of a message
pub told_files : (files : List (List ℕ × Facts)) (id : List ℕ) (told : Option (List (List ℕ × Facts)))
    → MatchOption told (has_id files id ≡ false) (λ found. found ≡ filter (λ file. same_text id file.1.id) files)
    → MatchOption told (filter (λ file. same_text id file.1.id) files ≡ []) (λ found. found ≡ filter (λ file. same_text id file.1.id) files)
told_files files id None none = no_files files id none
told_files files id (Some found) is = is
