-- The live messages as they come, each with its files. For the proof of `all_matches`.
use Rattle.std.proofs.Common.{◌≡◌, refl, ap, subst, ℕ, List, [], ◌∷◌, map, filter}
use Rattle.std.specs.List.{AllByRecursion}
use Rattle.nm_base.specs.Order.{same_text}
use Rattle.nm_base.specs.declared.facts.Facts.{Facts}
use Rattle.nm_state.specs.Messages.{with_files}

abbrev Messages : Type 0
Messages = List (List ℕ × List (List ℕ × Facts))

-- the files that are beside an id are its own
abbrev pub HasItsFiles : List (List ℕ × Facts) → List ℕ × List (List ℕ × Facts) → Type 0
HasItsFiles files message = message.1 ≡ filter (λ file. same_text message.0 file.1.id) files

abbrev pub ids_in : Messages → List (List ℕ)
ids_in messages = map (λ message. message.0) messages

pub ids_told : (files : List (List ℕ × Facts)) (ids : List (List ℕ)) → ids_in (map (with_files files) ids) ≡ ids
ids_told files [] = refl
ids_told files (id ∷ ids) = ap (λ more. id ∷ more) (ids_told files ids)

pub files_told : (files : List (List ℕ × Facts)) (ids : List (List ℕ)) → AllByRecursion (HasItsFiles files) (map (with_files files) ids)
files_told files [] = tt
files_told files (id ∷ ids) = (refl, files_told files ids)

-- so have the first, and those after it
pub first_told : (files : List (List ℕ × Facts)) (left : Messages) (message : List ℕ × List (List ℕ × Facts)) (rest : Messages) → left ≡ message ∷ rest → AllByRecursion (HasItsFiles files) left
    → HasItsFiles files message × AllByRecursion (HasItsFiles files) rest
first_told files left message rest is all = subst (AllByRecursion (HasItsFiles files)) is all
