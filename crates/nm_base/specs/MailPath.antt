-- Paths below the mail folder: 1 to 4,096 bytes, components with one `/` between them.
-- Cited by `mail_path`, `nm_name`, `nm_record` and others.
use Rattle.std.specs.Prelude.{ℕ, Bool, true, false, ◌&&◌, ◌==◌, not, List, [], ◌∷◌}
use Rattle.std.specs.List.{list_all, slice_split}
use Rattle.nm_base.specs.Limits.{max_path_bytes}
use Rattle.nm_base.specs.Bounds.{fits_length}

-- what is between the `/`
abbrev pub components_of : List ℕ → List (List ℕ)
components_of text = slice_split (λ b. b == 47) text

-- not empty, not `.`, not `..`
abbrev pub is_component : List ℕ → Bool
is_component [] = false
is_component (a ∷ []) = not (a == 46)
is_component (a ∷ b ∷ []) = not (a == 46 && b == 46)
is_component (a ∷ b ∷ c ∷ more) = true

abbrev pub has_no_zero : List ℕ → Bool
has_no_zero text = list_all (λ b. not (b == 0)) text

abbrev pub is_path_text : List ℕ → Bool
is_path_text text = has_no_zero text && list_all is_component (components_of text)

-- a path, of the right length too
abbrev pub is_mail_path : List ℕ → Bool
is_mail_path text = fits_length max_path_bytes text && is_path_text text
