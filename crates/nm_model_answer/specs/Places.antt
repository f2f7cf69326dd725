-- Where the files of a message are, and which types their parts have. Cited by `nm_eval`.
use Rattle.std.specs.Prelude.{ℕ, Bool, ◌&&◌, ◌||◌, not, List, [], ◌∷◌, ◌++◌, length, drop, codes, nat_eq, nat_lt, if◌then◌else◌}
use Rattle.std.specs.List.{after_first, before_first, list_any, position_or_len, starts_with}
use Rattle.nm_base.specs.declared.facts.Facts.{Facts}
use Rattle.nm_text.specs.Case.{same_ignoring_case}
use Rattle.nm_text.specs.Cuts.{is_byte}

-- what each path below a folder begins with: the folder and `/`; the empty folder is the root, which paths do not name
abbrev pub front_of : List ℕ → List ℕ
front_of [] = []
front_of (b ∷ folder) = (b ∷ folder) ++ 47 ∷ []

-- the path is somewhere below the folder
abbrev pub is_below : List ℕ → List ℕ → Bool
is_below folder path = starts_with nat_eq path (front_of folder)

-- it is directly in the folder: after it there is a name alone
abbrev pub is_in : List ℕ → List ℕ → Bool
is_in folder path = is_below folder path && not (list_any (is_byte 47) (drop (length (front_of folder)) path))

-- the path is in FOLDER/new or in FOLDER/cur
abbrev pub is_in_maildir : List ℕ → List ℕ → Bool
is_in_maildir folder path = is_in (front_of folder ++ codes "new") path || is_in (front_of folder ++ codes "cur") path

-- the path is directly in the folder, or with `deep` anywhere below it
abbrev pub is_at_path : List ℕ → Bool → List ℕ → Bool
is_at_path folder deep path = if deep then is_below folder path else is_in folder path

-- the parts of a type before and after its first `/`, if it has one
abbrev pub halves_of : List ℕ → List (List ℕ)
halves_of type =
    if nat_lt (position_or_len (is_byte 47) type) (length type)
    then before_first (is_byte 47) type ∷ after_first (is_byte 47) type ∷ []
    else []

-- the text is the type or one half of it, whatever the case of ASCII letters
abbrev pub is_type : List ℕ → List ℕ → Bool
is_type text type = list_any (same_ignoring_case text) (type ∷ halves_of type)

-- one of the files has a part of the type
abbrev pub has_type : List ℕ → List (List ℕ × Facts) → Bool
has_type text files = list_any (λ file. list_any (is_type text) file.1.types) files
