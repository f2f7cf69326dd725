-- Names by their stems, and the folders that files are in. Cited by `laws`.
use Rattle.std.specs.Prelude.{◌≡◌, ◌⊎◌, ℕ, false, List, [], ◌∷◌, ◌++◌, codes}
use Rattle.nm_name.specs.Cuts.{holds}
use Rattle.nm_name.specs.FlaggedPath.{AreLetters}

-- a name of this stem with these letters: the stem, `:2,` and the letters, or the stem alone, which has no `:`
abbrev pub IsNamed : List ℕ → List ℕ → List ℕ → Type 0
IsNamed name stem letters = ((name ≡ stem ++ codes ":2," ++ letters) × AreLetters letters) ⊎ ((name ≡ stem) × (holds 58 stem ≡ false) × (letters ≡ []))

-- nothing, or a folder with its `/`
abbrev pub IsParent : List ℕ → Type 0
IsParent parent = (parent ≡ []) ⊎ ((folder : List ℕ) × (parent ≡ folder ++ 47 ∷ []))
