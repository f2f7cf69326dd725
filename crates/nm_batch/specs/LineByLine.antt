-- Lines are read each by itself, up to the first that has a fault. Cited by `laws`.
use Rattle.std.specs.Prelude.{◌≡◌, ℕ, ◌+◌, Bool, true, List, ◌∷◌, ◌++◌, length, is_ok, Option, None, Result, Ok, Err}
use Rattle.std.specs.List.{filter_map, list_all}
use Rattle.nm_tags.specs.declared.line_error.LineKind.{LineKind}

-- what a line asks for; nothing where it is passed over, or has a fault
abbrev pub asked_of : {T : Type 0} → Result (Option T) LineKind → Option T
asked_of (Ok asked) = asked
asked_of (Err kind) = None

-- no line has a fault
abbrev pub are_sound : {T : Type 0} → (List ℕ → Result (Option T) LineKind) → List (List ℕ) → Bool
are_sound read lines = list_all (λ line. is_ok (read line)) lines

-- no line has a fault, and these are what the lines ask for, in their order
pub record AreRead {T : Type 0} (read : List ℕ → Result (Option T) LineKind) (lines : List (List ℕ)) (items : List T) : Type 0 where
  pub sound : are_sound read lines ≡ true
  pub asked : items ≡ filter_map (λ line. asked_of (read line)) lines

-- the line of this number, counted from 1, has this fault, and no line before it has any
pub record IsFirstBad {T : Type 0} (read : List ℕ → Result (Option T) LineKind) (lines : List (List ℕ)) (number : ℕ) (kind : LineKind) : Type 0 where
  pub before : List (List ℕ)
  pub line : List ℕ
  pub after : List (List ℕ)
  pub cut : lines ≡ before ++ line ∷ after
  pub place : number ≡ length before + 1
  pub sound : are_sound read before ≡ true
  pub fault : read line ≡ Err kind
