-- What is left to read, as the end of bytes that several hold. Cited by `reader`.
use Rattle.std.specs.Prelude.{◌≡◌, ℕ, ◌-◌, Option, None, Some, List, length, drop}
use Rattle.std.specs.Borrow.{Bor}

-- the bytes that are left are the last ones of these, of which there are so many in all
abbrev pub IsEndOf : Option (Bor (List ℕ)) → ℕ → List ℕ → Type 0
IsEndOf None len rest = Unit {0}
IsEndOf (Some shared) len rest = (len ≡ length shared.now) × (rest ≡ drop (len - length rest) shared.now)
