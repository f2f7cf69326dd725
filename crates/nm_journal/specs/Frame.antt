-- What a record is written as before its gate is opened. Cited by `frame`.
use Rattle.std.specs.Prelude.{ℕ, ◌-◌, List, [], ◌∷◌, ◌++◌, length, take, drop}
use Rattle.std.specs.Int.{w32, to_be_bytes}

-- the length of a body, the body, and the next closed gate
abbrev pub framed : List ℕ → List ℕ
framed body = to_be_bytes w32 (length body) ++ body ++ 0 ∷ []

-- the body of such bytes
abbrev pub body_of : List ℕ → List ℕ
body_of bytes = take (length bytes - 5) (drop 4 bytes)
