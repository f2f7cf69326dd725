-- A cursor of which one document was read ahead: what is left with that document. Cited by `peek`, `either` and `one`.
use Rattle.std.specs.Prelude.{◌≡◌, ℕ, nat_lt, cond, List, [], ◌∷◌, Option, Some, None}
use Rattle.nm_cursor.specs.Sets.{IsRising}
use Rattle.nm_cursor.specs.declared.peek.Ahead.{Ahead}
use Rattle.nm_cursor.specs.declared.peek.Ahead.TheVariants.{Unread, At, Ended}

-- what is left, where the cursor has `rest`
abbrev pub with_ahead : Ahead → List ℕ → List ℕ
with_ahead Unread rest = rest
with_ahead (At doc) rest = doc ∷ rest
with_ahead Ended rest = []

-- a document that was read ahead is below the others, and at the end there are none
abbrev pub IsAheadOf : Ahead → List ℕ → Type 0
IsAheadOf Unread rest = Unit {0}
IsAheadOf (At doc) rest = IsRising (doc ∷ rest)
IsAheadOf Ended rest = rest ≡ []

-- what is ahead once a document was taken from the cursor, or there was none
abbrev pub ahead_of : Option ℕ → Ahead
ahead_of (Some doc) = At doc
ahead_of None = Ended

-- the lower of two documents, where there are any
abbrev pub lower : Option ℕ → Option ℕ → Option ℕ
lower None second = second
lower (Some first) None = Some first
lower (Some first) (Some second) = Some (cond (nat_lt second first) second first)
