-- Records of a journal: a gate, the length of the body in four bytes, the highest first, and the body. A gate is open where it
-- is 1, and closed at any other value. After an open record comes the gate of the next; records end at the first closed gate.
-- Cited by `append`, `journal`, `nm_writer` and others.
use Rattle.std.specs.Prelude.{◌≡◌, ◌≢◌, ◌⊎◌, ℕ, ◌+◌, ◌-◌, ◌<◌, ◌^◌, List, [], ◌∷◌, ◌++◌, length, take, drop, flat_map}
use Rattle.std.specs.List.{AllByRecursion}
use Rattle.std.specs.Int.{w32, from_be_bytes, to_be_bytes}

-- the bytes of an open record of this body
abbrev pub record_of : List ℕ → List ℕ
record_of body = 1 ∷ to_be_bytes w32 (length body) ++ body

-- open records of these bodies, one after the other
abbrev pub records_of : List (List ℕ) → List ℕ
records_of bodies = flat_map record_of bodies

-- the length of each body fits its four bytes
abbrev pub AreBodies : List (List ℕ) → Type 0
AreBodies bodies = AllByRecursion (λ body. length body < 2 ^ 32) bodies

-- from the place on there are open records of these bodies, and then a closed gate
pub record HasRecords (start : ℕ) (bodies : List (List ℕ)) (bytes : List ℕ) : Type 0 where
  pub fit : AreBodies bodies
  pub gate : ℕ
  pub closed : gate ≢ 1
  pub rest : List ℕ
  pub is : drop start bytes ≡ records_of bodies ++ gate ∷ rest

-- after an open gate there is no length, or not the body that it announces
abbrev pub IsCut : List ℕ → Type 0
IsCut more = (length more < 4) ⊎ (length more - 4 < from_be_bytes w32 (take 4 more))

-- From the place on the bytes are no records: after open ones they end in place of a gate, and then `at` is their length, or
-- the next record is open and cut, and then `at` is the place of its gate.
pub record IsBroken (start : ℕ) (bytes : List ℕ) (at : ℕ) : Type 0 where
  pub bodies : List (List ℕ)
  pub fit : AreBodies bodies
  pub rest : List ℕ
  pub is : drop start bytes ≡ records_of bodies ++ rest
  pub fault : ((rest ≡ []) × (at ≡ length bytes)) ⊎ ((more : List ℕ) × (rest ≡ 1 ∷ more) × IsCut more × (at ≡ start + length (records_of bodies)))
