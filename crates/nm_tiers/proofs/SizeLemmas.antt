-- Tiers that are settled are few: the oldest is as large as two to the number of the others. For the proof of `settled_tiers_are_few`.
use Rattle.std.proofs.Common.{ℕ, zero, suc, ◌+◌, ◌<◌, ◌≤◌, ◌^◌, List, [], ◌∷◌, length, inl, inr, arith}
use Rattle.std.proofs.lemmas.Bool.{cases_lt}
use Rattle.nm_tiers.specs.Tiers.{AreSettled, total}

-- doubled so many times
abbrev double : ℕ → ℕ
double zero = 1
double (suc n) = double n + double n

some-doubled : (n : ℕ) → 1 ≤ double n
some-doubled zero = omega arith
some-doubled (suc n) = omega (arith, some-doubled n)

first-large : (size : ℕ) (more : List ℕ) → AreSettled (size ∷ more) → double (length more) ≤ size
first-large size [] h = omega (arith, h.0)
first-large size (next ∷ more) h = omega (arith, h.1, first-large next more h.2)

above : (k n : ℕ) → k ≤ n → double k ≤ double n
above zero n h = some-doubled n
above (suc k) zero h = absurd (omega (arith, h))
above (suc k) (suc n) h = omega (arith, above k n (omega (arith, h)))

few : (sizes : List ℕ) → AreSettled sizes → total sizes < double 23 → length sizes ≤ 23
few [] h less = omega arith
few (size ∷ more) h less = elim (cases_lt (length more) 23) [
  | inl lt ↦ omega (arith, lt)
  | inr ge ↦ absurd (omega (arith, ge, less, first-large size more h, above 23 (length more) (omega (arith, ge))))
]

pub settled-few : (sizes : List ℕ) → AreSettled sizes → total sizes ≤ 2 ^ 20 → length sizes ≤ 24
settled-few sizes h within = omega (arith, few sizes h (omega (arith, within)))
