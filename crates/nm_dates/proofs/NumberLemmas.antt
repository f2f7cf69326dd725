-- Numbers of few digits are small. For the proofs of `number` and `number_of`.
use Rattle.std.proofs.Common.{ℕ, ◌<◌, ◌≤◌, ◌^◌, arith}
use Rattle.std.proofs.Math.Nat.{pow-le-pow_right}

-- eleven digits and fewer
pub power_of_ten : (n : ℕ) → n ≤ 11 → 10 ^ n ≤ 100000000000
power_of_ten n few = pow-le-pow_right {n = 10} (omega arith) {i = n} {j = 11} few

-- a bound by some digits is one by more digits
pub more_digits : (n m number : ℕ) → n ≤ m → number < 10 ^ n → number < 10 ^ m
more_digits n m number few below = omega (arith, below, pow-le-pow_right {n = 10} (omega arith) {i = n} {j = m} few)
