-- Numbers of at most 15 hexadecimal digits leave room for one more. For the proof of `hex_number`.
use Rattle.std.proofs.Common.{ℕ, ◌≤◌, ◌^◌, arith}
use Rattle.std.proofs.Math.Nat.{pow-le-pow_right}

pub power_of_sixteen : (n : ℕ) → n ≤ 15 → 16 ^ n ≤ 1152921504606846976
power_of_sixteen n few = pow-le-pow_right {n = 16} (omega arith) {i = n} {j = 15} few
