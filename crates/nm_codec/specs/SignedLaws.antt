-- Numbers in two's complement, and values that a byte represents, are read again, and what is read was encoded so.
-- Cited by `Grammar`.
use Rattle.std.proofs.Common.{◌≡◌, ℕ, ℤ, pos, negsuc, ◌^◌, ◌<◌, Bool, true, cond, List, ◌++◌, length, Option, Some, None, Ok, Err, refl, ap, subst, arith}
use Rattle.std.specs.Prelude.{FitsSigned}
use Rattle.std.specs.Int.{w8, w64, cast_signed, cast_unsigned}
use Rattle.std.proofs.lemmas.Int.{of_z-to_z}
use Rattle.nm_codec.specs.Encoding.{i64_bytes, u8_bytes}
use Rattle.nm_codec.specs.ReadSteps.{IsBytes, Takes, chosen, coded_at, number_at, signed_at, tested_at}
use Rattle.nm_codec.specs.StepLaws.{bind_ok, ok_is, passed_ok}
use Rattle.nm_codec.specs.NumberLaws.{is_width_8, is_width_64, number_again, number_only}

signed_below : (z : ℤ) → FitsSigned w64 z → cast_unsigned w64 z < 2 ^ 64
signed_below (pos n) fits = grind (arith, fits)
signed_below (negsuc n) fits = grind (arith, fits)

signed_back : (z : ℤ) → FitsSigned w64 z → cast_signed w64 (cast_unsigned w64 z) ≡ z
signed_back (pos n) fits = grind (arith, fits)
signed_back (negsuc n) fits = grind (arith, fits)

pub signed_again : (z : ℤ) (rest : List ℕ) → FitsSigned w64 z → signed_at (i64_bytes z ++ rest) ≡ Ok (z, rest)
unfolding signed_at
signed_again z rest fits =
    rw (number_again w64 (2 ^ 64) is_width_64 (cast_unsigned w64 z) rest (signed_below z fits)) (ap (λ (x : ℤ). Ok (x, rest)) (signed_back z fits))

pub signed_only : (bytes : List ℕ) (z : ℤ) (rest : List ℕ) → IsBytes bytes → signed_at bytes ≡ Ok (z, rest) → Takes bytes (i64_bytes z) rest
unfolding signed_at
signed_only bytes z rest fits e =
    let f = bind_ok (number_at w64 bytes) (λ n. Ok (cast_signed w64 n.0, n.1)) (z, rest) e in
    let first = number_only w64 (2 ^ 64) is_width_64 bytes f.0.0 f.0.1 fits f.1 in
    let here : Takes bytes (i64_bytes (cast_signed w64 f.0.0)) f.0.1 = rw (of_z-to_z w64 f.0.0 first.1) first.0 in
    subst (λ (p : ℤ × List ℕ). Takes bytes (i64_bytes p.0) p.1) (ok_is (cast_signed w64 f.0.0, f.0.1) (z, rest) f.2) here

module _ {A : Type 0} (value_of : ℕ → Option A) (code_of : A → ℕ) where
  pub coded_again : ((a : A) → value_of (code_of a) ≡ Some a) → ((a : A) → code_of a < 2 ^ 8) → (a : A) (rest : List ℕ) → coded_at value_of (u8_bytes (code_of a) ++ rest) ≡ Ok (a, rest)
  unfolding coded_at
  coded_again back small a rest = rw (number_again w8 (2 ^ 8) is_width_8 (code_of a) rest (small a), back a) refl

  is_chosen : (o : Option A) (rest : List ℕ) (left : ℕ) (y : A × List ℕ) → chosen o rest left ≡ Ok y → (o ≡ Some y.0) × (rest ≡ y.1)
  is_chosen (Some a) rest left y e = let is = ok_is (a, rest) y e in (ap (λ (p : A × List ℕ). Some p.0) is, ap (λ (p : A × List ℕ). p.1) is)
  is_chosen None rest left y e = absurd cc

  pub coded_only : ((n : ℕ) (a : A) → value_of n ≡ Some a → code_of a ≡ n) → (bytes : List ℕ) (a : A) (rest : List ℕ) → IsBytes bytes → coded_at value_of bytes ≡ Ok (a, rest)
      → Takes bytes (u8_bytes (code_of a)) rest
  unfolding coded_at
  coded_only code bytes a rest fits e =
      let f = bind_ok (number_at w8 bytes) (λ n. chosen (value_of n.0) n.1 (length bytes)) (a, rest) e in
      let first = number_only w8 (2 ^ 8) is_width_8 bytes f.0.0 f.0.1 fits f.1 in
      let c = is_chosen (value_of f.0.0) f.0.1 (length bytes) (a, rest) f.2 in
      let here : Takes bytes (u8_bytes (code_of a)) f.0.1 = rw (code f.0.0 a c.0) first.0 in
      subst (λ (r : List ℕ). Takes bytes (u8_bytes (code_of a)) r) c.1 here

  pub coded_read : ((n : ℕ) (a : A) → value_of n ≡ Some a → code_of a ≡ n) → (bytes : List ℕ) (a : A) (rest : List ℕ) → IsBytes bytes → coded_at value_of bytes ≡ Ok (a, rest)
      → Takes bytes (u8_bytes (code_of a)) rest × (true ≡ true)
  coded_read code bytes a rest fits e = (coded_only code bytes a rest fits e, refl)

pub some_byte : (n : ℕ) → 0 < length (u8_bytes n)
some_byte n = omega arith

pub some_signed : (z : ℤ) → 0 < length (i64_bytes z)
some_signed z = omega arith

module _ (test : ℤ → Bool) where
  pub signed_tested_again : ((z : ℤ) → test z ≡ true → FitsSigned w64 z) → (z : ℤ) (rest : List ℕ) → test z ≡ true → length (i64_bytes z) < 2 ^ 32 → tested_at test signed_at (i64_bytes z ++ rest) ≡ Ok (z, rest)
  unfolding tested_at
  signed_tested_again fits z rest v short = rw (signed_again z rest (fits z v), v) refl

  pub signed_tested_only : (bytes : List ℕ) (z : ℤ) (rest : List ℕ) → IsBytes bytes → tested_at test signed_at bytes ≡ Ok (z, rest) → Takes bytes (i64_bytes z) rest × (test z ≡ true)
  unfolding tested_at
  signed_tested_only bytes z rest fits e =
      let f = bind_ok (signed_at bytes) (λ x. cond (test x.0) (Ok x) (Err (length bytes))) (z, rest) e in
      let g = passed_ok (test f.0.0) (length bytes) f.0 (z, rest) f.2 in
      let first = signed_only bytes f.0.0 f.0.1 fits f.1 in
      subst (λ (x : ℤ × List ℕ). Takes bytes (i64_bytes x.0) x.1 × (test x.0 ≡ true)) g.1 (first, g.0)
