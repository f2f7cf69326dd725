-- Numbers of a width are read again, and what is read was encoded so. Cited by `nm_record`.
use Rattle.std.proofs.Common.{◌≡◌, ℕ, ◌+◌, ◌^◌, ◌<◌, ◌≤◌, false, ltb, List, [], ◌∷◌, ◌++◌, length, take, drop, Ok, refl, sym, ap, subst, arith, inl, inr}
use Rattle.std.specs.Int.{Width, w8, w32, w64, byte_len, from_be_bytes, to_be_bytes}
use Rattle.std.proofs.lemmas.Bool.{cases_lt, ltb-false, le-ltb}
use Rattle.std.proofs.lemmas.List.{take_at, drop_at, take-append-drop, length-append, length-take, get_or-drop, get_or-take, get_or_past}
use Rattle.std.proofs.lemmas.Nat.{be_bytes_4, be_bytes_8, from_be_bytes-to_be_bytes_4, from_be_bytes-to_be_bytes_8}
use Rattle.nm_codec.specs.ReadSteps.{IsBytes, Takes, number_at}
use Rattle.nm_codec.specs.StepLaws.{guard_ok}

pub IsBytes-drop : (n : ℕ) (bytes : List ℕ) → IsBytes bytes → IsBytes (drop n bytes)
IsBytes-drop n bytes h i = rw get_or-drop (h (n + i))

IsBytes-take : (n : ℕ) (bytes : List ℕ) → IsBytes bytes → IsBytes (take n bytes)
IsBytes-take n bytes h i =
    elim (cases_lt i n) [
      | inl lt ↦ rw (get_or-take n bytes i 0 lt) (h i)
      | inr le ↦ rw (get_or_past (take n bytes) i 0 (omega (arith, length-take n bytes))) (omega arith)
    ]

-- what the numbers of a width are: n bytes, each number below the limit in one way
pub record IsWidth (w : Width) (limit : ℕ) : Type 0 where
  pub len : (n : ℕ) → length (to_be_bytes w n) ≡ byte_len w
  pub back : (bytes : List ℕ) → length bytes ≡ byte_len w → IsBytes bytes → to_be_bytes w (from_be_bytes w bytes) ≡ bytes
  pub again : (n : ℕ) → n < limit → from_be_bytes w (to_be_bytes w n) ≡ n
  pub below : (bytes : List ℕ) → IsBytes bytes → from_be_bytes w bytes < limit

-- a byte is the number that it encodes
one_byte : (bytes : List ℕ) → length bytes ≡ 1 → IsBytes bytes → to_be_bytes w8 (from_be_bytes w8 bytes) ≡ bytes
one_byte [] e fits = absurd (omega arith)
one_byte (b ∷ []) e fits = ap (λ n. n ∷ []) (omega (arith, fits 0))
one_byte (b ∷ c ∷ bytes) e fits = absurd (omega arith)

-- a number of 8 bits
pub is_width_8 : IsWidth w8 (2 ^ 8)
is_width_8 = record {
  len = λ n. refl;
  back = one_byte;
  again = λ n lt. omega arith;
  below = λ bytes fits. omega (arith, fits 0);
}

-- a number of 32 bits
pub is_width_32 : IsWidth w32 (2 ^ 32)
is_width_32 = record {
  len = λ n. refl;
  back = λ bytes len fits. be_bytes_4 bytes _ len fits refl;
  again = λ n lt. from_be_bytes-to_be_bytes_4 n lt;
  below = λ bytes fits. omega (arith, fits 0, fits 1, fits 2, fits 3);
}

pub is_width_64 : IsWidth w64 (2 ^ 64)
is_width_64 = record {
  len = λ n. refl;
  back = λ bytes len fits. be_bytes_8 bytes _ len fits refl;
  again = λ n lt. from_be_bytes-to_be_bytes_8 n lt;
  below = λ bytes fits. omega (arith, fits 0, fits 1, fits 2, fits 3, fits 4, fits 5, fits 6, fits 7);
}

module _ (w : Width) (limit : ℕ) (width : IsWidth w limit) where
  pub number_again : (n : ℕ) (rest : List ℕ) → n < limit → number_at w (to_be_bytes w n ++ rest) ≡ Ok (n, rest)
  number_again n rest lt =
      let len = width.len n in
      let long : ltb (length (to_be_bytes w n ++ rest)) (byte_len w) ≡ false = le-ltb _ _ (omega (arith, length-append (to_be_bytes w n) rest)) in
      rw (long, take_at (to_be_bytes w n) rest (byte_len w) len, drop_at (to_be_bytes w n) rest (byte_len w) len, width.again n lt) refl

  pub number_only : (bytes : List ℕ) (n : ℕ) (rest : List ℕ) → IsBytes bytes → number_at w bytes ≡ Ok (n, rest) → Takes bytes (to_be_bytes w n) rest × (n < limit)
  number_only bytes n rest fits e =
      let front = take (byte_len w) bytes in
      let g = guard_ok (ltb (length bytes) (byte_len w)) 0 (from_be_bytes w front, drop (byte_len w) bytes) (n, rest) e in
      let long : byte_len w ≤ length bytes = ltb-false _ _ g.0 in
      let encoded : to_be_bytes w (from_be_bytes w front) ≡ front = width.back front (omega (arith, length-take (byte_len w) bytes)) (IsBytes-take (byte_len w) bytes fits) in
      let parts : bytes ≡ to_be_bytes w (from_be_bytes w front) ++ drop (byte_len w) bytes = rw encoded (sym (take-append-drop (byte_len w) bytes)) in
      subst (λ (p : ℕ × List ℕ). Takes bytes (to_be_bytes w p.0) p.1 × (p.0 < limit)) g.1
      (record { parts = parts; rest_fits = IsBytes-drop (byte_len w) bytes fits }, width.below front (IsBytes-take (byte_len w) bytes fits))
