-- A number in n decimal digits: zeros, and then the digits of the number.
-- For the proofs of `clock_text`, `path_text` and `zeros_stand_before_a_number`.
use Rattle.std.proofs.Common.{◌≡◌, ℕ, zero, suc, ◌+◌, ◌-◌, ◌/◌, ◌%◌, ◌^◌, ◌<◌, ◌≤◌, List, [], ◌∷◌, ◌++◌, length, replicate, refl, ap, sym, ◌∙◌, inl, inr, append_assoc, length-append, arith, false}
use Rattle.std.proofs.lemmas.Bool.{cases_order}
use Rattle.std.proofs.lemmas.Fmt.{decimal_digit, decimal_nonempty, decimal_step, length-decimal-le}
use Rattle.std.proofs.lemmas.List.{append-nil, replicate-append-replicate}
use Rattle.std.specs.Fmt.{char_count, decimal, format_spec, is_bare_number, padded_integral, styled_decimal}
use Rattle.nm_drill.specs.Drill.{last_digits}

-- the one case or the other
pub by_lt : {P : Type 0} (a b : ℕ) → (a < b → P) → (b ≤ a → P) → P
by_lt a b below above = elim (cases_order a b) [ inl same ↦ above (omega arith) | inr (inl lower) ↦ below lower | inr (inr higher) ↦ above (omega arith) ]

zeros_then : (n : ℕ) → ◌++◌ {A = ℕ} (replicate n 48) (48 ∷ []) ≡ replicate (suc n) 48
zeros_then n =
    let more : n + 1 ≡ suc n = omega arith in
    replicate-append-replicate n 1 48 ∙ ap (λ m. replicate m 48) more

last_digits-zero : (n : ℕ) → last_digits n 0 ≡ replicate n 48
last_digits-zero zero = refl
last_digits-zero (suc n) = ap (λ front. front ++ 48 ∷ []) (last_digits-zero n) ∙ zeros_then n

-- a number of one digit
one_digit : (n k : ℕ) → k < 10 → k < 2 ^ 64 → last_digits (suc n) k ≡ replicate (suc n - length (decimal k)) 48 ++ decimal k
one_digit n k low small =
    let front : k / 10 ≡ 0 = omega arith in
    let last : k % 10 ≡ k = omega arith in
    let zeros : suc n - 1 ≡ n = omega arith in
    rw (decimal_digit k low, front, last, last_digits-zero n, zeros) refl

-- a number of more
more_digits : (n k : ℕ) (front : List ℕ) → decimal k ≡ decimal (k / 10) ++ (48 + k % 10) ∷ [] → front ≡ replicate (n - length (decimal (k / 10))) 48 ++ decimal (k / 10)
    → front ++ (48 + k % 10) ∷ [] ≡ replicate (suc n - length (decimal k)) 48 ++ decimal k
more_digits n k front step before =
    let short : suc n - length (decimal k) ≡ n - length (decimal (k / 10)) = omega (arith, ap length step, length-append (decimal (k / 10)) ((48 + k % 10) ∷ [])) in
    rw (short, step, before) (append_assoc (replicate (n - length (decimal (k / 10))) 48) (decimal (k / 10)) ((48 + k % 10) ∷ []))

pub last_digits-decimal : (n k : ℕ) → length (decimal k) ≤ n → k < 2 ^ 64 → last_digits n k ≡ replicate (n - length (decimal k)) 48 ++ decimal k
last_digits-decimal zero k fits small = absurd (omega (arith, decimal_nonempty k small))
last_digits-decimal (suc n) k fits small =
    by_lt k 10
    (λ low. one_digit n k low small)
    (λ high.
    let step = decimal_step k high small in
    let shorter : length (decimal (k / 10)) ≤ n = omega (arith, ap length step, length-append (decimal (k / 10)) ((48 + k % 10) ∷ [])) in
    more_digits n k (last_digits n (k / 10)) step (last_digits-decimal n (k / 10) shorter (omega arith)))

-- a number that is written in n places with zeros
module _ (n k : ℕ) (wide : is_bare_number (format_spec 32 0 4 n (2 ^ 64 - 1)) ≡ false) where
  zeros_written : styled_decimal (format_spec 32 0 4 n (2 ^ 64 - 1)) k ≡ replicate (n - length (decimal k)) 48 ++ decimal k
  unfolding padded_integral char_count
  zeros_written =
      let room : n - length (decimal k) - 0 - 0 ≡ n - length (decimal k) = omega arith in
      rw (wide, room, append-nil (decimal k)) refl

  pub padded_number : length (decimal k) ≤ n → k < 2 ^ 64 → styled_decimal (format_spec 32 0 4 n (2 ^ 64 - 1)) k ≡ last_digits n k
  padded_number fits small = zeros_written ∙ sym (last_digits-decimal n k fits small)

-- below 100 in two places
pub two_digits : (k : ℕ) → k < 100 → styled_decimal (format_spec 32 0 4 2 (2 ^ 64 - 1)) k ≡ last_digits 2 k
two_digits k low = padded_number 2 k refl (length-decimal-le 2 k (omega arith) (omega arith) (omega arith)) (omega arith)

-- below 100,000,000 in eight
pub eight_digits : (k : ℕ) → k < 100000000 → styled_decimal (format_spec 32 0 4 8 (2 ^ 64 - 1)) k ≡ last_digits 8 k
eight_digits k low = padded_number 8 k refl (length-decimal-le 8 k (omega arith) (omega arith) (omega arith)) (omega arith)
