-- Digits that are not read say no lane. For the proof of `lane_in`.
use Rattle.std.proofs.Common.{◌≡◌, ℕ, ◌<◌, ◌^◌, true, false, cond, ◌&&◌, List, length, sym, ap, ◌∙◌, arith, rules}
use Rattle.std.specs.Prelude.{Some, None, Result, Ok, Err, nat_le}
use Rattle.std.specs.Char.{is_ascii_digit}
use Rattle.std.specs.List.{list_all}
use Rattle.std.specs.Str.Parse.{ParsesUnsigned, digits_value}
use Rattle.std.proofs.lemmas.Bool.Decides.{nat_tests}
use Rattle.std.proofs.lemmas.Str.Parse.{IsNumeralModel, numerals_by_value, parse_digits}
use Rattle.nm_lanes.specs.Lines.{is_number, lane_in}

own : IsNumeralModel (λ ds. list_all is_ascii_digit ds ≡ true) (digits_value 10)
own = numerals_by_value _ (search rules)

some_digit : (word : List ℕ) → is_number word ≡ true → 0 < length word
some_digit word h = grind (arith, nat_tests)

all_digits : (word : List ℕ) → is_number word ≡ true → list_all is_ascii_digit word ≡ true
all_digits word h = grind (arith, nat_tests)

-- what is not read passes 32 bits
beyond : {E : Type 0} (word : List ℕ) (error : E) (r : Result ℕ E) → r ≡ Err error → ParsesUnsigned 32 10 word r → is_number word ≡ true → digits_value 10 word < 2 ^ 32 → ⊥
beyond word error (Ok first) is h digits = absurd (cc)
beyond word error (Err other) is h digits = λ small. parse_digits own 32 word (Err other) h (all_digits word digits) (some_digit word digits, small)

no_lane : (n : ℕ) → (n < 2 ^ 32 → ⊥) → nat_le n 15 ≡ false
no_lane n h = grind (arith, nat_tests)

pub lane-refused : {E : Type 0} (word : List ℕ) (error : E) (r : Result ℕ E) → r ≡ Err error → ParsesUnsigned 32 10 word r → is_number word ≡ true → None ≡ lane_in word
lane-refused word error r is h digits =
    ap (λ v. cond v (Some (digits_value 10 word)) None) (sym (no_lane (digits_value 10 word) (beyond word error r is h digits)))
    ∙ ap (λ v. cond (v && nat_le (digits_value 10 word) 15) (Some (digits_value 10 word)) None) (sym digits)
