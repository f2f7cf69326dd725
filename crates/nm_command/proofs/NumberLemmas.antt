-- What std reads of digits is the number that they say. For the proofs of `number` and `said_up_to`.
use Rattle.std.proofs.Common.{◌≡◌, ℕ, ◌<◌, ◌≤◌, ◌^◌, true, false, cond, ◌&&◌, List, length, sym, ap, ◌∙◌, arith, rules}
use Rattle.std.specs.Prelude.{Some, None, Result, Ok, Err, nat_le, pos}
use Rattle.std.specs.Char.{is_ascii_digit}
use Rattle.std.specs.Fmt.{decimal}
use Rattle.std.specs.List.{list_all}
use Rattle.std.specs.Option.{option_and_then, option_map}
use Rattle.std.specs.Str.Parse.{ParsesUnsigned, digits_value}
use Rattle.std.proofs.lemmas.Bool.Decides.{nat_tests}
use Rattle.std.proofs.lemmas.Fmt.{decimal_nonempty, digits_decimal, digits_value-decimal, length-decimal-le}
use Rattle.std.proofs.lemmas.Str.Parse.{IsNumeralModel, numerals_by_value, parse_digits}
use Rattle.nm_base.specs.Limits.{max_date}
use Rattle.nm_command.specs.Numbers.{are_digits, are_some_digits, moment_in, number_in, number_up_to, said_up_to, workers_in}

pub own : IsNumeralModel (λ ds. list_all is_ascii_digit ds ≡ true) (digits_value 10)
own = numerals_by_value _ (search rules)

some_digit : (max : ℕ) (text : List ℕ) → are_digits max text ≡ true → 0 < length text
some_digit max text h = grind (arith, nat_tests)

all_digits : (max : ℕ) (text : List ℕ) → are_digits max text ≡ true → list_all is_ascii_digit text ≡ true
all_digits max text h = grind (arith, nat_tests)

-- digits that are not read say a number that has no place
beyond : {E : Type 0} (width max : ℕ) (text : List ℕ) (error : E) (r : Result ℕ E) → r ≡ Err error → ParsesUnsigned width 10 text r → are_digits max text ≡ true →
    digits_value 10 text < 2 ^ width → ⊥
beyond width max text error (Ok first) is h digits = absurd (cc)
beyond width max text error (Err other) is h digits = λ small.
    parse_digits own width text (Err other) h (all_digits max text digits) (some_digit max text digits, small)

number_beyond : (n : ℕ) → (n < 2 ^ 32 → ⊥) → nat_le n 4294967295 ≡ false
number_beyond n h = grind (arith, nat_tests)

pub number-refused : {E : Type 0} (text : List ℕ) (error : E) (r : Result ℕ E) → r ≡ Err error → ParsesUnsigned 32 10 text r → are_digits 10 text ≡ true → None ≡ number_in text
number-refused text error r is h digits =
    ap (λ v. cond v (Some (digits_value 10 text)) None) (sym (number_beyond (digits_value 10 text) (beyond 32 10 text error r is h digits)))
    ∙ ap (λ v. cond (v && nat_le (digits_value 10 text) 4294967295) (Some (digits_value 10 text)) None) (sym digits)

-- the same of digits, however many there are
said_digit : (text : List ℕ) → are_some_digits text ≡ true → 0 < length text
said_digit text h = grind (arith, nat_tests)

said_digits : (text : List ℕ) → are_some_digits text ≡ true → list_all is_ascii_digit text ≡ true
said_digits text h = grind (arith, nat_tests)

said_beyond : (most n : ℕ) → most < 2 ^ 64 → (n < 2 ^ 64 → ⊥) → nat_le n most ≡ false
said_beyond most n small h = grind (arith, nat_tests)

said-without : {E : Type 0} (text : List ℕ) (error : E) (r : Result ℕ E) → r ≡ Err error → ParsesUnsigned 64 10 text r → are_some_digits text ≡ true → digits_value 10 text < 2 ^ 64 → ⊥
said-without text error (Ok first) is h digits = absurd (cc)
said-without text error (Err other) is h digits = λ small. parse_digits own 64 text (Err other) h (said_digits text digits) (said_digit text digits, small)

pub said-refused : {E : Type 0} (most : ℕ) (text : List ℕ) (error : E) (r : Result ℕ E) → most < 2 ^ 64 → r ≡ Err error → ParsesUnsigned 64 10 text r → are_some_digits text ≡ true → None ≡ said_up_to most text
said-refused most text error r small is h digits =
    ap (λ v. cond v (Some (digits_value 10 text)) None) (sym (said_beyond most (digits_value 10 text) small (said-without text error r is h digits)))
    ∙ ap (λ v. cond (v && nat_le (digits_value 10 text) most) (Some (digits_value 10 text)) None) (sym digits)

-- a number in decimal digits is read back
are-digits : (max : ℕ) (text : List ℕ) → 0 < length text → length text ≤ max → list_all is_ascii_digit text ≡ true → are_digits max text ≡ true
are-digits max text some few digits = grind (arith, nat_tests)

digits-back : (max n : ℕ) → 1 ≤ max → n < 10 ^ max → n < 2 ^ 64 → are_digits max (decimal n) ≡ true
digits-back max n one short few = are-digits max (decimal n) (decimal_nonempty n few) (length-decimal-le max n one short few) (digits_decimal own n few)

number_small : (n : ℕ) → nat_le n 4294967295 ≡ true → n < 10 ^ 10
number_small n h = grind (arith, nat_tests)

pub number-back : (n : ℕ) → nat_le n 4294967295 ≡ true → number_in (decimal n) ≡ Some n
number-back n h =
    let below = number_small n h in
    let few : n < 2 ^ 64 = omega (arith, below) in
    ap (λ v. cond (v && nat_le (digits_value 10 (decimal n)) 4294967295) (Some (digits_value 10 (decimal n))) None) (digits-back 10 n (omega arith) below few)
    ∙ ap (λ m. cond (nat_le m 4294967295) (Some m) None) (digits_value-decimal own n few)
    ∙ ap (λ v. cond v (Some n) None) h

some-digits : (text : List ℕ) → 0 < length text → list_all is_ascii_digit text ≡ true → are_some_digits text ≡ true
some-digits text some digits = grind (arith, nat_tests)

said-back : (most n : ℕ) → n < 2 ^ 64 → nat_le n most ≡ true → said_up_to most (decimal n) ≡ Some n
said-back most n few h =
    ap (λ v. cond (v && nat_le (digits_value 10 (decimal n)) most) (Some (digits_value 10 (decimal n))) None) (some-digits (decimal n) (decimal_nonempty n few) (digits_decimal own n few))
    ∙ ap (λ m. cond (nat_le m most) (Some m) None) (digits_value-decimal own n few)
    ∙ ap (λ v. cond v (Some n) None) h

moment_few : (n : ℕ) → nat_le n max_date ≡ true → n < 2 ^ 64
moment_few n h = grind (arith, nat_tests)

pub moment-back : (n : ℕ) → nat_le n max_date ≡ true → moment_in (decimal n) ≡ Some (pos n)
moment-back n h = ap (option_map (λ second. pos second)) (said-back max_date n (moment_few n h) h)

workers_few : (n : ℕ) → nat_le n 16 ≡ true → n < 2 ^ 64
workers_few n h = grind (arith, nat_tests)

pub workers-back : (n : ℕ) → nat_le 1 n ≡ true → nat_le n 16 ≡ true → workers_in (decimal n) ≡ Some n
workers-back n some few =
    ap (option_and_then (λ number. cond (nat_le 1 number) (Some number) None)) (said-back 16 n (workers_few n few) few) ∙ ap (λ v. cond v (Some n) None) some

-- so is a number from 1 to another
pub up_to-back : (most n : ℕ) → nat_le most 4294967295 ≡ true → nat_le 1 n ≡ true → nat_le n most ≡ true → number_up_to most (decimal n) ≡ Some n
up_to-back most n small some few =
    ap (option_and_then (λ number. cond (nat_le 1 number && nat_le number most) (Some number) None)) (number-back n (in_range most n small few))
    ∙ ap (λ v. cond (v && nat_le n most) (Some n) None) some
    ∙ ap (λ v. cond v (Some n) None) few
  where
    in_range : (most n : ℕ) → nat_le most 4294967295 ≡ true → nat_le n most ≡ true → nat_le n 4294967295 ≡ true
    in_range most n small few = grind (arith, nat_tests)
