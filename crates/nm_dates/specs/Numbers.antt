-- Numbers in decimal digits. Cited by `numbers`.
use Rattle.std.specs.Prelude.{ℕ, ◌+◌, ◌*◌, ◌-◌, Bool, ◌&&◌, nat_le, List, length, fold, Option, Some, None, if◌then◌else◌}
use Rattle.std.specs.List.{list_all}

abbrev pub is_digit : ℕ → Bool
is_digit byte = nat_le 48 byte && nat_le byte 57

-- one digit more after a number
abbrev pub with_digit : ℕ → ℕ → ℕ
with_digit number digit = number * 10 + (digit - 48)

-- the number that digits say
abbrev pub number_of : List ℕ → ℕ
number_of digits = fold with_digit 0 digits

-- 1 to `max` digits and nothing else
abbrev pub is_number : ℕ → List ℕ → Bool
is_number max text = nat_le 1 (length text) && nat_le (length text) max && list_all is_digit text

-- the number that the text says, where it is 1 to `max` digits
abbrev pub number_in : ℕ → List ℕ → Option ℕ
number_in max text = if is_number max text then Some (number_of text) else None
