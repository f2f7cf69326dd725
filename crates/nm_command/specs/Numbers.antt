-- The numbers that options and a drill are given. Cited by `leading_options`, `number` and `command_parser`.
use Rattle.std.specs.Prelude.{ℕ, ℤ, pos, Bool, ◌&&◌, nat_le, List, length, Option, Some, None, if◌then◌else◌}
use Rattle.std.specs.Char.{is_ascii_digit}
use Rattle.std.specs.List.{list_all}
use Rattle.std.specs.Option.{option_and_then, option_map}
use Rattle.std.specs.Str.Parse.{digits_value}
use Rattle.nm_base.specs.Limits.{max_date}

-- 1 to `max` decimal digits and nothing else
abbrev pub are_digits : ℕ → List ℕ → Bool
are_digits max text = nat_le 1 (length text) && nat_le (length text) max && list_all is_ascii_digit text

-- 1 to 10 digits that say at most 4,294,967,295
abbrev pub is_number : List ℕ → Bool
is_number text = are_digits 10 text && nat_le (digits_value 10 text) 4294967295

-- the number that the text says, where it says one
abbrev pub number_in : List ℕ → Option ℕ
number_in text = if is_number text then Some (digits_value 10 text) else None

-- the same, where it is from 1 to another
abbrev pub number_up_to : ℕ → List ℕ → Option ℕ
number_up_to most text = option_and_then (λ number. if nat_le 1 number && nat_le number most then Some number else None) (number_in text)

-- decimal digits, as many as there are, and nothing else
abbrev pub are_some_digits : List ℕ → Bool
are_some_digits text = nat_le 1 (length text) && list_all is_ascii_digit text

-- what digits say, however many lead it as zeros, where that is at most this
abbrev pub said_up_to : ℕ → List ℕ → Option ℕ
said_up_to most text = if are_some_digits text && nat_le (digits_value 10 text) most then Some (digits_value 10 text) else None

-- a number of workers: 1 to 16
abbrev pub workers_in : List ℕ → Option ℕ
workers_in text = option_and_then (λ number. if nat_le 1 number then Some number else None) (said_up_to 16 text)

-- how many mails a drill makes: 1 to 20,000
abbrev pub drill_count_in : List ℕ → Option ℕ
drill_count_in text = number_up_to 20000 text

-- the second that the text says, where it says one up to 253,000,000,000
abbrev pub moment_in : List ℕ → Option ℤ
moment_in text = option_map (λ second. pos second) (said_up_to max_date text)
