-- Which texts are an end of a date range (notmuch-search-terms(7), within this profile).
-- Cited by `end_parser` and `nm_query`.
use Rattle.std.specs.Prelude.{ℕ, Bool, ◌&&◌, ◌||◌, ◌==◌, pos, neg_ℤ, List, [], ◌∷◌, length, map, take, drop, codes, slice_index, Option, Some, None, not, if◌then◌else◌}
use Rattle.std.specs.List.{position_or_len}
use Rattle.std.specs.Option.{option_and_then, option_map}
use Rattle.std.specs.Char.{to_ascii_lowercase}
use Rattle.nm_base.specs.Order.{same_text}
use Rattle.nm_dates.specs.Calendar.{is_date, is_month, is_year}
use Rattle.nm_dates.specs.Numbers.{is_digit, number_in}
use Rattle.nm_dates.specs.declared.end.DateUnit.{DateUnit}
use Rattle.nm_dates.specs.declared.end.DateUnit.TheVariants.{Hours, Days, Weeks, Months, Years}
use Rattle.nm_dates.specs.declared.end.End.{End}
use Rattle.nm_dates.specs.declared.end.End.TheVariants.{Second, Year, Month, Day, Today, Yesterday, Ago}

-- the first that is there
abbrev pub first_of : Option End → Option End → Option End
first_of (Some end) other = Some end
first_of None other = other

-- the text is the name, whatever the case of its ASCII letters
abbrev pub is_named : List ℕ → List ℕ → Bool
is_named name text = same_text (map to_ascii_lowercase text) (map to_ascii_lowercase name)

-- that many bytes of the text from a place on
abbrev pub part : ℕ → ℕ → List ℕ → List ℕ
part at count text = take count (drop at text)

-- a number of 1 to 12 digits, which may be negative
abbrev pub signed_second : List ℕ → Option End
signed_second [] = None
signed_second (first ∷ digits) =
    if first == 45 then option_map (λ n. Second (neg_ℤ (pos n))) (number_in 12 digits)
    else option_map (λ n. Second (pos n)) (number_in 12 (first ∷ digits))

-- `@`, and the number of the second
abbrev pub second_end : List ℕ → Option End
second_end [] = None
second_end (first ∷ text) = if first == 64 then signed_second text else None

abbrev pub year_end : ℕ → Option End
year_end year = if is_year year then Some (Year year) else None

abbrev pub month_end : ℕ → ℕ → Option End
month_end year month = if is_month year month then Some (Month year month) else None

abbrev pub day_end : ℕ → ℕ → ℕ → Option End
day_end year month day = if is_date year month day then Some (Day year month day) else None

abbrev pub from_year : List ℕ → Option End
from_year text = option_and_then year_end (number_in 4 text)

-- a month, written YYYY-MM
abbrev pub from_month : List ℕ → Option End
from_month text =
    if slice_index text 4 == 45
    then option_and_then (λ year. option_and_then (month_end year) (number_in 2 (part 5 2 text))) (number_in 4 (part 0 4 text))
    else None

-- a day, written YYYY-MM-DD
abbrev pub from_day : List ℕ → Option End
from_day text =
    if (slice_index text 4 == 45) && (slice_index text 7 == 45)
    then option_and_then (λ year.
    option_and_then (λ month. option_and_then (day_end year month) (number_in 2 (part 8 2 text))) (number_in 2 (part 5 2 text)))
    (number_in 4 (part 0 4 text))
    else None

-- YYYY, YYYY-MM or YYYY-MM-DD, a date that is there
abbrev pub calendar_end : List ℕ → Option End
calendar_end text =
    if length text == 4 then from_year text
    else (if length text == 7 then from_month text else (if length text == 10 then from_day text else None))

-- `today` and `yesterday`, in any case
abbrev pub named_end : List ℕ → Option End
named_end text =
    if is_named (codes "today") text then Some Today else (if is_named (codes "yesterday") text then Some Yesterday else None)

-- the name or its plural
abbrev pub is_unit : List ℕ → List ℕ → List ℕ → Bool
is_unit name plural text = is_named name text || is_named plural text

-- the unit that the text names, by its name or the plural
abbrev pub unit_of : List ℕ → Option DateUnit
unit_of text =
    if is_unit (codes "hour") (codes "hours") text then Some Hours
    else (if is_unit (codes "day") (codes "days") text then Some Days
    else (if is_unit (codes "week") (codes "weeks") text then Some Weeks
    else (if is_unit (codes "month") (codes "months") text then Some Months
    else (if is_unit (codes "year") (codes "years") text then Some Years else None))))

-- what comes after at most one space or `_`
abbrev pub after_gap : List ℕ → List ℕ
after_gap [] = []
after_gap (first ∷ text) = if (first == 32) || (first == 95) then text else first ∷ text

-- how many digits are at the front
abbrev pub digit_count : List ℕ → ℕ
digit_count text = position_or_len (λ byte. not (is_digit byte)) text

abbrev pub leading_digits : List ℕ → List ℕ
leading_digits text = take (digit_count text) text

abbrev pub after_digits : List ℕ → List ℕ
after_digits text = drop (digit_count text) text

-- a number of 1 to 6 digits, at most one space or `_`, and a unit
abbrev pub ago_end : List ℕ → Option End
ago_end text =
    option_and_then (λ n. option_map (λ unit. Ago n unit) (unit_of (after_gap (after_digits text)))) (number_in 6 (leading_digits text))

-- the end that a text is, if it is one
abbrev pub end_of : List ℕ → Option End
end_of text = first_of (second_end text) (first_of (calendar_end text) (first_of (named_end text) (ago_end text)))
