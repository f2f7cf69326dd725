-- The Gregorian calendar by day numbers: 0 is 1970-01-01. Cited by `days`, `seconds` and `nm_model_answer`.
use Rattle.std.specs.Prelude.{◌≡◌, IsTrue, ℕ, zero, suc, ◌+◌, ◌-◌, ◌*◌, ◌/◌, ◌%◌, Bool, ◌&&◌, nat_le, nat_lt, min, ℤ, pos, negsuc, ◌-ℤ◌, ◌≤ℤ◌, int_le, unsigned_abs, List, [], ◌∷◌, ◌++◌, if◌then◌else◌}
use Rattle.jiff_core.specs.Calendar.{days_from_civil, days_in_month}
use Rattle.nm_dates.specs.declared.days.Civil.{Civil}

-- the day number of a date
abbrev pub day_number : ℕ → ℕ → ℕ → ℤ
day_number year month day = days_from_civil (pos year) month day

-- 0001-01-01
abbrev pub first_day : ℤ
first_day = negsuc 719161

-- 9999-12-31
abbrev pub last_day : ℤ
last_day = pos 2932896

-- a day of the years 1 to 9999
abbrev pub IsDayNumber : ℤ → Type 0
IsDayNumber day = (first_day ≤ℤ day) × (day ≤ℤ last_day)

abbrev pub is_year : ℕ → Bool
is_year year = nat_le 1 year && nat_le year 9999

abbrev pub is_month : ℕ → ℕ → Bool
is_month year month = is_year year && (nat_le 1 month && nat_le month 12)

abbrev pub is_date : ℕ → ℕ → ℕ → Bool
is_date year month day = is_month year month && (nat_le 1 day && nat_le day (days_in_month (pos year) month))

-- the last of the years 1 to n that has begun by the day
unfoldable pub year_begun : ℕ → ℤ → ℕ
year_begun zero day = 0
year_begun (suc year) day = if int_le (day_number (suc year) 1 1) day then suc year else year_begun year day

-- the last of the first n months of the year that has begun by the day
unfoldable pub month_begun : ℕ → ℕ → ℤ → ℕ
month_begun zero year day = 0
month_begun (suc month) year day = if int_le (day_number year (suc month) 1) day then suc month else month_begun month year day

-- the date of a day from the year 1 to 9999
unfoldable pub date_of : ℤ → Civil
date_of day =
    let year = year_begun 9999 day in
    let month = month_begun 12 year day in
    record { year = year; month = month; day = unsigned_abs (day -ℤ day_number year month 1) + 1 }

-- the day of that number in a month counted from the year 0, or the month's last where it has none such
abbrev pub day_in : ℕ → ℕ → ℤ
day_in months day = day_number (months / 12) (months % 12 + 1) (min day (days_in_month (pos (months / 12)) (months % 12 + 1)))

-- the day n months before a date, from 0001-01-01 on
abbrev pub months_before : Civil → ℕ → ℤ
months_before date months =
    if nat_lt (date.year * 12 + (date.month - 1)) (months + 12) then first_day
    else day_in (date.year * 12 + (date.month - 1) - months) date.day

-- the date is there, and the day is its day
pub record IsDayOf (date : Civil) (day : ℤ) : Type 0 where
  pub there : IsTrue (is_date date.year date.month date.day)
  pub number : day_number date.year date.month date.day ≡ day

-- two decimal digits
abbrev pub two_digits : ℕ → List ℕ
two_digits n = (48 + n / 10) ∷ (48 + n % 10) ∷ []

-- a date as it is written: YYYY-MM-DD
abbrev pub date_text : Civil → List ℕ
date_text date = two_digits (date.year / 100) ++ two_digits (date.year % 100) ++ 45 ∷ two_digits date.month ++ 45 ∷ two_digits date.day
