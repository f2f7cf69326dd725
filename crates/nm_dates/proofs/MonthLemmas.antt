-- Where months begin and end. For the proofs of `a_month_begins_where_the_last_one_ends` and `february_has_its_days`.
use Rattle.std.proofs.Common.{◌≡◌, ℕ, ◌+◌, ◌≤◌, refl, arith, ℤ, pos, negsuc, ◌+ℤ◌, ◌*ℤ◌}
use Rattle.jiff_core.specs.Calendar.{day_count, days_in_month}
use Rattle.jiff_core.proofs.SignedLemmas.{signed_arith}
use Rattle.jiff_core.proofs.CalendarLemmas.{days_from_civil-day_count}
use Rattle.jiff_core.proofs.DateLemmas.{days_from_civil-day, days_from_civil-next_month, days_from_civil-next_year}
use Rattle.jiff_core.proofs.MarchLemmas.{day_count-early}
use Rattle.nm_dates.specs.Calendar.{day_number}

-- a day begins the second after the day before it ends
pub day-next : (day next : ℤ) → next ≡ day +ℤ pos 1 → next *ℤ pos 86400 ≡ day *ℤ pos 86400 +ℤ pos 86399 +ℤ pos 1
day-next day next is = omega (arith, signed_arith, is)

pub month-next : (year month : ℕ) → 1 ≤ month → day_number year (month + 1) 1 ≡ day_number year month (days_in_month (pos year) month) +ℤ pos 1
month-next year month low = days_from_civil-next_month (pos year) month (days_in_month (pos year) month) low refl

pub year-next : (year : ℕ) → day_number (year + 1) 1 1 ≡ day_number year 12 31 +ℤ pos 1
year-next year = days_from_civil-next_year (pos year) (pos (year + 1)) (omega (arith, signed_arith)) (omega (arith, signed_arith))

-- 1 February of two years
pub february-2024 : day_number 2024 2 1 ≡ pos 19754
february-2024 =
    let counted : day_count (pos 2024) 2 1 ≡ 4391707 = day_count-early (pos 2024) 12023 2 1 refl (omega arith) (omega arith) (omega arith) in
    omega (arith, signed_arith, counted, days_from_civil-day_count (pos 2024) 2 1)

pub february-1900 : day_number 1900 2 1 ≡ negsuc 25535
february-1900 =
    let counted : day_count (pos 1900) 2 1 ≡ 4346417 = day_count-early (pos 1900) 11899 2 1 refl (omega arith) (omega arith) (omega arith) in
    omega (arith, signed_arith, counted, days_from_civil-day_count (pos 1900) 2 1)

-- the last day of a month, from its first
pub last-day : (year month long : ℕ) (first last : ℤ) → day_number year month 1 ≡ first → 1 ≤ long → last +ℤ pos 1 ≡ first +ℤ pos long → day_number year month long ≡ last
last-day year month long first last is some far =
    omega (arith, signed_arith, is, far, days_from_civil-day (pos year) month 1 long (omega arith) some)
