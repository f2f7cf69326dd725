-- Hours, days, weeks, months and years before a moment.
-- For the proofs of `a_day_ago_is_the_day_of_an_earlier_second` and `a_month_ago_is_a_calendar_month_before`.
use Rattle.std.proofs.Common.{◌≡◌, ℕ, ◌+◌, ◌-◌, ◌*◌, ◌/◌, ◌%◌, ◌≤◌, refl, sym, ap, ◌∙◌, arith, true, false, ℤ, pos, ◌+ℤ◌, ◌-ℤ◌, ◌*ℤ◌, ◌<ℤ◌, ◌≤ℤ◌}
use Rattle.std.specs.Prelude.{IsTrue, int_lt, min, nat_lt}
use Rattle.std.proofs.lemmas.Bool.Decides.{nat_tests}
use Rattle.std.proofs.lemmas.Int.{ints}
use Rattle.nm_base.specs.Limits.{min_date}
use Rattle.jiff_core.specs.Calendar.{days_in_month}
use Rattle.jiff_core.proofs.SignedLemmas.{int_div_euclid-parts, signed_arith}
use Rattle.nm_dates.specs.Calendar.{day_in, day_number, first_day, is_month, is_year, months_before}
use Rattle.nm_dates.specs.Seconds.{Holds, IsShownSecond, date_at, day_of, from_first, hour_of, one_day, one_hour}
use Rattle.nm_dates.specs.declared.days.Civil.{Civil}
use Rattle.nm_dates.proofs.CalendarLemmas.{day_number-first}
use Rattle.nm_dates.proofs.DayLemmas.{date_of-is_date}
use Rattle.nm_dates.proofs.SecondsLemmas.{date_parts, shown_day}

-- n days earlier the day is n less
pub day_of-earlier : (n : ℕ) (moment : ℤ) → day_of moment -ℤ pos n ≡ day_of (moment -ℤ pos (86400 * n))
day_of-earlier n moment =
    let here = int_div_euclid-parts moment 86400 (omega arith) in
    let there = int_div_euclid-parts (moment -ℤ pos (86400 * n)) 86400 (omega arith) in
    omega (arith, signed_arith, here.0, here.1, there.0, there.1)

day_from : (second : ℤ) → min_date ≤ℤ second → from_first (day_of second) ≡ day_of second
day_from second from =
    let parts = int_div_euclid-parts second 86400 (omega arith) in
    let later : first_day ≤ℤ day_of second = omega (arith, signed_arith, parts.0, parts.1, from) in
    let test : int_lt (day_of second) first_day ≡ false = grind (arith, ints) in
    rw test refl

day_before : (second : ℤ) → second <ℤ min_date → from_first (day_of second) ≡ first_day
day_before second less =
    let parts = int_div_euclid-parts second 86400 (omega arith) in
    let earlier : day_of second <ℤ first_day = omega (arith, signed_arith, parts.0, parts.1, less) in
    let test : int_lt (day_of second) first_day ≡ true = grind (arith, ints) in
    rw test refl

pub days-ago : (n : ℕ) (moment : ℤ) → min_date ≤ℤ (moment -ℤ pos (86400 * n)) → from_first (day_of moment -ℤ pos n) ≡ day_of (moment -ℤ pos (86400 * n))
days-ago n moment from = ap from_first (day_of-earlier n moment) ∙ day_from (moment -ℤ pos (86400 * n)) from

pub days-early : (n : ℕ) (moment : ℤ) → (moment -ℤ pos (86400 * n)) <ℤ min_date → from_first (day_of moment -ℤ pos n) ≡ day_number 1 1 1
days-early n moment less = ap from_first (day_of-earlier n moment) ∙ day_before (moment -ℤ pos (86400 * n)) less ∙ sym day_number-first

-- the seconds of a day
pub day-holds : (moment : ℤ) → Holds (one_day (day_of moment)) moment
day-holds moment =
    let parts = int_div_euclid-parts moment 86400 (omega arith) in
    (omega (arith, signed_arith, parts.0, parts.1), omega (arith, signed_arith, parts.0, parts.1))

pub day-long : (day : ℤ) → (one_day day).last ≡ (one_day day).first +ℤ pos 86399
day-long day = omega (arith, signed_arith)

pub hour-holds : (n : ℕ) (moment : ℤ) → Holds (one_hour (hour_of moment -ℤ pos n)) (moment -ℤ pos (3600 * n))
hour-holds n moment =
    let parts = int_div_euclid-parts moment 3600 (omega arith) in
    (omega (arith, signed_arith, parts.0, parts.1), omega (arith, signed_arith, parts.0, parts.1))

pub hour-long : (hour : ℤ) → (one_hour hour).last ≡ (one_hour hour).first +ℤ pos 3599
hour-long hour = omega (arith, signed_arith)

pub hour-begins : (n : ℕ) (hour : ℤ) → (one_hour (hour -ℤ pos n)).first +ℤ pos (3600 * n) ≡ hour *ℤ pos 3600
hour-begins n hour = omega (arith, signed_arith)

-- a month of a year by its number among the months from the year 0 on
day_in-month : (months year month day : ℕ) → 1 ≤ month → month ≤ 12 → months + 1 ≡ year * 12 + month → day_in months day ≡ day_number year month (min day (days_in_month (pos year) month))
day_in-month months year month day low few is =
    let of_year : months / 12 ≡ year = omega arith in
    let of_month : months % 12 + 1 ≡ month = omega arith in
    rw of_year (rw of_month refl)

-- a date n months later than a month
pub months_before-is : (date : Civil) (n year month : ℕ) → 1 ≤ date.month → 1 ≤ year → 1 ≤ month → month ≤ 12 → year * 12 + month + n ≡ date.year * 12 + date.month →
    months_before date n ≡ day_number year month (min date.day (days_in_month (pos year) month))
months_before-is date n year month some from low few is =
    let late : nat_lt (date.year * 12 + (date.month - 1)) (n + 12) ≡ false = grind (arith, nat_tests) in
    rw late (day_in-month (date.year * 12 + (date.month - 1) - n) year month date.day low few (omega arith))

pub months_before-early : (date : Civil) (n : ℕ) → 1 ≤ date.month → date.year * 12 + date.month ≤ n + 12 → months_before date n ≡ day_number 1 1 1
months_before-early date n some few =
    let early : nat_lt (date.year * 12 + (date.month - 1)) (n + 12) ≡ true = grind (arith, nat_tests) in
    rw early (sym day_number-first)

-- the month of a second has a number from 1 to 12
pub month_at : (second : ℤ) → IsShownSecond second → (1 ≤ (date_at second).month) × ((date_at second).month ≤ 12)
month_at second shown =
    let parts = date_parts (date_at second).year (date_at second).month (date_at second).day (date_of-is_date (day_of second) (shown_day second shown)) in
    (parts.2, parts.3)

pub month_is : (year month : ℕ) → IsTrue (is_month year month) → (1 ≤ year) × (1 ≤ month) × (month ≤ 12)
month_is year month is = (grind (arith, nat_tests), grind (arith, nat_tests), grind (arith, nat_tests))

pub year_is : (year : ℕ) → IsTrue (is_year year) → 1 ≤ year
year_is year is = grind (arith, nat_tests)
