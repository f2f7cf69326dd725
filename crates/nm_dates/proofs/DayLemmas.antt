-- Each day from 0001-01-01 to 9999-12-31 is the day of its date.
-- For the proofs of `a_day_has_one_date` and `a_written_day_is_read`.
use Rattle.std.proofs.Common.{◌≡◌, ℕ, zero, suc, ◌+◌, ◌≤◌, refl, arith, rules, true, false, ℤ, pos, ◌+ℤ◌, ◌-ℤ◌, ◌<ℤ◌, ◌≤ℤ◌}
use Rattle.std.specs.Prelude.{IsTrue, int_le, unsigned_abs}
use Rattle.std.proofs.lemmas.Bool.Decides.{nat_tests}
use Rattle.std.proofs.lemmas.Int.{by_lt_z}
use Rattle.jiff_core.specs.Calendar.{days_from_civil, days_in_month}
use Rattle.jiff_core.proofs.SignedLemmas.{one_part, signed_arith, unsigned_abs-parts}
use Rattle.jiff_core.proofs.CalendarLemmas.{days_in_month_bounds}
use Rattle.jiff_core.proofs.DateLemmas.{days_from_civil-day, days_from_civil-max, days_from_civil-next_month, days_from_civil-next_year}
use Rattle.nm_dates.specs.Calendar.{IsDayNumber, date_of, day_number, is_date, month_begun, year_begun}
use Rattle.nm_dates.proofs.CalendarLemmas.{day_number-first, int_le-false, int_le-true}

-- the year that is found has begun
pub year_begun-begun : (n : ℕ) (day : ℤ) → day_number 1 1 1 ≤ℤ day → 1 ≤ n → (1 ≤ year_begun n day) × (year_begun n day ≤ n) × (day_number (year_begun n day) 1 1 ≤ℤ day)
unfolding year_begun
year_begun-begun zero day from one = absurd (omega arith)
year_begun-begun (suc zero) day from one =
    let test : int_le (day_number 1 1 1) day ≡ true = int_le-true _ _ from in
    rw test (omega arith, omega arith, from)
year_begun-begun (suc (suc n)) day from one =
    by_lt_z day (day_number (suc (suc n)) 1 1)
    (λ before.
    let test : int_le (day_number (suc (suc n)) 1 1) day ≡ false = int_le-false _ _ before in
    let lower = year_begun-begun (suc n) day from (omega arith) in
    rw test (lower.0, omega (arith, lower.1), lower.2))
    (λ begun.
    let test : int_le (day_number (suc (suc n)) 1 1) day ≡ true = int_le-true _ _ begun in
    rw test (omega arith, omega arith, begun))

-- and the one after it has not
pub year_begun-next : (n : ℕ) (day : ℤ) → day <ℤ day_number (suc n) 1 1 → day <ℤ day_number (suc (year_begun n day)) 1 1
unfolding year_begun
year_begun-next zero day next = next
year_begun-next (suc n) day next =
    by_lt_z day (day_number (suc n) 1 1)
    (λ before.
    let test : int_le (day_number (suc n) 1 1) day ≡ false = int_le-false _ _ before in
    rw test (year_begun-next n day before))
    (λ begun.
    let test : int_le (day_number (suc n) 1 1) day ≡ true = int_le-true _ _ begun in
    rw test next)

pub month_begun-begun : (n year : ℕ) (day : ℤ) → day_number year 1 1 ≤ℤ day → 1 ≤ n → (1 ≤ month_begun n year day) × (month_begun n year day ≤ n) × (day_number year (month_begun n year day) 1 ≤ℤ day)
unfolding month_begun
month_begun-begun zero year day from one = absurd (omega arith)
month_begun-begun (suc zero) year day from one =
    let test : int_le (day_number year 1 1) day ≡ true = int_le-true _ _ from in
    rw test (omega arith, omega arith, from)
month_begun-begun (suc (suc n)) year day from one =
    by_lt_z day (day_number year (suc (suc n)) 1)
    (λ before.
    let test : int_le (day_number year (suc (suc n)) 1) day ≡ false = int_le-false _ _ before in
    let lower = month_begun-begun (suc n) year day from (omega arith) in
    rw test (lower.0, omega (arith, lower.1), lower.2))
    (λ begun.
    let test : int_le (day_number year (suc (suc n)) 1) day ≡ true = int_le-true _ _ begun in
    rw test (omega arith, omega arith, begun))

pub month_begun-next : (n year : ℕ) (day : ℤ) → day <ℤ day_number year (suc n) 1 → day <ℤ day_number year (suc (month_begun n year day)) 1
unfolding month_begun
month_begun-next zero year day next = next
month_begun-next (suc n) year day next =
    by_lt_z day (day_number year (suc n) 1)
    (λ before.
    let test : int_le (day_number year (suc n) 1) day ≡ false = int_le-false _ _ before in
    rw test (month_begun-next n year day before))
    (λ begun.
    let test : int_le (day_number year (suc n) 1) day ≡ true = int_le-true _ _ begun in
    rw test next)

-- the numbers of the date of a day that is taken
module _ (day : ℤ) (range : IsDayNumber day) where
  abbrev year : ℕ
  year = year_begun 9999 day

  abbrev month : ℕ
  month = month_begun 12 year day

  abbrev in_month : ℕ
  in_month = unsigned_abs (day -ℤ day_number year month 1) + 1

  low : day_number 1 1 1 ≤ℤ day
  low = omega (arith, signed_arith, day_number-first, range.0)

  year_is : (1 ≤ year) × (year ≤ 9999) × (day_number year 1 1 ≤ℤ day)
  year_is = year_begun-begun 9999 day low (omega arith)

  after_year : day <ℤ day_number (suc year) 1 1
  after_year =
      let end : days_from_civil (pos 10000) 1 1 ≡ days_from_civil (pos 9999) 12 31 +ℤ pos 1 = days_from_civil-next_year (pos 9999) (pos 10000) (search rules) refl in
      year_begun-next 9999 day (omega (arith, signed_arith, range.1, days_from_civil-max, end))

  month_is : (1 ≤ month) × (month ≤ 12) × (day_number year month 1 ≤ℤ day)
  month_is = month_begun-begun 12 year day year_is.2 (omega arith)

  after_month : day <ℤ day_number year (suc month) 1
  after_month =
      let next : pos (suc year) ≡ pos year +ℤ pos 1 = omega (arith, signed_arith) in
      let january : days_from_civil (pos (suc year)) 1 1 ≡ days_from_civil (pos year) 12 31 +ℤ pos 1 = days_from_civil-next_year (pos year) (pos (suc year)) (omega (arith, signed_arith)) next in
      let thirteenth : days_from_civil (pos year) 13 1 ≡ days_from_civil (pos year) 12 31 +ℤ pos 1 = days_from_civil-next_month (pos year) 12 31 (omega arith) refl in
      let before : day <ℤ day_number year 13 1 = omega (arith, signed_arith, after_year, january, thirteenth) in
      month_begun-next 12 year day before

  number_is : day_number year month in_month ≡ day
  number_is =
      let apart : days_from_civil (pos year) month 1 +ℤ pos in_month ≡ days_from_civil (pos year) month in_month +ℤ pos 1 = days_from_civil-day (pos year) month 1 in_month (omega arith) (omega arith) in
      let begun : day_number year month 1 ≤ℤ day = month_is.2 in
      omega (arith, signed_arith, apart, begun, unsigned_abs-parts (day -ℤ day_number year month 1), one_part (day -ℤ day_number year month 1))

  in_month_is : in_month ≤ days_in_month (pos year) month
  in_month_is =
      let last : ℕ = days_in_month (pos year) month in
      let long : 28 ≤ days_in_month (pos year) month = (days_in_month_bounds (pos year) month).1 in
      let e : month + 1 ≡ suc month = omega arith in
      let next : days_from_civil (pos year) (suc month) 1 ≡ days_from_civil (pos year) month (days_in_month (pos year) month) +ℤ pos 1 =
      rw e at (days_from_civil-next_month (pos year) month (days_in_month (pos year) month) month_is.0 refl) in
      let apart : days_from_civil (pos year) month 1 +ℤ pos (days_in_month (pos year) month) ≡ days_from_civil (pos year) month (days_in_month (pos year) month) +ℤ pos 1 =
      days_from_civil-day (pos year) month 1 (days_in_month (pos year) month) (omega arith) (omega arith) in
      let begun : day_number year month 1 ≤ℤ day = month_is.2 in
      omega (arith, signed_arith, after_month, next, apart, begun, unsigned_abs-parts (day -ℤ day_number year month 1), one_part (day -ℤ day_number year month 1))

  pub day_number-date_of : day_number (date_of day).year (date_of day).month (date_of day).day ≡ day
  unfolding date_of
  day_number-date_of = number_is

  pub date_of-is_date : IsTrue (is_date (date_of day).year (date_of day).month (date_of day).day)
  unfolding date_of
  date_of-is_date =
      let year_low : 1 ≤ year = year_is.0 in
      let year_high : year ≤ 9999 = year_is.1 in
      let month_low : 1 ≤ month = month_is.0 in
      let month_high : month ≤ 12 = month_is.1 in
      let day_low : 1 ≤ in_month = omega arith in
      let day_high : in_month ≤ days_in_month (pos year) month = in_month_is in
      grind (arith, nat_tests)

  pub year-begins : day_number (date_of day).year 1 1 ≤ℤ day
  unfolding date_of
  year-begins = year_is.2

  pub year-ends : day ≤ℤ day_number (date_of day).year 12 31
  unfolding date_of
  year-ends =
      let next : pos (suc year) ≡ pos year +ℤ pos 1 = omega (arith, signed_arith) in
      let january : days_from_civil (pos (suc year)) 1 1 ≡ days_from_civil (pos year) 12 31 +ℤ pos 1 = days_from_civil-next_year (pos year) (pos (suc year)) (omega (arith, signed_arith)) next in
      omega (arith, signed_arith, after_year, january)

  pub month-begins : day_number (date_of day).year (date_of day).month 1 ≤ℤ day
  unfolding date_of
  month-begins = month_is.2

  pub month-ends : day ≤ℤ day_number (date_of day).year (date_of day).month (days_in_month (pos (date_of day).year) (date_of day).month)
  unfolding date_of
  month-ends =
      let e : month + 1 ≡ suc month = omega arith in
      let next : days_from_civil (pos year) (suc month) 1 ≡ days_from_civil (pos year) month (days_in_month (pos year) month) +ℤ pos 1 =
      rw e at (days_from_civil-next_month (pos year) month (days_in_month (pos year) month) month_is.0 refl) in
      omega (arith, signed_arith, after_month, next)
