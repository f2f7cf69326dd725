-- How the year, the month and the day of a date follow from the number of its day.
-- For the proofs of `date_of`, `number_of` and `a_day_has_one_date`.
use Rattle.std.proofs.Common.{◌≡◌, ℕ, zero, suc, ◌+◌, ◌<◌, ◌≤◌, inl, inr, refl, sym, ap, subst, ◌∙◌, arith, true, false, ℤ, pos, negsuc, ◌-ℤ◌, ◌<ℤ◌, ◌≤ℤ◌, to_z, of_z, w16}
use Rattle.std.specs.Prelude.{IsTrue, int_le, unsigned_abs}
use Rattle.std.proofs.lemmas.Bool.{cases_order}
use Rattle.std.proofs.lemmas.Bool.Decides.{nat_tests}
use Rattle.std.proofs.lemmas.Int.{by_lt_z, ints}
use Rattle.jiff_core.specs.declared.civil.date.Date.{Date}
use Rattle.jiff_core.specs.Calendar.{IsCivilDate, day_count, days_from_civil, days_in_month}
use Rattle.jiff_core.specs.Date.{epoch_day}
use Rattle.jiff_core.proofs.SignedLemmas.{back_small, one_part, signed_arith, unsigned_abs-parts}
use Rattle.jiff_core.proofs.CalendarLemmas.{days_from_civil-day_count, days_in_month_bounds}
use Rattle.jiff_core.proofs.MarchLemmas.{day_count-early}
use Rattle.jiff_core.proofs.DateLemmas.{cases_date, civil, days_from_civil-day, epoch_day-lt, epoch_day-ordinal, epoch_day_range}
use Rattle.nm_dates.specs.Calendar.{IsDayNumber, date_of, day_number, first_day, is_date, month_begun, year_begun}

pub int_le-true : (a b : ℤ) → a ≤ℤ b → int_le a b ≡ true
int_le-true a b h = grind (arith, ints)

pub int_le-false : (a b : ℤ) → b <ℤ a → int_le a b ≡ false
int_le-false a b h = grind (arith, ints)

-- a date by its numbers
abbrev pub civil_date : (year month day : ℕ) → IsCivilDate (pos year) month day → Date
civil_date year month day h = record { year = pos year; month = month; day = day; year_in = h.0; month_in = h.1; day_in = h.2 }

-- the first day of a month is a date
pub first_is_date : (year month : ℕ) → year ≤ 9999 → 1 ≤ month → month ≤ 12 → IsCivilDate (pos year) month 1
first_is_date year month high low few =
    ((omega (arith, signed_arith), omega (arith, signed_arith)), (low, few), (omega arith, omega (arith, days_in_month_bounds (pos year) month)))

pub year_begun-is : (n year month day : ℕ) → IsCivilDate (pos year) month day → 1 ≤ year → year ≤ n → n ≤ 9999 → year_begun n (day_number year month day) ≡ year
unfolding year_begun
year_begun-is zero year month day h one low high = absurd (omega arith)
year_begun-is (suc n) year month day h one low high =
    elim (cases_order year (suc n)) [
      | inl same ↦
          let begun : day_number year 1 1 ≤ℤ day_number year month day = omega (arith, signed_arith, h.2.0, epoch_day-ordinal (civil_date year month day h)) in
          let test : int_le (day_number (suc n) 1 1) (day_number year month day) ≡ true = rw (← same) (int_le-true _ _ begun) in
          rw test (sym same)
      | inr (inl before) ↦
          let later : day_number year month day <ℤ day_number (suc n) 1 1 =
          epoch_day-lt (civil_date year month day h) (civil_date (suc n) 1 1 (first_is_date (suc n) 1 high (omega arith) (omega arith))) (inl (omega (arith, signed_arith, before))) in
          let test : int_le (day_number (suc n) 1 1) (day_number year month day) ≡ false = int_le-false _ _ later in
          rw test (year_begun-is n year month day h one (omega arith) (omega arith))
      | inr (inr after) ↦ absurd (omega arith)
    ]

pub month_begun-is : (n year month day : ℕ) → IsCivilDate (pos year) month day → year ≤ 9999 → month ≤ n → n ≤ 12 → month_begun n year (day_number year month day) ≡ month
unfolding month_begun
month_begun-is zero year month day h high low few = let one : 1 ≤ month = h.1.0 in absurd (omega arith)
month_begun-is (suc n) year month day h high low few =
    elim (cases_order month (suc n)) [
      | inl same ↦
          let begun : day_number year month 1 ≤ℤ day_number year month day = omega (arith, signed_arith, h.2.0, days_from_civil-day (pos year) month 1 day (omega arith) h.2.0) in
          let test : int_le (day_number year (suc n) 1) (day_number year month day) ≡ true = rw (← same) (int_le-true _ _ begun) in
          rw test (sym same)
      | inr (inl before) ↦
          let later : day_number year month day <ℤ day_number year (suc n) 1 =
          epoch_day-lt (civil_date year month day h) (civil_date year (suc n) 1 (first_is_date year (suc n) high (omega arith) few)) (inr (refl, inl before)) in
          let test : int_le (day_number year (suc n) 1) (day_number year month day) ≡ false = int_le-false _ _ later in
          rw test (month_begun-is n year month day h high (omega arith) (omega arith))
      | inr (inr after) ↦ absurd (omega arith)
    ]

-- the date of the day of a date is that date
pub date_of-day_number : (year month day : ℕ) → IsCivilDate (pos year) month day → 1 ≤ year → year ≤ 9999 → date_of (day_number year month day) ≡ record { year = year; month = month; day = day }
unfolding date_of
date_of-day_number year month day h one high =
    let y : year_begun 9999 (day_number year month day) ≡ year = year_begun-is 9999 year month day h one high (omega arith) in
    let m : month_begun 12 year (day_number year month day) ≡ month = month_begun-is 12 year month day h high h.1.1 (omega arith) in
    let d : unsigned_abs (day_number year month day -ℤ day_number year month 1) + 1 ≡ day =
    omega (arith, signed_arith, h.2.0, unsigned_abs-parts (day_number year month day -ℤ day_number year month 1), one_part (day_number year month day -ℤ day_number year month 1), days_from_civil-day (pos year) month 1 day (omega arith) h.2.0) in
    rw y (rw m (rw d refl))

pub day_number-first : days_from_civil (pos 1) 1 1 ≡ first_day
day_number-first =
    let counted : day_count (pos 1) 1 1 ≡ 3652791 = day_count-early (pos 1) 10000 1 1 refl (omega arith) (omega arith) (omega arith) in
    omega (arith, signed_arith, counted, days_from_civil-day_count (pos 1) 1 1)

-- the year 1 and later has no day before its first
pub from_first_day : (d : Date) → pos 1 ≤ℤ d.year → first_day ≤ℤ epoch_day d
from_first_day d h =
    let one : Date = civil_date 1 1 1 (first_is_date 1 1 (omega arith) (omega arith) (omega arith)) in
    elim (cases_date one d) [
      | inl later ↦ omega (arith, signed_arith, day_number-first, epoch_day-lt one d later)
      | inr (inl (inl year)) ↦ absurd (omega (arith, signed_arith))
      | inr (inl (inr (year, inl month))) ↦ absurd (omega (arith, d.month_in.0))
      | inr (inl (inr (year, inr (month, day)))) ↦ absurd (omega (arith, d.day_in.0))
      | inr (inr (year, month, day)) ↦ rw (← year, ← month, ← day) (omega (arith, signed_arith, day_number-first))
    ]

-- and a day from 0001-01-01 on has a year from 1 on
pub year_from_first : (d : Date) → first_day ≤ℤ epoch_day d → pos 1 ≤ℤ d.year
year_from_first d h =
    by_lt_z d.year (pos 1)
    (λ before. absurd (omega (arith, signed_arith, day_number-first, epoch_day-lt d (civil_date 1 1 1 (first_is_date 1 1 (omega arith) (omega arith) (omega arith))) (inl before))))
    (λ later. later)

positive : (z : ℤ) → pos 1 ≤ℤ z → z ≡ pos (unsigned_abs z)
positive (pos n) h = refl
positive (negsuc n) h = absurd (omega (arith, ints))

-- the numbers of a date of the years 1 to 9999
module _ (d : Date) (from : first_day ≤ℤ epoch_day d) where
  year_is : d.year ≡ pos (unsigned_abs d.year)
  year_is = positive d.year (year_from_first d from)

  is_civil : IsCivilDate (pos (unsigned_abs d.year)) d.month d.day
  is_civil = subst (λ year. IsCivilDate year d.month d.day) year_is (civil d)

  one : 1 ≤ unsigned_abs d.year
  one = omega (arith, signed_arith, year_from_first d from, unsigned_abs-parts d.year)

  high : unsigned_abs d.year ≤ 9999
  high = omega (arith, signed_arith, is_civil.0.1)

  pub date_of-epoch_day : date_of (epoch_day d) ≡ record { year = unsigned_abs d.year; month = d.month; day = d.day }
  date_of-epoch_day =
      ap (λ year. date_of (days_from_civil year d.month d.day)) year_is
      ∙ date_of-day_number (unsigned_abs d.year) d.month d.day is_civil one high

  pub epoch_day-is_date : IsTrue (is_date (unsigned_abs d.year) d.month d.day)
  epoch_day-is_date =
      let year_low : 1 ≤ unsigned_abs d.year = one in
      let year_high : unsigned_abs d.year ≤ 9999 = high in
      let month_low : 1 ≤ d.month = d.month_in.0 in
      let month_high : d.month ≤ 12 = d.month_in.1 in
      let day_low : 1 ≤ d.day = d.day_in.0 in
      let day_high : d.day ≤ days_in_month (pos (unsigned_abs d.year)) d.month = is_civil.2.1 in
      grind (arith, nat_tests)

-- a date of the year 1 or later has a day that is taken
pub is_day_number : (d : Date) → pos 1 ≤ℤ d.year → IsDayNumber (epoch_day d)
is_day_number d h = (from_first_day d h, (epoch_day_range d).1)

-- the year of a date fits its type
pub kept_year : (d : Date) → to_z w16 (of_z w16 d.year) ≡ d.year
kept_year d =
    let small : unsigned_abs d.year < 32768 = omega (arith, signed_arith, unsigned_abs-parts d.year, one_part d.year, d.year_in.0, d.year_in.1) in
    back_small w16 d.year small
