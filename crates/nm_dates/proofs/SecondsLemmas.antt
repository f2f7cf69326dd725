-- The seconds of days, and the days of years and months.
-- For the proofs of `a_day_has_one_date`, `a_unit_holds_the_seconds_of_its_dates`, `a_written_day_is_read` and others.
use Rattle.std.proofs.Common.{◌≡◌, ◌↔◌, ℕ, ◌*◌, ◌<◌, ◌≤◌, ◌⊎◌, inl, inr, refl, sym, ap, subst, ◌∙◌, arith, true, false, ℤ, pos, ◌-ℤ◌, ◌*ℤ◌, ◌<ℤ◌, ◌≤ℤ◌}
use Rattle.std.specs.Prelude.{IsTrue, int_lt}
use Rattle.std.proofs.lemmas.Bool.{cases_order}
use Rattle.std.proofs.lemmas.Bool.Decides.{nat_tests}
use Rattle.std.proofs.lemmas.Int.{by_lt_z, ints}
use Rattle.jiff_core.specs.Calendar.{IsCivilDate, days_in_month}
use Rattle.jiff_core.proofs.SignedLemmas.{int_div_euclid-parts, signed_arith}
use Rattle.jiff_core.proofs.CalendarLemmas.{days_in_month_bounds}
use Rattle.jiff_core.proofs.DateLemmas.{days_from_civil-day, epoch_day-lt}
use Rattle.nm_dates.specs.Calendar.{IsDayNumber, date_of, day_number, first_day, is_date, is_month, is_year, months_before}
use Rattle.nm_dates.specs.Seconds.{Holds, IsShownSecond, day_of, days, from_first, hour_of, is_end, one_day, one_hour, one_second, seconds_of}
use Rattle.nm_dates.specs.declared.days.Civil.{Civil}
use Rattle.nm_dates.specs.declared.end.DateUnit.TheVariants.{Hours, Days, Weeks, Months, Years}
use Rattle.nm_dates.specs.declared.end.End.{End}
use Rattle.nm_dates.specs.declared.end.End.TheVariants.{Second, Year, Month, Day, Today, Yesterday, Ago}
use Rattle.nm_dates.proofs.CalendarLemmas.{civil_date, date_of-day_number}
use Rattle.nm_dates.proofs.DayLemmas.{date_of-is_date, day_number-date_of, month-begins, month-ends, year-begins, year-ends}

-- what the test of a date says
pub date_parts : (year month day : ℕ) → IsTrue (is_date year month day) → (1 ≤ year) × (year ≤ 9999) × (1 ≤ month) × (month ≤ 12) × (1 ≤ day) × (day ≤ days_in_month (pos year) month)
date_parts year month day there =
    (grind (arith, nat_tests), grind (arith, nat_tests), grind (arith, nat_tests), grind (arith, nat_tests), grind (arith, nat_tests), grind (arith, nat_tests))

pub is_civil : (year month day : ℕ) → IsTrue (is_date year month day) → IsCivilDate (pos year) month day
is_civil year month day there =
    let parts = date_parts year month day there in
    ((omega (arith, signed_arith), omega (arith, signed_arith, parts.1)), (parts.2, parts.3), (parts.4, parts.5))

-- days hold the seconds from the one day to the other
pub days-holds : (first last second : ℤ) → Holds (days first last) second ↔ ((first ≤ℤ day_of second) × (day_of second ≤ℤ last))
days-holds first last second =
    let parts = int_div_euclid-parts second 86400 (omega arith) in (
      λ h. (omega (arith, signed_arith, parts.0, parts.1, h.0, h.1), omega (arith, signed_arith, parts.0, parts.1, h.0, h.1)),
      λ h. (omega (arith, signed_arith, parts.0, parts.1, h.0, h.1), omega (arith, signed_arith, parts.0, parts.1, h.0, h.1)),
    )

pub shown_day : (second : ℤ) → IsShownSecond second → IsDayNumber (day_of second)
shown_day second h =
    let parts = int_div_euclid-parts second 86400 (omega arith) in
    (omega (arith, signed_arith, parts.0, parts.1, h.0, h.1), omega (arith, signed_arith, parts.0, parts.1, h.0, h.1))

-- a day of the date of a day that is taken
module _ (n : ℤ) (range : IsDayNumber n) where
  abbrev date : Civil
  date = date_of n

  there : IsCivilDate (pos date.year) date.month date.day
  there = is_civil date.year date.month date.day (date_of-is_date n range)

  number : day_number date.year date.month date.day ≡ n
  number = day_number-date_of n range

  -- an earlier date has an earlier day
  before : (year month day : ℕ) → IsCivilDate (pos year) month day → (date.year < year) ⊎ ((date.year ≡ year) × (date.month < month)) → n <ℤ day_number year month day
  before year month day h (inl less) =
      subst (λ at. at <ℤ day_number year month day) number (epoch_day-lt (civil_date date.year date.month date.day there) (civil_date year month day h) (inl (omega (arith, signed_arith, less))))
  before year month day h (inr (same, less)) =
      subst (λ at. at <ℤ day_number year month day) number (epoch_day-lt (civil_date date.year date.month date.day there) (civil_date year month day h) (inr (ap pos same, inl less)))

  after : (year month day : ℕ) → IsCivilDate (pos year) month day → (year < date.year) ⊎ ((year ≡ date.year) × (month < date.month)) → day_number year month day <ℤ n
  after year month day h (inl less) =
      subst (λ at. day_number year month day <ℤ at) number (epoch_day-lt (civil_date year month day h) (civil_date date.year date.month date.day there) (inl (omega (arith, signed_arith, less))))
  after year month day h (inr (same, less)) =
      subst (λ at. day_number year month day <ℤ at) number (epoch_day-lt (civil_date year month day h) (civil_date date.year date.month date.day there) (inr (ap pos same, inl less)))

  -- the days of a year are those whose date has it
  pub of_year : (year : ℕ) → IsCivilDate (pos year) 1 1 → IsCivilDate (pos year) 12 31 → ((day_number year 1 1 ≤ℤ n) × (n ≤ℤ day_number year 12 31)) ↔ (date.year ≡ year)
  of_year year first last = (
    λ h. elim (cases_order date.year year) [
      | inl same ↦ same
      | inr (inl less) ↦ absurd (omega (arith, signed_arith, h.0, before year 1 1 first (inl less)))
      | inr (inr more) ↦ absurd (omega (arith, signed_arith, h.1, after year 12 31 last (inl more)))
    ],
    λ same. (subst (λ it. day_number it 1 1 ≤ℤ n) same (year-begins n range), subst (λ it. n ≤ℤ day_number it 12 31) same (year-ends n range)),
  )

  -- and those of a month
  pub of_month : (year month : ℕ) → IsCivilDate (pos year) month 1 → IsCivilDate (pos year) month (days_in_month (pos year) month)
      → ((day_number year month 1 ≤ℤ n) × (n ≤ℤ day_number year month (days_in_month (pos year) month))) ↔ ((date.year ≡ year) × (date.month ≡ month))
  of_month year month first last = (
    λ h. elim (cases_order date.year year) [
      | inl same ↦ elim (cases_order date.month month) [
        | inl it ↦ (same, it)
        | inr (inl less) ↦ absurd (omega (arith, signed_arith, h.0, before year month 1 first (inr (same, less))))
        | inr (inr more) ↦ absurd (omega (arith, signed_arith, h.1, after year month (days_in_month (pos year) month) last (inr (sym same, more))))
      ]
      | inr (inl less) ↦ absurd (omega (arith, signed_arith, h.0, before year month 1 first (inl less)))
      | inr (inr more) ↦ absurd (omega (arith, signed_arith, h.1, after year month (days_in_month (pos year) month) last (inl more)))
    ],
    λ same. (
      subst (λ y. day_number y month 1 ≤ℤ n) same.0 (subst (λ m. day_number date.year m 1 ≤ℤ n) same.1 (month-begins n range)),
      subst (λ y. n ≤ℤ day_number y month (days_in_month (pos y) month)) same.0 (subst (λ m. n ≤ℤ day_number date.year m (days_in_month (pos date.year) m)) same.1 (month-ends n range)),
    ),
  )

  -- and the day of a date
  pub of_day : (year month day : ℕ) → IsTrue (is_date year month day) → ((day_number year month day ≤ℤ n) × (n ≤ℤ day_number year month day)) ↔ (date ≡ record { year = year; month = month; day = day })
  of_day year month day is =
      let parts = date_parts year month day is in (
        λ h. let same : n ≡ day_number year month day = omega (arith, signed_arith, h.0, h.1) in
            ap date_of same ∙ date_of-day_number year month day (is_civil year month day is) parts.0 parts.1,
        λ same. let here : day_number year month day ≡ n = ap (λ it. day_number it.year it.month it.day) (sym same) ∙ number in
            (omega (arith, signed_arith, here), omega (arith, signed_arith, here)),
      )

-- the ends of years and months are dates
pub first_of_month : (year month : ℕ) → IsTrue (is_month year month) → IsCivilDate (pos year) month 1
first_of_month year month is =
    let long = days_in_month_bounds (pos year) month in
    let high : year ≤ 9999 = grind (arith, nat_tests) in
    let low : 1 ≤ month = grind (arith, nat_tests) in
    let few : month ≤ 12 = grind (arith, nat_tests) in
    ((omega (arith, signed_arith), omega (arith, signed_arith, high)), (low, few), (omega arith, omega (arith, long.1)))

pub last_of_month : (year month : ℕ) → IsTrue (is_month year month) → IsCivilDate (pos year) month (days_in_month (pos year) month)
last_of_month year month is =
    let first = first_of_month year month is in
    let long = days_in_month_bounds (pos year) month in
    (first.0, first.1, (omega (arith, long.1), omega arith))

pub first_of_year : (year : ℕ) → IsTrue (is_year year) → IsCivilDate (pos year) 1 1
first_of_year year is =
    let high : year ≤ 9999 = grind (arith, nat_tests) in
    ((omega (arith, signed_arith), omega (arith, signed_arith, high)), (omega arith, omega arith), (omega arith, omega arith))

pub last_of_year : (year : ℕ) → IsTrue (is_year year) → IsCivilDate (pos year) 12 31
last_of_year year is =
    let high : year ≤ 9999 = grind (arith, nat_tests) in
    ((omega (arith, signed_arith), omega (arith, signed_arith, high)), (omega arith, omega arith), (omega arith, omega arith))

-- from a day to a later one there are seconds
days_rise : (first last : ℤ) → first ≤ℤ last → (days first last).first ≤ℤ (days first last).last
days_rise first last h = omega (arith, signed_arith, h)

day_rises : (day : ℤ) → (one_day day).first ≤ℤ (one_day day).last
day_rises day = omega (arith, signed_arith)

hour_rises : (hour : ℤ) → (one_hour hour).first ≤ℤ (one_hour hour).last
hour_rises hour = omega (arith, signed_arith)

second_rises : (second : ℤ) → (one_second second).first ≤ℤ (one_second second).last
second_rises second =
    by_lt_z second (first_day *ℤ pos 86400)
    (λ less. let test : int_lt second (first_day *ℤ pos 86400) ≡ true = grind (arith, ints) in rw test (day_rises first_day))
    (λ more. let test : int_lt second (first_day *ℤ pos 86400) ≡ false = grind (arith, ints) in rw test (omega (arith, signed_arith)))

-- the first second of an end is at most its last
pub end_rises : (end : End) (moment : ℤ) → IsTrue (is_end end) → (seconds_of end moment).first ≤ℤ (seconds_of end moment).last
end_rises (Second second) moment is = second_rises second
end_rises (Year year) moment is =
    let later = epoch_day-lt (civil_date year 1 1 (first_of_year year is)) (civil_date year 12 31 (last_of_year year is)) (inr (refl, inl (omega arith))) in
    days_rise (day_number year 1 1) (day_number year 12 31) (omega (arith, signed_arith, later))
end_rises (Month year month) moment is =
    let long = days_in_month_bounds (pos year) month in
    let apart = days_from_civil-day (pos year) month 1 (days_in_month (pos year) month) (omega arith) (omega (arith, long.1)) in
    days_rise (day_number year month 1) (day_number year month (days_in_month (pos year) month)) (omega (arith, signed_arith, apart, long.1))
end_rises (Day year month day) moment is = day_rises (day_number year month day)
end_rises Today moment is = day_rises (day_of moment)
end_rises Yesterday moment is = day_rises (day_of moment -ℤ pos 1)
end_rises (Ago n Hours) moment is = hour_rises (hour_of moment -ℤ pos n)
end_rises (Ago n Days) moment is = day_rises (from_first (day_of moment -ℤ pos n))
end_rises (Ago n Weeks) moment is = day_rises (from_first (day_of moment -ℤ pos (7 * n)))
end_rises (Ago n Months) moment is = day_rises (months_before (date_of (day_of moment)) n)
end_rises (Ago n Years) moment is = day_rises (months_before (date_of (day_of moment)) (12 * n))
