-- A date that is written is read. For the proof of `a_written_day_is_read`.
use Rattle.std.proofs.Common.{◌≡◌, ℕ, ◌+◌, ◌-◌, ◌*◌, ◌/◌, ◌%◌, ◌<◌, ◌≤◌, refl, ap, ◌∙◌, arith, true, false, List, [], ◌∷◌, Some}
use Rattle.std.specs.Prelude.{IsTrue, ◌==◌}
use Rattle.std.proofs.lemmas.Bool.Decides.{nat_tests}
use Rattle.nm_dates.specs.Calendar.{date_text, is_date}
use Rattle.nm_dates.specs.Numbers.{is_digit, number_in}
use Rattle.nm_dates.specs.Ends.{day_end, end_of, from_day}
use Rattle.nm_dates.specs.declared.end.End.TheVariants.{Day}

is_digit-digit : (a : ℕ) → a < 10 → is_digit (48 + a) ≡ true
is_digit-digit a few = grind (arith, nat_tests)

-- two digits are a number
number_in-two : (a b : ℕ) → a < 10 → b < 10 → number_in 2 ((48 + a) ∷ (48 + b) ∷ []) ≡ Some (a * 10 + b)
number_in-two a b first second =
    let one : is_digit (48 + a) ≡ true = is_digit-digit a first in
    let two : is_digit (48 + b) ≡ true = is_digit-digit b second in
    let number : (0 * 10 + (48 + a - 48)) * 10 + (48 + b - 48) ≡ a * 10 + b = omega arith in
    rw one (rw two (ap Some number))

-- four digits are a number
number_in-four : (a b c d : ℕ) → a < 10 → b < 10 → c < 10 → d < 10 → number_in 4 ((48 + a) ∷ (48 + b) ∷ (48 + c) ∷ (48 + d) ∷ []) ≡ Some (((a * 10 + b) * 10 + c) * 10 + d)
number_in-four a b c d first second third fourth =
    let one : is_digit (48 + a) ≡ true = is_digit-digit a first in
    let two : is_digit (48 + b) ≡ true = is_digit-digit b second in
    let three : is_digit (48 + c) ≡ true = is_digit-digit c third in
    let four : is_digit (48 + d) ≡ true = is_digit-digit d fourth in
    let number : (((0 * 10 + (48 + a - 48)) * 10 + (48 + b - 48)) * 10 + (48 + c - 48)) * 10 + (48 + d - 48) ≡ ((a * 10 + b) * 10 + c) * 10 + d = omega arith in
    rw one (rw two (rw three (rw four (ap Some number))))

module _ (year month day : ℕ) (few : year ≤ 9999) (months : month ≤ 12) (days : day ≤ 31) where
  abbrev text : List ℕ
  text = date_text (record { year = year; month = month; day = day })

  year_read : number_in 4 ((48 + year / 100 / 10) ∷ (48 + year / 100 % 10) ∷ (48 + year % 100 / 10) ∷ (48 + year % 100 % 10) ∷ []) ≡ Some year
  year_read =
      number_in-four (year / 100 / 10) (year / 100 % 10) (year % 100 / 10) (year % 100 % 10) (omega arith) (omega arith) (omega arith) (omega arith)
      ∙ ap Some (omega arith)

  month_read : number_in 2 ((48 + month / 10) ∷ (48 + month % 10) ∷ []) ≡ Some month
  month_read = number_in-two (month / 10) (month % 10) (omega arith) (omega arith) ∙ ap Some (omega arith)

  day_read : number_in 2 ((48 + day / 10) ∷ (48 + day % 10) ∷ []) ≡ Some day
  day_read = number_in-two (day / 10) (day % 10) (omega arith) (omega arith) ∙ ap Some (omega arith)

  from_day-text : from_day text ≡ day_end year month day
  from_day-text = rw year_read (rw month_read (rw day_read refl))

  no_at : ((48 + year / 100 / 10) == 64) ≡ false
  no_at = grind (arith, nat_tests)

  -- a date that is there is read
  pub end_of-date_text : IsTrue (is_date year month day) → end_of text ≡ Some (Day year month day)
  end_of-date_text there =
      let is : is_date year month day ≡ true = there in
      rw no_at (rw from_day-text (rw is refl))
