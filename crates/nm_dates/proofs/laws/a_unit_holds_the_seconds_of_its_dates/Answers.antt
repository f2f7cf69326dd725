use Rattle.nm_dates.specs.Seconds.{day_of}
use Rattle.nm_dates.proofs.SecondsLemmas.{days-holds, first_of_month, first_of_year, last_of_month, last_of_year, of_day, of_month, of_year, shown_day}
use Rattle.nm_dates.proofs.laws.a_unit_holds_the_seconds_of_its_dates.Goals as goal

pub returns-clause-year : goal.returns-clause-year
returns-clause-year c = λ year second moment is shown.
    let held = days-holds _ _ second in
    let of = of_year (day_of second) (shown_day second shown) year (first_of_year year is) (last_of_year year is) in
    (λ h. of.0 (held.0 h), λ same. held.1 (of.1 same))

pub returns-clause-month : goal.returns-clause-month
returns-clause-month c = λ year month second moment is shown.
    let held = days-holds _ _ second in
    let of = of_month (day_of second) (shown_day second shown) year month (first_of_month year month is) (last_of_month year month is) in
    (λ h. of.0 (held.0 h), λ same. held.1 (of.1 same))

pub returns-clause-day : goal.returns-clause-day
returns-clause-day c = λ year month day second moment is shown.
    let held = days-holds _ _ second in
    let of = of_day (day_of second) (shown_day second shown) year month day is in
    (λ h. of.0 (held.0 h), λ same. held.1 (of.1 same))
