use Rattle.nm_dates.proofs.CalendarLemmas.{date_of-day_number}
use Rattle.nm_dates.proofs.DayLemmas.{date_of-is_date, day_number-date_of}
use Rattle.nm_dates.proofs.SecondsLemmas.{date_parts, is_civil}
use Rattle.nm_dates.proofs.laws.a_day_has_one_date.Goals as goal

pub returns-clause-day : goal.returns-clause-day
returns-clause-day c = λ day range. record { there = date_of-is_date day range; number = day_number-date_of day range }

pub returns-clause-date : goal.returns-clause-date
returns-clause-date c = λ year month day is.
    let parts = date_parts year month day is in
    date_of-day_number year month day (is_civil year month day is) parts.0 parts.1
