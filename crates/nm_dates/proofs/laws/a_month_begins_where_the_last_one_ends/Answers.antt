use Rattle.std.proofs.Common.{◌+◌, pos}
use Rattle.jiff_core.specs.Calendar.{days_in_month}
use Rattle.nm_dates.specs.Calendar.{day_number}
use Rattle.nm_dates.proofs.AgoLemmas.{month_is}
use Rattle.nm_dates.proofs.MonthLemmas.{day-next, month-next, year-next}
use Rattle.nm_dates.proofs.laws.a_month_begins_where_the_last_one_ends.Goals as goal

pub returns-clause-month : goal.returns-clause-month
returns-clause-month c = λ year month moment is few.
    day-next (day_number year month (days_in_month (pos year) month)) (day_number year (month + 1) 1) (month-next year month (month_is year month is).1)

pub returns-clause-january : goal.returns-clause-january
returns-clause-january c = λ year moment. day-next (day_number year 12 31) (day_number (year + 1) 1 1) (year-next year)

pub returns-clause-year : goal.returns-clause-year
returns-clause-year c = λ year moment. day-next (day_number year 12 31) (day_number (year + 1) 1 1) (year-next year)
