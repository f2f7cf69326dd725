-- Which seconds an end represents, counted from 1970-01-01 00:00:00 UTC.
-- Cited by `days`, `end_parser`, `test_query` and others.
use Rattle.std.specs.Prelude.{ℕ, ◌*◌, Bool, true, ◌&&◌, nat_le, ℤ, pos, negsuc, ◌+ℤ◌, ◌-ℤ◌, ◌*ℤ◌, ◌≤ℤ◌, int_le, int_lt, if◌then◌else◌}
use Rattle.std.specs.Int.{int_div_euclid}
use Rattle.nm_base.specs.Limits.{max_date, min_date}
use Rattle.jiff_core.specs.Calendar.{days_in_month}
use Rattle.nm_dates.specs.Calendar.{date_of, day_number, first_day, is_date, is_month, is_year, months_before}
use Rattle.nm_dates.specs.declared.days.Civil.{Civil}
use Rattle.nm_dates.specs.declared.end.DateUnit.{DateUnit}
use Rattle.nm_dates.specs.declared.end.DateUnit.TheVariants.{Hours, Days, Weeks, Months, Years}
use Rattle.nm_dates.specs.declared.end.End.{End}
use Rattle.nm_dates.specs.declared.end.End.TheVariants.{Second, Year, Month, Day, Today, Yesterday, Ago}
use Rattle.nm_dates.specs.declared.seconds.Seconds.{Seconds}

-- a moment at which something may be asked
abbrev pub IsMoment : ℤ → Type 0
IsMoment moment = (pos 0 ≤ℤ moment) × (moment ≤ℤ pos max_date)

-- the last second of the year 9999
abbrev pub last_shown_second : ℤ
last_shown_second = pos 253402300799

-- a second from 0001-01-01 to 9999-12-31
abbrev pub IsShownSecond : ℤ → Type 0
IsShownSecond second = (min_date ≤ℤ second) × (second ≤ℤ last_shown_second)

-- the day that holds a second
abbrev pub day_of : ℤ → ℤ
day_of second = int_div_euclid second (pos 86400)

-- the hour that holds a second, counted from 1970
abbrev pub hour_of : ℤ → ℤ
hour_of second = int_div_euclid second (pos 3600)

-- from the first second of one day to the last second of another
abbrev pub days : ℤ → ℤ → Seconds
days first last = record { first = first *ℤ pos 86400; last = last *ℤ pos 86400 +ℤ pos 86399 }

abbrev pub one_day : ℤ → Seconds
one_day day = days day day

abbrev pub one_hour : ℤ → Seconds
one_hour hour = record { first = hour *ℤ pos 3600; last = hour *ℤ pos 3600 +ℤ pos 3599 }

-- that day, but from 0001-01-01 on
abbrev pub from_first : ℤ → ℤ
from_first day = if int_lt day first_day then first_day else day

-- that second; one before the year 1 represents the first day
abbrev pub one_second : ℤ → Seconds
one_second second =
    if int_lt second (first_day *ℤ pos 86400) then one_day first_day else record { first = second; last = second }

-- n units before the moment
abbrev pub ago : DateUnit → ℕ → ℤ → Seconds
ago Hours n moment = one_hour (hour_of moment -ℤ pos n)
ago Days n moment = one_day (from_first (day_of moment -ℤ pos n))
ago Weeks n moment = one_day (from_first (day_of moment -ℤ pos (7 * n)))
ago Months n moment = one_day (months_before (date_of (day_of moment)) n)
ago Years n moment = one_day (months_before (date_of (day_of moment)) (12 * n))

-- the seconds that an end represents
abbrev pub seconds_of : End → ℤ → Seconds
seconds_of (Second second) moment = one_second second
seconds_of (Year year) moment = days (day_number year 1 1) (day_number year 12 31)
seconds_of (Month year month) moment = days (day_number year month 1) (day_number year month (days_in_month (pos year) month))
seconds_of (Day year month day) moment = one_day (day_number year month day)
seconds_of Today moment = one_day (day_of moment)
seconds_of Yesterday moment = one_day (day_of moment -ℤ pos 1)
seconds_of (Ago n unit) moment = ago unit n moment

-- an end that some text is
abbrev pub is_end : End → Bool
is_end (Second second) = int_le (negsuc 999999999998) second && int_le second (pos 999999999999)
is_end (Year year) = is_year year
is_end (Month year month) = is_month year month
is_end (Day year month day) = is_date year month day
is_end Today = true
is_end Yesterday = true
is_end (Ago n unit) = nat_le n 999999

-- the second is one of these
abbrev pub Holds : Seconds → ℤ → Type 0
Holds span second = (span.first ≤ℤ second) × (second ≤ℤ span.last)

-- the date of a second
abbrev pub date_at : ℤ → Civil
date_at second = date_of (day_of second)
