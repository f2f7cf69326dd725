use Rattle.std.proofs.Common.{arith, refl, pos}
use Rattle.jiff_core.proofs.CalendarLemmas.{days_in_month_bounds}
use Rattle.nm_dates.specs.Seconds.{date_at, day_of}
use Rattle.nm_dates.proofs.DayLemmas.{date_of-is_date}
use Rattle.nm_dates.proofs.SecondsLemmas.{date_parts, days-holds, of_day, shown_day}
use Rattle.nm_dates.proofs.TextLemmas.{end_of-date_text}
use Rattle.nm_dates.proofs.laws.a_written_day_is_read.Goals as goal

pub returns-clause-read : goal.returns-clause-read
returns-clause-read c = λ second shown.
    let range = shown_day second shown in
    let is = date_of-is_date (day_of second) range in
    let parts = date_parts (date_at second).year (date_at second).month (date_at second).day is in
    let long = days_in_month_bounds (pos (date_at second).year) (date_at second).month in
    end_of-date_text (date_at second).year (date_at second).month (date_at second).day parts.1 parts.3 (omega (arith, parts.5, long.0)) is

pub returns-clause-held : goal.returns-clause-held
returns-clause-held c = λ second moment shown.
    let range = shown_day second shown in
    let is = date_of-is_date (day_of second) range in
    (days-holds _ _ second).1 ((of_day (day_of second) range (date_at second).year (date_at second).month (date_at second).day is).1 refl)
