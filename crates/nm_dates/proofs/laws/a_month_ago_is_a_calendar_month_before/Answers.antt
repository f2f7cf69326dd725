use Rattle.std.proofs.Common.{◌*◌, ap, arith}
use Rattle.nm_dates.specs.Seconds.{date_at, one_day}
use Rattle.nm_dates.proofs.AgoLemmas.{month_at, month_is, months_before-early, months_before-is, year_is}
use Rattle.nm_dates.proofs.laws.a_month_ago_is_a_calendar_month_before.Goals as goal

pub returns-clause-months : goal.returns-clause-months
returns-clause-months c = λ n year month moment shown is far.
    let parts = month_is year month is in
    ap one_day (months_before-is (date_at moment) n year month (month_at moment shown).0 parts.0 parts.1 parts.2 far)

pub returns-clause-years : goal.returns-clause-years
returns-clause-years c = λ n year moment shown is far.
    let month = month_at moment shown in
    ap one_day (months_before-is (date_at moment) (12 * n) year (date_at moment).month month.0 (year_is year is) month.0 month.1 (omega (arith, far)))

pub returns-clause-early : goal.returns-clause-early
returns-clause-early c = λ n moment shown few. ap one_day (months_before-early (date_at moment) n (month_at moment shown).0 few)
