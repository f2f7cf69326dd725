use Rattle.std.proofs.Common.{◌≡◌, ◌*◌, sym, ap, subst, ◌∙◌, arith, pos, ◌-ℤ◌, ◌≤ℤ◌}
use Rattle.nm_base.specs.Limits.{min_date}
use Rattle.nm_dates.specs.Seconds.{day_of, hour_of, one_day}
use Rattle.nm_dates.proofs.AgoLemmas.{day-holds, day-long, day_of-earlier, days-ago, days-early, hour-begins, hour-holds, hour-long}
use Rattle.nm_dates.proofs.laws.a_day_ago_is_the_day_of_an_earlier_second.Goals as goal

pub returns-clause-today : goal.returns-clause-today
returns-clause-today c = λ moment. (day-holds moment, day-long (day_of moment))

pub returns-clause-yesterday : goal.returns-clause-yesterday
returns-clause-yesterday c = λ moment. ap one_day (day_of-earlier 1 moment)

pub returns-clause-days : goal.returns-clause-days
returns-clause-days c = λ n moment from. ap one_day (days-ago n moment from)

pub returns-clause-weeks : goal.returns-clause-weeks
returns-clause-weeks c = λ n moment from.
    let same : 86400 * (7 * n) ≡ 604800 * n = omega arith in
    ap one_day (days-ago (7 * n) moment (subst (λ k. min_date ≤ℤ (moment -ℤ pos k)) (sym same) from) ∙ ap (λ k. day_of (moment -ℤ pos k)) same)

pub returns-clause-early : goal.returns-clause-early
returns-clause-early c = λ n moment less. ap one_day (days-early n moment less)

pub returns-clause-hours : goal.returns-clause-hours
returns-clause-hours c = λ n moment. (hour-holds n moment, hour-long (hour_of moment -ℤ pos n))

pub returns-clause-hour : goal.returns-clause-hour
returns-clause-hour c = λ n moment. (hour_of moment, hour-begins n (hour_of moment))
