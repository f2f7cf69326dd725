use Rattle.std.proofs.Common.{arith, ap, negsuc, pos, refl, ◌∙◌}
use Rattle.nm_dates.specs.Calendar.{day_number}
use Rattle.nm_dates.specs.Seconds.{days}
use Rattle.nm_dates.proofs.MonthLemmas.{february-1900, february-2024, last-day}
use Rattle.nm_dates.proofs.laws.february_has_its_days.Goals as goal

pub returns-clause-leap : goal.returns-clause-leap
returns-clause-leap c = λ moment.
    let last = last-day 2024 2 29 (pos 19754) (pos 19782) february-2024 (omega arith) refl in
    ap (λ first. days first (day_number 2024 2 29)) february-2024 ∙ ap (days (pos 19754)) last

pub returns-clause-century : goal.returns-clause-century
returns-clause-century c = λ moment.
    let last = last-day 1900 2 28 (negsuc 25535) (negsuc 25508) february-1900 (omega arith) refl in
    ap (λ first. days first (day_number 1900 2 28)) february-1900 ∙ ap (days (negsuc 25535)) last
