use Rattle.std.proofs.Common.{◌≡◌, sym, ap, ◌∙◌, subst, ◌≤ℤ◌, FitsSigned, w64}
use Rattle.std.specs.Prelude.{unsigned_abs}
use Rattle.std.proofs.lemmas.Int.{to_z-of_z}
use Rattle.jiff_core.specs.Date.{epoch_day}
use Rattle.nm_dates.specs.Calendar.{date_of, first_day}
use Rattle.nm_dates.proofs.CalendarLemmas.{date_of-epoch_day, epoch_day-is_date, kept_year}
use Rattle.nm_dates.proofs.days.date_of.Goals as goal

pub returns-clause-value : goal.returns-clause-value
returns-clause-value c =
    let fits : FitsSigned w64 c.args.day = c.ranges.day in
    let same : epoch_day c.date_at-date.result ≡ c.args.day = simp to_z-of_z at c.date_at-date.ensures in
    let year : c.unsigned_abs.result ≡ unsigned_abs c.date_at-date.result.year = c.unsigned_abs.ensures.value ∙ ap unsigned_abs (kept_year c.date_at-date.result) in
    rw year (sym (ap date_of (sym same) ∙ date_of-epoch_day c.date_at-date.result (subst (λ day. first_day ≤ℤ day) (sym same) c.requires.0)))

pub returns-clause-date : goal.returns-clause-date
returns-clause-date c =
    let fits : FitsSigned w64 c.args.day = c.ranges.day in
    let same : epoch_day c.date_at-date.result ≡ c.args.day = simp to_z-of_z at c.date_at-date.ensures in
    let year : c.unsigned_abs.result ≡ unsigned_abs c.date_at-date.result.year = c.unsigned_abs.ensures.value ∙ ap unsigned_abs (kept_year c.date_at-date.result) in
    rw year (epoch_day-is_date c.date_at-date.result (subst (λ day. first_day ≤ℤ day) (sym same) c.requires.0))
