use Rattle.std.proofs.Common.{arith}
use Rattle.jiff_core.proofs.SignedLemmas.{signed_arith}
use Rattle.nm_dates.proofs.CalendarLemmas.{is_day_number}
use Rattle.nm_dates.proofs.days.number_of.Goals as goal

pub returns-clause-range : goal.returns-clause-range
returns-clause-range c = λ h.
    let inside = is_day_number c.args.date h in
    (omega (arith, signed_arith, inside.0, inside.1, c.from.ensures, c.to_unix_epoch_day-day.ensures.value), omega (arith, signed_arith, inside.0, inside.1, c.from.ensures, c.to_unix_epoch_day-day.ensures.value))
