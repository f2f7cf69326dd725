use Rattle.std.proofs.Common.{◌-◌, ◌<◌, sym, ◌∙◌, arith}
use Rattle.nm_phrase.proofs.LeapLemmas.{leaped, rest_rises}
use Rattle.nm_phrase.proofs.follow.drop_before.Goals as goal

pub leaps-preserved : goal.leaps-preserved
leaps-preserved c =
    let some : 0 < c.leaps.width = c.leaps.invariant.2 in (
      leaped c.args.hit c.leaps.rest.now _ (c.leaps.width - 1) c.leaps.width c.split_at.ensures.back (omega (arith, some)) c.leaps.invariant.1 (sym c.is_before_at.ensures.before ∙ c.leaps-test.true) ∙ c.leaps.invariant.0,
      rest_rises c.leaps.width c.leaps.rest.now _ c.split_at.ensures.back c.leaps.invariant.1,
      omega (arith, some, c.saturating_add-width.ensures),
    )
