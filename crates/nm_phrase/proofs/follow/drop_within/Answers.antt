use Rattle.std.proofs.Common.{◌+◌, ◌/◌, refl, sym, ◌∙◌, arith}
use Rattle.nm_phrase.proofs.LeapLemmas.{leaped, limit_left, rest_rises}
use Rattle.nm_phrase.proofs.follow.drop_within.Goals as goal

pub halves-preserved-then-is_before_at : goal.halves-preserved-then-is_before_at
halves-preserved-then-is_before_at c = (
  leaped c.args.hit c.halves.rest.now _ (c.halves.width / 2) (c.halves.width / 2 + 1) c.split_at.ensures.back refl c.halves.invariant.1 (sym c.is_before_at.ensures.before ∙ c.if-is_before_at.true) ∙ c.halves.invariant.0,
  rest_rises (c.halves.width / 2 + 1) c.halves.rest.now _ c.split_at.ensures.back c.halves.invariant.1,
  limit_left c.args.hit c.halves.rest.now _ (c.halves.width / 2 + 1) _ c.halves.width c.split_at.ensures.back (omega arith) c.halves.invariant.2,
)
