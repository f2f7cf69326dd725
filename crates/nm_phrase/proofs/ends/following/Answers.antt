use Rattle.std.proofs.Common.{sym, ◌∙◌, arith}
use Rattle.nm_phrase.proofs.FollowLemmas.{walk_kept, walk_left}
use Rattle.nm_phrase.proofs.ends.following.Goals as goal

pub hits-preserved : goal.hits-preserved
hits-preserved g c =
    (walk_kept _ _ _ _ _ _ _ c.in-Some.hit c.hits.invariant.0 c.in-Some.ensures.hit c.drop_before-rest.ensures (sym c.first_is_before.ensures ∙ c.if-not-first_is_before.false) c.in_ok-push.ensures.ok, omega (arith, c.in-Some.ensures.steps))

pub hits-preserved-then-not-first_is_before : goal.hits-preserved-then-not-first_is_before
hits-preserved-then-not-first_is_before g c =
    (walk_left _ _ _ _ _ _ c.in-Some.hit c.hits.invariant.0 c.in-Some.ensures.hit c.drop_before-rest.ensures (sym c.first_is_before.ensures ∙ c.if-not-first_is_before.true), omega (arith, c.in-Some.ensures.steps))
