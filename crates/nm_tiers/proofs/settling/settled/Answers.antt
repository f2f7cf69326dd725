use Rattle.std.proofs.Common.{List, reverse, subst, arith}
use Rattle.std.specs.List.{AllByRecursion}
use Rattle.nm_tiers.specs.Tiers.{IsCounted, docs_of}
use Rattle.nm_tiers.specs.declared.tier.Tier.{Tier}
use Rattle.nm_tiers.proofs.TierLemmas.{Rising, added-docs, left-docs, left-rising, left-split, passed-docs, rising-without}
use Rattle.nm_tiers.proofs.settling.settled.Goals as goal

pub add_older-requires-clause-rising : goal.add_older-requires-clause-rising
add_older-requires-clause-rising g c = left-rising c.tiers.rest c.pop.new.self c.in-Some.tier (docs_of (reverse c.tiers.newer)) c.in-Some.ensures c.tiers.invariant.rising

pub tiers-preserved-in-Continue-1 : goal.tiers-preserved-in-Continue-1
tiers-preserved-in-Continue-1 g c =
    let lives = g.C.Condition.holds c.args.living.now in
    let old : List Tier = reverse c.tiers.newer in
    let new : List Tier = reverse c.add_older.new.newer in
    let added = c.in_ok-add_older.ensures.added in
    record {
      docs = added-docs lives c.tiers.rest c.pop.new.self c.in-Some.tier old _ c.in-Some.ensures c.tiers.invariant.docs new added;
      rising = added.rising (docs_of c.pop.new.self) (subst Rising (left-docs c.tiers.rest c.pop.new.self c.in-Some.tier (docs_of old) c.in-Some.ensures) c.tiers.invariant.rising);
      left = (left-split (IsCounted lives) c.pop.new.self c.in-Some.tier (subst (AllByRecursion (IsCounted lives)) c.in-Some.ensures c.tiers.invariant.left)).0;
      counted = added.counted;
      settled = added.settled;
    }

pub tiers-preserved : goal.tiers-preserved
tiers-preserved g c =
    let lives = g.C.Condition.holds c.args.living.now in
    let old : List Tier = reverse c.tiers.newer in
    let left = left-split (IsCounted lives) c.pop.new.self c.in-Some.tier (subst (AllByRecursion (IsCounted lives)) c.in-Some.ensures c.tiers.invariant.left) in
    record {
      docs = passed-docs lives c.tiers.rest c.pop.new.self c.in-Some.tier old _ c.in-Some.ensures c.tiers.invariant.docs left.1 (omega (arith, c.if-tier-gt0.false));
      rising = rising-without (docs_of c.pop.new.self) c.in-Some.tier.segment (docs_of old) (subst Rising (left-docs c.tiers.rest c.pop.new.self c.in-Some.tier (docs_of old) c.in-Some.ensures) c.tiers.invariant.rising);
      left = left.0;
      counted = c.tiers.invariant.counted;
      settled = c.tiers.invariant.settled;
    }
