use Rattle.nm_tiers.proofs.TierLemmas.{ok-added, with-next}
use Rattle.nm_tiers.proofs.settling.add_older.Goals as goal

pub merged-requires : goal.merged-requires
merged-requires g c = with-next c.args.tier.segment c.in-Some.next c.args.newer.now c.pop.new.self c.in-Some.ensures c.requires.rising

pub returns-in_ok-merged-in-Some : goal.returns-in_ok-merged-in-Some
returns-in_ok-merged-in-Some g c =
    record {
      added = ok-added (g.C.Condition.holds c.args.living.now) c.args.tier c.in-Some.next c.in_ok-merged-in-Some.merged c.args.newer.now c.pop.new.self _ _ c.in-Some.ensures c.requires.some c.requires.counted c.requires.all_counted c.requires.settled
          c.in_ok-merged-in-Some.ensures.docs c.in_ok-merged-in-Some.ensures.count c.push-then-is_crowded.ensures.ok;
    }
