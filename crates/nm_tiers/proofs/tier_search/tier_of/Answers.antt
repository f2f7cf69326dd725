use Rattle.std.proofs.Common.{sym, subst, ◌∙◌}
use Rattle.nm_tiers.specs.Tiers.{HasTier}
use Rattle.nm_tiers.proofs.SearchLemmas.{found-before, found-here}
use Rattle.nm_tiers.proofs.tier_search.tier_of.Goals as goal
use Rattle.nm_tiers.proofs.tier_search.tier_of.Goals.{then-begins_by, else-begins_by}

pub tiers-preserved : goal.tiers-preserved
tiers-preserved c =
    let tiers = c.args.tiers.now in
    elim c.if-begins_by.branch [
      | then-begins_by w ↦
          record {
            found = λ has. subst (HasTier tiers c.args.doc) (sym w.found-is) (found-here tiers c.args.doc c.tiers.at c.index-tiers-at.result c.requires.rising c.tiers-test.true c.index-tiers-at.is (sym c.begins_by.ensures ∙ w.if-begins_by.true) has);
            end = c.tiers.invariant.end;
          }
      | else-begins_by w ↦
          record {
            found = λ has.
                subst (HasTier tiers c.args.doc) (sym w.found-is)
                (found-before tiers c.args.doc c.tiers.at c.index-tiers-at.result c.requires.rising c.tiers-test.true c.index-tiers-at.is c.tiers.found (sym c.begins_by.ensures ∙ w.if-begins_by.false) c.tiers.invariant.found has);
            end = c.tiers.invariant.end;
          }
    ]
