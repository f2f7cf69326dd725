use Rattle.std.proofs.Common.{ℕ, List, ◌++◌, filter, ap, ◌∙◌, arith}
use Rattle.nm_segment.specs.declared.doc_words.DocWords.{DocWords}
use Rattle.nm_lookup.specs.Lookup.{numbers_having}
use Rattle.nm_lookup.proofs.LookupLemmas.{next-tier, next-walk}
use Rattle.nm_lookup.proofs.documents.find.Goals as goal

pub tiers-preserved : goal.tiers-preserved
tiers-preserved g c =
    let lives = g.C.Condition.holds c.args.living.now in
    let field = c.args.asked.now.field in
    let starts = c.args.asked.now.starts in
    let words = c.args.asked.now.words.now in
    record {
      docs =
          next-tier lives field starts words c.args.tiers.now c.tiers.tier-index c.tier-item.result c.tiers.docs c.push_living.new.docs c.in_ok-found.found c.tiers-test.true c.tier-item.is c.tiers.invariant.docs
          (c.in_ok-found.ensures.found ∙ ap (λ (docs : List DocWords). numbers_having field starts words docs) c.get.ensures)
          (c.in_ok-push_living.ensures ∙ ap (λ (found : List ℕ). c.tiers.docs ++ filter lives found) c.as_slice.ensures);
      more = omega (arith, c.tiers.invariant.more, c.in_ok-found.ensures.steps);
      steps = λ word one asked whole alone.
          next-walk c.args.tiers.now c.tiers.tier-index c.tier-item.result c.get.result.now word one c.args.steps.now c.tiers.steps c.in_segment.new.steps c.tiers-test.true c.tier-item.is c.get.ensures
          (c.tiers.invariant.steps word one asked whole alone) (c.in_ok-found.ensures.one_word word one asked whole alone);
    }
