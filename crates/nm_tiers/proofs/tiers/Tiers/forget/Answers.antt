use Rattle.std.proofs.Common.{ap, sym, subst, ◌∙◌}
use Rattle.std.specs.List.{AllByRecursion}
use Rattle.nm_tiers.specs.Tiers.{IsCounted, docs_of}
use Rattle.nm_tiers.proofs.ForgetLemmas.{forgot-counted, forgot-docs, forgot-rises}
use Rattle.nm_tiers.proofs.tiers.Tiers.forget.Goals as goal

pub invariant_of-self : goal.invariant_of-self
invariant_of-self c = forgot-rises c.self.inside.list.items c.as_slice.result.now c.as_slice.ensures.value c.args.doc c.tier_of-at.result c.tier_of-at.ensures c.index.result.now c.index_mut.result.now c.index.ensures c.index_mut.ensures.value c.saturating_sub-live.result c.self.invariant

pub returns-clause-docs : goal.returns-clause-docs
returns-clause-docs c =
    forgot-docs c.self.inside.list.items c.as_slice.result.now c.as_slice.ensures.value c.args.doc c.tier_of-at.result c.tier_of-at.ensures c.index.result.now c.index_mut.result.now c.index.ensures c.index_mut.ensures.value c.saturating_sub-live.result
    ∙ ap docs_of c.self.view_is

pub returns-clause-counted : goal.returns-clause-counted
returns-clause-counted c = λ lives is_live all.
    forgot-counted c.self.inside.list.items c.as_slice.result.now c.as_slice.ensures.value c.args.doc c.tier_of-at.result c.tier_of-at.ensures c.index.result.now c.index_mut.result.now c.index.ensures c.index_mut.ensures.value c.saturating_sub-live.result
    c.saturating_sub-live.ensures c.self.invariant lives is_live (subst (AllByRecursion (IsCounted lives)) (sym c.self.view_is) all)
