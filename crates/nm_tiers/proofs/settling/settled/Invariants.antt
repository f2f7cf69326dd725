use Rattle.std.proofs.Common.{◌≡◌, ◌++◌, length, reverse}
use Rattle.std.specs.List.{AllByRecursion}
use Rattle.nm_tiers.specs.Tiers.{AreSettled, IsCounted, docs_of, living_docs, sizes_of}
use Rattle.nm_tiers.proofs.TierLemmas.{Rising}
use Rattle.nm_tiers.proofs.settling.settled.Given as goal

-- those that are left and those that were settled have the documents that live, in order
abbrev pub invariant-tiers : goal.invariant-tiers
invariant-tiers g l = record {
  docs : living_docs (g.C.Condition.holds l.living) (docs_of l.rest ++ docs_of (reverse l.newer)) ≡ living_docs (g.C.Condition.holds l.living) (docs_of l.fn.tiers);
  rising : Rising (docs_of l.rest ++ docs_of (reverse l.newer));
  left : AllByRecursion (IsCounted (g.C.Condition.holds l.living)) l.rest;
  counted : AllByRecursion (IsCounted (g.C.Condition.holds l.living)) (reverse l.newer);
  settled : AreSettled (sizes_of (reverse l.newer));
}

abbrev pub decreases-tiers : goal.decreases-tiers
decreases-tiers g l = length l.rest
