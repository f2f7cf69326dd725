use Rattle.std.proofs.Common.{◌≡◌, true, length, take}
use Rattle.nm_tiers.specs.Tiers.{HasTier, docs_of, has_doc}
use Rattle.nm_tiers.proofs.tier_search.tier_of.Given as goal

-- if the document is in the tiers so far, the one that was found has it
abbrev pub invariant-tiers : goal.invariant-tiers
invariant-tiers l = record {
  found : has_doc (docs_of (take l.at l.tiers)) l.doc ≡ true → HasTier l.tiers l.doc l.found;
  end : l.at-end ≡ length l.tiers;
}
