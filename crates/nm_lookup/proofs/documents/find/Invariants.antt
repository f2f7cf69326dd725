use Rattle.std.proofs.Common.{◌≡◌, ◌≤◌, ℕ, List, [], ◌∷◌, Some, false, take}
use Rattle.nm_base.specs.declared.facts.Field.{Field}
use Rattle.nm_lookup.specs.Lookup.{WalksSteps, living_having}
use Rattle.nm_tiers.specs.Tiers.{docs_of}
use Rattle.nm_lookup.proofs.documents.find.Given as goal

-- those of the tiers so far
abbrev pub invariant-tiers : goal.invariant-tiers
invariant-tiers g l = record {
  docs : l.docs ≡ living_having (g.C.Condition.holds l.living) l.asked.field l.asked.starts l.asked.words.now (docs_of (take l.tier-index l.tiers));
  more : l.initial.steps ≤ l.steps;
  steps : (word : List ℕ) (field : Field) → l.asked.field ≡ Some field → l.asked.starts ≡ false → l.asked.words.now ≡ word ∷ [] → WalksSteps (take l.tier-index l.tiers) word field l.initial.steps l.steps;
}
