use Rattle.std.proofs.Common.{ℕ, List, subst, sym}
use Rattle.std.specs.List.Sorted.{IsPermutation}
use Rattle.nm_tables.specs.Sorted.{sorted_pairs}
use Rattle.nm_tables.proofs.SortedLemmas.{sorted_permuted}
use Rattle.nm_tables.proofs.message_tags.MessageTags.iter.Goals as goal

pub returns : goal.returns
returns c =
    subst (λ (tags : List (List ℕ × List (List ℕ))). IsPermutation tags c.of.result) c.self.view_is
    (subst (λ (walk : List (List ℕ × List (List ℕ))). IsPermutation (sorted_pairs c.self.inside.map) walk) (sym c.of.ensures.tags) (sorted_permuted c.self.inside.map c.of.ensures.once))
