use Rattle.std.proofs.Common.{◌≡◌, sym, ap, subst, ◌∙◌, ◌++◌}
use Rattle.std.specs.List.Sorted.{IsStrictlySortedBy}
use Rattle.std.specs.Map.{keys_of}
use Rattle.std.specs.Ordering.{nat_cmp}
use Rattle.std.proofs.lemmas.List.{append-nil}
use Rattle.nm_shared.specs.Places.{merge}
use Rattle.nm_shared.proofs.PlacesLemmas.{merge_sorted}
use Rattle.nm_shared.proofs.long.merged.Goals as goal

pub of_sorted-requires : goal.of_sorted-requires
of_sorted-requires c =
    let whole : c.pairs.merged.items ≡ merge c.args.late.now c.args.early.now = sym (ap (λ rest. c.pairs.merged.items ++ rest) c.in-None.ensures.steps.0 ∙ append-nil c.pairs.merged.items) ∙ c.pairs.invariant in
    subst (λ all. IsStrictlySortedBy nat_cmp (keys_of all)) (sym whole) (merge_sorted c.args.late.now c.args.early.now c.len-2.ensures.sorted)
