-- Tags that are set one by one in their order. For the proof of `written_tags_are_restored`.
use Rattle.std.proofs.Common.{◌≡◌, ℕ, List, [], ◌∷◌, ◌++◌, map, fold, refl, sym, ap, ◌∙◌, append-nil, append_assoc, subst}
use Rattle.std.specs.List.{AllByRecursion}
use Rattle.std.specs.List.Sorted.{IsStrictlySortedBy}
use Rattle.std.specs.Cmp.Lexicographic.{nat_list_cmp_total, slice_cmp}
use Rattle.std.specs.Ordering.{match_ordering, nat_cmp, ordering_reverse}
use Rattle.std.specs.declared.cmp.Ordering.TheVariants.{Less}
use Rattle.nm_base.specs.Order.{IsSorted}
use Rattle.nm_base.specs.Tags.{with_tag}
use Rattle.nm_tags.specs.Operations.{after_op, after_ops}
use Rattle.nm_dump.specs.Tags.{set_tag}

-- a text above all others comes last
above_last : (front : List (List ℕ)) (key : List ℕ) → AllByRecursion (λ y. slice_cmp nat_cmp y key ≡ Less) front → with_tag front key ≡ front ++ key ∷ []
above_last [] key h = refl
above_last (x ∷ front) key h =
    ap (λ o. match_ordering o (key ∷ x ∷ front) (x ∷ front) (x ∷ with_tag front key)) (nat_list_cmp_total.antisymm key x ∙ ap ordering_reverse h.0)
    ∙ ap (λ keys. x ∷ keys) (above_last front key h.1)

at_middle : (y key : List ℕ) (front rest : List (List ℕ)) → AllByRecursion (λ z. slice_cmp nat_cmp y z ≡ Less) (front ++ key ∷ rest) → slice_cmp nat_cmp y key ≡ Less
at_middle y key [] rest h = h.0
at_middle y key (x ∷ front) rest h = at_middle y key front rest h.1

-- in order, all before a text are below it
below_middle : (front : List (List ℕ)) (key : List ℕ) (rest : List (List ℕ)) → IsSorted (front ++ key ∷ rest) → AllByRecursion (λ y. slice_cmp nat_cmp y key ≡ Less) front
unfolding IsStrictlySortedBy
below_middle [] key rest s = tt
below_middle (x ∷ front) key rest s = (at_middle x key front rest s.0, below_middle front key rest s.1)

set_after : (front rest : List (List ℕ)) → IsSorted (front ++ rest) → fold after_op front (map set_tag rest) ≡ front ++ rest
set_after front [] s = sym (append-nil front)
set_after front (key ∷ rest) s =
    ap (λ tags. fold after_op tags (map set_tag rest)) (above_last front key (below_middle front key rest s))
    ∙ (set_after (front ++ key ∷ []) rest (subst IsSorted (sym (append_assoc front (key ∷ []) rest)) s) ∙ append_assoc front (key ∷ []) rest)

-- tags that are set from none on are there
pub restored : (tags : List (List ℕ)) → IsSorted tags → after_ops [] (map set_tag tags) ≡ tags
restored tags s = set_after [] tags s
