-- Which tags a set has after one operation and after many.
-- For the proofs of `a_tag_that_no_operation_names_stays`, `tags_stay_in_order` and `the_last_operation_on_a_tag_decides`.
use Rattle.std.proofs.Common.{◌≡◌, ℕ, Bool, true, false, not, ◌||◌, ◌&&◌, List, [], ◌∷◌, ◌++◌, refl, sym, ap, ◌∙◌, cond, if◌then◌else◌}
use Rattle.std.specs.List.{AllByRecursion}
use Rattle.std.specs.Cmp.Lexicographic.{nat_list_cmp_total, nat_list_eq_equiv, slice_cmp, texts_ties}
use Rattle.std.specs.Ordering.{is_eq, match_ordering, nat_cmp, ordering_reverse}
use Rattle.std.specs.declared.cmp.Ordering.{Ordering}
use Rattle.std.specs.declared.cmp.Ordering.TheVariants.{Less, Equal, Greater}
use Rattle.std.specs.List.Sorted.{IsStrictlySortedBy}
use Rattle.std.proofs.lemmas.Map.Keys.{sorted_head, sorted_tail}
use Rattle.std.proofs.Math.Bool.{and-false, or_assoc, or_comm, or_self_left}
use Rattle.std.proofs.lemmas.Bool.{or_parts}
use Rattle.nm_base.specs.Order.{IsSorted, same_text}
use Rattle.nm_base.specs.Tags.{has_tag, with_tag, without_tag}
use Rattle.nm_base.specs.declared.tag_op.TagOp.{TagOp}
use Rattle.nm_tags.specs.Operations.{after_op, after_ops, is_named}

-- two texts are the same exactly where neither is below the other
same : (a b : List ℕ) → same_text a b ≡ is_eq (slice_cmp nat_cmp a b)
same = texts_ties

-- who is the same as one of two that are the same is the same as the other
alike : (other key x : List ℕ) → same_text key x ≡ true → same_text other key ≡ same_text other x
alike other key x e = nat_list_eq_equiv.symm other key ∙ (nat_list_eq_equiv.congr key x other e ∙ nat_list_eq_equiv.symm x other)

-- a text that is below all of a list is none of them
absent : (key : List ℕ) (keys : List (List ℕ)) → AllByRecursion (λ y. slice_cmp nat_cmp key y ≡ Less) keys → has_tag keys key ≡ false
absent key [] h = refl
absent key (x ∷ xs) h = ap (λ b. b || has_tag xs key) (same key x ∙ ap is_eq h.0) ∙ absent key xs h.1

-- the same text is in a list as often
in_both : (other key : List ℕ) (keys : List (List ℕ)) → same_text other key ≡ true → has_tag keys other ≡ has_tag keys key
in_both other key [] e = refl
in_both other key (x ∷ xs) e =
    ap (λ b. b || has_tag xs other) (nat_list_eq_equiv.congr other key x e) ∙ ap (λ b. same_text key x || b) (in_both other key xs e)

or_swap : (a b c : Bool) → (a || (b || c)) ≡ (b || (a || c))
or_swap a b c = sym (or_assoc a b c) ∙ (ap (λ t. t || c) (or_comm a b) ∙ or_assoc b a c)

module _ (key other x : List ℕ) (xs : List (List ℕ)) where
  -- the removal of a tag that comes first
  first_removed : (is_same : Bool) → same_text other key ≡ is_same → same_text key x ≡ true → IsSorted (x ∷ xs)
      → has_tag xs other ≡ (not is_same && (same_text other x || has_tag xs other))
  first_removed true o e s = in_both other x xs (sym (alike other key x e) ∙ o) ∙ absent x xs (sorted_head (slice_cmp nat_cmp) x xs s)
  first_removed false o e s = ap (λ b. b || has_tag xs other) (sym o ∙ alike other key x e)

  -- the removal of one that comes later
  later_removed : (is_same : Bool) (has : Bool) → same_text other key ≡ is_same → same_text key x ≡ false → has ≡ (not is_same && has_tag xs other)
      → (same_text other x || has) ≡ (not is_same && (same_text other x || has_tag xs other))
  later_removed true has o e h = ap (λ b. b || has) (nat_list_eq_equiv.congr other key x o ∙ e) ∙ h
  later_removed false has o e h = ap (λ b. same_text other x || b) h

  removed_at : (rest : List (List ℕ)) (test : Bool) → is_eq (slice_cmp nat_cmp key x) ≡ test → IsSorted (x ∷ xs) → has_tag rest other ≡ (not (same_text other key) && has_tag xs other)
      → has_tag (cond test xs (x ∷ rest)) other ≡ (not (same_text other key) && (same_text other x || has_tag xs other))
  removed_at rest true e s h = first_removed (same_text other key) refl (same key x ∙ e) s
  removed_at rest false e s h = later_removed (same_text other key) (has_tag rest other) refl (same key x ∙ e) h

  set_at : (rest : List (List ℕ)) (o : Ordering) → slice_cmp nat_cmp key x ≡ o → has_tag rest other ≡ (same_text other key || has_tag xs other)
      → has_tag (match_ordering o (key ∷ x ∷ xs) (x ∷ xs) (x ∷ rest)) other ≡ (same_text other key || (same_text other x || has_tag xs other))
  set_at rest Less e h = refl
  set_at rest Equal e h =
      sym (or_self_left (same_text other x) (has_tag xs other)) ∙ ap (λ b. b || (same_text other x || has_tag xs other)) (sym (alike other key x (same key x ∙ ap is_eq e)))
  set_at rest Greater e h = ap (λ b. same_text other x || b) h ∙ or_swap (same_text other x) (same_text other key) (has_tag xs other)

-- a tag that is taken off is not there, and every other tag is as it was
has-without : (tags : List (List ℕ)) (tag other : List ℕ) → IsSorted tags → has_tag (without_tag tags tag) other ≡ (not (same_text other tag) && has_tag tags other)
has-without [] tag other s = sym (and-false (not (same_text other tag)))
has-without (x ∷ xs) tag other s =
    removed_at tag other x xs (without_tag xs tag) (is_eq (slice_cmp nat_cmp tag x)) refl s (has-without xs tag other (sorted_tail (slice_cmp nat_cmp) x xs s))

-- a tag that is set is there, and every other tag is as it was
has-with : (tags : List (List ℕ)) (tag other : List ℕ) → has_tag (with_tag tags tag) other ≡ (same_text other tag || has_tag tags other)
has-with [] tag other = refl
has-with (x ∷ xs) tag other = set_at tag other x xs (with_tag xs tag) (slice_cmp nat_cmp tag x) refl (has-with xs tag other)

module _ (key x : List ℕ) where
  below_removed : (p : List ℕ) (test : Bool) (xs rest : List (List ℕ)) → AllByRecursion (λ y. slice_cmp nat_cmp p y ≡ Less) (x ∷ xs) → AllByRecursion (λ y. slice_cmp nat_cmp p y ≡ Less) rest
      → AllByRecursion (λ y. slice_cmp nat_cmp p y ≡ Less) (cond test xs (x ∷ rest))
  below_removed p true xs rest h k = h.1
  below_removed p false xs rest h k = (h.0, k)

below-without : (p key : List ℕ) (keys : List (List ℕ)) → AllByRecursion (λ y. slice_cmp nat_cmp p y ≡ Less) keys → AllByRecursion (λ y. slice_cmp nat_cmp p y ≡ Less) (without_tag keys key)
below-without p key [] h = tt
below-without p key (x ∷ xs) h = below_removed key x p (is_eq (slice_cmp nat_cmp key x)) xs (without_tag xs key) h (below-without p key xs h.1)

below_set : (p key x : List ℕ) (o : Ordering) (xs rest : List (List ℕ)) → slice_cmp nat_cmp p key ≡ Less → AllByRecursion (λ y. slice_cmp nat_cmp p y ≡ Less) (x ∷ xs)
    → AllByRecursion (λ y. slice_cmp nat_cmp p y ≡ Less) rest → AllByRecursion (λ y. slice_cmp nat_cmp p y ≡ Less) (match_ordering o (key ∷ x ∷ xs) (x ∷ xs) (x ∷ rest))
below_set p key x Less xs rest e h k = (e, h)
below_set p key x Equal xs rest e h k = h
below_set p key x Greater xs rest e h k = (h.0, k)

below-with : (p key : List ℕ) (keys : List (List ℕ)) → slice_cmp nat_cmp p key ≡ Less → AllByRecursion (λ y. slice_cmp nat_cmp p y ≡ Less) keys
    → AllByRecursion (λ y. slice_cmp nat_cmp p y ≡ Less) (with_tag keys key)
below-with p key [] e h = (e, tt)
below-with p key (x ∷ xs) e h = below_set p key x (slice_cmp nat_cmp key x) xs (with_tag xs key) e h (below-with p key xs e h.1)

-- who is below the first is below all
below_first : (key x : List ℕ) (xs : List (List ℕ)) → slice_cmp nat_cmp key x ≡ Less → AllByRecursion (λ y. slice_cmp nat_cmp x y ≡ Less) xs → AllByRecursion (λ y. slice_cmp nat_cmp key y ≡ Less) xs
below_first key x [] e h = tt
below_first key x (y ∷ ys) e h = (nat_list_cmp_total.trans key x y e h.0, below_first key x ys e h.1)

sorted_removed : (x : List ℕ) (test : Bool) (xs rest : List (List ℕ)) → IsSorted xs → AllByRecursion (λ y. slice_cmp nat_cmp x y ≡ Less) rest → IsSorted rest → IsSorted (cond test xs (x ∷ rest))
unfolding IsStrictlySortedBy
sorted_removed x true xs rest s h k = s
sorted_removed x false xs rest s h k = (h, k)

sorted-without : (tags : List (List ℕ)) (tag : List ℕ) → IsSorted tags → IsSorted (without_tag tags tag)
unfolding IsStrictlySortedBy
sorted-without [] tag s = tt
sorted-without (x ∷ xs) tag s = sorted_removed x (is_eq (slice_cmp nat_cmp tag x)) xs (without_tag xs tag) s.1 (below-without x tag xs s.0) (sorted-without xs tag s.1)

sorted_set : (key x : List ℕ) (o : Ordering) (xs rest : List (List ℕ)) → slice_cmp nat_cmp key x ≡ o → IsSorted (x ∷ xs)
    → (slice_cmp nat_cmp x key ≡ Less → AllByRecursion (λ y. slice_cmp nat_cmp x y ≡ Less) rest) → IsSorted rest → IsSorted (match_ordering o (key ∷ x ∷ xs) (x ∷ xs) (x ∷ rest))
unfolding IsStrictlySortedBy
sorted_set key x Less xs rest e s h k = ((e, below_first key x xs e s.0), s)
sorted_set key x Equal xs rest e s h k = s
sorted_set key x Greater xs rest e s h k = (h (nat_list_cmp_total.antisymm x key ∙ ap ordering_reverse e), k)

sorted-with : (tags : List (List ℕ)) (tag : List ℕ) → IsSorted tags → IsSorted (with_tag tags tag)
unfolding IsStrictlySortedBy
sorted-with [] tag s = (tt, tt)
sorted-with (x ∷ xs) tag s = sorted_set tag x (slice_cmp nat_cmp tag x) xs (with_tag xs tag) refl s (λ e. below-with x tag xs e s.0) (sorted-with xs tag s.1)

sorted_by : (tags : List (List ℕ)) (tag : List ℕ) (add : Bool) → IsSorted tags → IsSorted (after_op tags (record { add = add; tag = tag }))
sorted_by tags tag true s = sorted-with tags tag s
sorted_by tags tag false s = sorted-without tags tag s

pub sorted-after : (tags : List (List ℕ)) (ops : List TagOp) → IsSorted tags → IsSorted (after_ops tags ops)
sorted-after tags [] s = s
sorted-after tags (op ∷ ops) s = sorted-after (after_op tags op) ops (sorted_by tags op.tag op.add s)

or_chosen : (a b : Bool) → (a || b) ≡ (if a then true else b)
or_chosen true b = refl
or_chosen false b = refl

and_chosen : (a b : Bool) → (not a && b) ≡ (if a then false else b)
and_chosen true b = refl
and_chosen false b = refl

has_by : (tags : List (List ℕ)) (tag other : List ℕ) (add : Bool) → IsSorted tags
    → has_tag (after_op tags (record { add = add; tag = tag })) other ≡ (if same_text other tag then add else has_tag tags other)
has_by tags tag other true s = has-with tags tag other ∙ or_chosen (same_text other tag) (has_tag tags other)
has_by tags tag other false s = has-without tags tag other s ∙ and_chosen (same_text other tag) (has_tag tags other)

-- a tag that no operation names is there where it was
pub unnamed_stays : (tags : List (List ℕ)) (ops : List TagOp) (tag : List ℕ) → IsSorted tags → is_named tag ops ≡ false → has_tag (after_ops tags ops) tag ≡ has_tag tags tag
unnamed_stays tags [] tag s h = refl
unnamed_stays tags (op ∷ ops) tag s h =
    let apart = or_parts (same_text tag op.tag) (is_named tag ops) h in
    unnamed_stays (after_op tags op) ops tag (sorted_by tags op.tag op.add s) apart.1
    ∙ (has_by tags op.tag tag op.add s ∙ ap (λ b. if b then op.add else has_tag tags tag) apart.0)

after-append : (tags : List (List ℕ)) (xs ys : List TagOp) → after_ops tags (xs ++ ys) ≡ after_ops (after_ops tags xs) ys
after-append tags [] ys = refl
after-append tags (x ∷ xs) ys = after-append (after_op tags x) xs ys

-- the last operation that names a tag decides
pub last_decides : (tags : List (List ℕ)) (before after : List TagOp) (op : TagOp) → IsSorted tags → is_named op.tag after ≡ false
    → has_tag (after_ops tags (before ++ op ∷ after)) op.tag ≡ op.add
last_decides tags before after op s h =
    let mid : List (List ℕ) = after_ops tags before in
    let sorted_mid : IsSorted mid = sorted-after tags before s in
    ap (λ ts. has_tag ts op.tag) (after-append tags before (op ∷ after))
    ∙ (unnamed_stays (after_op mid op) after op.tag (sorted_by mid op.tag op.add sorted_mid) h
    ∙ (has_by mid op.tag op.tag op.add sorted_mid ∙ ap (λ b. if b then op.add else has_tag mid op.tag) (nat_list_eq_equiv.refl op.tag)))
