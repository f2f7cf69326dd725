-- Two maps read as one: what comes first, and what is found.
-- For the proofs of `Merge::take_first`, `Older::settle`, `Older::take_in` and others.
use Rattle.std.proofs.Common.{◌≡◌, refl, sym, ap, subst, ◌∙◌, cond, ℕ, List, [], ◌∷◌, ◌++◌, drop, Bor, append_assoc}
use Rattle.std.specs.declared.cmp.Ordering.{Ordering}
use Rattle.std.specs.declared.cmp.Ordering.TheVariants.{Less, Equal, Greater}
use Rattle.std.specs.BTreeMap.{insert_entry, is_at}
use Rattle.std.specs.List.{AllByRecursion}
use Rattle.std.specs.List.Sorted.{IsStrictlySortedBy}
use Rattle.std.specs.Map.{keys_of}
use Rattle.std.specs.Ordering.{is_eq, nat_cmp, ordering_reverse}
use Rattle.std.specs.Map.Iter.{TakesFirst, deref}
use Rattle.std.specs.Prelude.{Option, Some, None, slice_get}
use Rattle.std.proofs.lemmas.Cmp.{nat_cmp_total}
use Rattle.std.proofs.lemmas.Map.Lookups.{exact_unsigned}
use Rattle.std.proofs.lemmas.Option.{same_Some, none-some}
use Rattle.nm_shared.specs.Hashed.{at}
use Rattle.nm_shared.specs.Places.{merge}
use Rattle.nm_shared.specs.Spot.{AllAbove}
use Rattle.nm_shared.proofs.EntryLemmas.{insert_entry-above, insert_entry-equal, insert_entry-below, lookup_inserted, sorted_insert, above_sorted}
use Rattle.nm_shared.proofs.HashedLemmas.{lookup_both, or_else, rest_sorted}

-- in order both together
pub merge_sorted : (late early : List (ℕ × ℕ)) → IsStrictlySortedBy nat_cmp (keys_of early) → IsStrictlySortedBy nat_cmp (keys_of (merge late early))
merge_sorted [] early sorted = sorted
merge_sorted (pair ∷ late) early sorted = sorted_insert nat_cmp_total (merge late early) pair.0 pair.1 (merge_sorted late early sorted)

-- a look-up finds what it does among the late ones and then the others
pub merge_at : (hash : ℕ) (late early : List (ℕ × ℕ)) → at hash (merge late early) ≡ at hash (late ++ early)
merge_at hash [] early = refl
merge_at hash (pair ∷ late) early =
    lookup_inserted nat_cmp_total pair.0 hash (merge late early) pair.1 ∙ ap (λ rest. cond (is_eq (nat_cmp hash pair.0)) (Some pair.1) rest) (merge_at hash late early)

-- so it does where others follow
pub merged_first : (hash : ℕ) (late middle early : List (ℕ × ℕ)) → at hash (merge late middle ++ early) ≡ at hash (late ++ (middle ++ early))
merged_first hash late middle early =
    lookup_both (is_at (nat_cmp hash)) (merge late middle) early
    ∙ ap (λ first. or_else first (at hash early)) (merge_at hash late middle)
    ∙ sym (lookup_both (is_at (nat_cmp hash)) (late ++ middle) early)
    ∙ ap (at hash) (append_assoc late middle early)

-- ---- what comes first

above_keys : (key : ℕ) (pairs : List (ℕ × ℕ)) → AllByRecursion (λ other. nat_cmp key other ≡ Less) (keys_of pairs) → AllAbove nat_cmp key pairs
above_keys key [] all = tt
above_keys key (pair ∷ pairs) all = (all.0, above_keys key pairs all.1)

above_rest : (pair : ℕ × ℕ) (pairs : List (ℕ × ℕ)) → IsStrictlySortedBy nat_cmp (keys_of (pair ∷ pairs)) → AllAbove nat_cmp pair.0 pairs
unfolding IsStrictlySortedBy
above_rest pair pairs sorted = above_keys pair.0 pairs sorted.0

above_insert_by : (key : ℕ) (first : ℕ × ℕ) (pairs : List (ℕ × ℕ)) (new value : ℕ) (answer : Ordering) → nat_cmp new first.0 ≡ answer → nat_cmp key new ≡ Less → AllAbove nat_cmp key (first ∷ pairs)
    → AllAbove nat_cmp key (insert_entry nat_cmp pairs new value) → AllAbove nat_cmp key (insert_entry nat_cmp (first ∷ pairs) new value)
above_insert_by key first pairs new value Less is less all more = rw is (less, all)
above_insert_by key first pairs new value Equal is less all more = rw is all
above_insert_by key first pairs new value Greater is less all more = rw is (all.0, more)

above_insert : (key : ℕ) (pairs : List (ℕ × ℕ)) (new value : ℕ) → nat_cmp key new ≡ Less → AllAbove nat_cmp key pairs → AllAbove nat_cmp key (insert_entry nat_cmp pairs new value)
above_insert key [] new value less all = (less, tt)
above_insert key (first ∷ pairs) new value less all = above_insert_by key first pairs new value (nat_cmp new first.0) refl less all (above_insert key pairs new value less all.1)

above_merge : (key : ℕ) (late early : List (ℕ × ℕ)) → AllAbove nat_cmp key late → AllAbove nat_cmp key early → AllAbove nat_cmp key (merge late early)
above_merge key [] early all others = others
above_merge key (pair ∷ late) early all others = above_insert key (merge late early) pair.0 pair.1 all.0 (above_merge key late early all.1 others)

late_above : (pair : ℕ × ℕ) (late early : List (ℕ × ℕ)) → IsStrictlySortedBy nat_cmp (keys_of (pair ∷ late)) → AllAbove nat_cmp pair.0 early → merge (pair ∷ late) early ≡ pair ∷ merge late early
late_above pair late early sorted above = insert_entry-above nat_cmp pair.0 (merge late early) pair.1 (above_merge pair.0 late early (above_rest pair late sorted) above)

early_above : (pair : ℕ × ℕ) (late early : List (ℕ × ℕ)) → AllAbove nat_cmp pair.0 late → merge late (pair ∷ early) ≡ pair ∷ merge late early
early_above pair [] early above = refl
early_above pair (first ∷ late) early above =
    ap (λ all. insert_entry nat_cmp all first.0 first.1) (early_above pair late early above.1)
    ∙ insert_entry-below nat_cmp first.0 (pair ∷ []) (merge late early) first.1 (nat_cmp_total.antisymm first.0 pair.0 ∙ ap ordering_reverse above.0, tt)

-- a late pair below the others comes first
pub late_first : (pair first : ℕ × ℕ) (late early : List (ℕ × ℕ)) → IsStrictlySortedBy nat_cmp (keys_of (pair ∷ late)) → IsStrictlySortedBy nat_cmp (keys_of (first ∷ early)) → nat_cmp first.0 pair.0 ≡ Greater
    → merge (pair ∷ late) (first ∷ early) ≡ pair ∷ merge late (first ∷ early)
late_first pair first late early sorted others greater =
    late_above pair late (first ∷ early) sorted (above_sorted nat_cmp_total pair.0 first early others (nat_cmp_total.antisymm pair.0 first.0 ∙ ap ordering_reverse greater))

-- and where there are no others
pub late_alone : (pair : ℕ × ℕ) (late : List (ℕ × ℕ)) → IsStrictlySortedBy nat_cmp (keys_of (pair ∷ late)) → merge (pair ∷ late) [] ≡ pair ∷ merge late []
late_alone pair late sorted = late_above pair late [] sorted tt

-- another pair below the late ones comes first
pub early_first : (pair first : ℕ × ℕ) (late early : List (ℕ × ℕ)) → IsStrictlySortedBy nat_cmp (keys_of (pair ∷ late)) → nat_cmp first.0 pair.0 ≡ Less → merge (pair ∷ late) (first ∷ early) ≡ first ∷ merge (pair ∷ late) early
early_first pair first late early sorted less = early_above first (pair ∷ late) early (above_sorted nat_cmp_total first.0 pair late sorted less)

-- of two with one number the late one
pub late_counts : (pair first : ℕ × ℕ) (late early : List (ℕ × ℕ)) → IsStrictlySortedBy nat_cmp (keys_of (pair ∷ late)) → first.0 ≡ pair.0 → nat_cmp pair.0 first.0 ≡ Equal
    → merge (pair ∷ late) (first ∷ early) ≡ pair ∷ merge late early
late_counts pair first late early sorted same equal =
    ap (λ all. insert_entry nat_cmp all pair.0 pair.1) (early_above first late early (rw same (above_rest pair late sorted)))
    ∙ insert_entry-equal nat_cmp pair.0 first (merge late early) pair.1 equal
    ∙ ap (λ key. (key, pair.1) ∷ merge late early) same

-- ---- what is taken

abbrev Sorted : List (ℕ × ℕ) → Type 0
Sorted pairs = IsStrictlySortedBy nat_cmp (keys_of pairs)

begins : (pairs : List (ℕ × ℕ)) (pair : ℕ × ℕ) → Some pair ≡ slice_get pairs 0 → pairs ≡ pair ∷ drop 1 pairs
begins [] pair first = absurd (none-some pair (sym first))
begins (other ∷ pairs) pair first = ap (λ one. one ∷ pairs) (sym (same_Some pair other first))

none_begins : (pairs : List (ℕ × ℕ)) → None ≡ slice_get pairs 0 → pairs ≡ []
none_begins [] none = refl
none_begins (pair ∷ pairs) none = absurd (none-some pair none)

-- what is left once a pair that was seen is taken
rest_is : (pairs seen new : List (ℕ × ℕ)) (taken : Option (Bor (ℕ × ℕ))) (pair : ℕ × ℕ) → Some pair ≡ slice_get pairs 0 → seen ≡ pairs → TakesFirst deref seen taken new → pairs ≡ pair ∷ new
rest_is pairs seen new None pair first same takes = absurd (none-some pair (sym (first ∙ ap (λ all. slice_get all 0) (sym same ∙ takes.0))))
rest_is pairs seen new (Some other) pair first same takes =
    let is : pairs ≡ other.now ∷ new = sym same ∙ takes in is ∙ ap (λ one. one ∷ new) (sym (same_Some pair other.now (first ∙ ap (λ all. slice_get all 0) is)))

module _ (late early : List (ℕ × ℕ)) (sorted : Sorted late × Sorted early) where
  -- the pair was the first of both, and these are left
  abbrev Taken : ℕ × ℕ → List (ℕ × ℕ) → List (ℕ × ℕ) → Type 0
  Taken pair late_new early_new = (merge late early ≡ pair ∷ merge late_new early_new) × (Sorted late_new × Sorted early_new)

  pub nothing_late : None ≡ slice_get late 0 → (late_new early_new : List (ℕ × ℕ)) (pair : ℕ × ℕ) → late_new ≡ late → early ≡ pair ∷ early_new → Taken pair late_new early_new
  nothing_late none late_new early_new pair same is =
      let empty : late ≡ [] = none_begins late none in (
        ap (λ all. merge all early) empty ∙ is ∙ ap (λ all. pair ∷ merge all early_new) (sym (same ∙ empty)),
        (subst Sorted (sym same) sorted.0, rest_sorted pair early_new (subst Sorted is sorted.1)),
      )

  pub nothing_left : None ≡ slice_get late 0 → (late_new early_new : List (ℕ × ℕ)) → late_new ≡ late → early ≡ [] → early_new ≡ [] → (merge late early ≡ []) × (merge late_new early_new ≡ [])
  nothing_left none late_new early_new same is new_is =
      let empty : late ≡ [] = none_begins late none in (ap (λ all. merge all early) empty ∙ is, ap (λ all. merge all early_new) (same ∙ empty) ∙ new_is)

  module _ (pair : ℕ × ℕ) (first : Some pair ≡ slice_get late 0) (late_seen late_new : List (ℕ × ℕ)) (late_same : late_seen ≡ late) where
    pub nothing_early : None ≡ slice_get early 0 → (early_new : List (ℕ × ℕ)) (taken : Option (Bor (ℕ × ℕ))) → early_new ≡ early → TakesFirst deref late_seen taken late_new → Taken pair late_new early_new
    nothing_early none early_new taken same takes =
        let empty : early ≡ [] = none_begins early none in
        let is : late ≡ pair ∷ late_new = rest_is late late_seen late_new taken pair first late_same takes in (
          ap (λ all. merge all early) is ∙ ap (merge (pair ∷ late_new)) empty ∙ late_alone pair late_new (subst Sorted is sorted.0) ∙ ap (λ all. pair ∷ merge late_new all) (sym (same ∙ empty)),
          (rest_sorted pair late_new (subst Sorted is sorted.0), subst Sorted (sym same) sorted.1),
        )

    module _ (other : ℕ × ℕ) (second : Some other ≡ slice_get early 0) (early_seen early_new : List (ℕ × ℕ)) (early_same : early_seen ≡ early) where
      pub early_taken : (taken : Option (Bor (ℕ × ℕ))) → TakesFirst deref early_seen taken early_new → Less ≡ nat_cmp other.0 pair.0 → Taken other late_seen early_new
      early_taken taken takes less =
          let late_is : late ≡ pair ∷ drop 1 late = begins late pair first in
          let early_is : early ≡ other ∷ early_new = rest_is early early_seen early_new taken other second early_same takes in (
            ap (λ all. merge all early) late_is
                ∙ ap (merge (pair ∷ drop 1 late)) early_is
                ∙ early_first pair other (drop 1 late) early_new (subst Sorted late_is sorted.0) (sym less)
                ∙ ap (λ all. other ∷ merge all early_new) (sym (late_same ∙ late_is)),
            (subst Sorted (sym late_same) sorted.0, rest_sorted other early_new (subst Sorted early_is sorted.1)),
          )

      pub late_taken : (taken : Option (Bor (ℕ × ℕ))) → TakesFirst deref late_seen taken late_new → Greater ≡ nat_cmp other.0 pair.0 → Taken pair late_new early_seen
      late_taken taken takes greater =
          let late_is : late ≡ pair ∷ late_new = rest_is late late_seen late_new taken pair first late_same takes in
          let early_is : early ≡ other ∷ drop 1 early = begins early other second in (
            ap (λ all. merge all early) late_is
                ∙ ap (merge (pair ∷ late_new)) early_is
                ∙ late_first pair other late_new (drop 1 early) (subst Sorted late_is sorted.0) (subst Sorted early_is sorted.1) (sym greater)
                ∙ ap (λ all. pair ∷ merge late_new all) (sym (early_same ∙ early_is)),
            (rest_sorted pair late_new (subst Sorted late_is sorted.0), subst Sorted (sym early_same) sorted.1),
          )

      pub both_taken : (taken taken_too : Option (Bor (ℕ × ℕ))) → TakesFirst deref early_seen taken early_new → TakesFirst deref late_seen taken_too late_new → Equal ≡ nat_cmp other.0 pair.0 → Taken pair late_new early_new
      both_taken taken taken_too takes takes_too equal =
          let late_is : late ≡ pair ∷ late_new = rest_is late late_seen late_new taken_too pair first late_same takes_too in
          let early_is : early ≡ other ∷ early_new = rest_is early early_seen early_new taken other second early_same takes in
          let same : other.0 ≡ pair.0 = exact_unsigned other.0 pair.0 (sym equal) in (
            ap (λ all. merge all early) late_is
                ∙ ap (merge (pair ∷ late_new)) early_is
                ∙ late_counts pair other late_new early_new (subst Sorted late_is sorted.0) same (ap (λ key. nat_cmp pair.0 key) same ∙ ap (λ key. nat_cmp key pair.0) (sym same) ∙ sym equal),
            (rest_sorted pair late_new (subst Sorted late_is sorted.0), rest_sorted other early_new (subst Sorted early_is sorted.1)),
          )
