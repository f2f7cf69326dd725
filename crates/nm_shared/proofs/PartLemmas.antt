-- What a change of one part does to a map, where the key belongs into that part.
-- For the proofs of `SharedMap::put`, `SharedMap::take_out`, `SharedMap::get_by` and others.
use Rattle.std.proofs.Common.{◌≡◌, ◌≢◌, refl, sym, ap, subst, ◌∙◌, cond, ℕ, ◌+◌, ◌-◌, ◌<◌, ◌≤◌, suc, zero, Bool, true, false, List, [], ◌∷◌, ◌++◌, length, take, drop, get_or, set, min, arith, length-append, length-drop, add-one}
use Rattle.std.specs.Prelude.{Some, None}
use Rattle.std.specs.declared.cmp.Ordering.{Ordering}
use Rattle.std.specs.declared.cmp.Ordering.TheVariants.{Less, Equal, Greater}
use Rattle.std.specs.BTreeMap.{insert_entry, is_at}
use Rattle.std.specs.BTreeMap.Range.{entries_from}
use Rattle.std.specs.Cmp.{IsTotalOrder}
use Rattle.std.specs.List.{insert, remove, slice_get}
use Rattle.std.specs.List.Sorted.{IsStrictlySortedBy}
use Rattle.std.specs.Map.{keys_of, lookup, remove_entry}
use Rattle.std.specs.Ordering.{is_eq}
use Rattle.std.proofs.lemmas.List.{get_or_default, take_all, drop_all, append-nil, nil_from_length}
use Rattle.std.proofs.lemmas.List.Concat.{flat_map-append}
use Rattle.std.proofs.lemmas.Option.{slice_get_within, get_or_from_slice_get, same_Some}
use Rattle.nm_shared.specs.Map.{IsMap}
use Rattle.nm_shared.specs.Runs.{flat, run_at, HaveItems}
use Rattle.nm_shared.specs.Search.{IsRunOf}
use Rattle.nm_shared.specs.Spot.{AllBelow, AllAbove}
use Rattle.nm_shared.proofs.EntryLemmas.{insert_entry-below, insert_entry-above, remove_entry-below, remove_entry-above, lookup-below, lookup-above, entries_from-below, entries_from-above, sorted_insert, sorted_none}
use Rattle.nm_shared.proofs.MapLemmas.{HaveItems_insert, HaveItems_remove, HaveItems_set, map_of_insert, map_of_remove}
use Rattle.nm_shared.proofs.SpotLemmas.{Cut, cut, before_runs, after_runs, flat_cut, flat_set, up_to}

-- ---- before entries above the key

module _ {K V : Type 0} (cmp : K → K → Ordering) (key : K) where
  insert_by : (x : K × V) (xs ys : List (K × V)) (value : V) (answer : Ordering) → cmp key x.0 ≡ answer → insert_entry cmp (xs ++ ys) key value ≡ insert_entry cmp xs key value ++ ys
      → insert_entry cmp (x ∷ (xs ++ ys)) key value ≡ insert_entry cmp (x ∷ xs) key value ++ ys
  insert_by x xs ys value Less is more = rw is refl
  insert_by x xs ys value Equal is more = rw is refl
  insert_by x xs ys value Greater is more = rw is (ap (λ rest. x ∷ rest) more)

  insert_within : (xs ys : List (K × V)) (value : V) → AllAbove cmp key ys → insert_entry cmp (xs ++ ys) key value ≡ insert_entry cmp xs key value ++ ys
  insert_within [] ys value above = insert_entry-above cmp key ys value above
  insert_within (x ∷ xs) ys value above = insert_by x xs ys value (cmp key x.0) refl (insert_within xs ys value above)

  remove_by : (x : K × V) (xs ys : List (K × V)) (answer : Bool) → is_eq (cmp key x.0) ≡ answer → remove_entry (is_at (cmp key)) (xs ++ ys) ≡ remove_entry (is_at (cmp key)) xs ++ ys
      → remove_entry (is_at (cmp key)) (x ∷ (xs ++ ys)) ≡ remove_entry (is_at (cmp key)) (x ∷ xs) ++ ys
  remove_by x xs ys true is more = rw is refl
  remove_by x xs ys false is more = rw is (ap (λ rest. x ∷ rest) more)

  remove_within : (xs ys : List (K × V)) → AllAbove cmp key ys → remove_entry (is_at (cmp key)) (xs ++ ys) ≡ remove_entry (is_at (cmp key)) xs ++ ys
  remove_within [] ys above = remove_entry-above cmp key ys above
  remove_within (x ∷ xs) ys above = remove_by x xs ys (is_eq (cmp key x.0)) refl (remove_within xs ys above)

  lookup_within : (xs ys : List (K × V)) → AllAbove cmp key ys → lookup (is_at (cmp key)) (xs ++ ys) ≡ lookup (is_at (cmp key)) xs
  lookup_within [] ys above = lookup-above cmp key ys above
  lookup_within (x ∷ xs) ys above = ap (λ rest. cond (is_eq (cmp key x.0)) (Some x.1) rest) (lookup_within xs ys above)

  entries_by : (x : K × V) (xs ys : List (K × V)) (answer : Ordering) → cmp key x.0 ≡ answer → entries_from (cmp key) (xs ++ ys) ≡ entries_from (cmp key) xs ++ ys
      → entries_from (cmp key) (x ∷ (xs ++ ys)) ≡ entries_from (cmp key) (x ∷ xs) ++ ys
  entries_by x xs ys Less is more = rw is (ap (λ rest. x ∷ rest) more)
  entries_by x xs ys Equal is more = rw is (ap (λ rest. x ∷ rest) more)
  entries_by x xs ys Greater is more = rw is more

  entries_within : (xs ys : List (K × V)) → AllAbove cmp key ys → entries_from (cmp key) (xs ++ ys) ≡ entries_from (cmp key) xs ++ ys
  entries_within [] ys above = entries_from-above cmp key ys above
  entries_within (x ∷ xs) ys above = entries_by x xs ys (cmp key x.0) refl (entries_within xs ys above)

  -- one pair more at most, or one less
  insert_len_by : (x : K × V) (xs : List (K × V)) (value : V) (answer : Ordering) → cmp key x.0 ≡ answer → length (insert_entry cmp xs key value) ≤ length xs + 1 → length (insert_entry cmp (x ∷ xs) key value) ≤ length (x ∷ xs) + 1
  insert_len_by x xs value Less is more = rw is (omega arith)
  insert_len_by x xs value Equal is more = rw is (omega arith)
  insert_len_by x xs value Greater is more = rw is (omega (arith, more))

  pub insert_len : (xs : List (K × V)) (value : V) → length (insert_entry cmp xs key value) ≤ length xs + 1
  insert_len [] value = omega arith
  insert_len (x ∷ xs) value = insert_len_by x xs value (cmp key x.0) refl (insert_len xs value)

  insert_more_by : (x : K × V) (xs : List (K × V)) (value : V) (answer : Ordering) → cmp key x.0 ≡ answer → length xs ≤ length (insert_entry cmp xs key value) → length (x ∷ xs) ≤ length (insert_entry cmp (x ∷ xs) key value)
  insert_more_by x xs value Less is more = rw is (omega arith)
  insert_more_by x xs value Equal is more = rw is (omega arith)
  insert_more_by x xs value Greater is more = rw is (omega (arith, more))

  pub insert_more : (xs : List (K × V)) (value : V) → length xs ≤ length (insert_entry cmp xs key value)
  insert_more [] value = omega arith
  insert_more (x ∷ xs) value = insert_more_by x xs value (cmp key x.0) refl (insert_more xs value)

  insert_some_by : (x : K × V) (xs : List (K × V)) (value : V) (answer : Ordering) → cmp key x.0 ≡ answer → 0 < length (insert_entry cmp (x ∷ xs) key value)
  insert_some_by x xs value Less is = rw is (omega arith)
  insert_some_by x xs value Equal is = rw is (omega arith)
  insert_some_by x xs value Greater is = rw is (omega arith)

  pub insert_some : (xs : List (K × V)) (value : V) → 0 < length (insert_entry cmp xs key value)
  insert_some [] value = omega arith
  insert_some (x ∷ xs) value = insert_some_by x xs value (cmp key x.0) refl

  remove_len_by : (x : K × V) (xs : List (K × V)) (answer : Bool) → is_eq (cmp key x.0) ≡ answer → length (remove_entry (is_at (cmp key)) xs) ≤ length xs → length (remove_entry (is_at (cmp key)) (x ∷ xs)) ≤ length (x ∷ xs)
  remove_len_by x xs true is more = rw is (omega arith)
  remove_len_by x xs false is more = rw is (omega (arith, more))

  pub remove_len : (xs : List (K × V)) → length (remove_entry (is_at (cmp key)) xs) ≤ length xs
  remove_len [] = omega arith
  remove_len (x ∷ xs) = remove_len_by x xs (is_eq (cmp key x.0)) refl (remove_len xs)

-- ---- the part that a key belongs to

module _ {K V : Type 0} {cmp : K → K → Ordering} (order : IsTotalOrder cmp) (key : K) (parts : List (List (K × V))) (place at : ℕ) (at_is : at ≡ place - 1) (lt : at < length parts)
    (filled : HaveItems parts) (sorted : IsStrictlySortedBy cmp (keys_of (flat parts))) (chosen : IsRunOf cmp key parts place) where
  abbrev front : List (K × V)
  front = flat (take at parts)

  abbrev back : List (K × V)
  back = flat (drop (at + 1) parts)

  below : AllBelow cmp key front
  below = subst (λ r. AllBelow cmp key (flat (take r parts))) (sym at_is) (before_runs order key parts place filled sorted chosen)

  above : AllAbove cmp key back
  above = subst (λ r. r < length parts → AllAbove cmp key (flat (drop (r + 1) parts))) (sym at_is) (after_runs order key parts place filled sorted chosen) lt

  -- what passes over keys below, and leaves those above, is done in the part alone
  in_part : (f : List (K × V) → List (K × V)) → ((xs ys : List (K × V)) → AllBelow cmp key xs → f (xs ++ ys) ≡ xs ++ f ys) → ((xs ys : List (K × V)) → AllAbove cmp key ys → f (xs ++ ys) ≡ f xs ++ ys)
      → flat (set parts at (f (run_at parts at))) ≡ f (flat parts)
  in_part f passes leaves =
      flat_set parts at (f (run_at parts at)) lt
      ∙ sym (ap f (flat_cut parts at lt) ∙ passes front (run_at parts at ++ back) below ∙ ap (λ all. front ++ all) (leaves (run_at parts at) back above))

  pub insert_part : (value : V) → flat (set parts at (insert_entry cmp (run_at parts at) key value)) ≡ insert_entry cmp (flat parts) key value
  insert_part value = in_part (λ all. insert_entry cmp all key value) (λ xs ys b. insert_entry-below cmp key xs ys value b) (λ xs ys a. insert_within cmp key xs ys value a)

  pub remove_part : flat (set parts at (remove_entry (is_at (cmp key)) (run_at parts at))) ≡ remove_entry (is_at (cmp key)) (flat parts)
  remove_part = in_part (remove_entry (is_at (cmp key))) (remove_entry-below cmp key) (remove_within cmp key)

  pub lookup_part : lookup (is_at (cmp key)) (flat parts) ≡ lookup (is_at (cmp key)) (run_at parts at)
  lookup_part = ap (lookup (is_at (cmp key))) (flat_cut parts at lt) ∙ lookup-below cmp key front (run_at parts at ++ back) below ∙ lookup_within cmp key (run_at parts at) back above

  pub entries_part : entries_from (cmp key) (run_at parts at) ++ back ≡ entries_from (cmp key) (flat parts)
  entries_part = sym (ap (entries_from (cmp key)) (flat_cut parts at lt) ∙ entries_from-below cmp key front (run_at parts at ++ back) below ∙ entries_within cmp key (run_at parts at) back above)

module _ {X : Type 0} (parts : List (List X)) (at : ℕ) (lt : at < length parts) where
  -- the count once a part is another
  set_len : (new : List X) → length (flat (set parts at new)) + length (run_at parts at) ≡ length (flat parts) + length new
  set_len new =
      let after : length (flat (set parts at new)) ≡ length (flat (take at parts) ++ (new ++ flat (drop (at + 1) parts))) = ap length (flat_set parts at new lt) in
      let before : length (flat parts) ≡ length (flat (take at parts) ++ (run_at parts at ++ flat (drop (at + 1) parts))) = ap length (flat_cut parts at lt) in
      omega (arith, simp length-append at after, simp length-append at before)

  -- an empty part goes
  flat_gone : flat (remove parts at) ≡ flat (set parts at [])
  flat_gone = ap (λ n. flat (take at parts ++ drop n parts)) (sym (add-one at)) ∙ flat_map-append (λ part. part) (take at parts) (drop (at + 1) parts) ∙ sym (flat_set parts at [] lt)

remove_set : {X : Type 0} (xs : List X) (at : ℕ) (x : X) → remove (set xs at x) at ≡ remove xs at
remove_set [] at x = refl
remove_set (y ∷ ys) zero x = refl
remove_set (y ∷ ys) (suc at) x = ap (λ rest. y ∷ rest) (remove_set ys at x)

-- ---- what the calls of a map do

module _ {K V : Type 0} {cmp : K → K → Ordering} (order : IsTotalOrder cmp) (key : K) (parts : List (List (K × V))) (len place at : ℕ) (at_is : at ≡ place - 1) (lt : at < length parts)
    (map : IsMap cmp parts len) (chosen : IsRunOf cmp key parts place) where
  pub get_is : (slice : List (List (K × V))) (part items : List (K × V)) → slice ≡ parts → part ≡ get_or slice at [] → items ≡ part → lookup (is_at (cmp key)) items ≡ lookup (is_at (cmp key)) (flat parts)
  get_is slice part items same part_is items_is =
      ap (lookup (is_at (cmp key))) (items_is ∙ part_is ∙ ap (λ all. get_or all at []) same) ∙ sym (lookup_part order key parts place at at_is lt map.filled map.sorted chosen)

  pub iter_from_is : (slice slices : List (List (K × V))) (part items found : List (K × V)) → slice ≡ parts → slices ≡ parts → part ≡ get_or slice at [] → items ≡ part → found ≡ entries_from (cmp key) items
      → found ++ flat (take (length slices - (at + 1)) (drop (at + 1) slices)) ≡ entries_from (cmp key) (flat parts)
  iter_from_is slice slices part items found same same_too part_is items_is found_is =
      ap (λ all. found ++ flat all) (take_all (length slices - (at + 1)) (drop (at + 1) slices) (omega (arith, length-drop (at + 1) slices)))
      ∙ ap (λ all. found ++ flat (drop (at + 1) all)) same_too
      ∙ ap (λ all. all ++ flat (drop (at + 1) parts)) (found_is ∙ ap (entries_from (cmp key)) (items_is ∙ part_is ∙ ap (λ all. get_or all at []) same))
      ∙ entries_part order key parts place at at_is lt map.filled map.sorted chosen

  module _ (seen new : List (K × V)) (read : seen ≡ get_or parts at seen) where
    here : run_at parts at ≡ seen
    here = get_or_default parts at [] seen lt ∙ sym read

    module _ (value : V) (write : new ≡ insert_entry cmp seen key value) where
      pub put_flat : flat (set parts at new) ≡ insert_entry cmp (flat parts) key value
      put_flat = ap (λ all. flat (set parts at all)) (write ∙ ap (λ all. insert_entry cmp all key value) (sym here)) ∙ insert_part order key parts place at at_is lt map.filled map.sorted chosen value

      pub put_map : (before more count : ℕ) → before ≡ length seen → more ≡ length new - before → count ≡ min (len + more) 18446744073709551615 → len < 18446744073709551615 → IsMap cmp (set parts at new) count
      put_map before more count before_is more_is count_is small =
          let bound : length new ≤ length seen + 1 = subst (λ all. length all ≤ length seen + 1) (sym write) (insert_len cmp key seen value) in
          let some : 0 < length new = subst (λ all. 0 < length all) (sym write) (insert_some cmp key seen value) in
          let longer : length seen ≤ length new = subst (λ all. length seen ≤ length all) (sym write) (insert_more cmp key seen value) in
          let size : length (run_at parts at) ≡ length seen = ap length here in
          map_of_insert order key parts len map value (set parts at new) count put_flat (HaveItems_set parts at new map.filled some)
          (omega (arith, map.counted, set_len parts at lt new, size, bound, longer, before_is, more_is, count_is, small))

    module _ (write : new ≡ remove_entry (is_at (cmp key)) seen) where
      pub take_flat : flat (set parts at new) ≡ remove_entry (is_at (cmp key)) (flat parts)
      take_flat = ap (λ all. flat (set parts at all)) (write ∙ ap (remove_entry (is_at (cmp key))) (sym here)) ∙ remove_part order key parts place at at_is lt map.filled map.sorted chosen

      take_len : (before after less count : ℕ) → before ≡ length seen → after ≡ length new → less ≡ before - after → count ≡ len - less → count ≡ length (flat (set parts at new))
      take_len before after less count before_is after_is less_is count_is =
          let bound : length new ≤ length seen = subst (λ all. length all ≤ length seen) (sym write) (remove_len cmp key seen) in
          omega (arith, map.counted, set_len parts at lt new, set_len parts at lt [], ap length here, bound, before_is, after_is, less_is, count_is)

      pub take_map : (before after less count : ℕ) → before ≡ length seen → after ≡ length new → less ≡ before - after → count ≡ len - less → after ≢ 0 → IsMap cmp (set parts at new) count
      take_map before after less count before_is after_is less_is count_is some =
          map_of_remove order key parts len map (set parts at new) count take_flat (HaveItems_set parts at new map.filled (omega (arith, after_is, some))) (take_len before after less count before_is after_is less_is count_is)

      module _ (all : List (List (K × V))) (gone : all ≡ remove (set parts at new) at) (after : ℕ) (after_is : after ≡ length new) (none : after ≡ 0) where
        without : all ≡ remove parts at
        without = gone ∙ remove_set parts at new

        pub gone_flat : flat all ≡ remove_entry (is_at (cmp key)) (flat parts)
        gone_flat = ap flat without ∙ flat_gone parts at lt ∙ ap (λ part. flat (set parts at part)) (sym (nil_from_length new (omega (arith, after_is, none)))) ∙ take_flat

        pub gone_map : (before less count : ℕ) → before ≡ length seen → less ≡ before - after → count ≡ len - less → IsMap cmp all count
        gone_map before less count before_is less_is count_is =
            map_of_remove order key parts len map all count gone_flat (subst HaveItems (sym without) (HaveItems_remove parts at map.filled lt))
            (take_len before after less count before_is after_is less_is count_is ∙ ap length (take_flat ∙ sym gone_flat))

module _ {K V : Type 0} {cmp : K → K → Ordering} (order : IsTotalOrder cmp) (key : K) where
  -- a key above the last one is above all
  pub above_last : (entries : List (K × V)) (last : K × V) → IsStrictlySortedBy cmp (keys_of entries) → Some last ≡ slice_get entries (length entries - 1) → cmp key last.0 ≡ Greater → AllBelow cmp key entries
  above_last entries last sorted read greater =
      let at : ℕ = length entries - 1 in
      let lt : at < length entries = slice_get_within entries at last (sym read) in
      let c : Cut entries at = cut entries at lt in
      let is : c.item ≡ last = sym (c.is last) ∙ get_or_from_slice_get entries at last last (sym read) in
      subst (AllBelow cmp key) (take_all (suc at) entries (omega arith))
      (up_to order key entries [] at (subst (λ all. IsStrictlySortedBy cmp (keys_of all)) (sym (append-nil entries)) sorted) lt c (ap (λ e. cmp key e.0) is ∙ greater))

  pub above_none : (entries : List (K × V)) → length entries ≡ 0 → AllBelow cmp key entries
  above_none [] none = tt
  above_none (e ∷ entries) none = absurd (omega (arith, none))

  module _ (value : V) where
    pub one_sorted : (pairs before : List (K × V)) → pairs ≡ before ++ (key, value) ∷ [] → before ≡ [] → IsStrictlySortedBy cmp (keys_of pairs)
    one_sorted pairs before is none = subst (λ all. IsStrictlySortedBy cmp (keys_of all)) (sym (is ∙ ap (λ all. all ++ (key, value) ∷ []) none)) (sorted_insert order [] key value (sorted_none V cmp))

    module _ (parts new : List (List (K × V))) (part : List (K × V)) (is : new ≡ parts ++ part ∷ []) (one : part ≡ (key, value) ∷ []) (below : AllBelow cmp key (flat parts)) where
      pub push_flat : flat new ≡ insert_entry cmp (flat parts) key value
      push_flat =
          ap flat (is ∙ ap (λ p. parts ++ p ∷ []) one)
          ∙ flat_map-append (λ all. all) parts (((key, value) ∷ []) ∷ [])
          ∙ sym (ap (λ all. insert_entry cmp all key value) (sym (append-nil (flat parts))) ∙ insert_entry-below cmp key (flat parts) [] value below)

      pub push_map : (len : ℕ) → IsMap cmp parts len → IsMap cmp new (len + 1)
      push_map len map =
          let behind : new ≡ insert parts (length parts) part =
          is
          ∙ ap (λ rest. parts ++ part ∷ rest) (sym (drop_all (length parts) parts (omega arith)))
          ∙ ap (λ all. all ++ part ∷ drop (length parts) parts) (sym (take_all (length parts) parts (omega arith))) in
          map_of_insert order key parts len map value new (len + 1) push_flat
          (subst HaveItems (sym behind) (HaveItems_insert parts (length parts) part map.filled (omega arith) (subst (λ all. 0 < length all) (sym one) (omega arith))))
          (let long : length (flat new) ≡ length (flat parts ++ (key, value) ∷ []) = ap length (ap flat (is ∙ ap (λ p. parts ++ p ∷ []) one) ∙ flat_map-append (λ all. all) parts (((key, value) ∷ []) ∷ [])) in
          omega (arith, map.counted, simp length-append at long))

-- where there are pairs, there is the part that a key belongs to
pub in_reach : {X : Type 0} (parts : List (List X)) (place at : ℕ) → at ≡ place - 1 → place ≤ length parts → 0 < length (flat parts) → at < length parts
in_reach [] place at at_is within some = absurd (omega (arith, some))
in_reach (part ∷ parts) place at at_is within some = omega (arith, at_is, within)

-- ---- the first pair

module _ {X : Type 0} where
  first_in : (items more : List X) (x : X) → Some x ≡ slice_get items 0 → Some x ≡ slice_get (items ++ more) 0
  first_in [] more x is = absurd (cc)
  first_in (y ∷ items) more x is = is

  pub first_is : (parts slice : List (List X)) (part items : List X) (x : X) → slice ≡ parts → Some part ≡ slice_get slice 0 → items ≡ part → Some x ≡ slice_get items 0 → Some x ≡ slice_get (flat parts) 0
  first_is [] slice part items x same part_is items_is is = absurd (cc (part_is ∙ ap (λ all. slice_get all 0) same))
  first_is (first ∷ parts) slice part items x same part_is items_is is =
      first_in first (flat parts) x (is ∙ ap (λ all. slice_get all 0) (items_is ∙ same_Some part first (part_is ∙ ap (λ all. slice_get all 0) same)))

  pub none_first : (items : List X) → None ≡ slice_get items 0 → items ≡ []
  none_first [] none = refl
  none_first (x ∷ items) none = absurd (cc)
