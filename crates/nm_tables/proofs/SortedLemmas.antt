-- Pairs with texts for keys as they are in their order. For the proofs of `MessageTags`.
use Rattle.std.proofs.Common.{◌≡◌, refl, sym, ap, ◌∙◌, ℕ, Bool, true, false, cond, true≢false, List, [], ◌∷◌}
use Rattle.std.specs.Prelude.{Option, None, Some, if◌then◌else◌}
use Rattle.std.specs.BTreeMap.{insert_entry, is_at}
use Rattle.std.specs.FinMap.Entries.{find, find-put}
use Rattle.std.specs.List.{AllByRecursion, IsDistinct}
use Rattle.std.specs.List.Sorted.{IsPermutation}
use Rattle.std.specs.Map.{keys_of, remove_entry}
use Rattle.std.specs.Ordering.{eq_by_cmp, is_eq, match_ordering}
use Rattle.std.specs.declared.cmp.Ordering.{Ordering}
use Rattle.std.specs.declared.cmp.Ordering.TheVariants.{Less, Equal, Greater}
use Rattle.std.proofs.lemmas.Cmp.{eq_by_cmp_equiv, nat_list_cmp_total}
use Rattle.std.proofs.lemmas.Map.{lookup-remove_entry}
use Rattle.std.proofs.lemmas.List.Sorted.{IsPermutation-cons, IsPermutation-middle, IsPermutation-refl, IsPermutation-sym, IsPermutation-trans}
use Rattle.std.proofs.lemmas.Map.Keys.{IsDistinct-from_sorted, IsDistinct-head, IsDistinct-tail}
use Rattle.std.proofs.lemmas.Option.{none-some}
use Rattle.nm_base.specs.Order.{IsSorted}
use Rattle.nm_tables.specs.FileTable.{at_text}
use Rattle.nm_tables.specs.Sorted.{sorted_pairs}
use Rattle.nm_tables.specs.SortedLaws.{by_bytes, equal_by, find_is, put_is, same_pairs}
use Rattle.nm_tables.proofs.OrderLemmas.{sorted_insert, sorted_none}
use Rattle.nm_shared.specs.EntryLaws.{sorted_remove}

module _ {V : Type 0} where
  found_inserted : (es : List (List ℕ × V)) (key : List ℕ) (value : V) (other : List ℕ) → at_text other (insert_entry by_bytes es key value) ≡ cond (is_eq (by_bytes other key)) (Some value) (at_text other es)
  found_inserted es key value other =
      sym (find_is (insert_entry by_bytes es key value) other) ∙ ap (find by_bytes other) (sym (put_is es key value)) ∙ find-put by_bytes nat_list_cmp_total other key value es
      ∙ ap (λ rest. cond (is_eq (by_bytes other key)) (Some value) rest) (find_is es other)

  found_removed : (es : List (List ℕ × V)) → IsSorted (keys_of es) → (key other : List ℕ) → at_text other (remove_entry (is_at (by_bytes key)) es) ≡ cond (is_eq (by_bytes other key)) None (at_text other es)
  found_removed es sorted key other =
      lookup-remove_entry (eq_by_cmp_equiv nat_list_cmp_total) (is_at (by_bytes key)) (λ x y same. ap is_eq (nat_list_cmp_total.congr key x y (equal_by (by_bytes key x) same))) other es (IsDistinct-from_sorted by_bytes (keys_of es) sorted)
      ∙ ap (λ test. cond test None (at_text other es)) ((eq_by_cmp_equiv nat_list_cmp_total).symm key other)

  -- in order
  pub pairs_sorted : (es : List (List ℕ × V)) → IsSorted (keys_of (sorted_pairs es))
  pairs_sorted [] = sorted_none V by_bytes
  pairs_sorted (e ∷ es) = sorted_insert nat_list_cmp_total (sorted_pairs es) e.0 e.1 (pairs_sorted es)

  -- the same is found in the order
  pub found_sorted : (es : List (List ℕ × V)) (key : List ℕ) → at_text key (sorted_pairs es) ≡ at_text key es
  found_sorted [] key = refl
  found_sorted (e ∷ es) key = found_inserted (sorted_pairs es) e.0 e.1 key ∙ ap (λ rest. cond (is_eq (by_bytes key e.0)) (Some e.1) rest) (found_sorted es key)

  -- a pair that is put in
  pub sorted_with : (old new : List (List ℕ × V)) (key : List ℕ) (value : V) → ((other : List ℕ) → at_text other new ≡ (if is_eq (by_bytes other key) then Some value else at_text other old))
      → sorted_pairs new ≡ insert_entry by_bytes (sorted_pairs old) key value
  sorted_with old new key value found =
      same_pairs (sorted_pairs new) (insert_entry by_bytes (sorted_pairs old) key value) (pairs_sorted new) (sorted_insert nat_list_cmp_total (sorted_pairs old) key value (pairs_sorted old))
      (λ other. found_sorted new other ∙ found other ∙ sym (found_inserted (sorted_pairs old) key value other ∙ ap (λ rest. cond (is_eq (by_bytes other key)) (Some value) rest) (found_sorted old other)))

  -- a pair that is taken out
  pub sorted_without : (old new : List (List ℕ × V)) (key : List ℕ) → ((other : List ℕ) → at_text other new ≡ (if is_eq (by_bytes other key) then None else at_text other old))
      → sorted_pairs new ≡ remove_entry (is_at (by_bytes key)) (sorted_pairs old)
  sorted_without old new key found =
      same_pairs (sorted_pairs new) (remove_entry (is_at (by_bytes key)) (sorted_pairs old)) (pairs_sorted new) (sorted_remove by_bytes (is_at (by_bytes key)) (sorted_pairs old) (pairs_sorted old))
      (λ other. found_sorted new other ∙ found other ∙ sym (found_removed (sorted_pairs old) (pairs_sorted old) key other ∙ ap (λ rest. cond (is_eq (by_bytes other key)) None rest) (found_sorted old other)))

  -- and what is found after that
  pub found_with : (old new : List (List ℕ × V)) (key : List ℕ) (value : V) → ((other : List ℕ) → at_text other new ≡ (if is_eq (by_bytes other key) then Some value else at_text other old))
      → (other : List ℕ) → at_text other (sorted_pairs new) ≡ (if is_eq (by_bytes other key) then Some value else at_text other (sorted_pairs old))
  found_with old new key value found other =
      found_sorted new other ∙ found other ∙ ap (λ rest. cond (is_eq (by_bytes other key)) (Some value) rest) (sym (found_sorted old other))

  pub found_without : (old new : List (List ℕ × V)) (key : List ℕ) → ((other : List ℕ) → at_text other new ≡ (if is_eq (by_bytes other key) then None else at_text other old))
      → (other : List ℕ) → at_text other (sorted_pairs new) ≡ (if is_eq (by_bytes other key) then None else at_text other (sorted_pairs old))
  found_without old new key found other =
      found_sorted new other ∙ found other ∙ ap (λ rest. cond (is_eq (by_bytes other key)) None rest) (sym (found_sorted old other))

  -- ---- each key once

  not_found_by : (key : List ℕ) (e : List ℕ × V) (rest : Option V) (test : Bool) → is_eq (by_bytes key e.0) ≡ test → is_eq (by_bytes key e.0) ≡ false → cond test (Some e.1) rest ≡ rest
  not_found_by key e rest true is not = absurd (true≢false (sym is ∙ not))
  not_found_by key e rest false is not = refl

  not_found : (key : List ℕ) (es : List (List ℕ × V)) → AllByRecursion (λ other. eq_by_cmp by_bytes key other ≡ false) (keys_of es) → at_text key es ≡ None
  not_found key [] all = refl
  not_found key (e ∷ es) all = not_found_by key e (at_text key es) (is_eq (by_bytes key e.0)) refl all.0 ∙ not_found key es all.1

  inserted_by : (key : List ℕ) (value : V) (e : List ℕ × V) (es : List (List ℕ × V)) (answer : Ordering) → by_bytes key e.0 ≡ answer → cond (is_eq answer) (Some e.1) (at_text key es) ≡ None
      → (at_text key es ≡ None → IsPermutation ((key, value) ∷ es) (insert_entry by_bytes es key value))
      → IsPermutation ((key, value) ∷ e ∷ es) (match_ordering answer ((key, value) ∷ e ∷ es) ((e.0, value) ∷ es) (e ∷ insert_entry by_bytes es key value))
  inserted_by key value e es Less is none more = IsPermutation-refl ((key, value) ∷ e ∷ es)
  inserted_by key value e es Equal is none more = absurd (none-some e.1 (sym none))
  inserted_by key value e es Greater is none more =
      IsPermutation-trans ((key, value) ∷ e ∷ es) (e ∷ (key, value) ∷ es) (e ∷ insert_entry by_bytes es key value) (IsPermutation-middle ((key, value) ∷ []) e es)
      (IsPermutation-cons e ((key, value) ∷ es) (insert_entry by_bytes es key value) (more none))

  inserted : (key : List ℕ) (value : V) (es : List (List ℕ × V)) → at_text key es ≡ None → IsPermutation ((key, value) ∷ es) (insert_entry by_bytes es key value)
  inserted key value [] none = IsPermutation-refl ((key, value) ∷ [])
  inserted key value (e ∷ es) none = inserted_by key value e es (by_bytes key e.0) refl none (inserted key value es)

  -- where each key occurs once, the order holds just the pairs
  pub sorted_permuted : (es : List (List ℕ × V)) → IsDistinct (eq_by_cmp by_bytes) (keys_of es) → IsPermutation (sorted_pairs es) es
  sorted_permuted [] once = IsPermutation-refl []
  sorted_permuted (e ∷ es) once =
      let new : at_text e.0 (sorted_pairs es) ≡ None = found_sorted es e.0 ∙ not_found e.0 es (IsDistinct-head (eq_by_cmp by_bytes) e.0 (keys_of es) once) in
      IsPermutation-trans (sorted_pairs (e ∷ es)) (e ∷ sorted_pairs es) (e ∷ es) (IsPermutation-sym (e ∷ sorted_pairs es) (sorted_pairs (e ∷ es)) (inserted e.0 e.1 (sorted_pairs es) new))
      (IsPermutation-cons e (sorted_pairs es) es (sorted_permuted es (IsDistinct-tail (eq_by_cmp by_bytes) e.0 (keys_of es) once)))
