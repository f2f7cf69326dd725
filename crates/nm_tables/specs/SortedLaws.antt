-- Pairs with texts for keys, in their order: what is found among them tells all of them.
-- For proofs alone: those of `MessageTags` and `nm_state`.
use Rattle.std.proofs.Common.{◌≡◌, refl, sym, ap, ◌∙◌, ℕ, Bool, true, false, ◌&&◌, cond, List, [], ◌∷◌}
use Rattle.std.specs.Prelude.{Some, T}
use Rattle.std.specs.BTreeMap.{insert_entry}
use Rattle.std.specs.Cmp.Lexicographic.{slice_cmp}
use Rattle.std.specs.FinMap.{nat_cmp-IsAntisymmetric, slice_cmp-IsAntisymmetric}
use Rattle.std.specs.FinMap.Entries.{below_all, by_order, find, is_sorted, put, same_entries}
use Rattle.std.specs.List.{AllByRecursion}
use Rattle.std.specs.List.Sorted.{IsStrictlySortedBy}
use Rattle.std.specs.Map.{keys_of}
use Rattle.std.specs.Ordering.{is_eq, match_ordering, nat_cmp}
use Rattle.std.specs.declared.cmp.Ordering.{Ordering}
use Rattle.std.specs.declared.cmp.Ordering.TheVariants.{Less, Equal, Greater}
use Rattle.std.proofs.lemmas.Cmp.{nat_list_cmp_total}
use Rattle.nm_base.specs.Order.{IsSorted}
use Rattle.nm_tables.specs.FileTable.{at_text}

abbrev pub by_bytes : List ℕ → List ℕ → Ordering
by_bytes = slice_cmp nat_cmp

pub equal_by : (answer : Ordering) → is_eq answer ≡ true → answer ≡ Equal
equal_by Less is = absurd (cc is)
equal_by Equal is = refl
equal_by Greater is = absurd (cc is)

both : (a b : Bool) → T a → T b → T (a && b)
both true b first second = second
both false b first second = absurd first

module _ {V : Type 0} where
  put_by : (key : List ℕ) (value : V) (e : List ℕ × V) (es : List (List ℕ × V)) (answer : Ordering) → put by_bytes key value es ≡ insert_entry by_bytes es key value
      → by_order answer ((key, value) ∷ e ∷ es) ((e.0, value) ∷ es) (e ∷ put by_bytes key value es) ≡ match_ordering answer ((key, value) ∷ e ∷ es) ((e.0, value) ∷ es) (e ∷ insert_entry by_bytes es key value)
  put_by key value e es Less more = refl
  put_by key value e es Equal more = refl
  put_by key value e es Greater more = ap (λ rest. e ∷ rest) more

  pub put_is : (es : List (List ℕ × V)) (key : List ℕ) (value : V) → put by_bytes key value es ≡ insert_entry by_bytes es key value
  put_is [] key value = refl
  put_is (e ∷ es) key value = put_by key value e es (by_bytes key e.0) (put_is es key value)

  pub find_is : (es : List (List ℕ × V)) (key : List ℕ) → find by_bytes key es ≡ at_text key es
  find_is [] key = refl
  find_is (e ∷ es) key = ap (λ rest. cond (is_eq (by_bytes key e.0)) (Some e.1) rest) (find_is es key)

  below_is : (key : List ℕ) (es : List (List ℕ × V)) → AllByRecursion (λ other. by_bytes key other ≡ Less) (keys_of es) → T (below_all by_bytes key es)
  below_is key [] all = tt
  below_is key (e ∷ es) all = rw all.0 (below_is key es all.1)

  rises : (es : List (List ℕ × V)) → IsSorted (keys_of es) → T (is_sorted by_bytes es)
  unfolding IsStrictlySortedBy
  rises [] sorted = tt
  rises (e ∷ es) sorted = both (below_all by_bytes e.0 es) (is_sorted by_bytes es) (below_is e.0 es sorted.0) (rises es sorted.1)

  -- two lists in order in which the same is found are the same
  pub same_pairs : (es fs : List (List ℕ × V)) → IsSorted (keys_of es) → IsSorted (keys_of fs) → ((key : List ℕ) → at_text key es ≡ at_text key fs) → es ≡ fs
  same_pairs es fs first second is =
      same_entries by_bytes nat_list_cmp_total (slice_cmp-IsAntisymmetric nat_cmp-IsAntisymmetric) es fs (rises es first) (rises fs second) (λ key. find_is es key ∙ is key ∙ sym (find_is fs key))
