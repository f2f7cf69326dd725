-- Pairs in the order of their keys: each is found at its key. For proofs alone: those of `files_of`, `row_of_mail` and `nm_state`.
use Rattle.std.proofs.Common.{◌≡◌, ◌≢◌, sym, ap, ◌∙◌, ℕ, true≢false, List, [], ◌∷◌, inl, inr}
use Rattle.std.specs.Prelude.{Contains, Some}
use Rattle.std.specs.BTreeMap.{is_at}
use Rattle.std.specs.Cmp.Lexicographic.{slice_cmp}
use Rattle.std.specs.List.Sorted.{IsStrictlySortedBy}
use Rattle.std.specs.Map.{keys_of, lookup}
use Rattle.std.specs.Ordering.{is_eq, nat_cmp}
use Rattle.std.specs.declared.cmp.Ordering.TheVariants.{Less}
use Rattle.nm_base.specs.Order.{IsSorted}
use Rattle.nm_tables.specs.FileTable.{at_text}
use Rattle.nm_base.specs.KeyLaws.{Contains_cases, Contains_map, Contains_none, all_at, other_id, other_number, same_id, same_number}

-- ---- keys that are numbers

module _ {V : Type 0} where
  -- the pairs after the first are above it
  pub above_first : (e : ℕ × V) (es : List (ℕ × V)) → IsStrictlySortedBy nat_cmp (keys_of (e ∷ es)) → (x : ℕ × V) → Contains es x → nat_cmp e.0 x.0 ≡ Less
  unfolding IsStrictlySortedBy
  above_first e es sorted x among = all_at (λ n. nat_cmp e.0 n ≡ Less) (keys_of es) sorted.0 x.0 (Contains_map (λ y. y.0) es x among)

  pub sorted_rest : (e : ℕ × V) (es : List (ℕ × V)) → IsStrictlySortedBy nat_cmp (keys_of (e ∷ es)) → IsStrictlySortedBy nat_cmp (keys_of es)
  unfolding IsStrictlySortedBy
  sorted_rest e es sorted = sorted.1

  pub not_first : (e : ℕ × V) (es : List (ℕ × V)) → IsStrictlySortedBy nat_cmp (keys_of (e ∷ es)) → (x : ℕ × V) → Contains es x → e.0 ≢ x.0
  not_first e es sorted x among = λ same. true≢false (sym (same_number e.0 x.0 same) ∙ ap is_eq (above_first e es sorted x among))

  -- each pair is found at its number
  pub found_at : (es : List (ℕ × V)) → IsStrictlySortedBy nat_cmp (keys_of es) → (x : ℕ × V) → Contains es x → lookup (is_at (nat_cmp x.0)) es ≡ Some x.1
  found_at [] sorted x among = absurd (Contains_none x among)
  found_at (e ∷ es) sorted x among = elim (Contains_cases e es x among) [
    | inl here ↦ rw (same_number x.0 e.0 (sym (ap (λ y. y.0) here))) (ap (λ y. Some y.1) here)
    | inr there ↦ rw (other_number x.0 e.0 (λ same. not_first e es sorted x there (sym same))) (found_at es (sorted_rest e es sorted) x there)
  ]

-- ---- keys that are texts

module _ {V : Type 0} where
  sorted_tail : (e : List ℕ × V) (es : List (List ℕ × V)) → IsSorted (keys_of (e ∷ es)) → IsSorted (keys_of es)
  unfolding IsStrictlySortedBy
  sorted_tail e es sorted = sorted.1

  not_head : (e : List ℕ × V) (es : List (List ℕ × V)) → IsSorted (keys_of (e ∷ es)) → (x : List ℕ × V) → Contains es x → x.0 ≢ e.0
  unfolding IsStrictlySortedBy
  not_head e es sorted x among = λ same.
      true≢false (sym (same_id e.0 x.0 (sym same)) ∙ ap is_eq (all_at (λ key. slice_cmp nat_cmp e.0 key ≡ Less) (keys_of es) sorted.0 x.0 (Contains_map (λ y. y.0) es x among)))

  -- in order, each value is found at its key
  pub value_found : (es : List (List ℕ × V)) → IsSorted (keys_of es) → (x : List ℕ × V) → Contains es x → at_text x.0 es ≡ Some x.1
  value_found [] sorted x among = absurd (Contains_none x among)
  value_found (e ∷ es) sorted x among = elim (Contains_cases e es x among) [
    | inl here ↦ rw (same_id x.0 e.0 (sym (ap (λ y. y.0) here))) (ap (λ y. Some y.1) here)
    | inr there ↦ rw (other_id x.0 e.0 (not_head e es sorted x there)) (value_found es (sorted_tail e es sorted) x there)
  ]
