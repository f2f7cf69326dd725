-- The tags of messages do not depend on the order of the messages, and a tag that is there already changes no set.
-- For the proofs of `search_reply` and `add_tag`.
use Rattle.std.proofs.Common.{◌≡◌, ℕ, ℤ, Bool, true, false, cond, ◌||◌, List, [], ◌∷◌, fold, refl, sym, ap, ◌∙◌, true≢false}
use Rattle.std.specs.Prelude.{int_lt}
use Rattle.std.proofs.Math.Bool.{or-false, or_assoc, or_comm}
use Rattle.std.proofs.lemmas.List.Folds.{list_any-append}
use Rattle.std.specs.Cmp.Lexicographic.{slice_cmp, texts_ties}
use Rattle.std.specs.List.{flat_map, list_any}
use Rattle.std.specs.List.Sorted.{IsStrictlySortedBy}
use Rattle.std.specs.Ordering.{is_eq, match_ordering, nat_cmp}
use Rattle.std.specs.declared.cmp.Ordering.{Ordering}
use Rattle.std.specs.declared.cmp.Ordering.TheVariants.{Less, Equal, Greater}
use Rattle.nm_base.specs.Order.{IsSorted, has_text, insert, same_text, sorted}
use Rattle.nm_base.specs.OrderLaws.{IsSorted-sorted, above_all}
use Rattle.nm_base.specs.SetLaws.{has_text-sorted}
use Rattle.nm_base.specs.SortedLaws.{lacks, same_sorted}
use Rattle.nm_model_answer.specs.Listing.{at_rank, by_rank}

-- ---- the texts of items in another order

swapped : (a b c : Bool) → (a || (b || c)) ≡ (b || (a || c))
swapped a b c = sym (or_assoc a b c) ∙ ap (λ x. x || c) (or_comm a b) ∙ or_assoc b a c

module _ {X : Type 0} (rank : X → ℤ) (texts : X → List (List ℕ)) (p : List ℕ → Bool) where
  put_by : (first item : X) (items : List X) (test : Bool) → list_any p (flat_map texts (at_rank rank items item)) ≡ (list_any p (texts item) || list_any p (flat_map texts items))
      → list_any p (flat_map texts (cond test (item ∷ first ∷ items) (first ∷ at_rank rank items item))) ≡ (list_any p (texts item) || list_any p (flat_map texts (first ∷ items)))
  put_by first item items true rest = list_any-append p (texts item) (flat_map texts (first ∷ items))
  put_by first item items false rest =
      list_any-append p (texts first) (flat_map texts (at_rank rank items item))
      ∙ ap (λ b. list_any p (texts first) || b) rest
      ∙ swapped (list_any p (texts first)) (list_any p (texts item)) (list_any p (flat_map texts items))
      ∙ ap (λ b. list_any p (texts item) || b) (sym (list_any-append p (texts first) (flat_map texts items)))

  put_any : (items : List X) (item : X) → list_any p (flat_map texts (at_rank rank items item)) ≡ (list_any p (texts item) || list_any p (flat_map texts items))
  put_any [] item = list_any-append p (texts item) []
  put_any (first ∷ items) item = put_by first item items (int_lt (rank item) (rank first)) (put_any items item)

  all_any : (items sorted : List X) → list_any p (flat_map texts (fold (at_rank rank) sorted items)) ≡ (list_any p (flat_map texts sorted) || list_any p (flat_map texts items))
  all_any [] sorted = sym (or-false (list_any p (flat_map texts sorted)))
  all_any (item ∷ items) sorted =
      all_any items (at_rank rank sorted item)
      ∙ ap (λ b. b || list_any p (flat_map texts items)) (put_any sorted item ∙ or_comm (list_any p (texts item)) (list_any p (flat_map texts sorted)))
      ∙ or_assoc (list_any p (flat_map texts sorted)) (list_any p (texts item)) (list_any p (flat_map texts items))
      ∙ ap (λ b. list_any p (flat_map texts sorted) || b) (sym (list_any-append p (texts item) (flat_map texts items)))

pub in_any_order : {X : Type 0} (rank : X → ℤ) (texts : X → List (List ℕ)) (items : List X) → sorted (flat_map texts (by_rank rank items)) ≡ sorted (flat_map texts items)
in_any_order rank texts items =
    same_sorted (sorted (flat_map texts (by_rank rank items))) (sorted (flat_map texts items)) (IsSorted-sorted (flat_map texts (by_rank rank items))) (IsSorted-sorted (flat_map texts items))
    (λ text. has_text-sorted (flat_map texts (by_rank rank items)) text ∙ all_any rank texts (same_text text) items [] ∙ sym (has_text-sorted (flat_map texts items) text))

-- ---- a text that is there already

old_by : (x : List ℕ) (xs : List (List ℕ)) (text : List ℕ) (answer : Ordering) → slice_cmp nat_cmp text x ≡ answer → IsSorted (x ∷ xs) → has_text (x ∷ xs) text ≡ true
    → (has_text xs text ≡ true → insert xs text ≡ xs) → match_ordering answer (text ∷ x ∷ xs) (x ∷ xs) (x ∷ insert xs text) ≡ x ∷ xs
unfolding IsStrictlySortedBy
old_by x xs text Less is rising has rest = absurd (true≢false (sym has ∙ lacks text (x ∷ xs) (is, above_all text x xs rising.0 is)))
old_by x xs text Equal is rising has rest = refl
old_by x xs text Greater is rising has rest =
    ap (λ (l : List (List ℕ)). x ∷ l) (rest (sym (ap (λ b. b || has_text xs text) (texts_ties text x ∙ ap is_eq is)) ∙ has))

pub old_stays : (texts : List (List ℕ)) (text : List ℕ) → IsSorted texts → has_text texts text ≡ true → insert texts text ≡ texts
unfolding IsStrictlySortedBy
old_stays [] text rising has = absurd (true≢false (sym has))
old_stays (x ∷ xs) text rising has = old_by x xs text (slice_cmp nat_cmp text x) refl rising has (λ there. old_stays xs text rising.1 there)
