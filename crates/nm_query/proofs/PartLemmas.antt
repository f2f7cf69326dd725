-- A group that was split for one kind of terms, joined again, has them in one Or at the place of the first.
-- For the proof of `with_joined`.
use Rattle.std.proofs.Common.{◌≡◌, ℕ, suc, arith, true, false, cond, not, List, [], ◌∷◌, ◌++◌, ◌==◌, length, map, filter, sym, ap, ◌∙◌, append_assoc}
use Rattle.std.specs.Prelude.{fold}
use Rattle.std.proofs.lemmas.Bool.Decides.{nat_tests}
use Rattle.std.proofs.lemmas.List.{append-nil}
use Rattle.nm_query.specs.Groups.{is_of, joined, others, queries_of, with_joined}
use Rattle.nm_query.specs.GroupTerms.{part, rejoined, unparted}
use Rattle.nm_query.specs.declared.group.Parted.{Parted}
use Rattle.nm_query.specs.declared.query.Query.{Query}
use Rattle.nm_query.specs.declared.token.Item.{Item}
use Rattle.nm_query.specs.declared.token.Operator.TheVariants.{Disjunction}
use Rattle.nm_query.specs.declared.token.TermKind.{TermKind}
use Rattle.nm_query.specs.declared.token.TermKind.TheVariants as joins

abbrev pub rejoin : Parted → List Item
rejoin parted = rejoined parted.before parted.found parted.after

abbrev one : List Query → Item
one queries = record { kind = joins.Other; query = joined Disjunction queries }

abbrev parted_of : List Item → List Query → List Item → Parted
parted_of before found after = record { before = before; found = found; after = after }

not_zero : (n : ℕ) → (suc n == 0) ≡ false
not_zero n = grind (arith, nat_tests)

module _ (kind : TermKind) where
  -- once one was found, the others of the kind join it
  found_more : (items before : List Item) (first : Query) (found : List Query) (after : List Item) →
      rejoin (fold (part kind) (parted_of before (first ∷ found) after) items) ≡ before ++ one (first ∷ (found ++ queries_of kind items)) ∷ (after ++ others kind items)
  found_more [] before first found after =
      ap (λ x. before ++ one (first ∷ x) ∷ after) (sym (append-nil found)) ∙ ap (λ x. before ++ one (first ∷ (found ++ [])) ∷ x) (sym (append-nil after))
  found_more (item ∷ more) before first found after =
      elim (is_of kind item) as (λ v. rejoin (fold (part kind) (cond v (parted_of before (first ∷ (found ++ item.query ∷ [])) after) (cond (length (first ∷ found) == 0) (parted_of (before ++ item ∷ []) (first ∷ found) after) (parted_of before (first ∷ found) (after ++ item ∷ [])))) more)
      ≡ before ++ one (first ∷ (found ++ map (λ item. item.query) (cond v (item ∷ filter (is_of kind) more) (filter (is_of kind) more)))) ∷ (after ++ cond (not v) (item ∷ others kind more) (others kind more))) [
        | true ↦ found_more more before first (found ++ item.query ∷ []) after ∙ ap (λ x. before ++ one (first ∷ x) ∷ (after ++ others kind more)) (append_assoc found (item.query ∷ []) (queries_of kind more))
        | false ↦ ap (λ b. rejoin (fold (part kind) (cond b (parted_of (before ++ item ∷ []) (first ∷ found) after) (parted_of before (first ∷ found) (after ++ item ∷ []))) more)) (not_zero (length found))
            ∙ found_more more before first found (after ++ item ∷ []) ∙ ap (λ x. before ++ one (first ∷ (found ++ queries_of kind more)) ∷ x) (append_assoc after (item ∷ []) (others kind more))
      ]

  none_yet : (items before : List Item) → rejoin (fold (part kind) (parted_of before [] []) items) ≡ before ++ with_joined kind items
  none_yet [] before = sym (append-nil before)
  none_yet (item ∷ more) before =
      elim (is_of kind item) as (λ v. rejoin (fold (part kind) (cond v (parted_of before (item.query ∷ []) []) (cond (length {A = Query} [] == 0) (parted_of (before ++ item ∷ []) [] []) (parted_of before [] (item ∷ [])))) more)
      ≡ before ++ cond v (one (item.query ∷ queries_of kind more) ∷ others kind more) (item ∷ with_joined kind more)) [
        | true ↦ found_more more before item.query [] []
        | false ↦ none_yet more (before ++ item ∷ []) ∙ append_assoc before (item ∷ []) (with_joined kind more)
      ]

  pub rejoined_group : (items : List Item) → rejoin (fold (part kind) unparted items) ≡ with_joined kind items
  rejoined_group items = none_yet items []
