-- The order of messages by date. For the proof of `messages_are_told_by_date`.
use Rattle.std.proofs.Common.{◌≡◌, ℤ, pos, ◌-ℤ◌, Bool, true, false, not, ◌&&◌, cond, List, [], ◌∷◌, filter, refl, sym, ap, ◌∙◌, arith}
use Rattle.std.specs.Prelude.{int_lt}
use Rattle.std.specs.List.{AllByRecursion}
use Rattle.std.proofs.lemmas.Int.{ints}
use Rattle.nm_model_answer.specs.Listing.{by_rank}
use Rattle.nm_model_answer.specs.Orders.{Falls, Rises, is_ranked}
use Rattle.nm_model_answer.specs.RankLaws.{by_rank_is}

back : (a b : ℤ) → int_lt (pos 0 -ℤ a) (pos 0 -ℤ b) ≡ int_lt b a
back a b = elim (int_lt b a) as (λ v. int_lt b a ≡ v → int_lt (pos 0 -ℤ a) (pos 0 -ℤ b) ≡ v) [
  | true ↦ λ is. grind (arith, ints)
  | false ↦ λ is. grind (arith, ints)
] refl

and_turned : (a b : Bool) → (a && b) ≡ (b && a)
and_turned true true = refl
and_turned true false = refl
and_turned false true = refl
and_turned false false = refl

module _ {X : Type 0} (date : X → ℤ) where
  -- the rank where the newest come first
  abbrev age : X → ℤ
  age item = pos 0 -ℤ date item

  none_newer : (item : X) (items : List X) → AllByRecursion (λ later. int_lt (age later) (age item) ≡ false) items → AllByRecursion (λ later. int_lt (date item) (date later) ≡ false) items
  none_newer item [] all = tt
  none_newer item (later ∷ items) all = (sym (back (date later) (date item)) ∙ all.0, none_newer item items all.1)

  falls : (items : List X) → Rises age items → Falls date items
  falls [] rises = tt
  falls (item ∷ items) rises = (none_newer item items rises.0, falls items rises.1)

  pub newest-falls : (items : List X) → Falls date (by_rank age items)
  newest-falls items = falls (by_rank age items) (by_rank_is age items).rising

  same_rank : (d : ℤ) (item : X) → is_ranked age (pos 0 -ℤ d) item ≡ is_ranked date d item
  same_rank d item =
      ap (λ v. not v && not (int_lt (pos 0 -ℤ d) (age item))) (back (date item) d) ∙ ap (λ v. not (int_lt d (date item)) && not v) (back d (date item))
      ∙ and_turned (not (int_lt d (date item))) (not (int_lt (date item) d))

  same_filter : (d : ℤ) (items : List X) → filter (is_ranked age (pos 0 -ℤ d)) items ≡ filter (is_ranked date d) items
  same_filter d [] = refl
  same_filter d (item ∷ items) =
      ap (λ v. cond v (item ∷ filter (is_ranked age (pos 0 -ℤ d)) items) (filter (is_ranked age (pos 0 -ℤ d)) items)) (same_rank d item)
      ∙ ap (λ rest. cond (is_ranked date d item) (item ∷ rest) rest) (same_filter d items)

  pub newest-same : (items : List X) (d : ℤ) → filter (is_ranked date d) (by_rank age items) ≡ filter (is_ranked date d) items
  newest-same items d = sym (same_filter d (by_rank age items)) ∙ (by_rank_is age items).same (pos 0 -ℤ d) ∙ same_filter d items
