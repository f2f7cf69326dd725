-- Items after their ranks. For the proof of `ordered`.
use Rattle.std.proofs.Common.{◌≡◌, ℤ, Bool, true, false, cond, List, [], ◌∷◌, fold, map, refl, ap, ◌∙◌}
use Rattle.std.specs.Prelude.{int_lt}
use Rattle.nm_model_answer.specs.Listing.{at_rank, by_rank}

module _ {X : Type 0} (rank : X → ℤ) where
  abbrev pub ranked : X → ℤ × X
  ranked item = (rank item, item)

  abbrev pub told_rank : ℤ × X → ℤ
  told_rank message = message.0

  put_by : (first item : X) (sorted : List X) (test : Bool) → at_rank told_rank (map ranked sorted) (ranked item) ≡ map ranked (at_rank rank sorted item)
      → cond test (ranked item ∷ ranked first ∷ map ranked sorted) (ranked first ∷ at_rank told_rank (map ranked sorted) (ranked item)) ≡ map ranked (cond test (item ∷ first ∷ sorted) (first ∷ at_rank rank sorted item))
  put_by first item sorted true rest = refl
  put_by first item sorted false rest = ap (λ more. ranked first ∷ more) rest

  put_ranked : (sorted : List X) (item : X) → at_rank told_rank (map ranked sorted) (ranked item) ≡ map ranked (at_rank rank sorted item)
  put_ranked [] item = refl
  put_ranked (first ∷ sorted) item = put_by first item sorted (int_lt (rank item) (rank first)) (put_ranked sorted item)

  all_ranked : (sorted items : List X) → fold (at_rank told_rank) (map ranked sorted) (map ranked items) ≡ map ranked (fold (at_rank rank) sorted items)
  all_ranked sorted [] = refl
  all_ranked sorted (item ∷ items) = ap (λ front. fold (at_rank told_rank) front (map ranked items)) (put_ranked sorted item) ∙ all_ranked (at_rank rank sorted item) items

  without_ranks : (items : List X) → map (λ (message : ℤ × X). message.1) (map ranked items) ≡ items
  without_ranks [] = refl
  without_ranks (item ∷ items) = ap (λ more. item ∷ more) (without_ranks items)

  -- sorted by the ranks that are known, they are in the order of their own
  pub told_by_rank : (items : List X) → map (λ (message : ℤ × X). message.1) (by_rank told_rank (map ranked items)) ≡ by_rank rank items
  told_by_rank items = ap (map (λ (message : ℤ × X). message.1)) (all_ranked [] items) ∙ without_ranks (by_rank rank items)
