-- Items of two lists put together. For `AddLemmas` and `HeldLemmas`.
use Rattle.std.proofs.Common.{subst, List, [], ◌∷◌, ◌++◌, inl, inr, ◌⊎◌}
use Rattle.std.specs.Prelude.{Contains}
use Rattle.nm_base.specs.KeyLaws.{Contains_there, Contains_first, Contains_cases, Contains_none}

module _ {X : Type 0} where
  pub in_left : (xs ys : List X) (x : X) → Contains xs x → Contains (xs ++ ys) x
  in_left [] ys x among = absurd (Contains_none x among)
  in_left (z ∷ xs) ys x among = elim (Contains_cases z xs x among) [
    | inl here ↦ subst (λ w. Contains (z ∷ xs ++ ys) w) here (Contains_first z (xs ++ ys))
    | inr there ↦ Contains_there z (xs ++ ys) x (in_left xs ys x there)
  ]

  pub in_right : (xs ys : List X) (x : X) → Contains ys x → Contains (xs ++ ys) x
  in_right [] ys x among = among
  in_right (z ∷ xs) ys x among = Contains_there z (xs ++ ys) x (in_right xs ys x among)

  pub in_either : (xs ys : List X) (x : X) → Contains (xs ++ ys) x → Contains xs x ⊎ Contains ys x
  in_either [] ys x among = inr among
  in_either (z ∷ xs) ys x among = elim (Contains_cases z (xs ++ ys) x among) [
    | inl here ↦ inl (subst (λ w. Contains (z ∷ xs) w) here (Contains_first z xs))
    | inr there ↦ elim (in_either xs ys x there) [ inl left ↦ inl (Contains_there z xs x left) | inr right ↦ inr right ]
  ]
