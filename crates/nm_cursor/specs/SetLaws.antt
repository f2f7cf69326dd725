-- What the lists of cursors have: membership in what two lists make, and that it decides a rising list. Cited by `laws`.
use Rattle.std.specs.Prelude.{◌≡◌, ◌↔◌, ℕ, true, not, ◌&&◌, ◌||◌, nat_le, List}
use Rattle.std.specs.List.{Contains}
use Rattle.nm_cursor.specs.Sets.{IsRising, difference, from, has, intersection, symmetric_difference, union}

-- which documents each list has
pub record Membership (left right : List ℕ) (doc : ℕ) : Type 0 where
  pub has_is : (has left doc ≡ true) ↔ Contains left doc
  pub in_from : (start : ℕ) → has (from start left) doc ≡ (has left doc && nat_le start doc)
  pub in_intersection : has (intersection left right) doc ≡ (has left doc && has right doc)
  pub in_difference : has (difference left right) doc ≡ (has left doc && not (has right doc))
  pub in_union : has (union left right) doc ≡ (has left doc || has right doc)
  pub in_symmetric_difference : has (symmetric_difference left right) doc ≡ ((has left doc && not (has right doc)) || (has right doc && not (has left doc)))

-- what two rising lists make rises, and two that have the same documents are one
pub record Order (left right : List ℕ) : Type 0 where
  pub intersection_rises : IsRising (intersection left right)
  pub difference_rises : IsRising (difference left right)
  pub union_rises : IsRising (union left right)
  pub symmetric_difference_rises : IsRising (symmetric_difference left right)
  pub decides : ((doc : ℕ) → has left doc ≡ has right doc) → left ≡ right
