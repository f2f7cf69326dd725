-- Two sorted lists that have the same texts are one. For proofs alone: those of `nm_render`, `nm_segment` and `nm_sync`.
use Rattle.std.proofs.Common.{◌≡◌, ℕ, Bool, true, false, ◌||◌, List, [], ◌∷◌, refl, sym, ap, ◌∙◌}
use Rattle.std.specs.Cmp.Lexicographic.{nat_list_eq_equiv, slice_cmp, texts_ties}
use Rattle.std.specs.List.{AllByRecursion}
use Rattle.std.specs.List.Sorted.{IsStrictlySortedBy}
use Rattle.std.specs.Ordering.{is_eq, nat_cmp}
use Rattle.std.specs.declared.cmp.Ordering.{Ordering}
use Rattle.std.specs.declared.cmp.Ordering.TheVariants.{Less, Equal, Greater}
use Rattle.nm_base.specs.Order.{IsSorted, has_text, same_text}
use Rattle.nm_base.specs.OrderLaws.{above_all, turned}
use Rattle.nm_base.specs.SetLaws.{bytes_same}

-- what is below all is none of them
pub lacks : (text : List ℕ) (texts : List (List ℕ)) → AllByRecursion (λ y. slice_cmp nat_cmp text y ≡ Less) texts → has_text texts text ≡ false
lacks text [] below = refl
lacks text (y ∷ texts) below = ap (λ b. b || has_text texts text) (texts_ties text y ∙ ap is_eq below.0) ∙ lacks text texts below.1

has_first : (text : List ℕ) (texts : List (List ℕ)) → has_text (text ∷ texts) text ≡ true
has_first text texts = ap (λ b. b || has_text texts text) (nat_list_eq_equiv.refl text)

rest_by : (x text : List ℕ) (xs ys : List (List ℕ)) (b : Bool) → same_text text x ≡ b → AllByRecursion (λ y. slice_cmp nat_cmp x y ≡ Less) xs → AllByRecursion (λ y. slice_cmp nat_cmp x y ≡ Less) ys
    → (b || has_text xs text) ≡ (b || has_text ys text) → has_text xs text ≡ has_text ys text
rest_by x text xs ys true is above below same =
    let one : text ≡ x = bytes_same text x (sym is) in
    ap (has_text xs) one ∙ (lacks x xs above ∙ (sym (lacks x ys below) ∙ sym (ap (has_text ys) one)))
rest_by x text xs ys false is above below same = same

absurd_bool : (P : Type 0) (b : Bool) → b ≡ true → b ≡ false → P
absurd_bool P true e f = absurd cc
absurd_bool P false e f = absurd cc

module _ (x y : List ℕ) (xs ys : List (List ℕ)) (rising : IsSorted (x ∷ xs)) (other : IsSorted (y ∷ ys)) (same : (text : List ℕ) → has_text (x ∷ xs) text ≡ has_text (y ∷ ys) text) where
  same_by : (answer : Ordering) → slice_cmp nat_cmp x y ≡ answer → (((text : List ℕ) → has_text xs text ≡ has_text ys text) → xs ≡ ys) → x ∷ xs ≡ y ∷ ys
  unfolding IsStrictlySortedBy
  same_by Less is rest =
      absurd_bool (x ∷ xs ≡ y ∷ ys) (has_text (y ∷ ys) x) (sym (same x) ∙ has_first x xs) (lacks x (y ∷ ys) (is, above_all x y ys other.0 is))
  same_by Greater is rest =
      let below : slice_cmp nat_cmp y x ≡ Less = turned x y Greater is in
      absurd_bool (x ∷ xs ≡ y ∷ ys) (has_text (x ∷ xs) y) (same y ∙ has_first y ys) (lacks y (x ∷ xs) (below, above_all y x xs rising.0 below))
  same_by Equal is rest =
      let one : x ≡ y = bytes_same x y (sym (texts_ties x y ∙ ap is_eq is)) in
      let there : AllByRecursion (λ z. slice_cmp nat_cmp x z ≡ Less) ys = rw one other.0 in
      let tails : (text : List ℕ) → has_text xs text ≡ has_text ys text =
      λ text. rest_by x text xs ys (same_text text x) refl rising.0 there (same text ∙ ap (λ t. same_text text t || has_text ys text) (sym one)) in
      ap (λ (t : List ℕ). t ∷ xs) one ∙ ap (λ (l : List (List ℕ)). y ∷ l) (rest tails)

pub same_sorted : (xs ys : List (List ℕ)) → IsSorted xs → IsSorted ys → ((text : List ℕ) → has_text xs text ≡ has_text ys text) → xs ≡ ys
unfolding IsStrictlySortedBy
same_sorted [] [] rising other same = refl
same_sorted [] (y ∷ ys) rising other same = absurd_bool ([] ≡ y ∷ ys) (has_text (y ∷ ys) y) (has_first y ys) (sym (same y))
same_sorted (x ∷ xs) [] rising other same = absurd_bool (x ∷ xs ≡ []) (has_text (x ∷ xs) x) (has_first x xs) (same x)
same_sorted (x ∷ xs) (y ∷ ys) rising other same = same_by x y xs ys rising other same (slice_cmp nat_cmp x y) refl (λ tails. same_sorted xs ys rising.1 other.1 tails)
