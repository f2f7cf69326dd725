-- What is printed piece by piece. For the proofs of `push_names` and `push_thread`.
use Rattle.std.proofs.Common.{◌≡◌, ℕ, List, [], ◌∷◌, ◌++◌, map, refl, ap, ap₂, ◌∙◌, append_assoc}
use Rattle.std.specs.List.{flat_map}

pub two_puts : (line a b mid new : List ℕ) → mid ≡ line ++ a → new ≡ mid ++ b → new ≡ line ++ (a ++ b)
two_puts line a b mid new first second = second ∙ ap (λ front. front ++ b) first ∙ append_assoc line a b

-- each item by one function, or by two
pub same_told : {X Y : Type 0} (f : X → List ℕ) (g : X → Y) (h : Y → List ℕ) (items : List X) → ((item : X) → f item ≡ h (g item)) → flat_map f items ≡ flat_map h (map g items)
same_told f g h [] same = refl
same_told f g h (item ∷ items) same = ap₂ (λ front rest. front ++ rest) (same item) (same_told f g h items same)
