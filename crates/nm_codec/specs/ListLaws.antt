-- Lists are read again, and what is read was encoded so; items are read one after the other.
-- Cited by `Grammar` and `RisingLaws`.
use Rattle.std.proofs.Common.{◌≡◌, ℕ, zero, suc, ◌^◌, ◌<◌, ◌≤◌, Bool, true, List, [], ◌∷◌, ◌++◌, length, Ok, refl, sym, ap, subst, ◌∙◌, append_assoc, length-append, arith}
use Rattle.std.specs.List.{flat_map, list_all}
use Rattle.std.specs.Int.{w32, to_be_bytes}
use Rattle.std.proofs.lemmas.Bool.{and_parts}
use Rattle.std.proofs.lemmas.List.Concat.{flat_map-cons}
use Rattle.nm_codec.specs.Encoding.{list_bytes}
use Rattle.nm_codec.specs.ReadSteps.{◌>>=◌, IsBytes, Reading, Takes, items_at, list_at, number_at}
use Rattle.nm_codec.specs.StepLaws.{bind_ok, both, ok_is, Takes-then}
use Rattle.nm_codec.specs.NumberLaws.{is_width_32, number_again, number_only}

module _ {A : Type 0} (read : List ℕ → Reading A) (bytes : A → List ℕ) where
  -- the items take at least as many bytes as they are
  pub few : ((a : A) → 0 < length (bytes a)) → (xs : List A) → length xs ≤ length (flat_map bytes xs)
  few some [] = omega arith
  few some (x ∷ xs) = rw (flat_map-cons bytes x xs) (omega (arith, some x, few some xs, length-append (bytes x) (flat_map bytes xs)))

  pub some_list : (xs : List A) → 0 < length (list_bytes bytes xs)
  some_list xs = omega (arith, length-append (to_be_bytes w32 (length xs)) (flat_map bytes xs))

  module _ (valid : A → Bool) where
    items_again : ((a : A) (rest : List ℕ) → valid a ≡ true → length (bytes a) < 2 ^ 32 → read (bytes a ++ rest) ≡ Ok (a, rest))
        → (xs : List A) (rest : List ℕ) → list_all valid xs ≡ true → length (flat_map bytes xs) < 2 ^ 32 → items_at read (length xs) (flat_map bytes xs ++ rest) ≡ Ok (xs, rest)
    unfolding items_at
    items_again again [] rest v short = refl
    items_again again (x ∷ xs) rest v short =
        let vs = and_parts (valid x) (list_all valid xs) v in
        let whole : flat_map bytes (x ∷ xs) ≡ bytes x ++ flat_map bytes xs = flat_map-cons bytes x xs in
        let short' : length (bytes x ++ flat_map bytes xs) < 2 ^ 32 = subst (λ (t : List ℕ). length t < 2 ^ 32) whole short in
        let regrouped : flat_map bytes (x ∷ xs) ++ rest ≡ bytes x ++ (flat_map bytes xs ++ rest) = ap (λ (t : List ℕ). t ++ rest) whole ∙ append_assoc (bytes x) (flat_map bytes xs) rest in
        let first = again x (flat_map bytes xs ++ rest) vs.0 (omega (arith, short', length-append (bytes x) (flat_map bytes xs))) in
        let others = items_again again xs rest vs.1 (omega (arith, short', length-append (bytes x) (flat_map bytes xs))) in
        ap (items_at read (suc (length xs))) regrouped ∙ rw (first, others) refl

    pub list_again : ((a : A) → 0 < length (bytes a)) → ((a : A) (rest : List ℕ) → valid a ≡ true → length (bytes a) < 2 ^ 32 → read (bytes a ++ rest) ≡ Ok (a, rest))
        → (xs : List A) (rest : List ℕ) → list_all valid xs ≡ true → length (list_bytes bytes xs) < 2 ^ 32 → list_at read (list_bytes bytes xs ++ rest) ≡ Ok (xs, rest)
    unfolding list_at
    list_again some again xs rest v short =
        let count : length xs < 2 ^ 32 = omega (arith, short, few some xs, length-append (to_be_bytes w32 (length xs)) (flat_map bytes xs)) in
        let items : length (flat_map bytes xs) < 2 ^ 32 = omega (arith, short, length-append (to_be_bytes w32 (length xs)) (flat_map bytes xs)) in
        rw (append_assoc (to_be_bytes w32 (length xs)) (flat_map bytes xs) rest, number_again w32 (2 ^ 32) is_width_32 (length xs) (flat_map bytes xs ++ rest) count) (items_again again xs rest v items)

    pub items_only : ((all : List ℕ) (a : A) (rest : List ℕ) → IsBytes all → read all ≡ Ok (a, rest) → Takes all (bytes a) rest × (valid a ≡ true))
        → (n : ℕ) (all : List ℕ) (y : List A × List ℕ) → IsBytes all → items_at read n all ≡ Ok y
        → Takes all (flat_map bytes y.0) y.1 × (length y.0 ≡ n) × (list_all valid y.0 ≡ true)
    unfolding items_at
    items_only only zero all y fits e =
        subst (λ (z : List A × List ℕ). Takes all (flat_map bytes z.0) z.1 × (length z.0 ≡ 0) × (list_all valid z.0 ≡ true)) (ok_is ([], all) y e)
        (record { parts = refl; rest_fits = fits }, refl, refl)
    items_only only (suc n) all y fits e =
        let f = bind_ok (read all) (λ first. items_at read n first.1 >>= λ others. Ok (first.0 ∷ others.0, others.1)) y e in
        let g = bind_ok (items_at read n f.0.1) (λ others. Ok (f.0.0 ∷ others.0, others.1)) y f.2 in
        let first = only all f.0.0 f.0.1 fits f.1 in
        let second = items_only only n f.0.1 g.0 first.0.rest_fits g.1 in
        let taken = Takes-then all (bytes f.0.0) f.0.1 (flat_map bytes g.0.0) g.0.1 first.0 second.0 in
        let made : List A × List ℕ = (f.0.0 ∷ g.0.0, g.0.1) in
        subst (λ (z : List A × List ℕ). Takes all (flat_map bytes z.0) z.1 × (length z.0 ≡ suc n) × (list_all valid z.0 ≡ true)) (ok_is made y g.2)
        (rw (flat_map-cons bytes f.0.0 g.0.0) taken, ap suc second.1, both (valid f.0.0) (list_all valid g.0.0) first.1 second.2)

    pub list_only : ((all : List ℕ) (a : A) (rest : List ℕ) → IsBytes all → read all ≡ Ok (a, rest) → Takes all (bytes a) rest × (valid a ≡ true))
        → (all : List ℕ) (xs : List A) (rest : List ℕ) → IsBytes all → list_at read all ≡ Ok (xs, rest) → Takes all (list_bytes bytes xs) rest × (list_all valid xs ≡ true)
    unfolding list_at
    list_only only all xs rest fits e =
        let f = bind_ok (number_at w32 all) (λ n. items_at read n.0 n.1) (xs, rest) e in
        let first = number_only w32 (2 ^ 32) is_width_32 all f.0.0 f.0.1 fits f.1 in
        let second = items_only only f.0.0 f.0.1 (xs, rest) first.0.rest_fits f.2 in
        let taken = Takes-then all (to_be_bytes w32 f.0.0) f.0.1 (flat_map bytes xs) rest first.0 second.0 in
        (subst (λ (k : ℕ). Takes all (to_be_bytes w32 k ++ flat_map bytes xs) rest) (sym second.1) taken, second.2)
