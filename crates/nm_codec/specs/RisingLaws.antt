-- Lists that rise are read again, and what is read was encoded so. Cited by `Grammar`.
use Rattle.std.proofs.Common.{◌≡◌, ℕ, zero, suc, ◌^◌, ◌<◌, Bool, true, ◌&&◌, List, [], ◌∷◌, ◌++◌, length, Option, Some, None, cond, Ok, Err, refl, sym, ap, subst, ◌∙◌, append_assoc, length-append, arith}
use Rattle.std.specs.List.{flat_map, list_all}
use Rattle.std.specs.Int.{w32, to_be_bytes}
use Rattle.std.proofs.lemmas.Bool.{and_parts}
use Rattle.std.proofs.lemmas.List.Concat.{flat_map-cons}
use Rattle.nm_codec.specs.Encoding.{list_bytes}
use Rattle.nm_codec.specs.ReadSteps.{◌>>=◌, IsBytes, Reading, Takes, follows, is_rising, number_at, rising_at, rising_items_at, tested_at}
use Rattle.nm_codec.specs.StepLaws.{bind_ok, both, ok_is, passed_ok, Takes-then}
use Rattle.nm_codec.specs.NumberLaws.{is_width_32, number_again, number_only}
use Rattle.nm_codec.specs.ListLaws.{few}
use Rattle.nm_codec.specs.MapLaws.{tested_again, tested_only}

module _ {A : Type 0} (below : A → A → Bool) (read : List ℕ → Reading A) (bytes : A → List ℕ) (valid : A → Bool) where
  items_again : ((a : A) (rest : List ℕ) → valid a ≡ true → length (bytes a) < 2 ^ 32 → read (bytes a ++ rest) ≡ Ok (a, rest))
      → (last : Option A) (xs : List A) (rest : List ℕ) → list_all valid xs ≡ true → is_rising below last xs ≡ true → length (flat_map bytes xs) < 2 ^ 32
      → rising_items_at below read last (length xs) (flat_map bytes xs ++ rest) ≡ Ok (xs, rest)
  unfolding rising_items_at
  items_again again last [] rest v r short = refl
  items_again again last (x ∷ xs) rest v r short =
      let vs = and_parts (valid x) (list_all valid xs) v in
      let rs = and_parts (follows below last x) (is_rising below (Some x) xs) r in
      let whole : flat_map bytes (x ∷ xs) ≡ bytes x ++ flat_map bytes xs = flat_map-cons bytes x xs in
      let short' : length (bytes x ++ flat_map bytes xs) < 2 ^ 32 = subst (λ (t : List ℕ). length t < 2 ^ 32) whole short in
      let regrouped : flat_map bytes (x ∷ xs) ++ rest ≡ bytes x ++ (flat_map bytes xs ++ rest) = ap (λ (t : List ℕ). t ++ rest) whole ∙ append_assoc (bytes x) (flat_map bytes xs) rest in
      let first = tested_again (follows below last) read bytes valid again x (flat_map bytes xs ++ rest) (both (valid x) (follows below last x) vs.0 rs.0)
      (omega (arith, short', length-append (bytes x) (flat_map bytes xs))) in
      let others = items_again again (Some x) xs rest vs.1 rs.1 (omega (arith, short', length-append (bytes x) (flat_map bytes xs))) in
      ap (rising_items_at below read last (suc (length xs))) regrouped ∙ rw (first, others) refl

  pub rising_again : ((a : A) → 0 < length (bytes a)) → ((a : A) (rest : List ℕ) → valid a ≡ true → length (bytes a) < 2 ^ 32 → read (bytes a ++ rest) ≡ Ok (a, rest))
      → (xs : List A) (rest : List ℕ) → (list_all valid xs && is_rising below None xs) ≡ true → length (list_bytes bytes xs) < 2 ^ 32 → rising_at below read (list_bytes bytes xs ++ rest) ≡ Ok (xs, rest)
  unfolding rising_at
  rising_again some again xs rest v short =
      let vs = and_parts (list_all valid xs) (is_rising below None xs) v in
      let count : length xs < 2 ^ 32 = omega (arith, short, few read bytes some xs, length-append (to_be_bytes w32 (length xs)) (flat_map bytes xs)) in
      let items : length (flat_map bytes xs) < 2 ^ 32 = omega (arith, short, length-append (to_be_bytes w32 (length xs)) (flat_map bytes xs)) in
      rw (append_assoc (to_be_bytes w32 (length xs)) (flat_map bytes xs) rest, number_again w32 (2 ^ 32) is_width_32 (length xs) (flat_map bytes xs ++ rest) count)
      (items_again again None xs rest vs.0 vs.1 items)

  items_only : ((all : List ℕ) (a : A) (rest : List ℕ) → IsBytes all → read all ≡ Ok (a, rest) → Takes all (bytes a) rest × (valid a ≡ true))
      → (last : Option A) (n : ℕ) (all : List ℕ) (y : List A × List ℕ) → IsBytes all → rising_items_at below read last n all ≡ Ok y
      → Takes all (flat_map bytes y.0) y.1 × (length y.0 ≡ n) × ((list_all valid y.0 ≡ true) × (is_rising below last y.0 ≡ true))
  unfolding rising_items_at
  items_only only last zero all y fits e =
      subst (λ (z : List A × List ℕ). Takes all (flat_map bytes z.0) z.1 × (length z.0 ≡ 0) × ((list_all valid z.0 ≡ true) × (is_rising below last z.0 ≡ true))) (ok_is ([], all) y e)
      (record { parts = refl; rest_fits = fits }, refl, (refl, refl))
  items_only only last (suc n) all y fits e =
      let f = bind_ok (tested_at (follows below last) read all) (λ first. rising_items_at below read (Some first.0) n first.1 >>= λ others. Ok (first.0 ∷ others.0, others.1)) y e in
      let g = bind_ok (rising_items_at below read (Some f.0.0) n f.0.1) (λ others. Ok (f.0.0 ∷ others.0, others.1)) y f.2 in
      let first = tested_only (follows below last) read bytes valid only all f.0.0 f.0.1 fits f.1 in
      let fs = and_parts (valid f.0.0) (follows below last f.0.0) first.1 in
      let second = items_only only (Some f.0.0) n f.0.1 g.0 first.0.rest_fits g.1 in
      let taken = Takes-then all (bytes f.0.0) f.0.1 (flat_map bytes g.0.0) g.0.1 first.0 second.0 in
      let made : List A × List ℕ = (f.0.0 ∷ g.0.0, g.0.1) in
      subst (λ (z : List A × List ℕ). Takes all (flat_map bytes z.0) z.1 × (length z.0 ≡ suc n) × ((list_all valid z.0 ≡ true) × (is_rising below last z.0 ≡ true))) (ok_is made y g.2)
      (rw (flat_map-cons bytes f.0.0 g.0.0) taken, ap suc second.1, (both (valid f.0.0) (list_all valid g.0.0) fs.0 second.2.0, both (follows below last f.0.0) (is_rising below (Some f.0.0) g.0.0) fs.1 second.2.1))

  pub rising_only : ((all : List ℕ) (a : A) (rest : List ℕ) → IsBytes all → read all ≡ Ok (a, rest) → Takes all (bytes a) rest × (valid a ≡ true))
      → (all : List ℕ) (xs : List A) (rest : List ℕ) → IsBytes all → rising_at below read all ≡ Ok (xs, rest) → Takes all (list_bytes bytes xs) rest × ((list_all valid xs && is_rising below None xs) ≡ true)
  unfolding rising_at
  rising_only only all xs rest fits e =
      let f = bind_ok (number_at w32 all) (λ n. rising_items_at below read None n.0 n.1) (xs, rest) e in
      let first = number_only w32 (2 ^ 32) is_width_32 all f.0.0 f.0.1 fits f.1 in
      let second = items_only only None f.0.0 f.0.1 (xs, rest) first.0.rest_fits f.2 in
      let taken = Takes-then all (to_be_bytes w32 f.0.0) f.0.1 (flat_map bytes xs) rest first.0 second.0 in
      (subst (λ (k : ℕ). Takes all (to_be_bytes w32 k ++ flat_map bytes xs) rest) (sym second.1) taken, both (list_all valid xs) (is_rising below None xs) second.2.0 second.2.1)

module _ {A : Type 0} (below : A → A → Bool) (read : List ℕ → Reading A) where
  tested_follows : (last : Option A) (all : List ℕ) (x : A × List ℕ) → tested_at (follows below last) read all ≡ Ok x → follows below last x.0 ≡ true
  unfolding tested_at
  tested_follows last all x e =
      let f = bind_ok (read all) (λ y. cond (follows below last y.0) (Ok y) (Err (length all))) x e in
      let g = passed_ok (follows below last f.0.0) (length all) f.0 x f.2 in
      subst (λ (y : A × List ℕ). follows below last y.0 ≡ true) g.1 g.0

  items_rise : (last : Option A) (n : ℕ) (all : List ℕ) (y : List A × List ℕ) → rising_items_at below read last n all ≡ Ok y → is_rising below last y.0 ≡ true
  unfolding rising_items_at
  items_rise last zero all y e = subst (λ (z : List A × List ℕ). is_rising below last z.0 ≡ true) (ok_is ([], all) y e) refl
  items_rise last (suc n) all y e =
      let f = bind_ok (tested_at (follows below last) read all) (λ first. rising_items_at below read (Some first.0) n first.1 >>= λ others. Ok (first.0 ∷ others.0, others.1)) y e in
      let g = bind_ok (rising_items_at below read (Some f.0.0) n f.0.1) (λ others. Ok (f.0.0 ∷ others.0, others.1)) y f.2 in
      let made : List A × List ℕ = (f.0.0 ∷ g.0.0, g.0.1) in
      subst (λ (z : List A × List ℕ). is_rising below last z.0 ≡ true) (ok_is made y g.2)
      (both (follows below last f.0.0) (is_rising below (Some f.0.0) g.0.0) (tested_follows last all f.0 f.1) (items_rise (Some f.0.0) n f.0.1 g.0 g.1))

  -- what is read rises
  pub read_rises : (all : List ℕ) (xs : List A) (rest : List ℕ) → rising_at below read all ≡ Ok (xs, rest) → is_rising below None xs ≡ true
  unfolding rising_at
  read_rises all xs rest e =
      let f = bind_ok (number_at w32 all) (λ n. rising_items_at below read None n.0 n.1) (xs, rest) e in
      items_rise None f.0.0 f.0.1 (xs, rest) f.2
