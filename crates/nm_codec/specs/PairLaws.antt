-- Two values, one after the other: they are read again, and what is read was encoded so. Cited by `Grammar`.
use Rattle.std.proofs.Common.{◌≡◌, ℕ, ◌<◌, ◌^◌, Bool, true, ◌&&◌, List, ◌++◌, length, Ok, refl, subst, append_assoc, length-append, arith}
use Rattle.nm_codec.specs.ReadSteps.{IsBytes, Reading, Takes, pair_at}
use Rattle.std.proofs.lemmas.Bool.{and_parts}
use Rattle.nm_codec.specs.StepLaws.{bind_ok, both, ok_is, Takes-then}

pub some_pair : {A B : Type 0} (bytes : A → List ℕ) (bytes' : B → List ℕ) → ((a : A) → 0 < length (bytes a)) → (pair : A × B) → 0 < length (bytes pair.0 ++ bytes' pair.1)
some_pair bytes bytes' some pair = omega (arith, some pair.0, length-append (bytes pair.0) (bytes' pair.1))

module _ {A B : Type 0} (read : List ℕ → Reading A) (read' : List ℕ → Reading B) (bytes : A → List ℕ) (bytes' : B → List ℕ) (valid : A → Bool) (valid' : B → Bool) where
  pub pair_again : ((a : A) (rest : List ℕ) → valid a ≡ true → length (bytes a) < 2 ^ 32 → read (bytes a ++ rest) ≡ Ok (a, rest))
      → ((b : B) (rest : List ℕ) → valid' b ≡ true → length (bytes' b) < 2 ^ 32 → read' (bytes' b ++ rest) ≡ Ok (b, rest))
      → (pair : A × B) (rest : List ℕ) → (valid pair.0 && valid' pair.1) ≡ true → length (bytes pair.0 ++ bytes' pair.1) < 2 ^ 32
      → pair_at read read' ((bytes pair.0 ++ bytes' pair.1) ++ rest) ≡ Ok (pair, rest)
  unfolding pair_at
  pair_again again again' pair rest v short =
      let vs = and_parts (valid pair.0) (valid' pair.1) v in
      let first = again pair.0 (bytes' pair.1 ++ rest) vs.0 (omega (arith, short, length-append (bytes pair.0) (bytes' pair.1))) in
      let second = again' pair.1 rest vs.1 (omega (arith, short, length-append (bytes pair.0) (bytes' pair.1))) in
      rw (append_assoc (bytes pair.0) (bytes' pair.1) rest, first, second) refl

  pub pair_only : ((all : List ℕ) (a : A) (rest : List ℕ) → IsBytes all → read all ≡ Ok (a, rest) → Takes all (bytes a) rest × (valid a ≡ true))
      → ((all : List ℕ) (b : B) (rest : List ℕ) → IsBytes all → read' all ≡ Ok (b, rest) → Takes all (bytes' b) rest × (valid' b ≡ true))
      → (all : List ℕ) (pair : A × B) (rest : List ℕ) → IsBytes all → pair_at read read' all ≡ Ok (pair, rest)
      → Takes all (bytes pair.0 ++ bytes' pair.1) rest × ((valid pair.0 && valid' pair.1) ≡ true)
  unfolding pair_at
  pair_only only only' all pair rest fits e =
      let f = bind_ok (read all) _ (pair, rest) e in
      let g = bind_ok (read' f.0.1) _ (pair, rest) f.2 in
      let is : ((f.0.0, g.0.0), g.0.1) ≡ (pair, rest) = ok_is ((f.0.0, g.0.0), g.0.1) (pair, rest) g.2 in
      let first = only all f.0.0 f.0.1 fits f.1 in
      let second = only' f.0.1 g.0.0 g.0.1 first.0.rest_fits g.1 in
      subst (λ (p : (A × B) × List ℕ). Takes all (bytes p.0.0 ++ bytes' p.0.1) p.1 × ((valid p.0.0 && valid' p.0.1) ≡ true)) is
      (Takes-then all (bytes f.0.0) f.0.1 (bytes' g.0.0) g.0.1 first.0 second.0, both (valid f.0.0) (valid' g.0.0) first.1 second.1)
