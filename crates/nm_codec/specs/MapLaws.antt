-- Values that pass a test, and values that are made of others, are read again, and what is read was encoded so.
-- Cited by `Grammar` and `RisingLaws`.
use Rattle.std.proofs.Common.{◌≡◌, ℕ, ◌^◌, ◌<◌, Bool, true, cond, ◌&&◌, List, ◌++◌, length, Ok, Err, refl, ap, subst}
use Rattle.std.proofs.lemmas.Bool.{and_parts}
use Rattle.nm_codec.specs.ReadSteps.{IsBytes, Reading, Takes, mapped_at, tested_at}
use Rattle.nm_codec.specs.StepLaws.{bind_ok, both, ok_is, passed_ok}

module _ {A : Type 0} (test : A → Bool) (read : List ℕ → Reading A) (bytes : A → List ℕ) (valid : A → Bool) where
  pub tested_again : ((a : A) (rest : List ℕ) → valid a ≡ true → length (bytes a) < 2 ^ 32 → read (bytes a ++ rest) ≡ Ok (a, rest))
      → (a : A) (rest : List ℕ) → (valid a && test a) ≡ true → length (bytes a) < 2 ^ 32 → tested_at test read (bytes a ++ rest) ≡ Ok (a, rest)
  unfolding tested_at
  tested_again again a rest v short =
      let vs = and_parts (valid a) (test a) v in
      rw (again a rest vs.0 short, vs.1) refl

  pub tested_only : ((all : List ℕ) (a : A) (rest : List ℕ) → IsBytes all → read all ≡ Ok (a, rest) → Takes all (bytes a) rest × (valid a ≡ true))
      → (all : List ℕ) (a : A) (rest : List ℕ) → IsBytes all → tested_at test read all ≡ Ok (a, rest) → Takes all (bytes a) rest × ((valid a && test a) ≡ true)
  unfolding tested_at
  tested_only only all a rest fits e =
      let f = bind_ok (read all) (λ x. cond (test x.0) (Ok x) (Err (length all))) (a, rest) e in
      let g = passed_ok (test f.0.0) (length all) f.0 (a, rest) f.2 in
      let first = only all f.0.0 f.0.1 fits f.1 in
      subst (λ (x : A × List ℕ). Takes all (bytes x.0) x.1 × ((valid x.0 && test x.0) ≡ true)) g.1 (first.0, both (valid f.0.0) (test f.0.0) first.1 g.0)

module _ {A B : Type 0} (make : A → B) (parts : B → A) where
  pub mapped_again : ((b : B) → make (parts b) ≡ b) → (read : List ℕ → Reading A) (bytes : A → List ℕ) (valid : A → Bool)
      → ((a : A) (rest : List ℕ) → valid a ≡ true → length (bytes a) < 2 ^ 32 → read (bytes a ++ rest) ≡ Ok (a, rest))
      → (b : B) (rest : List ℕ) → valid (parts b) ≡ true → length (bytes (parts b)) < 2 ^ 32 → mapped_at make read (bytes (parts b) ++ rest) ≡ Ok (b, rest)
  unfolding mapped_at
  mapped_again made read bytes valid again b rest v short = rw (again (parts b) rest v short) (ap (λ (x : B). Ok (x, rest)) (made b))

  pub mapped_only : ((a : A) → parts (make a) ≡ a) → (read : List ℕ → Reading A) (bytes : A → List ℕ) (valid : A → Bool)
      → ((all : List ℕ) (a : A) (rest : List ℕ) → IsBytes all → read all ≡ Ok (a, rest) → Takes all (bytes a) rest × (valid a ≡ true))
      → (all : List ℕ) (b : B) (rest : List ℕ) → IsBytes all → mapped_at make read all ≡ Ok (b, rest) → Takes all (bytes (parts b)) rest × (valid (parts b) ≡ true)
  unfolding mapped_at
  mapped_only had read bytes valid only all b rest fits e =
      let f = bind_ok (read all) (λ x. Ok (make x.0, x.1)) (b, rest) e in
      let first = only all f.0.0 f.0.1 fits f.1 in
      let here : Takes all (bytes (parts (make f.0.0))) f.0.1 × (valid (parts (make f.0.0)) ≡ true) = rw (had f.0.0) first in
      subst (λ (x : B × List ℕ). Takes all (bytes (parts x.0)) x.1 × (valid (parts x.0) ≡ true)) (ok_is (make f.0.0, f.0.1) (b, rest) f.2) here
