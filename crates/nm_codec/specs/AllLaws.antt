-- All of some bytes: a value's bytes are read as it, and bytes that are read are a value's.
-- For proofs alone, of `nm_record`.
use Rattle.std.proofs.Common.{◌≡◌, ℕ, ◌^◌, ◌<◌, true, cond, List, [], ◌++◌, length, eqb, Ok, Err, refl, sym, ap, subst, ◌∙◌, append-nil}
use Rattle.std.proofs.lemmas.Bool.{eqb-true}
use Rattle.std.proofs.lemmas.List.{nil_from_length}
use Rattle.nm_codec.specs.Grammar.{Grammar}
use Rattle.nm_codec.specs.ReadSteps.{IsBytes, all_of}
use Rattle.nm_codec.specs.StepLaws.{bind_ok, passed_ok}

module _ {A : Type 0} (g : Grammar A) where
  pub all_again : (a : A) → g.is_value a ≡ true → length (g.bytes a) < 2 ^ 32 → all_of g.read (g.bytes a) ≡ Ok a
  unfolding all_of
  all_again a v short = rw (ap g.read (sym (append-nil (g.bytes a))) ∙ g.again a [] v short) refl

  pub all_only : (bytes : List ℕ) (a : A) → IsBytes bytes → all_of g.read bytes ≡ Ok a → (bytes ≡ g.bytes a) × (g.is_value a ≡ true)
  unfolding all_of
  all_only bytes a fits e =
      let f = bind_ok (g.read bytes) (λ x. cond (eqb (length x.1) 0) (Ok x.0) (Err (length x.1))) a e in
      let p = passed_ok (eqb (length f.0.1) 0) (length f.0.1) f.0.0 a f.2 in
      let first = g.only bytes f.0.0 f.0.1 fits f.1 in
      let ended : f.0.1 ≡ [] = nil_from_length f.0.1 (eqb-true _ _ p.0) in
      let whole : bytes ≡ g.bytes f.0.0 = first.0.parts ∙ ap (λ (r : List ℕ). g.bytes f.0.0 ++ r) ended ∙ append-nil (g.bytes f.0.0) in
      subst (λ (x : A). (bytes ≡ g.bytes x) × (g.is_value x ≡ true)) p.1 (whole, first.1)
