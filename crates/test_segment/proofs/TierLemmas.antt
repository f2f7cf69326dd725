-- Tiers as rows have them: the documents of one tier more, and how many documents live. For the proofs of `tier_rows`.
use Rattle.std.proofs.Common.{◌≡◌, ℕ, zero, suc, ◌+◌, ◌<◌, Bool, true, false, cond, List, [], ◌∷◌, ◌++◌, None, Some, length, take, slice_get, refl, sym, ap, ◌∙◌, append-nil, append_assoc, arith}
use Rattle.std.proofs.lemmas.Option.{same_Some}
use Rattle.nm_segment.specs.Docs.{numbers}
use Rattle.nm_segment.specs.declared.doc_words.DocWords.{DocWords}
use Rattle.nm_tiers.specs.Tiers.{docs_of, living_docs}
use Rattle.nm_tiers.specs.declared.tier.Tier.{Tier}

docs-append : (tiers more : List Tier) → docs_of (tiers ++ more) ≡ docs_of tiers ++ docs_of more
docs-append [] more = refl
docs-append (tier ∷ tiers) more = ap (λ (l : List DocWords). tier.segment ++ l) (docs-append tiers more) ∙ sym (append_assoc tier.segment (docs_of tiers) (docs_of more))

pub one-more : (tiers : List Tier) (tier : Tier) → docs_of (tiers ++ tier ∷ []) ≡ docs_of tiers ++ tier.segment
one-more tiers tier = docs-append tiers (tier ∷ []) ∙ ap (λ (l : List DocWords). docs_of tiers ++ l) (append-nil tier.segment)

pub none-within : (docs : List DocWords) (at : ℕ) → at < length docs → slice_get (numbers docs) at ≡ None → ⊥
none-within [] at within is = omega (arith, within)
none-within (d ∷ docs) zero within is = cc
none-within (d ∷ docs) (suc at) within is = none-within docs at (omega (arith, within)) is

cond-length : {X : Type 0} (test : Bool) (x : X) (xs : List X) → length (cond test (x ∷ xs) xs) ≡ cond test (length xs + 1) (length xs)
cond-length true x xs = omega arith
cond-length false x xs = refl

swap : (a b : Bool) (n : ℕ) → cond a (cond b (n + 1) n + 1) (cond b (n + 1) n) ≡ cond b (cond a (n + 1) n + 1) (cond a (n + 1) n)
swap true true n = refl
swap true false n = refl
swap false true n = refl
swap false false n = refl

module _ (holds : ℕ → Bool) where
  more-by : (docs : List DocWords) (at doc : ℕ) → slice_get (numbers docs) at ≡ Some doc
      → length (living_docs holds (take (suc at) docs)) ≡ cond (holds doc) (length (living_docs holds (take at docs)) + 1) (length (living_docs holds (take at docs)))
  more-by [] at doc is = absurd (cc)
  more-by (d ∷ docs) zero doc is = cond-length (holds d.doc) d [] ∙ ap (λ (n : ℕ). cond (holds n) 1 0) (same_Some d.doc doc is)
  more-by (d ∷ docs) (suc at) doc is =
      let n : ℕ = length (living_docs holds (take at docs)) in
      cond-length (holds d.doc) d (living_docs holds (take (suc at) docs))
      ∙ (ap (λ (k : ℕ). cond (holds d.doc) (k + 1) k) (more-by docs at doc is)
      ∙ (swap (holds d.doc) (holds doc) n ∙ ap (λ (k : ℕ). cond (holds doc) (k + 1) k) (sym (cond-length (holds d.doc) d (living_docs holds (take at docs))))))

  pub count-more : (docs : List DocWords) (at doc count new : ℕ) (test : Bool) → slice_get (numbers docs) at ≡ Some doc → holds doc ≡ test → count ≡ length (living_docs holds (take at docs)) → new ≡ cond test (count + 1) count
      → new ≡ length (living_docs holds (take (at + 1) docs))
  count-more docs at doc count new test is holds_is so_far more =
      let next : suc at ≡ at + 1 = omega arith in
      more ∙ (ap (λ (k : ℕ). cond test (k + 1) k) so_far ∙ (ap (λ (b : Bool). cond b (length (living_docs holds (take at docs)) + 1) (length (living_docs holds (take at docs)))) (sym holds_is)
      ∙ (sym (more-by docs at doc is) ∙ ap (λ (k : ℕ). length (living_docs holds (take k docs))) next)))
