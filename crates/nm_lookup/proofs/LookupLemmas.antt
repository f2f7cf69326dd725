-- The documents of one tier more. For the proofs of `documents`.
use Rattle.std.proofs.Common.{◌≡◌, ℕ, ◌+◌, ◌<◌, Bool, cond, Option, List, [], ◌∷◌, ◌++◌, filter, get_or, length, map, take, refl, sym, ap, subst, ◌∙◌, append_assoc, append-nil}
use Rattle.std.proofs.lemmas.List.{map-append, take_more}
use Rattle.std.proofs.lemmas.List.Elements.{filter-append}
use Rattle.nm_base.specs.AskedWords.{lists_have}
use Rattle.nm_base.specs.declared.facts.Field.{Field}
use Rattle.nm_lookup.specs.Lookup.{WalkSteps, WalksSteps, living_having, numbers_having}
use Rattle.nm_segment.specs.declared.doc_words.DocWords.{DocWords}
use Rattle.nm_tiers.specs.Tiers.{docs_of}
use Rattle.nm_tiers.specs.declared.tier.Tier.{Tier}

module _ (holds : ℕ → Bool) where
  filter-one : (doc : ℕ) (test : Bool) → holds doc ≡ test → filter holds (doc ∷ []) ≡ cond test (doc ∷ []) []
  filter-one doc test is = ap (λ (b : Bool). cond b (doc ∷ []) []) is

  pub living-more : (xs old now new : List ℕ) (at doc : ℕ) (test : Bool) → at < length xs → doc ≡ get_or xs at doc → holds doc ≡ test → now ≡ old ++ filter holds (take at xs) → new ≡ now ++ cond test (doc ∷ []) []
      → new ≡ old ++ filter holds (take (at + 1) xs)
  living-more xs old now new at doc test within is holds_is before more =
      let next : take (at + 1) xs ≡ take at xs ++ doc ∷ [] = take_more xs at doc within ∙ ap (λ (n : ℕ). take at xs ++ n ∷ []) (sym is) in
      more
      ∙ (ap (λ (l : List ℕ). l ++ cond test (doc ∷ []) []) before
      ∙ (append_assoc old (filter holds (take at xs)) (cond test (doc ∷ []) [])
      ∙ ap (λ (l : List ℕ). old ++ l)
      (ap (λ (l : List ℕ). filter holds (take at xs) ++ l) (sym (filter-one doc test holds_is))
      ∙ (sym (filter-append holds (take at xs) (doc ∷ [])) ∙ ap (filter holds) (sym next)))))

  docs-append : (tiers more : List Tier) → docs_of (tiers ++ more) ≡ docs_of tiers ++ docs_of more
  docs-append [] more = refl
  docs-append (tier ∷ tiers) more = ap (λ (l : List DocWords). tier.segment ++ l) (docs-append tiers more) ∙ sym (append_assoc tier.segment (docs_of tiers) (docs_of more))

  module _ (field : Option Field) (starts : Bool) (words : List (List ℕ)) where
    having-append : (docs more : List DocWords) → living_having holds field starts words (docs ++ more) ≡ living_having holds field starts words docs ++ living_having holds field starts words more
    having-append docs more =
        ap (λ (l : List DocWords). filter holds (map (λ (d : DocWords). d.doc) l)) (filter-append (λ (d : DocWords). lists_have field starts words d.lists) docs more)
        ∙ (ap (filter holds) (map-append (λ (d : DocWords). d.doc) (filter (λ (d : DocWords). lists_have field starts words d.lists) docs) (filter (λ (d : DocWords). lists_have field starts words d.lists) more))
        ∙ filter-append holds (numbers_having field starts words docs) (numbers_having field starts words more))

    pub next-tier : (tiers : List Tier) (at : ℕ) (tier : Tier) (now new found : List ℕ) → at < length tiers → tier ≡ get_or tiers at tier → now ≡ living_having holds field starts words (docs_of (take at tiers))
        → found ≡ numbers_having field starts words tier.segment → new ≡ now ++ filter holds found → new ≡ living_having holds field starts words (docs_of (take (at + 1) tiers))
    next-tier tiers at tier now new found within is before found_is more =
        let next : docs_of (take (at + 1) tiers) ≡ docs_of (take at tiers) ++ tier.segment =
        ap docs_of (take_more tiers at tier within ∙ ap (λ (t : Tier). take at tiers ++ t ∷ []) (sym is)) ∙ (docs-append (take at tiers) (tier ∷ []) ∙ ap (λ (l : List DocWords). docs_of (take at tiers) ++ l) (append-nil tier.segment)) in
        more
        ∙ (ap (λ (l : List ℕ). l ++ filter holds found) before
        ∙ (ap (λ (l : List ℕ). living_having holds field starts words (docs_of (take at tiers)) ++ filter holds l) found_is
        ∙ (sym (having-append (docs_of (take at tiers)) tier.segment) ∙ ap (living_having holds field starts words) (sym next))))

-- ---- the steps of one word

walks-more : (tiers : List Tier) (tier : Tier) (word : List ℕ) (field : Field) (old middle new : ℕ) → WalksSteps tiers word field old middle → WalkSteps tier.segment word field middle new → WalksSteps (tiers ++ tier ∷ []) word field old new
walks-more [] tier word field old middle new walked walk = (new, subst (λ (n : ℕ). WalkSteps tier.segment word field n new) walked walk, refl)
walks-more (first ∷ tiers) tier word field old middle new walked walk = (walked.0, walked.1, walks-more tiers tier word field walked.0 middle new walked.2 walk)

pub next-walk : (tiers : List Tier) (at : ℕ) (tier : Tier) (segment : List DocWords) (word : List ℕ) (field : Field) (old middle new : ℕ) → at < length tiers → tier ≡ get_or tiers at tier → segment ≡ tier.segment → WalksSteps (take at tiers) word field old middle
    → WalkSteps segment word field middle new → WalksSteps (take (at + 1) tiers) word field old new
next-walk tiers at tier segment word field old middle new within is same walked walk =
    subst (λ (l : List Tier). WalksSteps l word field old new) (sym (take_more tiers at tier within ∙ ap (λ (t : Tier). take at tiers ++ t ∷ []) (sym is)))
    (walks-more (take at tiers) tier word field old middle new walked (subst (λ (docs : List DocWords). WalkSteps docs word field middle new) same walk))
