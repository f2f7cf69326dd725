-- The tier of a document: those before it end below it, those after it begin above. For the proof of `tier_of`.
use Rattle.std.proofs.Common.{◌≡◌, ℕ, ◌+◌, ◌<◌, ◌≤◌, Bool, true, false, ◌||◌, List, [], ◌∷◌, ◌++◌, drop, get_or, length, nat_eq, take, true≢false, refl, sym, ap, subst, ◌∙◌, arith}
use Rattle.std.specs.List.{AllByRecursion, list_any}
use Rattle.std.specs.List.Sorted.{IsStrictlySortedBy}
use Rattle.std.specs.Ordering.{nat_cmp}
use Rattle.std.specs.declared.cmp.Ordering.TheVariants.{Less}
use Rattle.std.proofs.lemmas.Bool.{eqb-true}
use Rattle.std.proofs.lemmas.Bool.Decides.{nat_tests}
use Rattle.std.proofs.lemmas.List.{map-append, take-append-drop, take_more}
use Rattle.std.proofs.lemmas.List.Folds.{list_any-append}
use Rattle.std.proofs.lemmas.Option.{slice_get_read}
use Rattle.nm_segment.specs.Docs.{numbers}
use Rattle.nm_segment.specs.declared.doc_words.DocWords.{DocWords}
use Rattle.nm_tiers.specs.Tiers.{HasTier, begins_by, docs_of, has_doc}
use Rattle.nm_tiers.specs.declared.tier.Tier.{Tier}
use Rattle.nm_tiers.proofs.TierLemmas.{Rising, docs-append, docs-last, rising-back, rising-front}

less_from : (a b : ℕ) → nat_cmp a b ≡ Less → a < b
less_from a b is = grind (arith, nat_tests)

-- what holds of all numbers holds of one of them
one : (P : ℕ → Type 0) (d : DocWords) (docs : List DocWords) (doc : ℕ) (here : Bool) → nat_eq doc d.doc ≡ here → P d.doc → (here || has_doc docs doc) ≡ true → (has_doc docs doc ≡ true → P doc) → P doc
one P d docs doc true is first has rest = subst P (sym (eqb-true doc d.doc is)) first
one P d docs doc false is first has rest = rest has

all-has : (P : ℕ → Type 0) (docs : List DocWords) (doc : ℕ) → AllByRecursion P (numbers docs) → has_doc docs doc ≡ true → P doc
all-has P [] doc all has = absurd (true≢false (sym has))
all-has P (d ∷ docs) doc all has = one P d docs doc (nat_eq doc d.doc) refl all.0 has (λ rest. all-has P docs doc all.1 rest)

all-at : (P : ℕ → Type 0) (docs more : List DocWords) (d : DocWords) → AllByRecursion P (numbers (docs ++ d ∷ more)) → P d.doc
all-at P [] more d all = all.0
all-at P (e ∷ docs) more d all = all-at P docs more d all.1

-- what comes before a document is below it
below : (docs more : List DocWords) (d : DocWords) (doc : ℕ) → Rising (docs ++ d ∷ more) → has_doc docs doc ≡ true → doc < d.doc
unfolding IsStrictlySortedBy
below [] more d doc h has = absurd (true≢false (sym has))
below (e ∷ docs) more d doc h has =
    one (λ n. n < d.doc) e docs doc (nat_eq doc e.doc) refl (less_from e.doc d.doc (all-at (λ n. nat_cmp e.doc n ≡ Less) docs more d h.0)) has (λ rest. below docs more d doc h.1 rest)

-- what comes after the first document, or is it, is not below it
from-first : (docs : List DocWords) (d : DocWords) (doc : ℕ) → Rising (d ∷ docs) → has_doc (d ∷ docs) doc ≡ true → d.doc ≤ doc
unfolding IsStrictlySortedBy
from-first docs d doc h has =
    one (λ n. d.doc ≤ n) d docs doc (nat_eq doc d.doc) refl (omega arith) has (λ rest. let more = less_from d.doc doc (all-has (λ n. nat_cmp d.doc n ≡ Less) docs doc h.0 rest) in omega (arith, more))

pub not-before : (front docs : List DocWords) (doc : ℕ) → Rising (front ++ docs) → begins_by docs doc ≡ true → has_doc front doc ≡ true → ⊥
not-before front [] doc h begins has = true≢false (sym begins)
not-before front (d ∷ docs) doc h begins has =
    let less : doc < d.doc = below front docs d doc h has in grind (arith, nat_tests, less, begins)

not-within : (docs : List DocWords) (doc : ℕ) → Rising docs → begins_by docs doc ≡ false → has_doc docs doc ≡ true → ⊥
not-within [] doc h begins has = true≢false (sym has)
not-within (d ∷ docs) doc h begins has =
    let from : d.doc ≤ doc = from-first docs d doc h has in grind (arith, nat_tests, from, begins)

pub none-later : (front docs : List DocWords) (doc : ℕ) → Rising (front ++ docs) → has_doc front doc ≡ true → has_doc docs doc ≡ true → ⊥
none-later front [] doc h has later = true≢false (sym later)
none-later front (d ∷ docs) doc h has later =
    let less : doc < d.doc = below front docs d doc h has in
    let from : d.doc ≤ doc = from-first docs d doc (rising-back front (d ∷ docs) h) later in omega (arith, less, from)

pub has-append : (docs more : List DocWords) (doc : ℕ) → has_doc (docs ++ more) doc ≡ (has_doc docs doc || has_doc more doc)
has-append docs more doc = ap (λ (l : List ℕ). list_any (nat_eq doc) l) (map-append (λ (d : DocWords). d.doc) docs more) ∙ list_any-append (nat_eq doc) (numbers docs) (numbers more)

either : (a b : Bool) → (a || b) ≡ true → (a ≡ true → ⊥) → b ≡ true
either true b h never = absurd (never refl)
either false b h never = h

other : (a b : Bool) → (a || b) ≡ true → (b ≡ true → ⊥) → a ≡ true
other true b h never = refl
other false b h never = absurd (never h)

module _ (tiers : List Tier) (doc at : ℕ) (tier : Tier) (rising : Rising (docs_of tiers)) (within : at < length tiers) (is : tier ≡ get_or tiers at tier) where
  so-far : docs_of (take (at + 1) tiers) ≡ docs_of (take at tiers) ++ tier.segment
  so-far = ap docs_of (take_more tiers at tier within ∙ ap (λ (t : Tier). take at tiers ++ t ∷ []) (sym is)) ∙ docs-last (take at tiers) tier

  so-far-rises : Rising (docs_of (take at tiers) ++ tier.segment)
  so-far-rises =
      subst Rising so-far
      (rising-front (docs_of (take (at + 1) tiers)) (docs_of (drop (at + 1) tiers))
      (subst Rising (ap docs_of (sym (take-append-drop (at + 1) tiers)) ∙ docs-append (take (at + 1) tiers) (drop (at + 1) tiers)) rising))

  has-so-far : has_doc (docs_of (take (at + 1) tiers)) doc ≡ true → (has_doc (docs_of (take at tiers)) doc || has_doc tier.segment doc) ≡ true
  has-so-far has = sym (ap (λ (l : List DocWords). has_doc l doc) so-far ∙ has-append (docs_of (take at tiers)) tier.segment doc) ∙ has

  -- the tier begins below the document or with it, so the document is not before the tier
  pub found-here : begins_by tier.segment doc ≡ true → has_doc (docs_of (take (at + 1) tiers)) doc ≡ true → HasTier tiers doc at
  found-here begins has = record {
    tier = tier;
    there = slice_get_read tiers (length tiers) at tier refl within is;
    has = either (has_doc (docs_of (take at tiers)) doc) (has_doc tier.segment doc) (has-so-far has) (not-before (docs_of (take at tiers)) tier.segment doc so-far-rises begins);
  }

  -- the tier begins above the document, so the document is not in it
  pub found-before : (found : ℕ) → begins_by tier.segment doc ≡ false → (has_doc (docs_of (take at tiers)) doc ≡ true → HasTier tiers doc found) → has_doc (docs_of (take (at + 1) tiers)) doc ≡ true → HasTier tiers doc found
  found-before found begins before has =
      before (other (has_doc (docs_of (take at tiers)) doc) (has_doc tier.segment doc) (has-so-far has)
      (not-within tier.segment doc (rising-back (docs_of (take at tiers)) tier.segment so-far-rises) begins))
