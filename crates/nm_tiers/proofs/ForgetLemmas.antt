-- One document less lives: the tier that has it counts one less, and the others count as before. For the proof of `Tiers::forget`.
use Rattle.std.proofs.Common.{◌≡◌, ℕ, zero, suc, ◌+◌, ◌-◌, ◌<◌, Bool, true, false, cond, not, ◌||◌, ◌&&◌, List, [], ◌∷◌, ◌++◌, Some, get_or, length, nat_eq, slice_get, slice_set, true≢false, refl, sym, ap, subst, ◌∙◌, arith}
use Rattle.std.specs.List.{AllByRecursion}
use Rattle.std.proofs.Math.Bool.{and-false, and-true}
use Rattle.std.proofs.lemmas.Bool.{eqb-true}
use Rattle.std.proofs.lemmas.Option.{get_or_from_slice_get, slice_get_within}
use Rattle.nm_segment.specs.declared.doc_words.DocWords.{DocWords}
use Rattle.nm_tiers.specs.Tiers.{HasTier, IsCounted, but_for, docs_of, has_doc, living_docs}
use Rattle.nm_tiers.specs.declared.tier.Tier.{Tier}
use Rattle.nm_tiers.proofs.SearchLemmas.{has-append, none-later}
use Rattle.nm_tiers.proofs.TierLemmas.{Rising, rising-back, rising-front}

neither : (a b : Bool) → (a || b) ≡ false → (a ≡ false) × (b ≡ false)
neither true b h = absurd (true≢false h)
neither false b h = (refl, h)

not-so : (b : Bool) → (b ≡ true → ⊥) → b ≡ false
not-so true never = absurd (never refl)
not-so false never = refl

later : (a b : Bool) → b ≡ true → (a || b) ≡ true
later true b is = refl
later false b is = is

module _ (lives : ℕ → Bool) (doc : ℕ) (is_live : lives doc ≡ true) where
  -- who doesn't have the document counts as before
  same-living : (docs : List DocWords) → has_doc docs doc ≡ false → living_docs (but_for lives doc) docs ≡ living_docs lives docs
  same-living [] none = refl
  same-living (d ∷ docs) none =
      let apart = neither (nat_eq doc d.doc) (has_doc docs doc) none in
      let here : (lives d.doc && not (nat_eq doc d.doc)) ≡ lives d.doc = ap (λ (b : Bool). lives d.doc && not b) apart.0 ∙ and-true (lives d.doc) in
      let rest : living_docs (but_for lives doc) docs ≡ living_docs lives docs = same-living docs apart.1 in (λ i. cond (here i) (d ∷ rest i) (rest i))

  one-more : (d : DocWords) (less more : List DocWords) (test : Bool) → length more ≡ length less + 1 → length (cond test (d ∷ more) more) ≡ length (cond test (d ∷ less) less) + 1
  one-more d less more true is = omega (arith, is)
  one-more d less more false is = is

  first-case : (d : DocWords) (docs : List DocWords) (here : Bool) → nat_eq doc d.doc ≡ here → Rising (d ∷ docs) → (here || has_doc docs doc) ≡ true
      → (has_doc docs doc ≡ true → length (living_docs lives docs) ≡ length (living_docs (but_for lives doc) docs) + 1)
      → length (living_docs lives (d ∷ docs)) ≡ length (living_docs (but_for lives doc) (d ∷ docs)) + 1
  first-case d docs true is rising has rest =
      let same : doc ≡ d.doc = eqb-true doc d.doc is in
      let lived : lives d.doc ≡ true = ap lives (sym same) ∙ is_live in
      let gone : (lives d.doc && not (nat_eq doc d.doc)) ≡ false = ap (λ (b : Bool). lives d.doc && not b) is ∙ and-false (lives d.doc) in
      let apart : has_doc docs doc ≡ false = not-so (has_doc docs doc) (none-later (d ∷ []) docs doc rising (ap (λ (b : Bool). b || false) is)) in
      let before : length (living_docs lives (d ∷ docs)) ≡ suc (length (living_docs lives docs)) = ap (λ (b : Bool). length (cond b (d ∷ living_docs lives docs) (living_docs lives docs))) lived in
      let after : length (living_docs (but_for lives doc) (d ∷ docs)) ≡ length (living_docs (but_for lives doc) docs) =
      ap (λ (b : Bool). length (cond b (d ∷ living_docs (but_for lives doc) docs) (living_docs (but_for lives doc) docs))) gone in
      omega (arith, before, after, ap (λ (l : List DocWords). length l) (same-living docs apart))
  first-case d docs false is rising has rest =
      let test : (lives d.doc && not (nat_eq doc d.doc)) ≡ lives d.doc = ap (λ (b : Bool). lives d.doc && not b) is ∙ and-true (lives d.doc) in
      one-more d (living_docs (but_for lives doc) docs) (living_docs lives docs) (lives d.doc) (rest has)
      ∙ ap (λ (b : Bool). length (cond b (d ∷ living_docs (but_for lives doc) docs) (living_docs (but_for lives doc) docs)) + 1) (sym test)

  -- who has it counts one less
  one-less : (docs : List DocWords) → Rising docs → has_doc docs doc ≡ true → length (living_docs lives docs) ≡ length (living_docs (but_for lives doc) docs) + 1
  one-less [] rising has = absurd (true≢false (sym has))
  one-less (d ∷ docs) rising has = first-case d docs (nat_eq doc d.doc) refl rising has (λ rest. one-less docs (rising-back (d ∷ []) docs rising) rest)

  all-same : (tiers : List Tier) → has_doc (docs_of tiers) doc ≡ false → AllByRecursion (IsCounted lives) tiers → AllByRecursion (IsCounted (but_for lives doc)) tiers
  all-same [] none all = tt
  all-same (tier ∷ tiers) none all =
      let apart = neither (has_doc tier.segment doc) (has_doc (docs_of tiers) doc) (sym (has-append tier.segment (docs_of tiers) doc) ∙ none) in (
        all.0 ∙ ap (λ (l : List DocWords). length l) (sym (same-living tier.segment apart.0)),
        all-same tiers apart.1 all.1,
      )

  is-there : (tiers : List Tier) (at : ℕ) (tier : Tier) → at < length tiers → get_or tiers at tier ≡ tier → has_doc tier.segment doc ≡ true → has_doc (docs_of tiers) doc ≡ true
  is-there [] at tier within is has = absurd (omega (arith, within))
  is-there (first ∷ tiers) zero tier within is has =
      has-append first.segment (docs_of tiers) doc ∙ ap (λ (b : Bool). b || has_doc (docs_of tiers) doc) (ap (λ (t : Tier). has_doc t.segment doc) is ∙ has)
  is-there (first ∷ tiers) (suc at) tier within is has = has-append first.segment (docs_of tiers) doc ∙ later (has_doc first.segment doc) (has_doc (docs_of tiers) doc) (is-there tiers at tier (omega (arith, within)) is has)

  pub forgot : (tiers : List Tier) (at : ℕ) (tier new : Tier) → Rising (docs_of tiers) → AllByRecursion (IsCounted lives) tiers → at < length tiers → get_or tiers at tier ≡ tier → has_doc tier.segment doc ≡ true
      → new.segment ≡ tier.segment → new.live ≡ tier.live - 1 → AllByRecursion (IsCounted (but_for lives doc)) (slice_set tiers at new)
  forgot [] at tier new rising all within is has segment live = absurd (omega (arith, within))
  forgot (first ∷ tiers) zero tier new rising all within is has segment live =
      let has_first : has_doc first.segment doc ≡ true = ap (λ (t : Tier). has_doc t.segment doc) is ∙ has in
      let same : new.segment ≡ first.segment = segment ∙ ap (λ (t : Tier). t.segment) (sym is) in
      let less = one-less first.segment (rising-front first.segment (docs_of tiers) rising) has_first in
      let counted : first.live ≡ length (living_docs lives first.segment) = all.0 in (
        omega (arith, live, ap (λ (t : Tier). t.live) is, counted, less, ap (λ (l : List DocWords). length (living_docs (but_for lives doc) l)) same),
        all-same tiers (not-so (has_doc (docs_of tiers) doc) (none-later first.segment (docs_of tiers) doc rising has_first)) all.1,
      )
  forgot (first ∷ tiers) (suc at) tier new rising all within is has segment live =
      let there : has_doc (docs_of tiers) doc ≡ true = is-there tiers at tier (omega (arith, within)) is has in
      let apart : has_doc first.segment doc ≡ false = not-so (has_doc first.segment doc) (λ here. none-later first.segment (docs_of tiers) doc rising here there) in (
        all.0 ∙ ap (λ (l : List DocWords). length l) (sym (same-living first.segment apart)),
        forgot tiers at tier new (rising-back first.segment (docs_of tiers) rising) all.1 (omega (arith, within)) is has segment live,
      )

-- the documents are the same
pub same-docs : (tiers : List Tier) (at : ℕ) (tier new : Tier) → at < length tiers → get_or tiers at tier ≡ tier → new.segment ≡ tier.segment → docs_of (slice_set tiers at new) ≡ docs_of tiers
same-docs [] at tier new within is segment = absurd (omega (arith, within))
same-docs (first ∷ tiers) zero tier new within is segment = ap (λ (l : List DocWords). l ++ docs_of tiers) (segment ∙ ap (λ (t : Tier). t.segment) (sym is))
same-docs (first ∷ tiers) (suc at) tier new within is segment = ap (λ (l : List DocWords). first.segment ++ l) (same-docs tiers at tier new (omega (arith, within)) is segment)

-- the tier that was found, and what takes its place
module _ (items slice : List Tier) (same : slice ≡ items) (doc at : ℕ) (found : HasTier slice doc at) (old now : Tier) (was : old ≡ get_or items at old) (is : now ≡ get_or items at now) where
  there : slice_get items at ≡ Some found.tier
  there = ap (λ (l : List Tier). slice_get l at) (sym same) ∙ found.there

  within : at < length items
  within = slice_get_within items at found.tier there

  tier-is : get_or items at found.tier ≡ found.tier
  tier-is = get_or_from_slice_get items at found.tier found.tier there

  segment-is : now.segment ≡ found.tier.segment
  segment-is = ap (λ (t : Tier). t.segment) (is ∙ get_or_from_slice_get items at found.tier now there)

  pub forgot-docs : (live : ℕ) → docs_of (slice_set items at (record { segment = now.segment; live = live })) ≡ docs_of items
  forgot-docs live = same-docs items at found.tier (record { segment = now.segment; live = live }) within tier-is segment-is

  pub forgot-rises : (live : ℕ) → Rising (docs_of items) → Rising (docs_of (slice_set items at (record { segment = now.segment; live = live })))
  forgot-rises live rising = subst Rising (sym (forgot-docs live)) rising

  pub forgot-counted : (live : ℕ) → live ≡ old.live - 1 → Rising (docs_of items) → (lives : ℕ → Bool) → lives doc ≡ true → AllByRecursion (IsCounted lives) items
      → AllByRecursion (IsCounted (but_for lives doc)) (slice_set items at (record { segment = now.segment; live = live }))
  forgot-counted live less rising lives is_live all =
      forgot lives doc is_live items at found.tier (record { segment = now.segment; live = live }) rising all within tier-is found.has segment-is
      (less ∙ ap (λ (t : Tier). t.live - 1) (was ∙ get_or_from_slice_get items at found.tier old there))
