-- Documents of tiers: what lives of them, and that their numbers go on rising. For the proofs of `tier`, `settling` and `tiers`.
use Rattle.std.proofs.Common.{◌≡◌, OnOk, Result, Ok, Err, ℕ, ◌+◌, ◌<◌, ◌≤◌, Bool, true, false, cond, List, [], ◌∷◌, ◌++◌, filter, length, reverse, refl, sym, ap, subst, ◌∙◌, append-nil, append_assoc, arith}
use Rattle.std.specs.List.{AllByRecursion}
use Rattle.std.specs.List.Sorted.{IsStrictlySortedBy}
use Rattle.std.specs.Ordering.{nat_cmp}
use Rattle.std.specs.declared.cmp.Ordering.TheVariants.{Less}
use Rattle.std.proofs.lemmas.List.{length-append, reverse-append}
use Rattle.std.proofs.lemmas.List.Elements.{filter-append}
use Rattle.nm_segment.specs.Docs.{numbers}
use Rattle.nm_segment.specs.declared.doc_words.DocWords.{DocWords}
use Rattle.nm_tiers.specs.Tiers.{AreSettled, IsAdded, IsCounted, IsTwiceNext, docs_of, living_docs, sizes_of}
use Rattle.nm_tiers.specs.declared.tier.Tier.{Tier}

abbrev pub Rising : List DocWords → Type 0
Rising docs = IsStrictlySortedBy nat_cmp (numbers docs)

-- ---- tiers one after the other

pub docs-append : (tiers more : List Tier) → docs_of (tiers ++ more) ≡ docs_of tiers ++ docs_of more
docs-append [] more = refl
docs-append (tier ∷ tiers) more = ap (λ (l : List DocWords). tier.segment ++ l) (docs-append tiers more) ∙ sym (append_assoc tier.segment (docs_of tiers) (docs_of more))

pub docs-last : (tiers : List Tier) (tier : Tier) → docs_of (tiers ++ tier ∷ []) ≡ docs_of tiers ++ tier.segment
docs-last tiers tier = docs-append tiers (tier ∷ []) ∙ ap (λ (l : List DocWords). docs_of tiers ++ l) (append-nil tier.segment)

pub reverse-last : {X : Type 0} (xs : List X) (x : X) → reverse (xs ++ x ∷ []) ≡ x ∷ reverse xs
reverse-last xs x = reverse-append xs (x ∷ [])

-- ---- numbers rise also without some of the documents

cut-all : (P : ℕ → Type 0) (d : DocWords) (rest more : List DocWords) (test : Bool) → P d.doc → AllByRecursion P (numbers (rest ++ more)) → AllByRecursion P (numbers (cond test (d ∷ rest) rest ++ more))
cut-all P d rest more true first all = (first, all)
cut-all P d rest more false first all = all

all-kept : (P : ℕ → Type 0) (p : DocWords → Bool) (front docs more : List DocWords) → AllByRecursion P (numbers (front ++ (docs ++ more))) → AllByRecursion P (numbers (front ++ (filter p docs ++ more)))
all-kept P p [] [] more h = h
all-kept P p [] (d ∷ docs) more h = cut-all P d (filter p docs) more (p d) h.0 (all-kept P p [] docs more h.1)
all-kept P p (d ∷ front) docs more h = (h.0, all-kept P p front docs more h.1)

cut-rising : (d : DocWords) (rest more : List DocWords) (test : Bool) → AllByRecursion (λ n. nat_cmp d.doc n ≡ Less) (numbers (rest ++ more)) → Rising (rest ++ more) → Rising (cond test (d ∷ rest) rest ++ more)
unfolding IsStrictlySortedBy
cut-rising d rest more true all rising = (all, rising)
cut-rising d rest more false all rising = rising

pub rising-kept : (p : DocWords → Bool) (front docs more : List DocWords) → Rising (front ++ (docs ++ more)) → Rising (front ++ (filter p docs ++ more))
unfolding IsStrictlySortedBy
rising-kept p [] [] more h = h
rising-kept p [] (d ∷ docs) more h = cut-rising d (filter p docs) more (p d) (all-kept (λ n. nat_cmp d.doc n ≡ Less) p [] docs more h.0) (rising-kept p [] docs more h.1)
rising-kept p (d ∷ front) docs more h = (all-kept (λ n. nat_cmp d.doc n ≡ Less) p front docs more h.0, rising-kept p front docs more h.1)

none-kept : (docs : List DocWords) → filter (λ d. false) docs ≡ []
none-kept [] = refl
none-kept (d ∷ docs) = none-kept docs

pub rising-without : (front docs more : List DocWords) → Rising (front ++ (docs ++ more)) → Rising (front ++ more)
rising-without front docs more h = subst (λ (l : List DocWords). Rising (front ++ (l ++ more))) (none-kept docs) (rising-kept (λ d. false) front docs more h)

-- ---- what lives

kept-once : (p : DocWords → Bool) (d : DocWords) (rest : List DocWords) (test : Bool) → p d ≡ test → filter p rest ≡ rest → filter p (cond test (d ∷ rest) rest) ≡ cond test (d ∷ rest) rest
kept-once p d rest true is same = λ i. cond (is i) (d ∷ same i) (same i)
kept-once p d rest false is same = same

kept-twice : (p : DocWords → Bool) (docs : List DocWords) → filter p (filter p docs) ≡ filter p docs
kept-twice p [] = refl
kept-twice p (d ∷ docs) = kept-once p d (filter p docs) (p d) refl (kept-twice p docs)

module _ (lives : ℕ → Bool) where
  pub living-append : (docs more : List DocWords) → living_docs lives (docs ++ more) ≡ living_docs lives docs ++ living_docs lives more
  living-append docs more = filter-append (λ (d : DocWords). lives d.doc) docs more

  pub living-twice : (docs : List DocWords) → living_docs lives (living_docs lives docs) ≡ living_docs lives docs
  living-twice docs = kept-twice (λ (d : DocWords). lives d.doc) docs

  none-counted : (docs : List DocWords) → 0 ≡ length docs → docs ≡ []
  none-counted [] is = refl
  none-counted (d ∷ docs) is = absurd (omega (arith, is))

  -- a tier in which nothing lives is passed over
  pub passed-over : (tier : Tier) (rest after all : List DocWords) → IsCounted lives tier → tier.live ≡ 0 → living_docs lives ((rest ++ tier.segment) ++ after) ≡ all → living_docs lives (rest ++ after) ≡ all
  passed-over tier rest after all counted none is =
      let nothing : living_docs lives tier.segment ≡ [] = none-counted (living_docs lives tier.segment) (sym none ∙ counted) in
      living-append rest after
      ∙ (ap (λ (l : List DocWords). l ++ living_docs lives after) (sym (append-nil (living_docs lives rest)) ∙ ap (λ (l : List DocWords). living_docs lives rest ++ l) (sym nothing) ∙ sym (living-append rest tier.segment))
      ∙ (sym (living-append (rest ++ tier.segment) after) ∙ is))

  -- ---- an older tier comes to the others

  pub before-others : (tier : Tier) (old : List Tier) → 0 < tier.live → IsCounted lives tier → AllByRecursion (IsCounted lives) old → AreSettled (sizes_of old) → IsTwiceNext tier.live (sizes_of old) → IsAdded lives tier old (tier ∷ old)
  before-others tier old some counted all settled twice = record {
    docs = refl;
    counted = (counted, all);
    settled = (some, twice, settled);
    rising = λ front h. h;
  }

  twice-more : (size more : ℕ) (sizes : List ℕ) → size ≤ more → IsTwiceNext size sizes → IsTwiceNext more sizes
  twice-more size more [] less h = tt
  twice-more size more (next ∷ sizes) less h = omega (arith, less, h)

  pub with-first : (tier next merged : Tier) (old : List Tier) → 0 < tier.live → IsCounted lives tier → AllByRecursion (IsCounted lives) (next ∷ old) → AreSettled (sizes_of (next ∷ old))
      → merged.segment ≡ living_docs lives (tier.segment ++ next.segment) → merged.live ≡ length merged.segment → IsAdded lives tier (next ∷ old) (merged ∷ old)
  with-first tier next merged old some counted all settled docs count =
      let both : List DocWords = tier.segment ++ next.segment in
      let live : living_docs lives merged.segment ≡ living_docs lives both = ap (living_docs lives) docs ∙ living-twice both in
      let size : merged.live ≡ tier.live + next.live =
      count ∙ (ap (λ (l : List DocWords). length l) (docs ∙ living-append tier.segment next.segment) ∙ (length-append (living_docs lives tier.segment) (living_docs lives next.segment)
      ∙ (ap (λ (n : ℕ). n + length (living_docs lives next.segment)) (sym counted) ∙ ap (λ (n : ℕ). tier.live + n) (sym all.0)))) in
      record {
        docs =
            living-append merged.segment (docs_of old)
            ∙ (ap (λ (l : List DocWords). l ++ living_docs lives (docs_of old)) live
            ∙ (sym (living-append both (docs_of old)) ∙ ap (living_docs lives) (append_assoc tier.segment next.segment (docs_of old))));
        counted = (count ∙ ap (λ (l : List DocWords). length l) (docs ∙ sym live), all.1);
        settled = (omega (arith, size, some), twice-more next.live merged.live (sizes_of old) (omega (arith, size)) settled.1, settled.2);
        rising = λ front h.
            subst (λ (l : List DocWords). Rising (front ++ (l ++ docs_of old))) (sym docs)
            (rising-kept (λ (d : DocWords). lives d.doc) front both (docs_of old) (subst (λ (l : List DocWords). Rising (front ++ l)) (sym (append_assoc tier.segment next.segment (docs_of old))) h));
      }

pub rising-none : Rising []
unfolding IsStrictlySortedBy
rising-none = tt

pub rising-front : (docs more : List DocWords) → Rising (docs ++ more) → Rising docs
rising-front docs more h = subst Rising (append-nil docs) (rising-without docs more [] (subst (λ (l : List DocWords). Rising (docs ++ l)) (sym (append-nil more)) h))

pub rising-back : (docs more : List DocWords) → Rising (docs ++ more) → Rising more
rising-back docs more h = rising-without [] docs more h

pub turned : (all rest : List Tier) (next : Tier) → all ≡ rest ++ next ∷ [] → reverse all ≡ next ∷ reverse rest
turned all rest next is = ap (λ (l : List Tier). reverse l) is ∙ reverse-last rest next

pub with-next : (front : List DocWords) (next : Tier) (all rest : List Tier) → all ≡ rest ++ next ∷ [] → Rising (front ++ docs_of (reverse all)) → Rising (front ++ next.segment)
with-next front next all rest is h =
    rising-front (front ++ next.segment) (docs_of (reverse rest))
    (subst Rising (sym (append_assoc front next.segment (docs_of (reverse rest)))) (subst (λ (l : List Tier). Rising (front ++ docs_of l)) (turned all rest next is) h))

ok-more : {T E : Type 0} {A B : Type 0} (result : Result T E) → (A → B) → OnOk result A → OnOk result B
ok-more (Ok value) more h = more h
ok-more (Err error) more h = tt

module _ (lives : ℕ → Bool) where
  pub ok-added : {T E : Type 0} (tier next merged : Tier) (all rest new : List Tier) (result : Result T E) → all ≡ rest ++ next ∷ [] → 0 < tier.live → IsCounted lives tier → AllByRecursion (IsCounted lives) (reverse all)
      → AreSettled (sizes_of (reverse all)) → merged.segment ≡ living_docs lives (tier.segment ++ next.segment) → merged.live ≡ length merged.segment → OnOk result (new ≡ rest ++ merged ∷ []) → OnOk result (IsAdded lives tier (reverse all) (reverse new))
  ok-added tier next merged all rest new result is some counted all_counted settled docs count pushed =
      let before : reverse all ≡ next ∷ reverse rest = turned all rest next is in
      ok-more result (λ (now : new ≡ rest ++ merged ∷ []).
      subst (λ (l : List Tier). IsAdded lives tier l (reverse new)) (sym before)
      (subst (λ (l : List Tier). IsAdded lives tier (next ∷ reverse rest) l) (sym (turned new rest merged now))
      (with-first lives tier next merged (reverse rest) some counted (subst (AllByRecursion (IsCounted lives)) before all_counted) (subst (λ (l : List Tier). AreSettled (sizes_of l)) before settled) docs count))) pushed

-- ---- the last of the tiers that are left

pub left-split : {X : Type 0} (P : X → Type 0) (xs : List X) (x : X) → AllByRecursion P (xs ++ x ∷ []) → AllByRecursion P xs × P x
left-split P [] x h = (tt, h.0)
left-split P (y ∷ xs) x h = let rest = left-split P xs x h.1 in ((h.0, rest.0), rest.1)

pub left-docs : (all rest : List Tier) (tier : Tier) (after : List DocWords) → all ≡ rest ++ tier ∷ [] → docs_of all ++ after ≡ docs_of rest ++ (tier.segment ++ after)
left-docs all rest tier after is = ap (λ (l : List Tier). docs_of l ++ after) is ∙ (ap (λ (l : List DocWords). l ++ after) (docs-last rest tier) ∙ append_assoc (docs_of rest) tier.segment after)

pub left-rising : (all rest : List Tier) (tier : Tier) (after : List DocWords) → all ≡ rest ++ tier ∷ [] → Rising (docs_of all ++ after) → Rising (tier.segment ++ after)
left-rising all rest tier after is h = rising-without [] (docs_of rest) (tier.segment ++ after) (subst Rising (left-docs all rest tier after is) h)

module _ (lives : ℕ → Bool) (all rest : List Tier) (tier : Tier) (old : List Tier) (docs : List DocWords) (is : all ≡ rest ++ tier ∷ []) (same : living_docs lives (docs_of all ++ docs_of old) ≡ docs) where
  pub added-docs : (new : List Tier) → IsAdded lives tier old new → living_docs lives (docs_of rest ++ docs_of new) ≡ docs
  added-docs new added =
      living-append lives (docs_of rest) (docs_of new)
      ∙ (ap (λ (l : List DocWords). living_docs lives (docs_of rest) ++ l) added.docs
      ∙ (sym (living-append lives (docs_of rest) (tier.segment ++ docs_of old)) ∙ (ap (living_docs lives) (sym (left-docs all rest tier (docs_of old) is)) ∙ same)))

  pub passed-docs : IsCounted lives tier → tier.live ≡ 0 → living_docs lives (docs_of rest ++ docs_of old) ≡ docs
  passed-docs counted none =
      passed-over lives tier (docs_of rest) (docs_of old) docs counted none
      (ap (living_docs lives) (append_assoc (docs_of rest) tier.segment (docs_of old) ∙ sym (left-docs all rest tier (docs_of old) is)) ∙ same)
