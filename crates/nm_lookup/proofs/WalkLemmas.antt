-- The documents of hits in order: they rise, and no other is there. For the proof of `with_word`.
use Rattle.std.proofs.Common.{◌≡◌, ℕ, ◌<◌, ◌≤◌, Bool, true, false, cond, ◌||◌, ◌&&◌, ◌==◌, nat_lt, None, Some, List, [], ◌∷◌, map, true≢false, refl, sym, ap, subst, ◌∙◌, arith}
use Rattle.std.specs.List.{AllByRecursion}
use Rattle.std.specs.List.Sorted.{IsStrictlySortedBy}
use Rattle.std.specs.Ordering.{nat_cmp}
use Rattle.std.specs.declared.cmp.Ordering.TheVariants.{Less}
use Rattle.std.proofs.lemmas.Bool.{and_parts, eqb-true}
use Rattle.std.proofs.lemmas.Bool.Decides.{nat_tests}
use Rattle.nm_blocks.specs.Hits.{is_before, is_rising, rise_after}
use Rattle.nm_blocks.specs.declared.hit.Hit.{Hit}
use Rattle.nm_cursor.specs.Sets.{IsRising, has}
use Rattle.nm_lookup.specs.Lookup.{distinct}

le-case : (a b : ℕ) (lt eq more : Bool) → nat_lt a b ≡ lt → (a == b) ≡ eq → (lt || (eq && more)) ≡ true → a ≤ b
le-case a b true eq more is same h = grind (arith, nat_tests, is)
le-case a b false true more is same h = omega (arith, eqb-true a b same)
le-case a b false false more is same h = absurd (true≢false (sym h))

not-after : (a b : Hit) → is_before a b ≡ true → a.doc ≤ b.doc
not-after a b h = le-case a.doc b.doc (nat_lt a.doc b.doc) (a.doc == b.doc) (nat_lt a.list b.list || (a.list == b.list && nat_lt a.place b.place)) refl refl h

less-through : (a b n : ℕ) → a < b → nat_cmp b n ≡ Less → nat_cmp a n ≡ Less
less-through a b n less is = grind (arith, nat_tests)

less-now : (a b : ℕ) → a < b → nat_cmp a b ≡ Less
less-now a b less = grind (arith, nat_tests)

all-through : (a b : ℕ) (docs : List ℕ) → a < b → AllByRecursion (λ n. nat_cmp b n ≡ Less) docs → AllByRecursion (λ n. nat_cmp a n ≡ Less) docs
all-through a b [] less all = tt
all-through a b (n ∷ docs) less all = (less-through a b n less all.0, all-through a b docs less all.1)

abbrev RisesAfter : ℕ → List ℕ → Type 0
RisesAfter doc docs = AllByRecursion (λ n. nat_cmp doc n ≡ Less) docs × IsRising docs

after-case : (last doc : ℕ) (more : List Hit) (same : Bool) → (last == doc) ≡ same → last ≤ doc → RisesAfter doc (distinct (Some doc) more) → RisesAfter last (cond same (distinct (Some last) more) (doc ∷ distinct (Some doc) more))
unfolding IsStrictlySortedBy
after-case last doc more true is le rest = subst (λ (n : ℕ). RisesAfter n (distinct (Some n) more)) (sym (eqb-true last doc is)) rest
after-case last doc more false is le rest =
    let less : last < doc = grind (arith, nat_tests) in ((less-now last doc less, all-through last doc (distinct (Some doc) more) less rest.0), (rest.0, rest.1))

rises-after : (before : Hit) (hits : List Hit) → rise_after before hits ≡ true → RisesAfter before.doc (distinct (Some before.doc) hits)
unfolding IsStrictlySortedBy
rises-after before [] h = (tt, tt)
rises-after before (hit ∷ hits) h =
    let parts = and_parts (is_before before hit) (rise_after hit hits) h in
    after-case before.doc hit.doc hits (before.doc == hit.doc) refl (not-after before hit parts.0) (rises-after hit hits parts.1)

pub distinct-rises : (hits : List Hit) → is_rising hits ≡ true → IsRising (distinct None hits)
unfolding IsStrictlySortedBy
distinct-rises [] h = tt
distinct-rises (hit ∷ hits) h = let rest = rises-after hit hits h in (rest.0, rest.1)

-- ---- which documents

module _ (doc : ℕ) where
  or-twice : (a b : Bool) → (a || (a || b)) ≡ (a || b)
  or-twice true b = refl
  or-twice false b = refl

  has-case : (last here : ℕ) (more : List Hit) (same : Bool) → (last == here) ≡ same
      → (doc == last || has (distinct (Some last) more) doc) ≡ (doc == last || has (map (λ (hit : Hit). hit.doc) more) doc)
      → (doc == here || has (distinct (Some here) more) doc) ≡ (doc == here || has (map (λ (hit : Hit). hit.doc) more) doc)
      → (doc == last || has (cond same (distinct (Some last) more) (here ∷ distinct (Some here) more)) doc) ≡ (doc == last || (doc == here || has (map (λ (hit : Hit). hit.doc) more) doc))
  unfolding has
  has-case last here more true is first second =
      first ∙ (sym (or-twice (doc == last) (has (map (λ (hit : Hit). hit.doc) more) doc)) ∙ ap (λ (n : ℕ). doc == last || (doc == n || has (map (λ (hit : Hit). hit.doc) more) doc)) (eqb-true last here is))
  has-case last here more false is first second = ap (λ (b : Bool). doc == last || b) second

  has-after : (last : ℕ) (hits : List Hit) → (doc == last || has (distinct (Some last) hits) doc) ≡ (doc == last || has (map (λ (hit : Hit). hit.doc) hits) doc)
  unfolding has
  has-after last [] = refl
  has-after last (hit ∷ hits) = has-case last hit.doc hits (last == hit.doc) refl (has-after last hits) (has-after hit.doc hits)

  pub has-distinct : (hits : List Hit) → has (distinct None hits) doc ≡ has (map (λ (hit : Hit). hit.doc) hits) doc
  unfolding has
  has-distinct [] = refl
  has-distinct (hit ∷ hits) = has-after hit.doc hits
