-- A search by halves, which stops at the key: what is on each side of the key, and how many probes it takes.
-- For the proofs of `dictionary`, `doc_places` and `starts`.
use Rattle.std.proofs.Common.{◌≡◌, ℕ, ◌⊎◌, inl, inr, ◌+◌, ◌*◌, ◌^◌, ◌<◌, ◌≤◌, false, Some, List, [], length, slice_get, get_or, sym, ap, ◌∙◌, add-one, arith}
use Rattle.std.specs.Cmp.{IsTotalOrder}
use Rattle.std.specs.List.Sorted.{IsStrictlySortedBy}
use Rattle.std.specs.Cmp.Lexicographic.{slice_cmp, texts_ties}
use Rattle.std.specs.Ordering.{is_eq, nat_cmp, ordering_reverse}
use Rattle.nm_base.specs.Order.{has_text, same_text}
use Rattle.nm_base.specs.SetLaws.{bytes_same}
use Rattle.std.specs.declared.cmp.Ordering.{Ordering}
use Rattle.std.specs.declared.cmp.Ordering.TheVariants.{Less, Equal, Greater}
use Rattle.std.proofs.lemmas.Bool.{cases_lt}
use Rattle.std.proofs.lemmas.List.{get_or_default}
use Rattle.std.proofs.lemmas.List.Folds.{list_any_none}
use Rattle.std.proofs.lemmas.Option.{slice_get-get_or}
use Rattle.std.proofs.lemmas.Map.Keys.{Less-from_sorted}
use Rattle.std.proofs.Math.Nat.{mul-le-mul_right, pow-suc}
use Rattle.nm_segment.specs.Costs.{SearchSteps}

-- ---- probes

-- t probes were made, and as many as left of n items may still be the one
pub record Probed (n old new left : ℕ) : Type 0 where
  pub t : ℕ
  pub new_is : new ≡ old + t
  pub halved : left * 2 ^ t ≤ n
  pub few : 2 ^ t ≤ 2 * n + 1

pub unprobed : (n old : ℕ) → Probed n old old n
unprobed n old = record { t = 0; new_is = omega arith; halved = omega arith; few = omega arith }

pub probed_more : (n old new left less : ℕ) → Probed n old new left → less * 2 ≤ left → 0 < left → Probed n old (new + 1) less
probed_more n old new left less p half some =
    let t : ℕ = p.t in
    let twice : 2 ^ (t + 1) ≡ 2 * 2 ^ t = rw (add-one, pow-suc) (omega arith) in
    let a : (less * 2) * 2 ^ t ≤ left * 2 ^ t = mul-le-mul_right (2 ^ t) half in
    let b : 1 * 2 ^ t ≤ left * 2 ^ t = mul-le-mul_right (2 ^ t) some in
    record {
      t = t + 1;
      new_is = omega (arith, p.new_is);
      halved = rw twice (omega (arith, a, p.halved));
      few = rw twice (omega (arith, b, p.halved));
    }

pub steps_of : (n old new left : ℕ) → Probed n old new left → SearchSteps n old new
steps_of n old new left p = (p.t, p.new_is, p.few)

-- ---- what is on each side

module _ {K : Type 0} (cmp : K → K → Ordering) (key : K) (items : List K) (d : K) where
  -- the key is above what is before low, and below what is from high on
  pub record Between (low high : ℕ) : Type 0 where
    pub order : low ≤ high
    pub within : high ≤ length items
    pub before : (k : ℕ) → k < low → cmp key (get_or items k d) ≡ Greater
    pub after : (k : ℕ) → high ≤ k → k < length items → cmp key (get_or items k d) ≡ Less

  pub between_all : Between 0 (length items)
  between_all = record { order = omega arith; within = omega arith; before = λ k h. absurd (omega (arith, h)); after = λ k h h'. absurd (omega (arith, h, h')) }

-- an answer that is not Equal
not_equal : (o : Ordering) → (o ≡ Greater) ⊎ (o ≡ Less) → is_eq o ≡ false
not_equal o h = elim h [ inl e ↦ ap is_eq e | inr e ↦ ap is_eq e ]

-- where the two sides meet, the key is nowhere
pub nowhere : {K : Type 0} (cmp : K → K → Ordering) (key : K) (items : List K) (d : K) (low high : ℕ) → Between cmp key items d low high → high ≤ low
    → (k : ℕ) (e : K) → k < length items → is_eq (cmp key (get_or items k e)) ≡ false
nowhere cmp key items d low high b done k e less =
    rw (get_or_default items k e d less) (not_equal (cmp key (get_or items k d)) (elim (cases_lt k low) [
      | inl lt ↦ inl (b.before k lt)
      | inr ge ↦ inr (b.after k (omega (arith, ge, done)) less)
    ]))

module _ {K : Type 0} (cmp : K → K → Ordering) (total : IsTotalOrder cmp) (key : K) (items : List K) (sorted : IsStrictlySortedBy cmp items) (d : K) where
  turned : (x y : K) (o : Ordering) → cmp x y ≡ o → cmp y x ≡ ordering_reverse o
  turned x y o e = total.antisymm y x ∙ ap ordering_reverse e

  pub above_all : (m : ℕ) → m < length items → cmp key (get_or items m d) ≡ Greater → (k : ℕ) → k < m + 1 → cmp key (get_or items k d) ≡ Greater
  above_all m less is k h = elim (cases_lt k m) [
    | inl lt ↦ turned (get_or items k d) key Less (total.trans (get_or items k d) (get_or items m d) key (Less-from_sorted cmp items k m d sorted lt less) (turned key (get_or items m d) Greater is))
    | inr ge ↦ let e : k ≡ m = omega (arith, ge, h) in rw e is
  ]

  below_all : (m : ℕ) → cmp key (get_or items m d) ≡ Less → (k : ℕ) → m ≤ k → k < length items → cmp key (get_or items k d) ≡ Less
  below_all m is k h less = elim (cases_lt m k) [
    | inl lt ↦ total.trans key (get_or items m d) (get_or items k d) is (Less-from_sorted cmp items m k d sorted lt less)
    | inr ge ↦ let e : k ≡ m = omega (arith, ge, h) in rw e is
  ]

  pub between_above : (low high m : ℕ) → Between cmp key items d low high → m < high → cmp key (get_or items m d) ≡ Greater → Between cmp key items d (m + 1) high
  between_above low high m b less is =
      record { order = omega (arith, less); within = b.within; before = above_all m (omega (arith, less, b.within)) is; after = b.after }

  pub between_below : (low high m : ℕ) → Between cmp key items d low high → low ≤ m → m < high → cmp key (get_or items m d) ≡ Less → Between cmp key items d low m
  between_below low high m b le less is =
      record { order = le; within = omega (arith, less, b.within); before = b.before; after = below_all m is }

-- ---- of texts

-- a text that is told to be the same is at its place
pub found_text : (words : List (List ℕ)) (word piece : List ℕ) (at : ℕ) → at < length words → piece ≡ get_or words at [] → Equal ≡ slice_cmp nat_cmp word piece → slice_get words at ≡ Some word
found_text words word piece at less is same =
    slice_get-get_or words at [] less ∙ ap Some (sym is ∙ sym (bytes_same word piece (ap is_eq same ∙ sym (texts_ties word piece))))

pub no_text : (words : List (List ℕ)) (word : List ℕ) (low high : ℕ) → Between (slice_cmp nat_cmp) word words [] low high → high ≤ low → has_text words word ≡ false
no_text words word low high b done =
    list_any_none (same_text word) words (λ k d less. texts_ties word (get_or words k d) ∙ nowhere (slice_cmp nat_cmp) word words [] low high b done k d less)
