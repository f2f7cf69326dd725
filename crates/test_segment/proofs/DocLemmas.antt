-- Documents whose numbers rise, by the first one and the rest. For the proof of `doc_order`.
use Rattle.std.proofs.Common.{◌≡◌, ℕ, List, [], ◌∷◌, ◌++◌, length, arith}
use Rattle.std.specs.List.{AllByRecursion}
use Rattle.std.specs.List.Sorted.{IsStrictlySortedBy}
use Rattle.std.specs.Ordering.{nat_cmp}
use Rattle.std.specs.declared.cmp.Ordering.TheVariants.{Less}
use Rattle.nm_segment.specs.declared.doc_words.DocWords.{DocWords}
use Rattle.nm_segment.specs.Docs.{numbers}

pub none_rise : (docs : List DocWords) → length docs ≡ 0 → IsStrictlySortedBy nat_cmp (numbers docs)
unfolding IsStrictlySortedBy
none_rise [] none = tt
none_rise (doc ∷ docs) none = absurd (omega (arith, none))

pub first_rises : (doc : DocWords) (rest : List DocWords) → AllByRecursion (λ other. nat_cmp doc.doc other ≡ Less) (numbers rest) → IsStrictlySortedBy nat_cmp (numbers rest) → IsStrictlySortedBy nat_cmp (numbers (doc ∷ rest))
unfolding IsStrictlySortedBy
first_rises doc rest above rising = (above, rising)

pub none_before : (front back : List DocWords) → length front ≡ 0 → IsStrictlySortedBy nat_cmp (numbers back) → IsStrictlySortedBy nat_cmp (numbers (front ++ back))
none_before [] back none rising = rising
none_before (doc ∷ front) back none rising = absurd (omega (arith, none))

above_both : (number : ℕ) (rest back : List DocWords) → AllByRecursion (λ other. nat_cmp number other ≡ Less) (numbers rest) → AllByRecursion (λ other. nat_cmp number other ≡ Less) (numbers back) → AllByRecursion (λ other. nat_cmp number other ≡ Less) (numbers (rest ++ back))
above_both number [] back above over = over
above_both number (doc ∷ rest) back above over = (above.0, above_both number rest back above.1 over)

pub first_rises_on : (doc : DocWords) (rest back : List DocWords) → AllByRecursion (λ other. nat_cmp doc.doc other ≡ Less) (numbers rest) → AllByRecursion (λ other. nat_cmp doc.doc other ≡ Less) (numbers back) → IsStrictlySortedBy nat_cmp (numbers (rest ++ back)) → IsStrictlySortedBy nat_cmp (numbers (doc ∷ rest ++ back))
unfolding IsStrictlySortedBy
first_rises_on doc rest back above over rising = (above_both doc.doc rest back above over, rising)
