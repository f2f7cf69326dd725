-- The document with a number, among documents whose numbers rise. For the proofs of `doc_places`.
use Rattle.std.proofs.Common.{◌≡◌, ℕ, zero, suc, ◌+◌, ◌<◌, Bool, true, false, cond, nat_eq, lit<, List, [], ◌∷◌, length, get_or, refl, sym, arith}
use Rattle.std.specs.List.Sorted.{IsStrictlySortedBy}
use Rattle.std.specs.List.{AllByRecursion}
use Rattle.std.specs.Ordering.{is_eq, nat_cmp}
use Rattle.std.specs.declared.cmp.Ordering.TheVariants.{Equal}
use Rattle.std.proofs.lemmas.Bool.{eq-eqb, ne_eqb}
use Rattle.std.proofs.lemmas.Bool.Decides.{nat_tests}
use Rattle.std.proofs.lemmas.List.{get_or-map, length-map}
use Rattle.std.proofs.lemmas.Map.Keys.{below_from_sorted, sorted_tail}
use Rattle.nm_segment.specs.declared.doc_words.DocWords.{DocWords}
use Rattle.nm_base.specs.declared.facts.FieldWords.{FieldWords}
use Rattle.nm_segment.specs.Docs.{AreDocs, AreFew, lists_of, numbers}
use Rattle.nm_segment.proofs.SearchLemmas.{Between, nowhere}

pub length-numbers : (docs : List DocWords) → length (numbers docs) ≡ length docs
length-numbers docs = length-map docs (λ (d : DocWords). d.doc)

pub number_at : (docs : List DocWords) (at : ℕ) (d : DocWords) → at < length docs → get_or (numbers docs) at 0 ≡ (get_or docs at d).doc
number_at docs at d less = get_or-map (λ (x : DocWords). x.doc) docs at d 0 less

-- what is at a place is the document with its number
pub here : (docs : List DocWords) (doc at : ℕ) (d : DocWords) → IsStrictlySortedBy nat_cmp (numbers docs) → at < length docs → doc ≡ (get_or docs at d).doc → lists_of docs doc ≡ (get_or docs at d).lists
here [] doc at d sorted less is = absurd (omega (arith, less))
here (x ∷ docs) doc zero d sorted less is = rw (eq-eqb x.doc doc (sym is)) refl
here (x ∷ docs) doc (suc at) d sorted less is =
    let within : at < length docs = omega (arith, less) in
    let under : x.doc < get_or (numbers docs) at 0 = below_from_sorted (numbers (x ∷ docs)) 0 (suc at) 0 sorted (omega arith) (omega (arith, less, length-numbers docs)) in
    rw (ne_eqb x.doc doc (λ e. omega (arith, e, under, is, number_at docs at d within))) (here docs doc at d (sorted_tail nat_cmp x.doc (numbers docs) sorted) within is)

other_number : (doc n : ℕ) → is_eq (nat_cmp doc n) ≡ false → n ≡ doc → ⊥
other_number doc n h e = grind (arith, nat_tests)

none : (docs : List DocWords) (doc : ℕ) → ((k e : ℕ) → k < length (numbers docs) → is_eq (nat_cmp doc (get_or (numbers docs) k e)) ≡ false) → lists_of docs doc ≡ []
none [] doc h = refl
none (x ∷ docs) doc h = rw (ne_eqb x.doc doc (other_number doc x.doc (h 0 0 (omega arith)))) (none docs doc (λ k e less. h (suc k) e (omega (arith, less))))

pub nobody : (docs : List DocWords) (doc low high : ℕ) → Between nat_cmp doc (numbers docs) 0 low high → high < low + 1 → lists_of docs doc ≡ []
nobody docs doc low high b done = none docs doc (nowhere nat_cmp doc (numbers docs) 0 low high b (omega (arith, done)))

-- numbers that are told to be the same are
pub equal_numbers : (a b : ℕ) → Equal ≡ nat_cmp a b → a ≡ b
equal_numbers a b e = grind (arith, nat_tests)

few_case : (b : Bool) (lists others : List FieldWords) → AreFew lists → AreFew others → AreFew (cond b lists others)
few_case true lists others p q = p
few_case false lists others p q = q

few_among : (docs : List DocWords) (doc : ℕ) → AllByRecursion (λ d. AreFew d.lists) docs → AreFew (lists_of docs doc)
few_among [] doc few = record { few = lit< tt; short = tt }
few_among (x ∷ docs) doc few = few_case (nat_eq x.doc doc) x.lists (lists_of docs doc) few.0 (few_among docs doc few.1)

-- a document has few lists, if it is there or not
pub few_of : (docs : List DocWords) (doc : ℕ) (lists : List FieldWords) → AreDocs docs → lists ≡ lists_of docs doc → AreFew lists
few_of docs doc lists are e = rw e (few_among docs doc are.few)
