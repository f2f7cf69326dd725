-- Documents that are cut into parts, and segments that are put together. For the proofs of `docs_part`, `cut`, `pairs` and `workers`.
use Rattle.std.proofs.Common.{◌≡◌, ℕ, suc, ◌+◌, ◌*◌, ◌<◌, Option, None, Some, List, [], ◌∷◌, ◌++◌, length, refl, sym, ap, subst, ◌∙◌, append_assoc, append-nil, arith}
use Rattle.std.proofs.lemmas.List.{map-append}
use Rattle.std.specs.List.{AllByRecursion, AllZip}
use Rattle.std.specs.List.Sorted.{IsStrictlySortedBy}
use Rattle.std.specs.Ordering.{nat_cmp}
use Rattle.std.specs.declared.cmp.Ordering.TheVariants.{Less}
use Rattle.nm_build.specs.Parts.{count_of, joined}
use Rattle.nm_segment.specs.Docs.{AreDocs, AreFew, numbers}
use Rattle.nm_segment.specs.declared.doc_words.DocWords.{DocWords}

-- ---- of numbers that rise those in front rise, and those after

all_front : (P : ℕ → Type 0) (xs ys : List ℕ) → AllByRecursion P (xs ++ ys) → AllByRecursion P xs
all_front P [] ys h = tt
all_front P (x ∷ xs) ys h = (h.0, all_front P xs ys h.1)

rising_front : (xs ys : List ℕ) → IsStrictlySortedBy nat_cmp (xs ++ ys) → IsStrictlySortedBy nat_cmp xs
unfolding IsStrictlySortedBy
rising_front [] ys h = tt
rising_front (x ∷ xs) ys h = (all_front (λ y. nat_cmp x y ≡ Less) xs ys h.0, rising_front xs ys h.1)

rising_back : (xs ys : List ℕ) → IsStrictlySortedBy nat_cmp (xs ++ ys) → IsStrictlySortedBy nat_cmp ys
unfolding IsStrictlySortedBy
rising_back [] ys h = h
rising_back (x ∷ xs) ys h = rising_back xs ys h.1

numbers-append : (docs more : List DocWords) → numbers (docs ++ more) ≡ numbers docs ++ numbers more
numbers-append docs more = map-append (λ (d : DocWords). d.doc) docs more

pub docs_front : (docs more : List DocWords) → IsStrictlySortedBy nat_cmp (numbers (docs ++ more)) → IsStrictlySortedBy nat_cmp (numbers docs)
docs_front docs more h = rising_front (numbers docs) (numbers more) (subst (IsStrictlySortedBy nat_cmp) (numbers-append docs more) h)

pub docs_back : (docs more : List DocWords) → IsStrictlySortedBy nat_cmp (numbers (docs ++ more)) → IsStrictlySortedBy nat_cmp (numbers more)
docs_back docs more h = rising_back (numbers docs) (numbers more) (subst (IsStrictlySortedBy nat_cmp) (numbers-append docs more) h)

few_front : (docs more : List DocWords) → AllByRecursion (λ d. AreFew d.lists) (docs ++ more) → AllByRecursion (λ d. AreFew d.lists) docs
few_front [] more h = tt
few_front (d ∷ docs) more h = (h.0, few_front docs more h.1)

few_back : (docs more : List DocWords) → AllByRecursion (λ d. AreFew d.lists) (docs ++ more) → AllByRecursion (λ d. AreFew d.lists) more
few_back [] more h = h
few_back (d ∷ docs) more h = few_back docs more h.1

pub cut_front : (docs more all : List DocWords) → docs ++ more ≡ all → AreDocs all → AreDocs docs
cut_front docs more all e are =
    let h = subst AreDocs (sym e) are in
    record { rising = docs_front docs more h.rising; few = few_front docs more h.few }

pub cut_back : (docs more all : List DocWords) → docs ++ more ≡ all → AreDocs all → AreDocs more
cut_back docs more all e are =
    let h = subst AreDocs (sym e) are in
    record { rising = docs_back docs more h.rising; few = few_back docs more h.few }

-- ---- lists of documents as one

pub joined-append : (parts more : List (List DocWords)) → joined (parts ++ more) ≡ joined parts ++ joined more
joined-append [] more = refl
joined-append (docs ∷ parts) more = ap (λ (ds : List DocWords). docs ++ ds) (joined-append parts more) ∙ sym (append_assoc docs (joined parts) (joined more))

pub joined-more : (parts : List (List DocWords)) (docs : List DocWords) → joined (parts ++ docs ∷ []) ≡ joined parts ++ docs
joined-more parts docs = joined-append parts (docs ∷ []) ∙ ap (λ (ds : List DocWords). joined parts ++ ds) (append-nil docs)

-- what each gives alike gives the same in all
pub joined-alike : (parts results : List (List DocWords)) → AllZip (λ part result. result ≡ part) parts results → joined results ≡ joined parts
joined-alike [] [] h = refl
joined-alike [] (r ∷ results) h = absurd h
joined-alike (p ∷ parts) [] h = absurd h
joined-alike (p ∷ parts) (r ∷ results) h = ap (λ (ds : List DocWords). ds ++ joined results) h.0 ∙ ap (λ (ds : List DocWords). p ++ ds) (joined-alike parts results h.1)

pub length-alike : (parts results : List (List DocWords)) → AllZip (λ part result. result ≡ part) parts results → length results ≡ length parts
length-alike [] [] h = refl
length-alike [] (r ∷ results) h = absurd h
length-alike (p ∷ parts) [] h = absurd h
length-alike (p ∷ parts) (r ∷ results) h = ap suc (length-alike parts results h.1)

-- ---- pairs

few_by : (found joined pairs all : ℕ) (last : Option (List DocWords)) → found ≡ joined + count_of last → joined ≡ pairs → 2 * pairs + count_of last ≡ all → 1 < all → found < all
few_by found joined pairs all None f j p some = omega (arith, f, j, p, some)
few_by found joined pairs all (Some docs) f j p some = omega (arith, f, j, p, some)

-- of two segments and more fewer are left
pub few_left : (found joined pairs all : ℕ) (last : Option (List DocWords)) → found ≡ joined + count_of last → joined ≡ pairs → 2 * pairs + count_of last ≡ all → 1 < all → found < all
few_left = few_by

-- two segments that follow one another rise
pub pair_rises : (pairs : List (List DocWords)) (front segment : List DocWords) (rest : List (List DocWords)) (all : List DocWords) → joined pairs ++ (front ++ joined (segment ∷ rest)) ≡ all → IsStrictlySortedBy nat_cmp (numbers all)
    → IsStrictlySortedBy nat_cmp (numbers (front ++ segment))
pair_rises pairs front segment rest all parts rising =
    let back : front ++ joined (segment ∷ rest) ≡ (front ++ segment) ++ joined rest = sym (append_assoc front segment (joined rest)) in
    let e : all ≡ joined pairs ++ ((front ++ segment) ++ joined rest) = sym parts ∙ ap (λ (ds : List DocWords). joined pairs ++ ds) back in
    docs_front (front ++ segment) (joined rest) (docs_back (joined pairs) ((front ++ segment) ++ joined rest) (subst (λ (ds : List DocWords). IsStrictlySortedBy nat_cmp (numbers ds)) e rising))
