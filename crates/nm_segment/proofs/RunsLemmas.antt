-- Runs that are added: of a row, of a word, and of all words. For the proofs of `gather` and `merge`.
use Rattle.std.proofs.Common.{◌≡◌, ℕ, inl, inr, ◌+◌, ◌<◌, List, [], ◌∷◌, ◌++◌, length, get_or, take, refl, sym, ap, subst, ◌∙◌, append_assoc, append-nil, arith}
use Rattle.std.proofs.Math.Numerals.{suc-eq-add-one}
use Rattle.std.proofs.Math.Seq.{take-suc}
use Rattle.std.proofs.lemmas.Bool.{cases_lt}
use Rattle.std.proofs.lemmas.List.{get_or_append_left, get_or-append-add, length-append}
use Rattle.nm_base.specs.FieldNumber.{field_number}
use Rattle.nm_base.specs.declared.facts.Field.{Field}
use Rattle.nm_blocks.specs.Blocks.{IsRun, run_hits}
use Rattle.nm_blocks.specs.declared.hit.Hit.{Hit}
use Rattle.nm_segment.specs.Runs.{AddsRuns, AreRuns, AreRunsOf, row_at}
use Rattle.nm_segment.proofs.HitLemmas.{same_field}
use Rattle.nm_segment.proofs.HitsInLemmas.{few_fields}

pub no_runs_of : AreRunsOf [] []
no_runs_of = record { count = refl; each = λ at less. absurd (omega (arith, less)) }

same_at : (n : ℕ) → n ≡ n + 0
same_at n = omega arith

-- a row more
pub run_of_more : (made : List (List ℕ)) (rows : List (List Hit)) (run : List ℕ) (row : List Hit) → AreRunsOf made rows → IsRun run row → AreRunsOf (made ++ run ∷ []) (rows ++ row ∷ [])
run_of_more made rows run row h is = record {
  count = length-append made (run ∷ []) ∙ (ap (λ (n : ℕ). n + 1) h.count ∙ sym (length-append rows (row ∷ [])));
  each = λ at less. elim (cases_lt at (length rows)) [
    | inl front ↦ rw (get_or_append_left made (run ∷ []) [] at (omega (arith, front, h.count)), get_or_append_left rows (row ∷ []) [] at front) (h.each at front)
    | inr back ↦
        let l = length-append rows (row ∷ []) in
        let e : at ≡ length rows + 0 = omega (arith, back, less, l) in
        let f : at ≡ length made + 0 = omega (arith, e, h.count) in
        let a : get_or (made ++ run ∷ []) at [] ≡ run = ap (λ (n : ℕ). get_or (made ++ run ∷ []) n []) f ∙ get_or-append-add made (run ∷ []) 0 [] in
        let b : get_or (rows ++ row ∷ []) at [] ≡ row = ap (λ (n : ℕ). get_or (rows ++ row ∷ []) n []) e ∙ get_or-append-add rows (row ∷ []) 0 [] in
        rw (a, b) is
  ];
}

-- the same as a loop finds it
pub one_more : (old runs new made : List (List ℕ)) (rows : List (List Hit)) (i : ℕ) (row : List Hit) (run bytes : List ℕ) → i < length rows → row ≡ get_or rows i row → runs ≡ old ++ made → AreRunsOf made (take i rows) → IsRun run row
    → bytes ≡ run → new ≡ runs ++ bytes ∷ [] → (x : List (List ℕ)) × (new ≡ old ++ x) × AreRunsOf x (take (i + 1) rows)
one_more old runs new made rows i row run bytes less item was of is same added = (
  made ++ run ∷ [],
  added ∙ (ap (λ (b : List ℕ). runs ++ b ∷ []) same ∙ (ap (λ (r : List (List ℕ)). r ++ run ∷ []) was ∙ append_assoc old made (run ∷ []))),
  subst (λ (rs : List (List Hit)). AreRunsOf (made ++ run ∷ []) rs) (ap (λ (x : List Hit). take i rows ++ x ∷ []) item ∙ (sym (take-suc rows i row less) ∙ ap (λ (n : ℕ). take n rows) (suc-eq-add-one i))) (run_of_more made (take i rows) run row of is),
)

pub no_runs : (hits : List ℕ → Field → List Hit) → AreRuns [] [] hits
no_runs hits = record { count = refl; each = λ at field less. absurd (omega (arith, less)) }

-- a word more
pub runs_more : (runs new list : List (List ℕ)) (word : List ℕ) (hits : List ℕ → Field → List Hit) → AreRuns runs list hits → AddsRuns runs new (hits word) → AreRuns new (list ++ word ∷ []) hits
runs_more runs new list word hits h adds = record {
  count = ap length adds.added ∙ (length-append runs adds.five ∙ (let l = length-append list (word ∷ []) in omega (arith, h.count, adds.count, l)));
  each = λ at field less. elim (cases_lt at (length list)) [
    | inl front ↦ rw (adds.added, get_or_append_left runs adds.five [] (row_at at field) (omega (arith, front, h.count, few_fields field)), get_or_append_left list (word ∷ []) [] at front) (h.each at field front)
    | inr back ↦
        let l = length-append list (word ∷ []) in
        let e : at ≡ length list + 0 = omega (arith, back, less, l) in
        let f : row_at at field ≡ length runs + field_number field = omega (arith, e, h.count) in
        let a : get_or (runs ++ adds.five) (row_at at field) [] ≡ get_or adds.five (field_number field) [] = ap (λ (n : ℕ). get_or (runs ++ adds.five) n []) f ∙ get_or-append-add runs adds.five (field_number field) [] in
        let b : get_or (list ++ word ∷ []) at [] ≡ word = ap (λ (n : ℕ). get_or (list ++ word ∷ []) n []) e ∙ get_or-append-add list (word ∷ []) 0 [] in
        rw (adds.added, a, b) (adds.each field)
  ];
}

-- ---- field by field

-- the fields below a number have their runs
pub record HasRuns (old new : List (List ℕ)) (number : ℕ) (hits : Field → List Hit) : Type 0 where
  pub made : List (List ℕ)
  pub added : new ≡ old ++ made
  pub count : length made ≡ number
  pub each : (field : Field) → field_number field < number → IsRun (get_or made (field_number field) []) (hits field)

pub none_has : (old : List (List ℕ)) (hits : Field → List Hit) → HasRuns old old 0 hits
none_has old hits = record { made = []; added = sym (append-nil old); count = refl; each = λ field less. absurd (omega (arith, less)) }

-- a field more
pub field_more : (old runs new : List (List ℕ)) (number : ℕ) (hits : Field → List Hit) (field : Field) (run : List ℕ) → HasRuns old runs number hits → field_number field ≡ number → IsRun run (hits field) → new ≡ runs ++ run ∷ []
    → HasRuns old new (number + 1) hits
field_more old runs new number hits field run h is here added = record {
  made = h.made ++ run ∷ [];
  added = added ∙ (ap (λ (r : List (List ℕ)). r ++ run ∷ []) h.added ∙ append_assoc old h.made (run ∷ []));
  count = length-append h.made (run ∷ []) ∙ ap (λ n. n + 1) h.count;
  each = λ other less. elim (cases_lt (field_number other) number) [
    | inl front ↦ rw (get_or_append_left h.made (run ∷ []) [] (field_number other) (omega (arith, front, h.count))) (h.each other front)
    | inr back ↦
        let e : field_number other ≡ length h.made + 0 = omega (arith, back, less, h.count) in
        let same : field ≡ other = same_field field other (omega (arith, e, h.count, is)) in
        let a : get_or (h.made ++ run ∷ []) (field_number other) [] ≡ run = ap (λ (n : ℕ). get_or (h.made ++ run ∷ []) n []) e ∙ get_or-append-add h.made (run ∷ []) 0 [] in
        rw a (subst (λ (f : Field). IsRun run (hits f)) same here)
  ];
}

-- all fields
pub all_have : (old new : List (List ℕ)) (number : ℕ) (hits : Field → List Hit) → number ≡ 5 → HasRuns old new number hits → AddsRuns old new hits
all_have old new number hits all h = record { five = h.made; added = h.added; count = h.count ∙ all; each = λ field. h.each field (rw all (few_fields field)) }

-- ---- runs one after the other

pub runs_joined : (front back : List ℕ) (hits others : List Hit) → IsRun front hits → IsRun back others → IsRun (front ++ back) (hits ++ others)
runs_joined front back hits others p q rest =
    ap run_hits (append_assoc front back rest) ∙ (p (back ++ rest) ∙ (ap (λ (xs : List Hit). hits ++ xs) (q rest) ∙ sym (append_assoc hits others (run_hits rest))))
