-- The paths of the store rise with the numbers of their mails, by their bytes, so no two are the same.
-- For the proofs of `the_paths_stand_in_byte_order` and `drill_tree`.
use Rattle.std.proofs.Common.{◌≡◌, ℕ, zero, suc, ◌+◌, ◌/◌, ◌%◌, ◌<◌, ◌≤◌, List, [], ◌∷◌, ◌++◌, length, map, refl, ap, sym, ◌∙◌, length-append, arith, false, Ordering}
use Rattle.std.specs.Prelude.{IsTrue}
use Rattle.std.specs.List.{AllByRecursion, range_with_len}
use Rattle.std.specs.List.Sorted.{IsStrictlySortedBy}
use Rattle.std.specs.Cmp.{nat_cmp_is}
use Rattle.std.specs.Cmp.Lexicographic.{slice_cmp}
use Rattle.std.specs.Ordering.{is_eq, nat_cmp, ordering_then}
use Rattle.std.specs.declared.cmp.Ordering.TheVariants.{Less, Equal, Greater}
use Rattle.std.proofs.lemmas.Map.Text.{is_eq-slice_cmp}
use Rattle.nm_base.specs.Order.{IsSorted, has_text, same_text}
use Rattle.nm_maildir.specs.Still.{are_distinct, paths_of}
use Rattle.nm_drill.specs.Drill.{drill_file, drill_path, last_digits}
use Rattle.nm_drill.proofs.DigitLemmas.{by_lt}

-- ---- texts by their bytes

same_number : (a : ℕ) → nat_cmp a a ≡ Equal
same_number a = sym (nat_cmp_is a a Equal refl)

lower_number : (a b : ℕ) → a < b → nat_cmp a b ≡ Less
lower_number a b lower = sym (nat_cmp_is a b Less lower)

after_head : (head rest longer : Ordering) → (rest ≡ Less → longer ≡ Less) → ordering_then head rest ≡ Less → ordering_then head longer ≡ Less
after_head Less rest longer more less = refl
after_head Equal rest longer more less = more less
after_head Greater rest longer more less = absurd (cc)

-- what decides comes before the last byte
decided_before : (xs ys : List ℕ) (a b : ℕ) → length xs ≡ length ys → slice_cmp nat_cmp xs ys ≡ Less → slice_cmp nat_cmp (xs ++ a ∷ []) (ys ++ b ∷ []) ≡ Less
decided_before [] [] a b len less = absurd (cc)
decided_before [] (y ∷ ys) a b len less = absurd (omega (arith, len))
decided_before (x ∷ xs) [] a b len less = absurd (omega (arith, len))
decided_before (x ∷ xs) (y ∷ ys) a b len less =
    let shorter : length xs ≡ length ys = omega (arith, len) in
    after_head (nat_cmp x y) (slice_cmp nat_cmp xs ys) (slice_cmp nat_cmp (xs ++ a ∷ []) (ys ++ b ∷ [])) (decided_before xs ys a b shorter) less

-- the last byte decides
decided_last : (xs : List ℕ) (a b : ℕ) → a < b → slice_cmp nat_cmp (xs ++ a ∷ []) (xs ++ b ∷ []) ≡ Less
decided_last [] a b lower = ap (λ o. ordering_then o Equal) (lower_number a b lower)
decided_last (x ∷ xs) a b lower = ap (λ o. ordering_then o (slice_cmp nat_cmp (xs ++ a ∷ []) (xs ++ b ∷ []))) (same_number x) ∙ decided_last xs a b lower

-- ---- digits

length-last_digits : (n k : ℕ) → length (last_digits n k) ≡ n
length-last_digits zero k = refl
length-last_digits (suc n) k =
    let front = length-last_digits n (k / 10) in
    omega (arith, length-append (last_digits n (k / 10)) ((48 + k % 10) ∷ []), front)

-- the number has at most n digits
abbrev pub IsShort : ℕ → ℕ → Type 0
IsShort zero k = k ≡ 0
IsShort (suc n) k = IsShort n (k / 10)

digits_rise : (n j k : ℕ) → j < k → IsShort n k → slice_cmp nat_cmp (last_digits n j) (last_digits n k) ≡ Less
digits_rise zero j k lower short = absurd (omega (arith, short))
digits_rise (suc n) j k lower short =
    by_lt (j / 10) (k / 10)
    (λ before. decided_before (last_digits n (j / 10)) (last_digits n (k / 10)) (48 + j % 10) (48 + k % 10)
    (length-last_digits n (j / 10) ∙ sym (length-last_digits n (k / 10))) (digits_rise n (j / 10) (k / 10) before short))
    (λ from.
    let same : j / 10 ≡ k / 10 = omega arith in
    let last : 48 + j % 10 < 48 + k % 10 = omega arith in
    ap (λ front. slice_cmp nat_cmp (last_digits n front ++ (48 + j % 10) ∷ []) (last_digits n (k / 10) ++ (48 + k % 10) ∷ [])) same
    ∙ decided_last (last_digits n (k / 10)) (48 + j % 10) (48 + k % 10) last)

pub paths_rise : (j k : ℕ) → j < k → k < 100000000 → slice_cmp nat_cmp (drill_path j) (drill_path k) ≡ Less
paths_rise j k lower short =
    let eight : IsShort 8 k = omega arith in
    digits_rise 8 j k lower eight

-- ---- the paths of the store

all_above : (n j k : ℕ) → j < k → k + n ≤ 100000000 → AllByRecursion (λ path. slice_cmp nat_cmp (drill_path j) path ≡ Less) (paths_of (map drill_file (range_with_len k n)))
all_above zero j k lower short = tt
all_above (suc n) j k lower short = (paths_rise j k lower (omega arith), all_above n j (k + 1) (omega arith) (omega arith))

pub in_order : (n k : ℕ) → k + n ≤ 100000000 → IsSorted (paths_of (map drill_file (range_with_len k n)))
unfolding IsStrictlySortedBy
in_order zero k short = tt
in_order (suc n) k short = (all_above n k (k + 1) (omega arith) (omega arith), in_order n (k + 1) (omega arith))

not_among : (path : List ℕ) (paths : List (List ℕ)) → AllByRecursion (λ other. slice_cmp nat_cmp path other ≡ Less) paths → has_text paths path ≡ false
not_among path [] above = refl
not_among path (other ∷ paths) above =
    let differs : same_text path other ≡ false = sym (is_eq-slice_cmp path other) ∙ ap is_eq above.0 in
    rw differs (not_among path paths above.1)

pub distinct_in_order : (paths : List (List ℕ)) → IsSorted paths → IsTrue (are_distinct paths)
unfolding IsStrictlySortedBy
distinct_in_order [] sorted = refl
distinct_in_order (path ∷ paths) sorted = rw (not_among path paths sorted.0) (distinct_in_order paths sorted.1)
