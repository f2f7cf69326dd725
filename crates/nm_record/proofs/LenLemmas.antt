-- Tests that all pass, and lengths summed over a set of tags.
-- For the proofs of `commit_len`, `FactsFormat::len`, `content_len` and others.
use Rattle.std.proofs.Common.{◌≡◌, ℕ, ◌+◌, ℤ, pos, negsuc, min, Bool, true, false, ◌&&◌, List, [], ◌∷◌, length, refl, ap, sym, ◌∙◌, arith, length-append}
use Rattle.std.specs.List.{flat_map, list_all, AllByRecursion}
use Rattle.std.specs.List.Sorted.{IsStrictlySortedBy}
use Rattle.std.specs.Cmp.Lexicographic.{slice_cmp}
use Rattle.std.specs.Ordering.{is_lt, nat_cmp}
use Rattle.std.specs.Prelude.{None, Some}
use Rattle.std.specs.declared.cmp.Ordering.TheVariants.{Less}
use Rattle.std.proofs.lemmas.List.Concat.{flat_map-cons}
use Rattle.nm_base.specs.Limits.{IsDate, is_date, max_count}
use Rattle.nm_base.specs.declared.facts.Facts.{Facts}
use Rattle.nm_base.specs.Order.{IsSorted}
use Rattle.nm_codec.specs.ReadSteps.{is_below, is_rising}
use Rattle.nm_codec.specs.Encoding.{list_bytes, u32_bytes}
use Rattle.nm_codec.specs.StepLaws.{both}
use Rattle.nm_commit.specs.Files.{FitChanges, FitsChange, changed}
use Rattle.nm_commit.specs.declared.change.Change.{Change}
use Rattle.nm_commit.specs.declared.change.Change.TheVariants.{Add, Drop, Move, SetTags}
use Rattle.nm_record.specs.Commits.{has_date}

pub all_pass : {A : Type 0} (xs : List A) → list_all (λ x. true) xs ≡ true
all_pass [] = refl
all_pass (x ∷ xs) = all_pass xs

-- of facts only the date may fail
pub but_date : (id links date heading : Bool) → id ≡ true → links ≡ true → heading ≡ true → (id && (links && (date && heading))) ≡ date
but_date true true true true a b c = refl
but_date true true false heading a b c = refl
but_date true true true false a b c = c
but_date true false date heading a b c = absurd cc
but_date false links date heading a b c = absurd cc

rising_above : (x : List ℕ) (xs : List (List ℕ)) → AllByRecursion (λ y. slice_cmp nat_cmp x y ≡ Less) xs → IsSorted xs → is_rising (is_below (slice_cmp nat_cmp)) (Some x) xs ≡ true
unfolding IsStrictlySortedBy
rising_above x [] above sorted = refl
rising_above x (y ∷ ys) above sorted =
    both (is_below (slice_cmp nat_cmp) x y) (is_rising (is_below (slice_cmp nat_cmp)) (Some y) ys) (ap is_lt above.0) (rising_above y ys sorted.0 sorted.1)

pub sorted_rises : (xs : List (List ℕ)) → IsSorted xs → is_rising (is_below (slice_cmp nat_cmp)) None xs ≡ true
unfolding IsStrictlySortedBy
sorted_rises [] sorted = refl
sorted_rises (x ∷ xs) sorted = rising_above x xs sorted.0 sorted.1

-- a tag more is counted
pub len_turn : (bytes : List ℕ → List ℕ) (before rest all : List (List ℕ)) (tag : List ℕ) (len here new : ℕ) → before ≡ tag ∷ rest
    → min (len + length (flat_map bytes before)) max_count ≡ min (4 + length (flat_map bytes all)) max_count → here ≡ min (length (bytes tag)) max_count → new ≡ min (len + here) max_count
    → min (new + length (flat_map bytes rest)) max_count ≡ min (4 + length (flat_map bytes all)) max_count
len_turn bytes before rest all tag len here new is so_far one sum =
    let whole : length (flat_map bytes before) ≡ length (bytes tag) + length (flat_map bytes rest) =
    ap (λ (tags : List (List ℕ)). length (flat_map bytes tags)) is ∙ (ap length (flat_map-cons bytes tag rest) ∙ length-append (bytes tag) (flat_map bytes rest)) in
    omega (arith, whole, so_far, one, sum)

pub len_end : (bytes : List ℕ → List ℕ) (rest all : List (List ℕ)) (len : ℕ) → rest ≡ [] → len ≡ min len max_count → min (len + length (flat_map bytes rest)) max_count ≡ min (4 + length (flat_map bytes all)) max_count
    → len ≡ min (length (list_bytes bytes all)) max_count
len_end bytes rest all len is fits so_far =
    let none : length (flat_map bytes rest) ≡ 0 = ap (λ (tags : List (List ℕ)). length (flat_map bytes tags)) is in
    omega (arith, none, fits, so_far, length-append (u32_bytes (length all)) (flat_map bytes all))

-- a tag more is one
pub tag_turn : (valid : List ℕ → Bool) (before rest all : List (List ℕ)) (tag : List ℕ) → before ≡ tag ∷ rest → list_all valid before ≡ list_all valid all → valid tag ≡ true → list_all valid rest ≡ list_all valid all
tag_turn valid before rest all tag is so_far here = sym (ap (list_all valid) is ∙ ap (λ (b : Bool). b && list_all valid rest) here) ∙ so_far

date_passes : (second : ℤ) → IsDate second → is_date second ≡ true
date_passes (pos n) d = grind arith
date_passes (negsuc n) d = grind arith

change_dated : (files : List (List ℕ × Facts)) (change : Change) → FitsChange files change → has_date change ≡ true
change_dated files (Add path facts) fit = date_passes facts.date fit.1
change_dated files (Drop path) fit = refl
change_dated files (Move from to) fit = refl
change_dated files (SetTags id tags) fit = refl

-- changes that fit have dates in the range
pub fit_dated : (files : List (List ℕ × Facts)) (changes : List Change) → FitChanges files changes → list_all has_date changes ≡ true
fit_dated files [] fit = refl
fit_dated files (change ∷ changes) fit = both (has_date change) (list_all has_date changes) (change_dated files change fit.0) (fit_dated (changed files change) changes fit.1)
