-- What parts of lists, and lists of items once, keep.
-- For the proofs of `an_offset_and_a_limit_cut_a_part` and `each_thread_is_told_once`.
use Rattle.std.proofs.Common.{◌≡◌, ◌-◌, ℕ, Bool, true, false, ◌||◌, List, [], ◌∷◌, ◌++◌, length, take, drop, fold, nat_eq, if◌then◌else◌, Option, Some, None, refl, sym, ap, append-nil, ◌∙◌, arith}
use Rattle.std.specs.Prelude.{min}
use Rattle.std.specs.List.{AllByRecursion, IsDistinct, list_any}
use Rattle.std.proofs.lemmas.List.{length-drop, length-take, take-append-drop}
use Rattle.std.proofs.Math.Bool.{or-false, or_assoc, or_comm}
use Rattle.std.proofs.lemmas.Bool.{eqb-true, or_parts}
use Rattle.std.proofs.lemmas.Option.{same_Some}
use Rattle.std.proofs.lemmas.List.Folds.{list_any-append}
use Rattle.nm_model_answer.specs.Listing.{each_once, part_of, with_new}
use Rattle.nm_model_answer.specs.Orders.{IsPart}

-- ---- parts

pub part_is : {X : Type 0} (offset : ℕ) (limit : Option ℕ) (items : List X) → IsPart offset limit items (part_of offset limit items)
part_is offset None items = record {
  before = take offset items;
  after = [];
  whole = sym (take-append-drop offset items) ∙ ap (λ rest. take offset items ++ rest) (sym (append-nil (drop offset items)));
  passed = length-take offset items;
  max = λ n is. cc;
  all = λ is. refl;
}
part_is offset (Some limit) items = record {
  before = take offset items;
  after = drop limit (drop offset items);
  whole = sym (take-append-drop offset items) ∙ ap (λ rest. take offset items ++ rest) (sym (take-append-drop limit (drop offset items)));
  passed = length-take offset items;
  max = λ n is. length-take limit (drop offset items) ∙ ap (min limit) (length-drop offset items) ∙ ap (λ m. min m (length items - offset)) (same_Some limit n is);
  all = λ is. cc;
}

-- ---- once

-- an item at the end is among them as at the front
any_end : {X : Type 0} (p : X → Bool) (items : List X) (item : X) → list_any p (items ++ item ∷ []) ≡ (p item || list_any p items)
any_end p items item = list_any-append p items (item ∷ []) ∙ ap (λ b. list_any p items || b) (or-false (p item)) ∙ or_comm (list_any p items) (p item)

-- a number is among those once where it is among all
absorbed : (n name : ℕ) (names : List ℕ) (same : Bool) → nat_eq n name ≡ same → list_any (nat_eq name) names ≡ true → list_any (nat_eq n) names ≡ (nat_eq n name || list_any (nat_eq n) names)
absorbed n name names true is among = ap (λ m. list_any (nat_eq m) names) (eqb-true n name is) ∙ among ∙ sym (ap (λ b. b || list_any (nat_eq n) names) is)
absorbed n name names false is among = sym (ap (λ b. b || list_any (nat_eq n) names) is)

more_by : (n name : ℕ) (names : List ℕ) (old : Bool) → list_any (nat_eq name) names ≡ old
    → list_any (nat_eq n) (if old then names else names ++ name ∷ []) ≡ (nat_eq n name || list_any (nat_eq n) names)
more_by n name names true is = absorbed n name names (nat_eq n name) refl is
more_by n name names false is = any_end (nat_eq n) names name

any_more : (n : ℕ) (once names : List ℕ) → list_any (nat_eq n) (fold (with_new nat_eq) once names) ≡ (list_any (nat_eq n) once || list_any (nat_eq n) names)
any_more n once [] = sym (or-false (list_any (nat_eq n) once))
any_more n once (name ∷ names) =
    any_more n (with_new nat_eq once name) names
    ∙ ap (λ b. b || list_any (nat_eq n) names) (more_by n name once (list_any (nat_eq name) once) refl ∙ or_comm (nat_eq n name) (list_any (nat_eq n) once))
    ∙ or_assoc (list_any (nat_eq n) once) (nat_eq n name) (list_any (nat_eq n) names)

pub same_members : (names : List ℕ) (name : ℕ) → list_any (nat_eq name) (each_once nat_eq names) ≡ list_any (nat_eq name) names
same_members names name = any_more name [] names

-- and no number occurs twice
apart_end : (first name : ℕ) (names : List ℕ) → AllByRecursion (λ other. nat_eq first other ≡ false) names → nat_eq first name ≡ false → AllByRecursion (λ other. nat_eq first other ≡ false) (names ++ name ∷ [])
apart_end first name [] all is = (is, tt)
apart_end first name (next ∷ names) all is = (all.0, apart_end first name names all.1 is)

turned : (a b : ℕ) → nat_eq a b ≡ false → nat_eq b a ≡ false
turned a b is = search (arith, is)

distinct_end : (name : ℕ) (names : List ℕ) → IsDistinct nat_eq names → list_any (nat_eq name) names ≡ false → IsDistinct nat_eq (names ++ name ∷ [])
unfolding IsDistinct
distinct_end name [] distinct new = (tt, tt)
distinct_end name (first ∷ names) distinct new =
    let parts = or_parts (nat_eq name first) (list_any (nat_eq name) names) new in
    (apart_end first name names distinct.0 (turned name first parts.0), distinct_end name names distinct.1 parts.1)

distinct_by : (name : ℕ) (names : List ℕ) (old : Bool) → list_any (nat_eq name) names ≡ old → IsDistinct nat_eq names → IsDistinct nat_eq (if old then names else names ++ name ∷ [])
distinct_by name names true is distinct = distinct
distinct_by name names false is distinct = distinct_end name names distinct is

distinct_all : (once names : List ℕ) → IsDistinct nat_eq once → IsDistinct nat_eq (fold (with_new nat_eq) once names)
distinct_all once [] distinct = distinct
distinct_all once (name ∷ names) distinct = distinct_all (with_new nat_eq once name) names (distinct_by name once (list_any (nat_eq name) once) refl distinct)

pub once_distinct : (names : List ℕ) → IsDistinct nat_eq (each_once nat_eq names)
unfolding IsDistinct
once_distinct names = distinct_all [] names tt
