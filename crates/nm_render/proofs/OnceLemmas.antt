-- Items each once, and the first of them. For the proofs of `first_threads` and `threads_asked`.
use Rattle.std.proofs.Common.{◌≡◌, ℕ, ◌+◌, ◌≤◌, ◌<◌, Bool, true, false, ◌||◌, List, [], ◌∷◌, ◌++◌, length, take, drop, fold, get_or, nat_eq, not, true≢false, if◌then◌else◌, Option, None, Some, refl, sym, ap, ◌∙◌, append_assoc, append-nil, arith}
use Rattle.std.specs.List.{filter_map, list_any}
use Rattle.std.proofs.lemmas.List.{length-append, take_all, take-append-drop, take-append-le, take_more}
use Rattle.std.proofs.lemmas.Bool.{eqb-true}
use Rattle.std.proofs.lemmas.List.Elements.{filter_map-append}
use Rattle.std.proofs.lemmas.List.Sums.{fold-append}
use Rattle.nm_model_answer.specs.Listing.{each_once, with_new}

module _ {X : Type 0} (same : X → X → Bool) where
  -- what is so far stays at the front
  more_by : (once : List X) (item : X) (items : List X) (old : Bool) → ((one : List X) → (more : List X) × (fold (with_new same) one items ≡ one ++ more))
      → (more : List X) × (fold (with_new same) (if old then once else once ++ item ∷ []) items ≡ once ++ more)
  more_by once item items true rest = rest once
  more_by once item items false rest =
      let (more, is) = rest (once ++ item ∷ []) in
      (item ∷ more, is ∙ append_assoc once (item ∷ []) more)

  pub at_front : (items once : List X) → (more : List X) × (fold (with_new same) once items ≡ once ++ more)
  at_front [] once = ([], sym (append-nil once))
  at_front (item ∷ items) once = more_by once item items (list_any (same item) once) (λ one. at_front items one)

  -- of as many as are asked, what is gathered after n items that there are as many
  pub enough : {Y : Type 0} (f : Y → Option X) (items : List Y) (i most : ℕ) (once : List X) → once ≡ each_once same (filter_map f (take i items)) → length once ≤ most → most ≤ length once
      → once ≡ take most (each_once same (filter_map f items))
  enough f items i most once is few many =
      let (more, all) = at_front (filter_map f (drop i items)) once in
      let whole : each_once same (filter_map f items) ≡ once ++ more =
      ap (λ l. each_once same (filter_map f l)) (sym (take-append-drop i items))
      ∙ ap (each_once same) (filter_map-append f (take i items) (drop i items))
      ∙ fold-append (with_new same) [] (filter_map f (take i items)) (filter_map f (drop i items))
      ∙ ap (λ o. fold (with_new same) o (filter_map f (drop i items))) (sym is) ∙ all in
      sym (ap (take most) whole ∙ take-append-le most once more many ∙ take_all most once few)

  item_more : {Y : Type 0} (f : Y → Option X) (items : List Y) (i : ℕ) (item : Y) → i < length items → item ≡ get_or items i item
      → fold (with_new same) (each_once same (filter_map f (take i items))) (filter_map f (item ∷ [])) ≡ each_once same (filter_map f (take (i + 1) items))
  item_more f items i item h is =
      sym
      (ap (λ l. each_once same (filter_map f l)) (take_more items i item h)
      ∙ ap (λ last. each_once same (filter_map f (take i items ++ last ∷ []))) (sym is)
      ∙ ap (each_once same) (filter_map-append f (take i items) (item ∷ []))
      ∙ fold-append (with_new same) [] (filter_map f (take i items)) (filter_map f (item ∷ [])))

  given : {Y : Type 0} (f : Y → Option X) (item : Y) (told : Option X) → f item ≡ told → filter_map f (item ∷ []) ≡ elim told [ None ↦ [] | Some x ↦ x ∷ [] ]
  given f item None is = rw is refl
  given f item (Some x) is = rw is refl

  -- an item that gives none, one that gives what is there, and one that gives a new one
  pub none_more : {Y : Type 0} (f : Y → Option X) (items : List Y) (i : ℕ) (item : Y) (once : List X) → i < length items → item ≡ get_or items i item
      → once ≡ each_once same (filter_map f (take i items)) → f item ≡ None → once ≡ each_once same (filter_map f (take (i + 1) items))
  none_more f items i item once h is so_far told =
      so_far ∙ ap (fold (with_new same) (each_once same (filter_map f (take i items)))) (sym (given f item None told)) ∙ item_more f items i item h is

  pub old_more : {Y : Type 0} (f : Y → Option X) (items : List Y) (i : ℕ) (item : Y) (once : List X) (x : X) → i < length items → item ≡ get_or items i item
      → once ≡ each_once same (filter_map f (take i items)) → f item ≡ Some x → list_any (same x) once ≡ true → once ≡ each_once same (filter_map f (take (i + 1) items))
  old_more f items i item once x h is so_far told old =
      sym (ap (λ b. if b then once else once ++ x ∷ []) old) ∙ ap (λ o. with_new same o x) so_far
      ∙ ap (fold (with_new same) (each_once same (filter_map f (take i items)))) (sym (given f item (Some x) told)) ∙ item_more f items i item h is

  pub new_more : {Y : Type 0} (f : Y → Option X) (items : List Y) (i : ℕ) (item : Y) (once : List X) (x : X) → i < length items → item ≡ get_or items i item
      → once ≡ each_once same (filter_map f (take i items)) → f item ≡ Some x → list_any (same x) once ≡ false → once ++ x ∷ [] ≡ each_once same (filter_map f (take (i + 1) items))
  new_more f items i item once x h is so_far told new =
      sym (ap (λ b. if b then once else once ++ x ∷ []) new) ∙ ap (λ o. with_new same o x) so_far
      ∙ ap (fold (with_new same) (each_once same (filter_map f (take i items)))) (sym (given f item (Some x) told)) ∙ item_more f items i item h is

  -- there are no more of them than items
  fewer_by : (once : List X) (item : X) (items : List X) (old : Bool) → ((one : List X) → length (fold (with_new same) one items) ≤ length one + length items)
      → length (fold (with_new same) (if old then once else once ++ item ∷ []) items) ≤ length once + length (item ∷ items)
  fewer_by once item items true rest = omega (arith, rest once)
  fewer_by once item items false rest = omega (arith, rest (once ++ item ∷ []), length-append once (item ∷ []))

  fewer : (items once : List X) → length (fold (with_new same) once items) ≤ length once + length items
  fewer [] once = omega arith
  fewer (item ∷ items) once = fewer_by once item items (list_any (same item) once) (fewer items)

  kept_by : {Y : Type 0} (f : Y → Option X) (told : Option X) (item : Y) (items : List Y) → f item ≡ told → length (filter_map f items) ≤ length items
      → length (filter_map f (item ∷ items)) ≤ length (item ∷ items)
  kept_by f None item items is rest = rw is (omega (arith, rest))
  kept_by f (Some x) item items is rest = rw is (omega (arith, rest))

  kept_few : {Y : Type 0} (f : Y → Option X) (items : List Y) → length (filter_map f items) ≤ length items
  kept_few f [] = omega arith
  kept_few f (item ∷ items) = kept_by f (f item) item items refl (kept_few f items)

  pub no_more : {Y : Type 0} (f : Y → Option X) (items : List Y) → length (each_once same (filter_map f items)) ≤ length items
  no_more f items = omega (arith, fewer (filter_map f items) [], kept_few f items)

-- ---- what was seen

pub is_absent : (b new : Bool) → new ≡ not b → new ≡ true → b ≡ false
is_absent true new told is = absurd (true≢false (sym is ∙ told))
is_absent false new told is = refl

pub is_there : (b new : Bool) → new ≡ not b → new ≡ false → b ≡ true
is_there true new told is = refl
is_there false new told is = absurd (true≢false (sym told ∙ is))

-- one more that is there
absorbed : (n name : ℕ) (names : List ℕ) (same : Bool) → nat_eq n name ≡ same → list_any (nat_eq name) names ≡ true → (same || list_any (nat_eq n) names) ≡ list_any (nat_eq n) names
absorbed n name names true is there = sym (ap (λ m. list_any (nat_eq m) names) (eqb-true n name is) ∙ there)
absorbed n name names false is there = refl

pub seen_again : (n name : ℕ) (names : List ℕ) → list_any (nat_eq name) names ≡ true → (nat_eq n name || list_any (nat_eq n) names) ≡ list_any (nat_eq n) names
seen_again n name names there = absorbed n name names (nat_eq n name) refl there

-- an item at the end is among them as at the front
pub any_end : {X : Type 0} (p : X → Bool) (items : List X) (item : X) → list_any p (items ++ item ∷ []) ≡ (p item || list_any p items)
any_end p [] item = refl
any_end p (first ∷ items) item = ap (λ b. p first || b) (any_end p items item) ∙ or_swap (p first) (p item) (list_any p items) where
  or_swap : (a b c : Bool) → (a || (b || c)) ≡ (b || (a || c))
  or_swap true true c = refl
  or_swap true false c = refl
  or_swap false b c = refl
