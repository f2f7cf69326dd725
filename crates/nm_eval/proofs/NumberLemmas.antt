-- Messages by their numbers: one more comes to its place, and in the end they are the live ones that are named.
-- For the proofs of `add_numbered`, `by_numbers` and `the_live_ones_stand_at_their_numbers`.
use Rattle.std.proofs.Common.{◌≡◌, ℕ, zero, suc, ◌<◌, Bool, true, false, ◌||◌, ◌&&◌, cond, List, [], ◌∷◌, ◌++◌, filter, map, length, refl, sym, ap, ◌∙◌, subst, arith}
use Rattle.std.specs.Prelude.{Contains, slice_index_or}
use Rattle.std.specs.BTreeMap.{insert_entry}
use Rattle.std.specs.Cmp.{nat_cmp_is, ranks}
use Rattle.std.specs.Cmp.Lexicographic.{nat_list_eq_equiv}
use Rattle.std.specs.List.{AllByRecursion, IsDistinct, list_any}
use Rattle.std.specs.List.Sorted.{IsStrictlySortedBy}
use Rattle.std.specs.Map.{values_of}
use Rattle.std.specs.Ordering.{MatchOrdering, match_ordering, nat_cmp}
use Rattle.std.specs.declared.cmp.Ordering.{Ordering}
use Rattle.std.specs.declared.cmp.Ordering.TheVariants.{Less, Equal, Greater}
use Rattle.std.proofs.Math.Bool.{or-false, or-true}
use Rattle.std.proofs.lemmas.Bool.{or_parts}
use Rattle.std.proofs.lemmas.List.Folds.{list_any-append}
use Rattle.std.proofs.lemmas.Slice.Eq.{bytes_eq-Decides}
use Rattle.nm_base.specs.Order.{has_text, same_text}
use Rattle.nm_base.specs.declared.facts.Facts.{Facts}
use Rattle.nm_commit.specs.Files.{has_id}
use Rattle.nm_model_index.specs.Index.{has_entry, is_of, live_ids}
use Rattle.nm_model_index.specs.Valid.{IsValid}
use Rattle.nm_model_index.specs.declared.base.Base.{Base}
use Rattle.nm_eval.specs.Numbers.{at_numbers, live_at_numbers}

abbrev Entry : Type 0
Entry = List ℕ × ℕ

abbrev Pair : Type 0
Pair = ℕ × List ℕ

-- ---- entries in their order: another id, and a higher number

abbrev IsBelow : Entry → Entry → Type 0
IsBelow entry other = (same_text entry.0 other.0 ≡ false) × (entry.1 < other.1)

abbrev InOrder : List Entry → Type 0
InOrder [] = Unit {0}
InOrder (entry ∷ entries) = AllByRecursion (IsBelow entry) entries × InOrder entries

below : (entry : Entry) (entries : List Entry) → AllByRecursion (λ id. same_text entry.0 id ≡ false) (map (λ e. e.0) entries) → AllByRecursion (λ n. nat_cmp entry.1 n ≡ Less) (map (λ e. e.1) entries)
    → AllByRecursion (IsBelow entry) entries
below entry [] apart rising = tt
below entry (other ∷ entries) apart rising =
    ((apart.0, subst (λ o. MatchOrdering o (entry.1 < other.1) (entry.1 ≡ other.1) (other.1 < entry.1)) rising.0 (ranks entry.1 other.1)), below entry entries apart.1 rising.1)

in_order : (entries : List Entry) → IsDistinct same_text (map (λ e. e.0) entries) → IsStrictlySortedBy nat_cmp (map (λ e. e.1) entries) → InOrder entries
unfolding IsDistinct IsStrictlySortedBy
in_order [] apart rising = tt
in_order (entry ∷ entries) apart rising = (below entry entries apart.0 rising.0, in_order entries apart.1 rising.1)

clash : (P : Type 0) (b : Bool) → b ≡ true → b ≡ false → P
clash P true e f = absurd cc
clash P false e f = absurd cc

-- what holds of every entry holds of one of them
all-at : (P : Entry → Type 0) (entries : List Entry) (entry : Entry) → AllByRecursion P entries → (k : ℕ) → k < length entries → slice_index_or entries k entry ≡ entry → P entry
all-at P [] entry h k within is = absurd (omega (arith, within))
all-at P (first ∷ entries) entry h zero within is = subst P is h.0
all-at P (first ∷ entries) entry h (suc k) within is = all-at P entries entry h.1 k (omega (arith, within)) is

-- the numbers after an entry are higher
high-cond : (n : ℕ) (b : Bool) (entry : Entry) (pairs : List Pair) → n < entry.1 → AllByRecursion (λ pair. n < pair.0) pairs → AllByRecursion (λ pair. n < pair.0) (cond b ((entry.1, entry.0) ∷ pairs) pairs)
high-cond n true entry pairs first rest = (first, rest)
high-cond n false entry pairs first rest = rest

high : (test : List ℕ → Bool) (entry : Entry) (entries : List Entry) → AllByRecursion (IsBelow entry) entries → AllByRecursion (λ pair. entry.1 < pair.0) (at_numbers test entries)
high test entry [] h = tt
high test entry (other ∷ entries) h = high-cond entry.1 (test other.0) other (at_numbers test entries) h.0.1 (high test entry entries h.1)

-- so what is put in at its number is in front of them
front : (n : ℕ) (id : List ℕ) (pairs : List Pair) → AllByRecursion (λ pair. n < pair.0) pairs → insert_entry nat_cmp pairs n id ≡ (n, id) ∷ pairs
front n id [] h = refl
front n id (pair ∷ pairs) h = ap (λ (o : Ordering). match_ordering o ((n, id) ∷ pair ∷ pairs) ((pair.0, id) ∷ pairs) (pair ∷ insert_entry nat_cmp pairs n id)) (sym (nat_cmp_is n pair.0 Less h.0))

-- ---- one more, by tests that agree on all other ids

module _ (p q : List ℕ → Bool) where
  same-on : (entry : Entry) (entries : List Entry) → ((other : List ℕ) → same_text entry.0 other ≡ false → q other ≡ p other) → AllByRecursion (IsBelow entry) entries → at_numbers q entries ≡ at_numbers p entries
  same-on entry [] agree h = refl
  same-on entry (other ∷ entries) agree h =
      ap (λ (b : Bool). cond b ((other.1, other.0) ∷ at_numbers q entries) (at_numbers q entries)) (agree other.0 h.0.0)
      ∙ ap (λ (l : List Pair). cond (p other.0) ((other.1, other.0) ∷ l) l) (same-on entry entries agree h.1)

  module _ (id : List ℕ) (n : ℕ) (agree : (other : List ℕ) → same_text id other ≡ false → q other ≡ p other) (here : q id ≡ true) where
    -- the entry is of the id, and so has its number
    number-is : (entry : Entry) (entries : List Entry) → same_text id entry.0 ≡ true → AllByRecursion (IsBelow entry) entries → Contains (entry ∷ entries) (id, n) → entry.1 ≡ n
    number-is entry entries is below (zero, within, at) = ap (λ (e : Entry). e.1) at
    number-is entry entries is below (suc k, within, at) =
        let other = all-at (IsBelow entry) entries (id, n) below k (omega (arith, within)) at in
        clash (entry.1 ≡ n) (same_text id entry.0) is (nat_list_eq_equiv.symm id entry.0 ∙ other.0)

    own-by : (entry : Entry) (entries : List Entry) (b : Bool) → id ≡ entry.0 → entry.1 ≡ n → AllByRecursion (IsBelow entry) entries
        → insert_entry nat_cmp (cond b ((entry.1, entry.0) ∷ at_numbers p entries) (at_numbers p entries)) n id ≡ (n, id) ∷ at_numbers p entries
    own-by entry entries true one number below =
        ap (λ (o : Ordering). match_ordering o ((n, id) ∷ (entry.1, entry.0) ∷ at_numbers p entries) ((entry.1, id) ∷ at_numbers p entries) ((entry.1, entry.0) ∷ insert_entry nat_cmp (at_numbers p entries) n id))
        (sym (nat_cmp_is n entry.1 Equal (sym number)))
        ∙ ap (λ (m : ℕ). (m, id) ∷ at_numbers p entries) number
    own-by entry entries false one number below =
        front n id (at_numbers p entries) (subst (λ (m : ℕ). AllByRecursion (λ pair. m < pair.0) (at_numbers p entries)) number (high p entry entries below))

    own : (entry : Entry) (entries : List Entry) → same_text id entry.0 ≡ true → AllByRecursion (IsBelow entry) entries → Contains (entry ∷ entries) (id, n)
        → insert_entry nat_cmp (at_numbers p (entry ∷ entries)) n id ≡ at_numbers q (entry ∷ entries)
    own entry entries is below among =
        let one : id ≡ entry.0 = (bytes_eq-Decides id entry.0).0 is in
        let number : entry.1 ≡ n = number-is entry entries is below among in
        let passes : q entry.0 ≡ true = ap q (sym one) ∙ here in
        let same : at_numbers q entries ≡ at_numbers p entries = same-on entry entries (λ other apart. agree other (ap (λ (t : List ℕ). same_text t other) one ∙ apart)) below in
        own-by entry entries (p entry.0) one number below
        ∙ sym (ap (λ (b : Bool). cond b ((entry.1, entry.0) ∷ at_numbers q entries) (at_numbers q entries)) passes
        ∙ (ap (λ (l : List Pair). (entry.1, entry.0) ∷ l) same
        ∙ (ap (λ (m : ℕ). (m, entry.0) ∷ at_numbers p entries) number ∙ ap (λ (t : List ℕ). (n, t) ∷ at_numbers p entries) (sym one))))

    -- the entry is of another id, so the number comes after it
    behind : (entry : Entry) (entries : List Entry) → same_text id entry.0 ≡ false → Contains (entry ∷ entries) (id, n) → Contains entries (id, n)
    behind entry entries is (zero, within, at) =
        clash (Contains entries (id, n)) (same_text id entry.0) (ap (λ (e : Entry). same_text id e.0) at ∙ nat_list_eq_equiv.refl id) is
    behind entry entries is (suc k, within, at) = (k, omega (arith, within), at)

    other-by : (entry : Entry) (entries : List Entry) (b : Bool) → entry.1 < n → insert_entry nat_cmp (at_numbers p entries) n id ≡ at_numbers q entries
        → insert_entry nat_cmp (cond b ((entry.1, entry.0) ∷ at_numbers p entries) (at_numbers p entries)) n id ≡ cond b ((entry.1, entry.0) ∷ at_numbers q entries) (at_numbers q entries)
    other-by entry entries true low rest =
        ap (λ (o : Ordering). match_ordering o ((n, id) ∷ (entry.1, entry.0) ∷ at_numbers p entries) ((entry.1, id) ∷ at_numbers p entries) ((entry.1, entry.0) ∷ insert_entry nat_cmp (at_numbers p entries) n id))
        (sym (nat_cmp_is n entry.1 Greater low))
        ∙ ap (λ (l : List Pair). (entry.1, entry.0) ∷ l) rest
    other-by entry entries false low rest = rest

    put-by : (entry : Entry) (entries : List Entry) (b : Bool) → same_text id entry.0 ≡ b → AllByRecursion (IsBelow entry) entries → Contains (entry ∷ entries) (id, n)
        → (Contains entries (id, n) → insert_entry nat_cmp (at_numbers p entries) n id ≡ at_numbers q entries)
        → insert_entry nat_cmp (at_numbers p (entry ∷ entries)) n id ≡ at_numbers q (entry ∷ entries)
    put-by entry entries true is below among more = own entry entries is below among
    put-by entry entries false is below among more =
        let rest : Contains entries (id, n) = behind entry entries is among in
        let low = all-at (IsBelow entry) entries (id, n) below rest.0 rest.1 rest.2 in
        other-by entry entries (p entry.0) low.1 (more rest)
        ∙ sym (ap (λ (b : Bool). cond b ((entry.1, entry.0) ∷ at_numbers q entries) (at_numbers q entries)) (agree entry.0 is))

    put : (entries : List Entry) → InOrder entries → Contains entries (id, n) → insert_entry nat_cmp (at_numbers p entries) n id ≡ at_numbers q entries
    put [] order (k, within, at) = absurd (omega (arith, within))
    put (entry ∷ entries) order among = put-by entry entries (same_text id entry.0) refl order.0 among (put entries order.1)

  -- an id without a number comes to no place
  no-number : (id : List ℕ) → ((other : List ℕ) → same_text id other ≡ false → q other ≡ p other) → (entries : List Entry) → list_any (is_of id) entries ≡ false → at_numbers p entries ≡ at_numbers q entries
  no-number id agree [] none = refl
  no-number id agree (entry ∷ entries) none =
      let apart = or_parts (is_of id entry) (list_any (is_of id) entries) none in
      ap (λ (l : List Pair). cond (p entry.0) ((entry.1, entry.0) ∷ l) l) (no-number id agree entries apart.1)
      ∙ ap (λ (b : Bool). cond b ((entry.1, entry.0) ∷ at_numbers q entries) (at_numbers q entries)) (sym (agree entry.0 apart.0))

  same-tests : ((other : List ℕ) → p other ≡ q other) → (entries : List Entry) → at_numbers p entries ≡ at_numbers q entries
  same-tests agree [] = refl
  same-tests agree (entry ∷ entries) =
      ap (λ (l : List Pair). cond (p entry.0) ((entry.1, entry.0) ∷ l) l) (same-tests agree entries)
      ∙ ap (λ (b : Bool). cond b ((entry.1, entry.0) ∷ at_numbers q entries) (at_numbers q entries)) (agree entry.0)

-- ---- the live ones of ids, and of one id more

has-last : (ids : List (List ℕ)) (id other : List ℕ) → has_text (ids ++ id ∷ []) other ≡ (has_text ids other || same_text other id)
has-last ids id other = list_any-append (same_text other) ids (id ∷ []) ∙ ap (λ b. has_text ids other || b) (or-false (same_text other id))

module _ (index : Base) (ids : List (List ℕ)) (id : List ℕ) where
  abbrev before : List ℕ → Bool
  before other = has_id index.files other && has_text ids other

  abbrev after : List ℕ → Bool
  after other = has_id index.files other && has_text (ids ++ id ∷ []) other

  agree : (other : List ℕ) → same_text id other ≡ false → after other ≡ before other
  agree other apart =
      ap (λ b. has_id index.files other && b) (has-last ids id other ∙ ap (λ b. has_text ids other || b) (nat_list_eq_equiv.symm other id ∙ apart) ∙ or-false (has_text ids other))

  -- a message that has a file comes to its place
  pub put-live : (n : ℕ) → IsValid index → has_id index.files id ≡ true → Contains index.entries (id, n) → insert_entry nat_cmp (live_at_numbers index ids) n id ≡ live_at_numbers index (ids ++ id ∷ [])
  put-live n valid live among =
      put before after id n agree
      (ap (λ b. b && has_text (ids ++ id ∷ []) id) live ∙ has-last ids id id ∙ ap (λ b. has_text ids id || b) (nat_list_eq_equiv.refl id) ∙ or-true (has_text ids id))
      index.entries (in_order index.entries valid.ids valid.rising) among

  pub put-unnumbered : has_entry index id ≡ false → live_at_numbers index ids ≡ live_at_numbers index (ids ++ id ∷ [])
  put-unnumbered none = no-number before after id agree index.entries none

  dead-by : has_id index.files id ≡ false → (other : List ℕ) (b : Bool) → same_text id other ≡ b → before other ≡ after other
  dead-by dead other true is =
      let gone : has_id index.files other ≡ false = ap (has_id index.files) (sym ((bytes_eq-Decides id other).0 is)) ∙ dead in
      ap (λ b. b && has_text ids other) gone ∙ sym (ap (λ b. b && has_text (ids ++ id ∷ []) other) gone)
  dead-by dead other false is = sym (agree other is)

  -- and one that has none does not
  pub put-dead : has_id index.files id ≡ false → live_at_numbers index ids ≡ live_at_numbers index (ids ++ id ∷ [])
  put-dead dead = same-tests before after (λ other. dead-by dead other (same_text id other) refl) index.entries

none-cond : (a : Bool) (entry : Entry) (pairs : List Pair) → pairs ≡ [] → cond (a && false) ((entry.1, entry.0) ∷ pairs) pairs ≡ []
none-cond true entry pairs h = h
none-cond false entry pairs h = h

none-at : (files : List (List ℕ × Facts)) (entries : List Entry) → at_numbers (λ id. has_id files id && has_text [] id) entries ≡ []
none-at files [] = refl
none-at files (entry ∷ entries) = none-cond (has_id files entry.0) entry (at_numbers (λ id. has_id files id && has_text [] id) entries) (none-at files entries)

pub none_of_none : (index : Base) → live_at_numbers index [] ≡ []
none_of_none index = none-at index.files index.entries

pub none_yet : (index : Base) (pairs : List Pair) → pairs ≡ [] → pairs ≡ live_at_numbers index []
none_yet index pairs none = none ∙ sym (none_of_none index)

values-by : (ids : List (List ℕ)) (entry : Entry) (pairs : List Pair) (entries : List Entry) (a b : Bool) → has_text ids entry.0 ≡ b → values_of pairs ≡ filter (has_text ids) (map (λ e. e.0) entries)
    → values_of (cond (a && b) ((entry.1, entry.0) ∷ pairs) pairs) ≡ filter (has_text ids) (map (λ e. e.0) (cond a (entry ∷ entries) entries))
values-by ids entry pairs entries true true is h =
    ap (λ (l : List (List ℕ)). entry.0 ∷ l) h ∙ sym (ap (λ (b : Bool). cond b (entry.0 ∷ filter (has_text ids) (map (λ e. e.0) entries)) (filter (has_text ids) (map (λ e. e.0) entries))) is)
values-by ids entry pairs entries true false is h =
    h ∙ sym (ap (λ (b : Bool). cond b (entry.0 ∷ filter (has_text ids) (map (λ e. e.0) entries)) (filter (has_text ids) (map (λ e. e.0) entries))) is)
values-by ids entry pairs entries false b is h = h

values-are : (files : List (List ℕ × Facts)) (ids : List (List ℕ)) (entries : List Entry) → values_of (at_numbers (λ id. has_id files id && has_text ids id) entries) ≡ filter (has_text ids) (live_ids files entries)
values-are files ids [] = refl
values-are files ids (entry ∷ entries) =
    values-by ids entry (at_numbers (λ id. has_id files id && has_text ids id) entries) (filter (λ e. has_id files e.0) entries) (has_id files entry.0) (has_text ids entry.0) refl (values-are files ids entries)

-- by their numbers they are the live ones of the messages
pub values_live : (index : Base) (ids : List (List ℕ)) → values_of (live_at_numbers index ids) ≡ filter (has_text ids) (live_ids index.files index.entries)
values_live index ids = values-are index.files ids index.entries

pub live_are : (index : Base) (ids : List (List ℕ)) (pairs : List Pair) (live : List (List ℕ)) → live ≡ values_of pairs → pairs ≡ live_at_numbers index ids
    → live ≡ filter (has_text ids) (live_ids index.files index.entries)
live_are index ids pairs live is so_far = is ∙ (ap values_of so_far ∙ values_live index ids)
