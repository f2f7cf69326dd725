-- Sums over the pairs of maps, over entries and over ids.
-- For the proofs of `MeasuredLabels::drop_thread`, `count_new`, `entry_len` and others.
use Rattle.std.proofs.Common.{◌≡◌, refl, sym, ap, ◌∙◌, ℕ, ◌+◌, ◌-◌, ◌≤◌, Bool, true, false, cond, ◌||◌, List, [], ◌∷◌, ◌++◌, length, length-append, min, not, arith, true≢false}
use Rattle.std.proofs.Math.Bool.{or-false}
use Rattle.std.specs.Prelude.{Contains, MatchOption, Option, None, Some}
use Rattle.std.specs.BTreeMap.{insert_entry, is_at}
use Rattle.std.specs.Cmp.{IsTotalOrder}
use Rattle.std.specs.List.{filter}
use Rattle.std.specs.List.Sorted.{IsStrictlySortedBy}
use Rattle.std.specs.Map.{keys_of, lookup, remove_entry}
use Rattle.std.specs.Option.{is_some, option_map, unwrap_or}
use Rattle.std.specs.Ordering.{is_eq, match_ordering}
use Rattle.std.specs.declared.cmp.Ordering.{Ordering}
use Rattle.std.specs.declared.cmp.Ordering.TheVariants.{Less, Equal, Greater}
use Rattle.std.proofs.lemmas.List.Sums.{sum_by-append, sum_by-cons}
use Rattle.std.proofs.lemmas.Map.{lookup-none}
use Rattle.std.proofs.lemmas.Map.Entries.{none_below_head}
use Rattle.std.proofs.lemmas.Map.Keys.{sorted_tail}
use Rattle.nm_base.specs.Limits.{max_count}
use Rattle.nm_base.specs.Order.{has_text, same_text}
use Rattle.nm_codec.specs.Encoding.{text_bytes, u64_bytes}
use Rattle.nm_record.specs.BaseBytes.{entry_bytes}
use Rattle.nm_threads.specs.Labels.{Labelling, entries_of, has_entry, numbered}
use Rattle.nm_base.specs.KeyLaws.{any_of, same_text_of}
use Rattle.nm_tables.specs.MeasureLaws.{entries-cons, entry_len_is}
use Rattle.nm_tables.specs.Measures.{AreSeen, entries_len, pairs_len}

-- ---- pairs

abbrev weight : {V : Type 0} → (V → ℕ) → Option V → ℕ
weight value o = unwrap_or (option_map value o) 0

module _ {K V : Type 0} (key : K → ℕ) (value : V → ℕ) where
  total-cons : (e : K × V) (es : List (K × V)) → pairs_len key value (e ∷ es) ≡ (key e.0 + value e.1) + pairs_len key value es
  total-cons e es = sum_by-cons (λ (p : K × V). key p.0 + value p.1) e es

  -- a pair more, at a key that was not there
  pub with_new : (cmp : K → K → Ordering) (es : List (K × V)) (k : K) (v : V) → lookup (is_at (cmp k)) es ≡ None → pairs_len key value (insert_entry cmp es k v) ≡ pairs_len key value es + key k + value v
  with_new cmp [] k v lacks = omega (arith, total-cons (k, v) [])
  with_new cmp (e ∷ es) k v lacks = by (cmp k e.0) lacks (with_new cmp es k v)
    where
      by : (r : Ordering) → cond (is_eq r) (Some e.1) (lookup (is_at (cmp k)) es) ≡ None
          → (lookup (is_at (cmp k)) es ≡ None → pairs_len key value (insert_entry cmp es k v) ≡ pairs_len key value es + key k + value v)
          → pairs_len key value (match_ordering r ((k, v) ∷ e ∷ es) ((e.0, v) ∷ es) (e ∷ insert_entry cmp es k v)) ≡ pairs_len key value (e ∷ es) + key k + value v
      by Less lacks later = omega (arith, total-cons (k, v) (e ∷ es))
      by Equal lacks later = absurd (true≢false (ap is_some lacks))
      by Greater lacks later = omega (arith, total-cons e es, total-cons e (insert_entry cmp es k v), later lacks)

  -- another value at a key that was there
  pub with_other : {cmp : K → K → Ordering} → IsTotalOrder cmp → (es : List (K × V)) (k : K) (v : V) → IsStrictlySortedBy cmp (keys_of es)
      → (old : V) → lookup (is_at (cmp k)) es ≡ Some old → pairs_len key value (insert_entry cmp es k v) + value old ≡ pairs_len key value es + value v
  with_other o [] k v s old there = absurd (true≢false (sym (ap is_some there)))
  with_other {cmp} o (e ∷ es) k v s old there = by (cmp k e.0) refl there (with_other o es k v (sorted_tail cmp e.0 (keys_of es) s) old)
    where
      by : (r : Ordering) → cmp k e.0 ≡ r → cond (is_eq r) (Some e.1) (lookup (is_at (cmp k)) es) ≡ Some old
          → (lookup (is_at (cmp k)) es ≡ Some old → pairs_len key value (insert_entry cmp es k v) + value old ≡ pairs_len key value es + value v)
          → pairs_len key value (match_ordering r ((k, v) ∷ e ∷ es) ((e.0, v) ∷ es) (e ∷ insert_entry cmp es k v)) + value old ≡ pairs_len key value (e ∷ es) + value v
      by Less p there later = absurd (true≢false (sym (ap is_some (sym (lookup-none (is_at (cmp k)) es (none_below_head o k e es s p).1) ∙ there))))
      by Equal p there later = omega (arith, total-cons e es, total-cons (e.0, v) es, ap (weight value) there)
      by Greater p there later = omega (arith, total-cons e es, total-cons e (insert_entry cmp es k v), later there)

  -- the pairs without that of a key that was there
  pub without_old : (test : K → Bool) (n : ℕ) → ((k : K) → test k ≡ true → key k ≡ n) → (es : List (K × V)) (old : V) → lookup test es ≡ Some old
      → pairs_len key value (remove_entry test es) + n + value old ≡ pairs_len key value es
  without_old test n alike [] old there = absurd (true≢false (sym (ap is_some there)))
  without_old test n alike (e ∷ es) old there = by (test e.0) refl there (without_old test n alike es old)
    where
      by : (b : Bool) → test e.0 ≡ b → cond b (Some e.1) (lookup test es) ≡ Some old
          → (lookup test es ≡ Some old → pairs_len key value (remove_entry test es) + n + value old ≡ pairs_len key value es)
          → pairs_len key value (cond b es (e ∷ remove_entry test es)) + n + value old ≡ pairs_len key value (e ∷ es)
      by true p there later = omega (arith, total-cons e es, ap (weight value) there, alike e.0 p)
      by false p there later = omega (arith, total-cons e es, total-cons e (remove_entry test es), later there)

  pub without_none : (test : K → Bool) (es : List (K × V)) → lookup test es ≡ None → pairs_len key value (remove_entry test es) ≡ pairs_len key value es
  without_none test [] lacks = refl
  without_none test (e ∷ es) lacks = by (test e.0) lacks (without_none test es)
    where
      by : (b : Bool) → cond b (Some e.1) (lookup test es) ≡ None → (lookup test es ≡ None → pairs_len key value (remove_entry test es) ≡ pairs_len key value es)
          → pairs_len key value (cond b es (e ∷ remove_entry test es)) ≡ pairs_len key value (e ∷ es)
      by true lacks later = absurd (true≢false (ap is_some lacks))
      by false lacks later = omega (arith, total-cons e es, total-cons e (remove_entry test es), later lacks)

  pub replaced : (cmp : K → K → Ordering) → IsTotalOrder cmp → (alike : (a b : K) → is_eq (cmp a b) ≡ true → key a ≡ key b) → (es : List (K × V)) (k : K) (v : V) → IsStrictlySortedBy cmp (keys_of es)
      → (old : V) (bytes less rest all : ℕ) → lookup (is_at (cmp k)) es ≡ Some old → bytes ≡ pairs_len key value es → bytes ≤ max_count → less ≡ min (value old) max_count → rest ≡ bytes - less → all ≡ rest + value v
      → all ≡ pairs_len key value (insert_entry cmp es k v)
  replaced cmp o alike es k v s old bytes less rest all there is most less_is rest_is all_is =
      let within = without_old (is_at (cmp k)) (key k) (λ other same. sym (alike k other same)) es old there in
      let with = with_other o es k v s old there in
      omega (arith, within, with, is, most, less_is, rest_is, all_is)

  pub removed : (cmp : K → K → Ordering) → (alike : (a b : K) → is_eq (cmp a b) ≡ true → key a ≡ key b) → (es : List (K × V)) (k : K)
      → (old : V) (bytes less own rest all : ℕ) → lookup (is_at (cmp k)) es ≡ Some old → bytes ≡ pairs_len key value es → bytes ≤ max_count → less ≡ min (value old) max_count → own ≡ min (key k) max_count
      → rest ≡ bytes - less → all ≡ rest - own → all ≡ pairs_len key value (remove_entry (is_at (cmp k)) es)
  removed cmp alike es k old bytes less own rest all there is most less_is own_is rest_is all_is =
      let within = without_old (is_at (cmp k)) (key k) (λ other same. sym (alike k other same)) es old there in
      omega (arith, within, is, most, less_is, own_is, rest_is, all_is)

-- ---- entries

pub entry_is : (id : List ℕ) → length (entry_bytes (id, 0)) ≡ length (text_bytes id) + 8
entry_is id = omega (arith, length-append (text_bytes id) (u64_bytes 0))

-- those that pass a test, and those that do not, are all
pub parted : (test : List ℕ × ℕ → Bool) (es : List (List ℕ × ℕ)) → entries_len (filter (λ entry. not (test entry)) es) + entries_len (filter test es) ≡ entries_len es
parted test [] = refl
parted test (e ∷ es) = by (test e) (parted test es)
  where
    by : (b : Bool) → entries_len (filter (λ entry. not (test entry)) es) + entries_len (filter test es) ≡ entries_len es
        → entries_len (cond (not b) (e ∷ filter (λ entry. not (test entry)) es) (filter (λ entry. not (test entry)) es)) + entries_len (cond b (e ∷ filter test es) (filter test es)) ≡ entries_len (e ∷ es)
    by true more = omega (arith, more, entries-cons e es, entries-cons e (filter test es))
    by false more = omega (arith, more, entries-cons e es, entries-cons e (filter (λ entry. not (test entry)) es))

-- ---- ids that get numbers

numbered-append : (ids : List (List ℕ)) (es : List (List ℕ × ℕ)) (next : ℕ) (id : List ℕ)
    → numbered es next (ids ++ id ∷ []) ≡ numbered (numbered es next ids).0 (numbered es next ids).1 (id ∷ [])
numbered-append [] es next id = refl
numbered-append (x ∷ ids) es next id = by (has_entry es x) (numbered-append ids es next id) (numbered-append ids (es ++ (x, next) ∷ []) (next + 1) id)
  where
    by : (b : Bool) → numbered es next (ids ++ id ∷ []) ≡ numbered (numbered es next ids).0 (numbered es next ids).1 (id ∷ [])
        → numbered (es ++ (x, next) ∷ []) (next + 1) (ids ++ id ∷ []) ≡ numbered (numbered (es ++ (x, next) ∷ []) (next + 1) ids).0 (numbered (es ++ (x, next) ∷ []) (next + 1) ids).1 (id ∷ [])
        → cond b (numbered es next (ids ++ id ∷ [])) (numbered (es ++ (x, next) ∷ []) (next + 1) (ids ++ id ∷ []))
        ≡ numbered (cond b (numbered es next ids) (numbered (es ++ (x, next) ∷ []) (next + 1) ids)).0 (cond b (numbered es next ids) (numbered (es ++ (x, next) ∷ []) (next + 1) ids)).1 (id ∷ [])
    by true old new = old
    by false old new = new

known_by : (id : List ℕ) (es : List (List ℕ × ℕ)) (next : ℕ) → has_entry es id ≡ true → numbered es next (id ∷ []) ≡ (es, next)
known_by id es next is = ap (λ b. cond b (es, next) (es ++ (id, next) ∷ [], next + 1)) is

new_by : (id : List ℕ) (es : List (List ℕ × ℕ)) (next : ℕ) → has_entry es id ≡ false → numbered es next (id ∷ []) ≡ (es ++ (id, next) ∷ [], next + 1)
new_by id es next is = ap (λ b. cond b (es, next) (es ++ (id, next) ∷ [], next + 1)) is

pub none_seen : (labels : Labelling) → AreSeen labels [] [] 0
none_seen labels = record { known = λ id. sym (or-false (has_entry (entries_of labels.labels) id)); counted = omega arith }

has-append : (es : List (List ℕ × ℕ)) (e : List ℕ × ℕ) (id : List ℕ) → has_entry (es ++ e ∷ []) id ≡ (has_entry es id || same_text id e.0)
has-append [] e id = or-false (same_text id e.0)
has-append (x ∷ es) e id = by (same_text id x.0) (has-append es e id)
  where
    by : (b : Bool) → has_entry (es ++ e ∷ []) id ≡ (has_entry es id || same_text id e.0) → (b || has_entry (es ++ e ∷ []) id) ≡ ((b || has_entry es id) || same_text id e.0)
    by true more = refl
    by false more = more

or_turned : (a b c : Bool) → ((a || b) || c) ≡ (a || (c || b))
or_turned true b c = refl
or_turned false true true = refl
or_turned false true false = refl
or_turned false false true = refl
or_turned false false false = refl

pub has_number_is : (entries : List (List ℕ × ℕ)) (id : List ℕ) (number : Option ℕ) (test : Bool) → test ≡ is_some number → MatchOption number (has_entry entries id ≡ false) (λ n. Contains entries (id, n)) → test ≡ has_entry entries id
has_number_is entries id None test is told = is ∙ sym told
has_number_is entries id (Some n) test is told = is ∙ sym (any_of (λ (entry : List ℕ × ℕ). same_text id entry.0) entries (id, n) told (same_text_of id))

module _ (labels : Labelling) (ids seen : List (List ℕ)) (bytes : ℕ) (id : List ℕ) (are : AreSeen labels ids seen bytes) where
  abbrev es : List (List ℕ × ℕ)
  es = entries_of labels.labels

  abbrev before : List (List ℕ × ℕ) × ℕ
  before = numbered es labels.next ids

  -- an id that was known or seen
  pub seen_same : (has_entry es id || has_text seen id) ≡ true → AreSeen labels (ids ++ id ∷ []) seen bytes
  seen_same is =
      let step : (numbered es labels.next (ids ++ id ∷ [])).0 ≡ before.0 = ap (λ (p : List (List ℕ × ℕ) × ℕ). p.0) (numbered-append ids es labels.next id ∙ known_by id before.0 before.1 (are.known id ∙ is)) in
      record { known = λ other. ap (λ all. has_entry all other) step ∙ are.known other; counted = ap entries_len step ∙ are.counted }

  -- and one that was neither
  pub seen_more : (more : List (List ℕ)) (all : ℕ) → (has_entry es id || has_text seen id) ≡ false → ((other : List ℕ) → has_text more other ≡ (same_text other id || has_text seen other)) → all ≡ bytes + length (entry_bytes (id, 0))
      → AreSeen labels (ids ++ id ∷ []) more all
  seen_more more all is has all_is =
      let step : (numbered es labels.next (ids ++ id ∷ [])).0 ≡ before.0 ++ (id, before.1) ∷ [] = ap (λ (p : List (List ℕ × ℕ) × ℕ). p.0) (numbered-append ids es labels.next id ∙ new_by id before.0 before.1 (are.known id ∙ is)) in
      let sum = sum_by-append (λ (entry : List ℕ × ℕ). length (entry_bytes entry)) before.0 ((id, before.1) ∷ []) in
      let last = entries-cons (id, before.1) [] in
      record {
        known = λ other.
            ap (λ all. has_entry all other) step ∙ has-append before.0 (id, before.1) other ∙ ap (λ b. b || same_text other id) (are.known other)
            ∙ or_turned (has_entry es other) (has_text seen other) (same_text other id) ∙ ap (λ b. has_entry es other || b) (sym (has other));
        counted = ap entries_len step ∙ omega (arith, sum, last, entry_len_is id before.1, are.counted, all_is);
      }
