-- How many ids the thread of an id has, as a row comes.
-- For the proofs of `add`, `add_all` and `add_link`.
use Rattle.std.proofs.Common.{◌≡◌, ◌≢◌, refl, sym, ap, subst, ◌∙◌, ℕ, ◌+◌, ◌-◌, ◌<◌, ◌≤◌, Bool, true, false, ◌||◌, cond, min, List, [], ◌∷◌, ◌++◌, length, map, take, drop, get_or, arith, inl, inr, eq-eqb, ne_eqb, nat_eq}
use Rattle.std.specs.Prelude.{Contains, Some}
use Rattle.std.specs.List.{filter, flat_map}
use Rattle.std.proofs.lemmas.Bool.{cases_eq}
use Rattle.std.proofs.lemmas.List.{append-nil, drop_more, length-map, take_more}
use Rattle.std.proofs.lemmas.List.Elements.{filter-append, Contains-append_left}
use Rattle.std.proofs.lemmas.Option.{same_Some}
use Rattle.nm_threads.specs.Labels.{Label, entries_of, has_entry, is_named, named, numbered, thread_len}
use Rattle.nm_threads.specs.Fits.{Fits, Links}
use Rattle.nm_threads.specs.Maps.{at, labelling_of, AreMaps, given, relabelled}
use Rattle.nm_threads.specs.Name.{thread_numbers}
use Rattle.nm_threads.specs.Same.{ids_of, is_same}
use Rattle.nm_threads.specs.Work.{len_with, link_steps, row_steps, rows_steps}
use Rattle.nm_base.specs.declared.facts.LinkRow.{LinkRow}
use Rattle.nm_threads.specs.declared.maps.Maps.{Maps}
use Rattle.nm_threads.specs.declared.maps.Thread.{Thread}
use Rattle.nm_threads.proofs.DeadLemmas.{named_is}
use Rattle.nm_threads.proofs.FilterLemmas.{filter_among, filter_no}
use Rattle.nm_threads.proofs.JoinLemmas.{joined_of}
use Rattle.nm_threads.proofs.KeepLemmas.{ids_named}
use Rattle.nm_threads.proofs.LabelLemmas.{has_of, has_from}
use Rattle.nm_base.specs.KeyLaws.{Contains_map}
use Rattle.nm_threads.proofs.MergeLemmas.{count_joined, join_itself, name_found}
use Rattle.nm_threads.proofs.NumberLemmas.{label_at, label_from, label_of}
use Rattle.nm_threads.proofs.PlaceLemmas.{label_at_place}
use Rattle.nm_threads.proofs.RowLemmas.{Numbers, either, more_labels, more_numbers, given_has, given_is, maps_labelling}

or_none : (x : Bool) → (x || false) ≡ x
or_none true = refl
or_none false = refl

-- the thread of an id is that which its label names
module _ (m : Maps) (are : AreMaps m) (a : Label) (among : Contains (labelling_of m).labels a) where
  pub thread_named : thread_len a.id (labelling_of m).labels ≡ length (named a.name (labelling_of m).labels)
  thread_named =
      ap length
      (filter_among (λ label. is_named (labelling_of m).labels label.name a.id || false) (λ label. nat_eq label.name a.name) (labelling_of m).labels
      (λ b there. or_none (is_named (labelling_of m).labels b.name a.id) ∙ named_is (labelling_of m).labels b.name a among (λ other there_too same. (maps_labelling m are).ids a other among there_too same) a.id refl))

module _ (m : Maps) (are : AreMaps m) (id : List ℕ) (n g : ℕ) (t : Thread) (among : Contains m.ids (n, id)) (group : at n m.groups ≡ Some g) (thread : at g m.threads ≡ Some t) where
  pub thread_is : thread_len id (labelling_of m).labels ≡ t.len
  thread_is = thread_named m are (record { id = id; number = n; name = t.name }) (label_at_place m are id n g t among group thread) ∙ sym (are.counted g t thread)

-- ---- an id more has a number

module _ (old mid : Maps) (are : AreMaps old) (are_mid : AreMaps mid) (link : List ℕ) (is : labelling_of mid ≡ given (labelling_of old) link) where
  old_in_by : (a : Label) → Contains (labelling_of old).labels a → (test : Bool) → Contains (either (labelling_of old) link test).labels a
  old_in_by a among true = among
  old_in_by a among false = Contains-append_left (labelling_of old).labels (record { id = link; number = old.next; name = old.next } ∷ []) a among

  pub mid_is : labelling_of mid ≡ either (labelling_of old) link (has_entry (entries_of (labelling_of old).labels) link)
  mid_is = is ∙ given_is (labelling_of old) link (has_entry (entries_of (labelling_of old).labels) link) refl

  old_in : (a : Label) → Contains (labelling_of old).labels a → Contains (labelling_of mid).labels a
  old_in a among = subst (λ l. Contains l.labels a) (sym mid_is) (old_in_by a among (has_entry (entries_of (labelling_of old).labels) link))

  pub still_known : (id : List ℕ) → has_entry (entries_of (labelling_of old).labels) id ≡ true → has_entry (entries_of (labelling_of mid).labels) id ≡ true
  still_known id has = let a = has_from (labelling_of old).labels id has in has_of (labelling_of mid).labels id a.0 (old_in a.0 a.1) a.2

  name_not : (a : Label) → Contains (labelling_of old).labels a → old.next ≢ a.name
  name_not a among same =
      let from = label_from old a among in
      let pair = are.grouped a.number a.id from.0 in
      omega (arith, (are.early pair.0 pair.1 pair.3).1, same, ap (λ l. l.name) (sym from.1), name_found old a.number pair.0 pair.1 pair.2 pair.3)

  pub named_by : (a : Label) → Contains (labelling_of old).labels a → (test : Bool) → named a.name (either (labelling_of old) link test).labels ≡ named a.name (labelling_of old).labels
  named_by a among true = refl
  named_by a among false =
      filter-append (λ label. nat_eq label.name a.name) (labelling_of old).labels (record { id = link; number = old.next; name = old.next } ∷ [])
      ∙ ap (λ back. named a.name (labelling_of old).labels ++ back) (filter_no (λ (label : Label). nat_eq label.name a.name) (record { id = link; number = old.next; name = old.next }) [] (ne_eqb old.next a.name (name_not a among)))
      ∙ append-nil (named a.name (labelling_of old).labels)

  pub thread_stays : (id : List ℕ) → has_entry (entries_of (labelling_of old).labels) id ≡ true → thread_len id (labelling_of mid).labels ≡ thread_len id (labelling_of old).labels
  thread_stays id has =
      let a = has_from (labelling_of old).labels id has in
      ap (λ x. thread_len x (labelling_of mid).labels) (sym a.2)
      ∙ thread_named mid are_mid a.0 (old_in a.0 a.1)
      ∙ ap (λ l. length (named a.0.name l.labels)) mid_is
      ∙ ap length (named_by a.0 a.1 (has_entry (entries_of (labelling_of old).labels) link))
      ∙ sym (thread_named old are a.0 a.1)
      ∙ ap (λ x. thread_len x (labelling_of old).labels) a.2

-- ---- two threads become one

module _ (mid new : Maps) (are : AreMaps mid) (are_new : AreMaps new) (id : List ℕ) (n g h : ℕ) (s t : Thread) (among : Contains mid.ids (n, id)) (group : at n mid.groups ≡ Some g) (thread : at g mid.threads ≡ Some s) (other : at h mid.threads ≡ Some t)
    (labels : (labelling_of new).labels ≡ map (relabelled s.name t.name) (labelling_of mid).labels) where
  abbrev own : Label
  own = record { id = id; number = n; name = s.name }

  own_in : Contains (labelling_of mid).labels own
  own_in = label_at_place mid are id n g s among group thread

  new_in : Contains (labelling_of new).labels (relabelled s.name t.name own)
  new_in = subst (λ all. Contains all (relabelled s.name t.name own)) (sym labels) (Contains_map (relabelled s.name t.name) (labelling_of mid).labels own own_in)

  pub joined_known : has_entry (entries_of (labelling_of new).labels) id ≡ true
  joined_known = has_of (labelling_of new).labels id (relabelled s.name t.name own) new_in refl

  joined_len : thread_len id (labelling_of new).labels ≡ length (named (min s.name t.name) (map (relabelled s.name t.name) (labelling_of mid).labels))
  joined_len =
      thread_named new are_new (relabelled s.name t.name own) new_in
      ∙ ap (λ name. length (named name (labelling_of new).labels)) (joined_of s.name t.name s.name (inl refl))
      ∙ ap (λ all. length (named (min s.name t.name) all)) labels

  same_len : g ≡ h → thread_len id (labelling_of new).labels ≡ s.len
  same_len same =
      let one : s ≡ t = same_Some s t (sym thread ∙ ap (λ k. at k mid.threads) same ∙ other) in
      joined_len
      ∙ ap (λ all. length (named (min s.name t.name) all)) (sym (join_itself (labelling_of mid).labels s.name t.name (ap (λ x. x.name) one)))
      ∙ ap (λ name. length (named name (labelling_of mid).labels)) (omega (arith, ap (λ x. x.name) one))
      ∙ sym (are.counted g s thread)

  both_len : g ≢ h → thread_len id (labelling_of new).labels ≡ s.len + t.len
  both_len apart =
      joined_len
      ∙ count_joined s.name t.name (labelling_of mid).labels (λ is. apart (are.apart g h s t thread other is))
      ∙ omega (arith, are.counted g s thread, are.counted h t other)

  -- of the ids that the thread had and those that come to it the fewer are relabelled
  pub join_is : (before after : ℕ) → after ≡ before + cond (nat_eq g h) 0 (min s.len t.len) → after ≡ before + min s.len (thread_len id (labelling_of new).labels - s.len)
  join_is before after cost = elim (cases_eq g h) [
    | inl same ↦ omega (arith, cost, ap (λ test. cond test 0 (min s.len t.len)) (eq-eqb g h same), same_len same)
    | inr apart ↦ omega (arith, cost, ap (λ test. cond test 0 (min s.len t.len)) (ne_eqb g h apart), both_len apart)
  ]

  -- what a join costs is won in the size of the thread
  pub join_pays : (before after : ℕ) → after ≡ before + cond (nat_eq g h) 0 (min s.len t.len) → after + s.len ≤ before + thread_len id (labelling_of new).labels
  join_pays before after cost = elim (cases_eq g h) [
    | inl same ↦ omega (arith, cost, ap (λ test. cond test 0 (min s.len t.len)) (eq-eqb g h same), same_len same)
    | inr apart ↦ omega (arith, cost, ap (λ test. cond test 0 (min s.len t.len)) (ne_eqb g h apart), both_len apart)
  ]

pub given_known : (old mid : Maps) (id : List ℕ) → labelling_of mid ≡ given (labelling_of old) id → has_entry (entries_of (labelling_of mid).labels) id ≡ true
given_known old mid id is =
    let one = given_has (labelling_of old) id in subst (λ l. has_entry (entries_of l.labels) id ≡ true) (sym is) (has_of (given (labelling_of old) id).labels id one.0 one.1 one.2)

-- ---- the thread of an id, by the rows

module _ (old now : Maps) (are : AreMaps now) (rows : List LinkRow) (id : List ℕ) (number : ℕ) (links : List (List ℕ)) (own : Contains now.ids (number, id))
    (fits : Fits ((record { id = id; links = links }) ∷ rows) (labelling_of now).labels) (numbers : Numbers old now (id ∷ links)) where
  pub len_is : thread_len id (labelling_of now).labels ≡ len_with rows (entries_of (labelling_of old).labels, old.next) id links
  len_is =
      let all : List LinkRow = (record { id = id; links = links }) ∷ rows in
      let test : List ℕ × ℕ → Bool = λ entry. is_same all id entry.0 in
      let label = label_of now number id own in
      let among : List (List ℕ × ℕ) = filter test (entries_of (labelling_of now).labels) in
      let there : List Label = named (label_at now (number, id)).name (labelling_of now).labels in
      thread_named now are (label_at now (number, id)) label
      ∙ sym (length-map there (λ one. one.id))
      ∙ ap length (ids_named all id (labelling_of now).labels fits (label_at now (number, id)) label refl)
      ∙ length-map among (λ entry. entry.0)
      ∙ sym (length-map among (λ entry. entry.1))
      ∙ ap (λ entries. length (thread_numbers all entries.0 id)) numbers

module _ (old now next : Maps) (are : AreMaps now) (are_next : AreMaps next) (rows : List LinkRow) (id : List ℕ) (number : ℕ) (items : List (List ℕ)) (i : ℕ) (lt : i < length items) (item : List ℕ) (item_is : get_or items i item ≡ item) where
  abbrev start : List (List ℕ × ℕ) × ℕ
  start = (entries_of (labelling_of old).labels, old.next)

  taken : take (i + 1) items ≡ take i items ++ item ∷ []
  taken = take_more items i item lt ∙ ap (λ x. take i items ++ x ∷ []) item_is

  -- the steps of the links from here
  rest_steps : link_steps rows start id (take i items) (drop i items)
      ≡ 1 + min (len_with rows start id (take i items)) (len_with rows start id (take (i + 1) items) - len_with rows start id (take i items)) + link_steps rows start id (take (i + 1) items) (drop (i + 1) items)
  rest_steps =
      ap (link_steps rows start id (take i items)) (drop_more items i item lt ∙ ap (λ x. x ∷ drop (i + 1) items) item_is)
      ∙ ap (λ links. 1 + min (len_with rows start id (take i items)) (len_with rows start id links - len_with rows start id (take i items)) + link_steps rows start id links (drop (i + 1) items)) (sym taken)

  -- what was counted, and what is left, is all
  pub exact_more : Contains now.ids (number, id) → Contains next.ids (number, id) → Links (labelling_of now) (labelling_of next) id item → Numbers old now (id ∷ take i items) → Fits ((record { id = id; links = take i items }) ∷ rows) (labelling_of now).labels
      → (before after : ℕ) → after ≡ before + 1 + min (thread_len id (labelling_of now).labels) (thread_len id (labelling_of next).labels - thread_len id (labelling_of now).labels)
      → (all : ℕ) → before + link_steps rows start id (take i items) (drop i items) ≡ all → after + link_steps rows start id (take (i + 1) items) (drop (i + 1) items) ≡ all
  exact_more own own_next links numbers fits before after cost all so_far =
      let had = len_is old now are rows id number (take i items) own fits numbers in
      let has =
      len_is old next are_next rows id number (take (i + 1) items) own_next (more_labels old now id items i lt item item_is next links rows fits)
      (more_numbers old now id items i lt item item_is next links numbers) in
      let moved = ap (λ n. min n (thread_len id (labelling_of next).labels - n)) had ∙ ap (λ n. min (len_with rows start id (take i items)) (n - len_with rows start id (take i items))) has in
      omega (arith, cost, so_far, rest_steps, moved)

module _ (old now : Maps) (rows : List LinkRow) (i : ℕ) (lt : i < length rows) (row : LinkRow) (row_is : get_or rows i row ≡ row) (others : List LinkRow) where
  abbrev begun : List (List ℕ × ℕ) × ℕ
  begun = (entries_of (labelling_of old).labels, old.next)

  rest_rows : rows_steps others begun (take i rows) (drop i rows)
      ≡ row_steps (take i rows ++ others) (numbered begun.0 begun.1 (flat_map ids_of (take i rows))) row + rows_steps others begun (take (i + 1) rows) (drop (i + 1) rows)
  rest_rows =
      ap (rows_steps others begun (take i rows)) (drop_more rows i row lt ∙ ap (λ x. x ∷ drop (i + 1) rows) row_is)
      ∙ ap (λ before. row_steps (take i rows ++ others) (numbered begun.0 begun.1 (flat_map ids_of (take i rows))) row + rows_steps others begun before (drop (i + 1) rows)) (sym (take_more rows i row lt ∙ ap (λ x. take i rows ++ x ∷ []) row_is))

  -- of rows too
  pub exact_rows : Numbers old now (flat_map ids_of (take i rows)) → (before after : ℕ) → after ≡ before + row_steps (take i rows ++ others) (entries_of (labelling_of now).labels, now.next) row
      → (all : ℕ) → before + rows_steps others begun (take i rows) (drop i rows) ≡ all → after + rows_steps others begun (take (i + 1) rows) (drop (i + 1) rows) ≡ all
  exact_rows numbers before after cost all so_far = omega (arith, cost, so_far, rest_rows, ap (λ entries. row_steps (take i rows ++ others) entries row) numbers)
