-- What the maps of labels say once an id has a number.
-- For the proofs of `give_number`, `give_this_number`, `give_numbers` and others.
use Rattle.std.proofs.Common.{◌≡◌, ◌≢◌, refl, sym, ap, subst, ◌∙◌, ℕ, ◌+◌, ◌<◌, ◌≤◌, ◌^◌, Bool, true, false, cond, List, [], ◌∷◌, ◌++◌, length, map, arith, inl, inr, ◌⊎◌, eq-eqb, ne_eqb, nat_eq, true≢false}
use Rattle.std.specs.Prelude.{Contains, Some, None, Option}
use Rattle.std.specs.BTreeMap.{insert_entry}
use Rattle.std.specs.Cmp.Lexicographic.{slice_cmp}
use Rattle.std.specs.Map.{keys_of}
use Rattle.std.specs.Option.{is_some, option_and_then}
use Rattle.std.specs.Ordering.{nat_cmp, is_eq}
use Rattle.std.proofs.lemmas.Bool.{cases_eq}
use Rattle.std.proofs.lemmas.List.{map_push, append-nil}
use Rattle.std.proofs.lemmas.List.Elements.{filter-append, Contains-push, Contains-append_left, Contains-push_cases}
use Rattle.std.proofs.lemmas.Option.{same_Some, none-some}
use Rattle.nm_threads.specs.Labels.{Label, Labelling, entries_of, has_entry, named}
use Rattle.nm_threads.specs.Maps.{at, at_id, at_pair, pair_cmp, name_at, name_in, labelling_of, is_number, AreMaps, given}
use Rattle.nm_threads.specs.declared.maps.Maps.{Maps}
use Rattle.nm_threads.specs.declared.maps.Thread.{Thread}
use Rattle.nm_threads.specs.declared.maps.Member.{Member}
use Rattle.nm_threads.proofs.FilterLemmas.{filter_yes, filter_no, filter_none}
use Rattle.nm_threads.proofs.SortedLemmas.{Rising, rising_push}
use Rattle.nm_base.specs.KeyLaws.{Contains_map, Contains_from_map, cases_id, same_number, other_number, same_id}
use Rattle.nm_threads.proofs.LabelLemmas.{has_of, has_from}
use Rattle.nm_threads.proofs.MapLemmas.{other_id, same_pair, other_first, other_second, pushed_entry, map_among}

-- ---- labels and numbers

abbrev pub label_at : Maps → ℕ × List ℕ → Label
label_at m entry = record { id = entry.1; number = entry.0; name = name_at m.groups m.threads entry.0 }

pub label_of : (m : Maps) (number : ℕ) (id : List ℕ) → Contains m.ids (number, id) → Contains (labelling_of m).labels (label_at m (number, id))
label_of m number id among = Contains_map (label_at m) m.ids (number, id) among

pub label_from : (m : Maps) (a : Label) → Contains (labelling_of m).labels a → Contains m.ids (a.number, a.id) × (label_at m (a.number, a.id) ≡ a)
label_from m a among = let one = Contains_from_map (label_at m) m.ids a among in (
  subst (λ l. Contains m.ids (l.number, l.id)) one.2 one.1,
  subst (λ l. label_at m (l.number, l.id) ≡ l) one.2 refl,
)

-- an id that is at a number has an entry
pub known_at : (m : Maps) (number : ℕ) (id : List ℕ) → Contains m.ids (number, id) → has_entry (entries_of (labelling_of m).labels) id ≡ true
known_at m number id among = has_of (labelling_of m).labels id (label_at m (number, id)) (label_of m number id among) refl

module _ (m : Maps) (are : AreMaps m) (id : List ℕ) where
  has_by : (found : Option ℕ) → at_id id m.numbers ≡ found → (test : Bool) → has_entry (entries_of (labelling_of m).labels) id ≡ test → is_some found ≡ test
  has_by None is true has =
      let a = has_from (labelling_of m).labels id has in
      absurd (none-some a.0.number (sym is ∙ subst (λ x. at_id x m.numbers ≡ Some a.0.number) a.2 (are.kept a.0.id a.0.number (label_from m a.0 a.1).0)))
  has_by None is false has = refl
  has_by (Some n) is true has = refl
  has_by (Some n) is false has = absurd (true≢false (sym (has_of (labelling_of m).labels id (label_at m (n, id)) (label_of m n id (are.found id n is)) refl) ∙ has))

  -- an id has an entry exactly where the map has a number for it
  pub has_is : is_some (at_id id m.numbers) ≡ has_entry (entries_of (labelling_of m).labels) id
  has_is = has_by (at_id id m.numbers) refl (has_entry (entries_of (labelling_of m).labels) id) refl

  pub given_old : is_some (at_id id m.numbers) ≡ true → labelling_of m ≡ given (labelling_of m) id
  given_old is = sym (ap (λ test. cond test (labelling_of m) (record { labels = (labelling_of m).labels ++ (record { id = id; number = m.next; name = m.next }) ∷ []; next = m.next + 1 })) (sym has_is ∙ is))

-- ---- a new number

module _ (m : Maps) (are : AreMaps m) (id : List ℕ) (absent : at_id id m.numbers ≡ None) (room : m.next < 2 ^ 63) (ids : List (ℕ × List ℕ)) (numbers : List (List ℕ × ℕ)) (groups : List (ℕ × ℕ)) (threads : List (ℕ × Thread)) (members : List ((ℕ × ℕ) × Member))
    (thread : Thread) (thread_is : thread.name ≡ m.next) (len_is : thread.len ≡ 1)
    (ids_are : ids ≡ insert_entry nat_cmp m.ids m.next id)
    (numbers_are : (other : List ℕ) → at_id other numbers ≡ cond (is_eq (slice_cmp nat_cmp other id)) (Some m.next) (at_id other m.numbers))
    (groups_are : (other : ℕ) → at other groups ≡ cond (is_eq (nat_cmp other m.next)) (Some m.next) (at other m.groups))
    (threads_are : (other : ℕ) → at other threads ≡ cond (is_eq (nat_cmp other m.next)) (Some thread) (at other m.threads))
    (member : Member) (members_are : (other : ℕ × ℕ) → at_pair other members ≡ cond (is_eq (pair_cmp other (m.next, m.next))) (Some member) (at_pair other m.members)) where
  abbrev new : Maps
  new = record { ids = ids; numbers = numbers; groups = groups; threads = threads; members = members; next = m.next + 1 }

  ids_grown : ids ≡ m.ids ++ (m.next, id) ∷ []
  ids_grown = ids_are ∙ pushed_entry m.ids m.next id (λ n x among. (are.below n x among).1)

  cases_ids : (n : ℕ) (u : List ℕ) → Contains ids (n, u) → Contains m.ids (n, u) ⊎ ◌≡◌ {A = ℕ × List ℕ} (m.next, id) (n, u)
  cases_ids n u among = Contains-push_cases m.ids (m.next, id) (n, u) (subst (λ all. Contains all (n, u)) ids_grown among)

  pub old_ids : (n : ℕ) (u : List ℕ) → Contains m.ids (n, u) → Contains ids (n, u)
  old_ids n u among = subst (λ all. Contains all (n, u)) (sym ids_grown) (Contains-append_left m.ids ((m.next, id) ∷ []) (n, u) among)

  pub new_id : Contains ids (m.next, id)
  new_id = subst (λ all. Contains all (m.next, id)) (sym ids_grown) (Contains-push m.ids (m.next, id))

  -- ids that have numbers are others than the new one
  apart_ids : (n : ℕ) (u : List ℕ) → Contains m.ids (n, u) → u ≢ id
  apart_ids n u among is = none-some n (sym absent ∙ subst (λ x. at_id x m.numbers ≡ Some n) is (are.kept u n among))

  groups_old : (n : ℕ) → n ≢ m.next → at n groups ≡ at n m.groups
  groups_old n not = groups_are n ∙ ap (λ test. cond test (Some m.next) (at n m.groups)) (other_number n m.next not)

  threads_old : (n : ℕ) → n ≢ m.next → at n threads ≡ at n m.threads
  threads_old n not = threads_are n ∙ ap (λ test. cond test (Some thread) (at n m.threads)) (other_number n m.next not)

  groups_new : at m.next groups ≡ Some m.next
  groups_new = groups_are m.next ∙ ap (λ test. cond test (Some m.next) (at m.next m.groups)) (same_number m.next m.next refl)

  threads_new : at m.next threads ≡ Some thread
  threads_new = threads_are m.next ∙ ap (λ test. cond test (Some thread) (at m.next m.threads)) (same_number m.next m.next refl)

  found_by : (u : List ℕ) (n : ℕ) (test : Bool) → is_eq (slice_cmp nat_cmp u id) ≡ test → cond test (Some m.next) (at_id u m.numbers) ≡ Some n → (u ≡ id) ⊎ (u ≢ id) → Contains ids (n, u)
  found_by u n test is at_u (inl same) =
      let here : m.next ≡ n = same_Some m.next n (ap (λ b. cond b (Some m.next) (at_id u m.numbers)) (sym (same_id u id same) ∙ is) ∙ at_u) in
      subst (λ k. Contains ids (k, u)) here (subst (λ x. Contains ids (m.next, x)) (sym same) new_id)
  found_by u n test is at_u (inr not) =
      old_ids n u (are.found u n (ap (λ b. cond b (Some m.next) (at_id u m.numbers)) (sym (other_id u id not test is)) ∙ at_u))

  kept_old : (u : List ℕ) (n : ℕ) → Contains m.ids (n, u) → at_id u numbers ≡ Some n
  kept_old u n among = numbers_are u ∙ ap (λ test. cond test (Some m.next) (at_id u m.numbers)) (other_id u id (apart_ids n u among) (is_eq (slice_cmp nat_cmp u id)) refl) ∙ are.kept u n among

  kept_new : at_id id numbers ≡ Some m.next
  kept_new = numbers_are id ∙ ap (λ test. cond test (Some m.next) (at_id id m.numbers)) (same_id id id refl)

  no_group : (n : ℕ) (found : Option ℕ) → at n m.groups ≡ found → m.next ≤ n → found ≡ None
  no_group n None is past = refl
  no_group n (Some g) is past = absurd (omega (arith, are.fresh n g is, past))

  members_by : (g n : ℕ) → (g ≡ m.next) ⊎ (g ≢ m.next) → (n ≡ m.next) ⊎ (n ≢ m.next) → is_some (at_pair (g, n) members) ≡ is_number g (at n groups)
  members_by g n (inl g_is) (inl n_is) =
      ap is_some (members_are (g, n) ∙ ap (λ test. cond test (Some member) (at_pair (g, n) m.members)) (same_pair g n m.next m.next g_is n_is))
      ∙ sym (ap (λ k. is_number g (at k groups)) n_is ∙ ap (is_number g) groups_new ∙ eq-eqb g m.next g_is)
  members_by g n (inr g_not) (inl n_is) =
      let none : at n m.groups ≡ None = no_group n (at n m.groups) refl (omega (arith, n_is)) in
      ap is_some (members_are (g, n) ∙ ap (λ test. cond test (Some member) (at_pair (g, n) m.members)) (other_first g n m.next m.next g_not))
      ∙ are.members g n ∙ ap (is_number g) none ∙ sym (ap (λ k. is_number g (at k groups)) n_is ∙ ap (is_number g) groups_new ∙ ne_eqb g m.next g_not)
  members_by g n g_case (inr n_not) =
      ap is_some (members_are (g, n) ∙ ap (λ test. cond test (Some member) (at_pair (g, n) m.members)) (other_second g n m.next m.next n_not)) ∙ are.members g n ∙ ap (is_number g) (sym (groups_old n n_not))

  fresh_by : (n g : ℕ) → at n groups ≡ Some g → (n ≡ m.next) ⊎ (n ≢ m.next) → n < m.next + 1
  fresh_by n g is (inl here) = omega (arith, here)
  fresh_by n g is (inr not) = omega (arith, are.fresh n g (sym (groups_old n not) ∙ is))

  early_by : (g : ℕ) (t : Thread) → at g threads ≡ Some t → (g ≡ m.next) ⊎ (g ≢ m.next) → (g < m.next + 1) × (t.name < m.next + 1)
  early_by g t is (inl here) =
      let same : thread ≡ t = same_Some thread t (sym threads_new ∙ ap (λ k. at k threads) (sym here) ∙ is) in (omega (arith, here), omega (arith, thread_is, ap (λ x. x.name) same))
  early_by g t is (inr not) = let old = are.early g t (sym (threads_old g not) ∙ is) in (omega (arith, old.0), omega (arith, old.1))

  apart_by : (g h : ℕ) (s t : Thread) → at g threads ≡ Some s → at h threads ≡ Some t → s.name ≡ t.name → (g ≡ m.next) ⊎ (g ≢ m.next) → (h ≡ m.next) ⊎ (h ≢ m.next) → g ≡ h
  apart_by g h s t s_is t_is names (inl g_is) (inl h_is) = g_is ∙ sym h_is
  apart_by g h s t s_is t_is names (inl g_is) (inr h_not) =
      let same : thread ≡ s = same_Some thread s (sym threads_new ∙ ap (λ k. at k threads) (sym g_is) ∙ s_is) in
      absurd (omega (arith, (are.early h t (sym (threads_old h h_not) ∙ t_is)).1, names, ap (λ x. x.name) same, thread_is))
  apart_by g h s t s_is t_is names (inr g_not) (inl h_is) =
      let same : thread ≡ t = same_Some thread t (sym threads_new ∙ ap (λ k. at k threads) (sym h_is) ∙ t_is) in
      absurd (omega (arith, (are.early g s (sym (threads_old g g_not) ∙ s_is)).1, names, ap (λ x. x.name) same, thread_is))
  apart_by g h s t s_is t_is names (inr g_not) (inr h_not) = are.apart g h s t (sym (threads_old g g_not) ∙ s_is) (sym (threads_old h h_not) ∙ t_is) names

  owned_by : (n g : ℕ) → at n groups ≡ Some g → (n ≡ m.next) ⊎ (n ≢ m.next) → (u : List ℕ) × Contains ids (n, u)
  owned_by n g is (inl here) = (id, subst (λ k. Contains ids (k, id)) (sym here) new_id)
  owned_by n g is (inr not) = let old = are.owned n g (sym (groups_old n not) ∙ is) in (old.0, old_ids n old.0 old.1)

  headed_by : (g : ℕ) (t : Thread) → at g threads ≡ Some t → (g ≡ m.next) ⊎ (g ≢ m.next) → at t.name groups ≡ Some g
  headed_by g t is (inl here) =
      let same : thread ≡ t = same_Some thread t (sym threads_new ∙ ap (λ k. at k threads) (sym here) ∙ is) in
      ap (λ k. at k groups) (ap (λ x. x.name) (sym same) ∙ thread_is) ∙ groups_new ∙ ap Some (sym here)
  headed_by g t is (inr not) =
      let old : at g m.threads ≡ Some t = sym (threads_old g not) ∙ is in groups_old t.name (λ same. omega (arith, (are.early g t old).1, same)) ∙ are.headed g t old

  ordered_grown : Rising (keys_of ids)
  ordered_grown =
      subst Rising (sym (ap keys_of ids_grown ∙ map_push (λ e. e.0) m.ids (m.next, id)))
      (rising_push (keys_of m.ids) m.next are.ordered (λ n among. let e = Contains_from_map (λ e. e.0) m.ids n among in omega (arith, e.2, (are.below e.0.0 e.0.1 e.1).1)))

  label_old : (entry : ℕ × List ℕ) → Contains m.ids entry → label_at new entry ≡ label_at m entry
  label_old entry among =
      let pair = are.grouped entry.0 entry.1 among in
      let n_not : entry.0 ≢ m.next = λ is. omega (arith, (are.below entry.0 entry.1 among).1, is) in
      let g_not : pair.0 ≢ m.next = λ is. omega (arith, (are.early pair.0 pair.1 pair.3).0, is) in
      ap (λ name. record { id = entry.1; number = entry.0; name = name })
      (ap (λ found. name_in (option_and_then (λ group. at group threads) found)) (groups_old entry.0 n_not ∙ pair.2) ∙ ap name_in (threads_old pair.0 g_not) ∙ sym (ap (λ found. name_in (option_and_then (λ group. at group m.threads) found)) pair.2))

  abbrev newest : Label
  newest = record { id = id; number = m.next; name = m.next }

  labels_grown : (labelling_of new).labels ≡ (labelling_of m).labels ++ newest ∷ []
  labels_grown =
      let last : label_at new (m.next, id) ≡ newest =
      ap (λ name. record { id = id; number = m.next; name = name }) (ap (λ found. name_in (option_and_then (λ group. at group threads) found)) groups_new ∙ ap name_in threads_new ∙ thread_is) in
      ap (map (label_at new)) ids_grown ∙ map_push (label_at new) m.ids (m.next, id) ∙ ap (λ front. front ++ label_at new (m.next, id) ∷ []) (map_among (label_at new) (label_at m) m.ids label_old) ∙ ap (λ label. (labelling_of m).labels ++ label ∷ []) last

  named_grown : (name : ℕ) → named name (labelling_of new).labels ≡ named name (labelling_of m).labels ++ named name (newest ∷ [])
  named_grown name = ap (named name) labels_grown ∙ filter-append (λ label. nat_eq label.name name) (labelling_of m).labels (newest ∷ [])

  -- no label has the next number as its name
  none_next : (a : Label) → Contains (labelling_of m).labels a → nat_eq a.name m.next ≡ false
  none_next a among =
      let from = label_from m a among in
      let pair = are.grouped a.number a.id from.0 in
      ne_eqb a.name m.next (λ is. omega (arith, (are.early pair.0 pair.1 pair.3).1, is, ap (λ l. l.name) (sym from.1), ap (λ found. name_in (option_and_then (λ group. at group m.threads) found)) pair.2, ap name_in pair.3))

  counted_by : (g : ℕ) (t : Thread) → at g threads ≡ Some t → (g ≡ m.next) ⊎ (g ≢ m.next) → t.len ≡ length (named t.name (labelling_of new).labels)
  counted_by g t is (inl here) =
      let same : thread ≡ t = same_Some thread t (sym threads_new ∙ ap (λ k. at k threads) (sym here) ∙ is) in
      let all : named m.next (labelling_of new).labels ≡ newest ∷ [] =
      named_grown m.next ∙ ap (λ front. front ++ named m.next (newest ∷ [])) (filter_none (λ label. nat_eq label.name m.next) (labelling_of m).labels none_next) ∙ filter_yes (λ (label : Label). nat_eq label.name m.next) newest [] (eq-eqb m.next m.next refl) in
      ap (λ x. x.len) (sym same) ∙ len_is ∙ sym (ap length (ap (λ name. named name (labelling_of new).labels) (ap (λ x. x.name) (sym same) ∙ thread_is) ∙ all))
  counted_by g t is (inr not) =
      let old : at g m.threads ≡ Some t = sym (threads_old g not) ∙ is in
      are.counted g t old
      ∙ sym
      (ap length
      (named_grown t.name ∙ ap (λ back. named t.name (labelling_of m).labels ++ back) (filter_no (λ (label : Label). nat_eq label.name t.name) newest [] (ne_eqb m.next t.name (λ same. omega (arith, (are.early g t old).1, same)))) ∙ append-nil (named t.name (labelling_of m).labels)))

  pub maps_given : AreMaps new
  maps_given = record {
    ordered = ordered_grown;
    owned = λ n g is. owned_by n g is (cases_eq n m.next);
    headed = λ g t is. headed_by g t is (cases_eq g m.next);
    counted = λ g t is. counted_by g t is (cases_eq g m.next);
    below = λ n u among. elim (cases_ids n u among) [ inl old ↦ let b = are.below n u old in (b.0, omega (arith, b.1)) | inr here ↦ (omega (arith, ap (λ e. e.0) here, are.small.0), omega (arith, ap (λ e. e.0) here)) ];
    once = λ n a b first second. elim (cases_ids n a first) [
      | inl old ↦ elim (cases_ids n b second) [ inl old_too ↦ are.once n a b old old_too | inr here ↦ absurd (omega (arith, (are.below n a old).1, ap (λ e. e.0) here)) ]
      | inr here ↦ elim (cases_ids n b second) [ inl old ↦ absurd (omega (arith, (are.below n b old).1, ap (λ e. e.0) here)) | inr here_too ↦ sym (ap (λ e. e.1) here) ∙ ap (λ e. e.1) here_too ]
    ];
    found = λ u n is. found_by u n (is_eq (slice_cmp nat_cmp u id)) refl (sym (numbers_are u) ∙ is) (cases_id u id);
    kept = λ u n among. elim (cases_ids n u among) [ inl old ↦ kept_old u n old | inr here ↦ subst (λ e. at_id e.1 numbers ≡ Some e.0) here kept_new ];
    grouped = λ n u among. elim (cases_ids n u among) [
      | inl old ↦
          let pair = are.grouped n u old in
          let n_not : n ≢ m.next = λ is. omega (arith, (are.below n u old).1, is) in
          let g_not : pair.0 ≢ m.next = λ is. omega (arith, (are.early pair.0 pair.1 pair.3).0, is) in (pair.0, pair.1, groups_old n n_not ∙ pair.2, threads_old pair.0 g_not ∙ pair.3)
      | inr here ↦ (m.next, thread, ap (λ e. at e.0 groups) (sym here) ∙ groups_new, threads_new)
    ];
    fresh = λ n g is. fresh_by n g is (cases_eq n m.next);
    early = λ g t is. early_by g t is (cases_eq g m.next);
    apart = λ g h s t s_is t_is names. apart_by g h s t s_is t_is names (cases_eq g m.next) (cases_eq h m.next);
    members = λ g n. members_by g n (cases_eq g m.next) (cases_eq n m.next);
    small = (omega (arith, are.small.0), omega (arith, room));
  }

  pub labels_given : labelling_of new ≡ given (labelling_of m) id
  labels_given =
      ap (λ labels. record { labels = labels; next = m.next + 1 }) labels_grown
      ∙ sym (ap (λ test. cond test (labelling_of m) (record { labels = (labelling_of m).labels ++ (record { id = id; number = m.next; name = m.next }) ∷ []; next = m.next + 1 })) (sym (has_is m are id) ∙ ap is_some absent))

-- ---- a later next number

module _ (m : Maps) (are : AreMaps m) (number : ℕ) (le : m.next ≤ number) (most : number ≤ 2 ^ 63) where
  abbrev pub later : Maps
  later = record { ids = m.ids; numbers = m.numbers; groups = m.groups; threads = m.threads; members = m.members; next = number }

  pub maps_later : AreMaps later
  maps_later = record {
    ordered = are.ordered;
    owned = are.owned;
    headed = are.headed;
    counted = are.counted;
    below = λ n u among. let b = are.below n u among in (b.0, omega (arith, b.1, le));
    once = are.once;
    found = are.found;
    kept = are.kept;
    grouped = are.grouped;
    fresh = λ n g is. omega (arith, are.fresh n g is, le);
    early = λ g t is. let e = are.early g t is in (omega (arith, e.0, le), omega (arith, e.1, le));
    apart = are.apart;
    members = are.members;
    small = (omega (arith, are.small.0, le), most);
  }

pub given_absent : (l : Labelling) (id : List ℕ) → has_entry (entries_of l.labels) id ≡ false → given l id ≡ record { labels = l.labels ++ (record { id = id; number = l.next; name = l.next }) ∷ []; next = l.next + 1 }
given_absent l id absent = ap (λ test. cond test l (record { labels = l.labels ++ (record { id = id; number = l.next; name = l.next }) ∷ []; next = l.next + 1 })) absent
