-- What the maps of labels say once numbers go, and once a thread is removed.
-- For the proofs of `group_named`, `remove_named`, `remove_number` and others.
use Rattle.std.proofs.Common.{◌≡◌, ◌≢◌, refl, sym, ap, subst, ◌∙◌, ℕ, ◌+◌, ◌<◌, ◌≤◌, Bool, true, false, cond, not, ◌||◌, List, length, map, take, get_or, arith, inl, inr, ◌⊎◌, eq-eqb, ne_eqb, nat_eq, true≢false}
use Rattle.std.specs.Prelude.{Contains, Some, None, Option}
use Rattle.std.specs.BTreeMap.{is_at}
use Rattle.std.specs.Cmp.Lexicographic.{slice_cmp}
use Rattle.std.specs.List.{filter, list_any}
use Rattle.std.specs.Map.{keys_of, remove_entry}
use Rattle.std.specs.Option.{is_some}
use Rattle.std.specs.Ordering.{nat_cmp, is_eq}
use Rattle.std.proofs.lemmas.Bool.{cases_eq}
use Rattle.std.proofs.lemmas.List.{take_all}
use Rattle.std.proofs.lemmas.List.Folds.{list_any_more}
use Rattle.std.proofs.lemmas.Option.{same_Some, none-some}
use Rattle.nm_threads.specs.Labels.{Label, named, without_name}
use Rattle.nm_threads.specs.Maps.{at, at_id, at_pair, pair_cmp, labelling_of, is_number, AreNumbers, AreMaps}
use Rattle.nm_threads.specs.declared.maps.Maps.{Maps}
use Rattle.nm_threads.specs.declared.maps.Thread.{Thread}
use Rattle.nm_threads.specs.declared.maps.Member.{Member}
use Rattle.nm_threads.proofs.FilterLemmas.{Contains_filter, Contains_from_filter, filter_all, filter_among, filter_map_among, filter_twice}
use Rattle.nm_threads.proofs.MapLemmas.{other_id, same_pair, other_first, other_second, map_among}
use Rattle.nm_base.specs.KeyLaws.{cases_id, same_number, other_number, same_id}
use Rattle.nm_threads.proofs.MemberLemmas.{number_among, number_test}
use Rattle.nm_threads.proofs.MergeLemmas.{name_found}
use Rattle.nm_threads.proofs.NumberLemmas.{label_at, label_from}
use Rattle.nm_threads.proofs.SortedLemmas.{Rising, keys_filter, none_before, remove_is}

pub numbers_of_maps : (m : Maps) → AreMaps m → AreNumbers m
numbers_of_maps m are = record { ordered = are.ordered; below = are.below; once = are.once; found = are.found; kept = are.kept; fresh = are.fresh; owned = are.owned; members = are.members; small = are.small }

-- ---- the thread of a name

module _ (m : Maps) (are : AreMaps m) (name : ℕ) where
  -- a label of this name is in the group that has the name as a number
  head_of : (a : Label) → Contains (labelling_of m).labels a → a.name ≡ name → (g : ℕ) × (t : Thread) × (at name m.groups ≡ Some g) × (at g m.threads ≡ Some t) × (t.name ≡ name)
  head_of a among is =
      let from = label_from m a among in
      let pair = are.grouped a.number a.id from.0 in
      let here : pair.1.name ≡ name = sym (name_found m a.number pair.0 pair.1 pair.2 pair.3) ∙ ap (λ l. l.name) from.1 ∙ is in
      (pair.0, pair.1, ap (λ n. at n m.groups) (sym here) ∙ are.headed pair.0 pair.1 pair.3, pair.3, here)

  pub no_group : None ≡ at name m.groups → (a : Label) → Contains (labelling_of m).labels a → a.name ≢ name
  no_group none a among is = let head = head_of a among is in none-some head.0 (none ∙ head.2)

  pub no_thread : (g : ℕ) → Some g ≡ at name m.groups → None ≡ at g m.threads → (a : Label) → Contains (labelling_of m).labels a → a.name ≢ name
  no_thread g at_g none a among is =
      let head = head_of a among is in
      none-some head.1 (none ∙ ap (λ k. at k m.threads) (same_Some g head.0 (at_g ∙ head.2)) ∙ head.3)

  pub not_named : (g : ℕ) (t : Thread) → Some g ≡ at name m.groups → Some t ≡ at g m.threads → t.name ≢ name → (a : Label) → Contains (labelling_of m).labels a → a.name ≢ name
  not_named g t at_g at_t other a among is =
      let head = head_of a among is in
      let group : g ≡ head.0 = same_Some g head.0 (at_g ∙ head.2) in
      let thread : t ≡ head.1 = same_Some t head.1 (at_t ∙ ap (λ k. at k m.threads) group ∙ head.3) in
      other (ap (λ x. x.name) thread ∙ head.4)

pub none_without : (name : ℕ) (labels : List Label) → ((a : Label) → Contains labels a → a.name ≢ name) → labels ≡ without_name name labels
none_without name labels apart = sym (filter_all (λ label. not (nat_eq label.name name)) labels (λ a among. ap not (ne_eqb a.name name (apart a among))))

-- ---- a number goes

module _ (m : Maps) (are : AreNumbers m) (number group : ℕ) (at_group : at number m.groups ≡ Some group) (id : List ℕ) (id_is : Contains m.ids (number, id)) (ids : List (ℕ × List ℕ)) (numbers : List (List ℕ × ℕ)) (groups : List (ℕ × ℕ)) (members : List ((ℕ × ℕ) × Member))
    (ids_are : ids ≡ remove_entry (is_at (nat_cmp number)) m.ids)
    (numbers_are : (other : List ℕ) → at_id other numbers ≡ cond (is_eq (slice_cmp nat_cmp other id)) None (at_id other m.numbers))
    (groups_are : (other : ℕ) → at other groups ≡ cond (is_eq (nat_cmp other number)) None (at other m.groups))
    (members_are : (other : ℕ × ℕ) → at_pair other members ≡ cond (is_eq (pair_cmp other (group, number))) None (at_pair other m.members)) where
  abbrev left : Maps
  left = record { ids = ids; numbers = numbers; groups = groups; threads = m.threads; members = members; next = m.next }

  abbrev others : ℕ × List ℕ → Bool
  others entry = not (nat_eq entry.0 number)

  pub ids_left : ids ≡ filter others m.ids
  ids_left = ids_are ∙ remove_is number m.ids are.ordered

  pub groups_left : (n : ℕ) → at n groups ≡ cond (nat_eq n number) None (at n m.groups)
  groups_left n = groups_are n ∙ ap (λ test. cond test None (at n m.groups)) (number_test n number)

  old_id : (n : ℕ) (u : List ℕ) → Contains ids (n, u) → Contains m.ids (n, u) × (n ≢ number)
  old_id n u among =
      let old = Contains_from_filter others m.ids (n, u) (subst (λ all. Contains all (n, u)) ids_left among) in
      (old.0, λ is. true≢false (sym old.1 ∙ ap not (eq-eqb n number is)))

  new_id : (n : ℕ) (u : List ℕ) → Contains m.ids (n, u) → n ≢ number → Contains ids (n, u)
  new_id n u among apart = subst (λ all. Contains all (n, u)) (sym ids_left) (Contains_filter others m.ids (n, u) among (ap not (ne_eqb n number apart)))

  groups_here : (n : ℕ) → n ≡ number → at n groups ≡ None
  groups_here n is = groups_left n ∙ ap (λ test. cond test None (at n m.groups)) (eq-eqb n number is)

  groups_other : (n : ℕ) → n ≢ number → at n groups ≡ at n m.groups
  groups_other n apart = groups_left n ∙ ap (λ test. cond test None (at n m.groups)) (ne_eqb n number apart)

  found_by : (u : List ℕ) (n : ℕ) → at_id u numbers ≡ Some n → (u ≡ id) ⊎ (u ≢ id) → Contains ids (n, u)
  found_by u n is (inl same) = absurd (none-some n (sym (numbers_are u ∙ ap (λ test. cond test None (at_id u m.numbers)) (same_id u id same)) ∙ is))
  found_by u n is (inr apart) =
      let old : at_id u m.numbers ≡ Some n = sym (numbers_are u ∙ ap (λ test. cond test None (at_id u m.numbers)) (other_id u id apart (is_eq (slice_cmp nat_cmp u id)) refl)) ∙ is in
      let among : Contains m.ids (n, u) = are.found u n old in
      new_id n u among (λ here. apart (are.once number u id (subst (λ k. Contains m.ids (k, u)) here among) id_is))

  kept_by : (u : List ℕ) (n : ℕ) → Contains ids (n, u) → at_id u numbers ≡ Some n
  kept_by u n among =
      let old = old_id n u among in
      let apart : u ≢ id = λ same. old.1 (same_Some n number (sym (are.kept u n old.0) ∙ ap (λ x. at_id x m.numbers) same ∙ are.kept id number id_is)) in
      numbers_are u ∙ ap (λ test. cond test None (at_id u m.numbers)) (other_id u id apart (is_eq (slice_cmp nat_cmp u id)) refl) ∙ are.kept u n old.0

  group_by : (n g : ℕ) → at n groups ≡ Some g → (n ≡ number) ⊎ (n ≢ number) → (n ≢ number) × (at n m.groups ≡ Some g)
  group_by n g is (inl here) = absurd (none-some g (sym (groups_here n here) ∙ is))
  group_by n g is (inr apart) = (apart, sym (groups_other n apart) ∙ is)

  members_by : (g n : ℕ) → (n ≡ number) ⊎ (n ≢ number) → (g ≡ group) ⊎ (g ≢ group) → is_some (at_pair (g, n) members) ≡ is_number g (at n groups)
  members_by g n (inl n_is) (inl g_is) =
      ap is_some (members_are (g, n) ∙ ap (λ test. cond test None (at_pair (g, n) m.members)) (same_pair g n group number g_is n_is)) ∙ sym (ap (is_number g) (groups_here n n_is))
  members_by g n (inl n_is) (inr g_not) =
      ap is_some (members_are (g, n) ∙ ap (λ test. cond test None (at_pair (g, n) m.members)) (other_first g n group number g_not))
      ∙ are.members g n ∙ ap (λ k. is_number g (at k m.groups)) n_is ∙ ap (is_number g) at_group ∙ ne_eqb g group g_not ∙ sym (ap (is_number g) (groups_here n n_is))
  members_by g n (inr n_not) g_case =
      ap is_some (members_are (g, n) ∙ ap (λ test. cond test None (at_pair (g, n) m.members)) (other_second g n group number n_not)) ∙ are.members g n ∙ ap (is_number g) (sym (groups_other n n_not))

  pub numbers_left : AreNumbers left
  numbers_left = record {
    ordered = subst (λ all. Rising (keys_of all)) (sym ids_left) (keys_filter (λ n. not (nat_eq n number)) m.ids are.ordered);
    below = λ n u among. are.below n u (old_id n u among).0;
    once = λ n a b first second. are.once n a b (old_id n a first).0 (old_id n b second).0;
    found = λ u n is. found_by u n is (cases_id u id);
    kept = kept_by;
    fresh = λ n g is. are.fresh n g (group_by n g is (cases_eq n number)).1;
    owned = λ n g is. let old = group_by n g is (cases_eq n number) in let one = are.owned n g old.1 in (one.0, new_id n one.0 one.1 old.0);
    members = λ g n. members_by g n (cases_eq n number) (cases_eq g group);
    small = are.small;
  }

-- ---- numbers go one after the other

more_gone : {A : Type 0} (x y : Bool) (a b : A) → cond x a (cond y a b) ≡ cond (y || x) a b
more_gone true true a b = refl
more_gone true false a b = refl
more_gone false true a b = refl
more_gone false false a b = refl

neither : (x y : Bool) → not (x || y) ≡ cond (not x) (not y) false
neither true y = refl
neither false y = refl

module _ (numbers : List ℕ) (i : ℕ) (lt : i < length numbers) where
  abbrev here : ℕ
  here = get_or numbers i 0

  abbrev gone : ℕ → ℕ → Bool
  gone k n = list_any (nat_eq n) (take k numbers)

  gone_more : (n : ℕ) → gone (i + 1) n ≡ (gone i n || nat_eq n here)
  gone_more n = list_any_more (nat_eq n) numbers i 0 lt

  pub ids_gone : (initial now next : List (ℕ × List ℕ)) → now ≡ filter (λ e. not (gone i e.0)) initial → next ≡ filter (λ e. not (nat_eq e.0 here)) now → next ≡ filter (λ e. not (gone (i + 1) e.0)) initial
  ids_gone initial now next so_far step =
      step
      ∙ ap (filter (λ e. not (nat_eq e.0 here))) so_far
      ∙ filter_twice (λ (e : ℕ × List ℕ). not (nat_eq e.0 here)) (λ e. not (gone i e.0)) (λ e. not (gone (i + 1) e.0)) initial (λ e. ap not (gone_more e.0) ∙ neither (gone i e.0) (nat_eq e.0 here))

  pub groups_gone : (initial now next : List (ℕ × ℕ)) → ((n : ℕ) → at n now ≡ cond (gone i n) None (at n initial)) → ((n : ℕ) → at n next ≡ cond (nat_eq n here) None (at n now)) → (n : ℕ) → at n next ≡ cond (gone (i + 1) n) None (at n initial)
  groups_gone initial now next so_far step n =
      step n ∙ ap (cond (nat_eq n here) None) (so_far n) ∙ more_gone (nat_eq n here) (gone i n) None (at n initial) ∙ ap (λ test. cond test None (at n initial)) (sym (gone_more n))

  pub group_here : (group : ℕ) (initial now : List (ℕ × ℕ)) → ((n : ℕ) → at n now ≡ cond (gone i n) None (at n initial)) → Rising numbers → ((n : ℕ) → list_any (nat_eq n) numbers ≡ is_number group (at n initial)) → at here now ≡ Some group
  group_here group initial now so_far rising are =
      so_far here ∙ ap (λ test. cond test None (at here initial)) (none_before numbers i lt rising) ∙ number_among numbers i group initial lt are

-- all of a group are removed
module _ (numbers : List ℕ) (i group : ℕ) (past : length numbers ≤ i) (initial : List (ℕ × ℕ)) (are : (n : ℕ) → list_any (nat_eq n) numbers ≡ is_number group (at n initial)) where
  all_gone : (n : ℕ) → list_any (nat_eq n) (take i numbers) ≡ is_number group (at n initial)
  all_gone n = ap (list_any (nat_eq n)) (take_all i numbers past) ∙ are n

  pub ids_all : (ids now : List (ℕ × List ℕ)) → now ≡ filter (λ e. not (list_any (nat_eq e.0) (take i numbers))) ids → now ≡ filter (λ e. not (is_number group (at e.0 initial))) ids
  ids_all ids now is = is ∙ filter_among (λ e. not (list_any (nat_eq e.0) (take i numbers))) (λ e. not (is_number group (at e.0 initial))) ids (λ e among. ap not (all_gone e.0))

  pub groups_all : (now : List (ℕ × ℕ)) → ((n : ℕ) → at n now ≡ cond (list_any (nat_eq n) (take i numbers)) None (at n initial)) → (n : ℕ) → at n now ≡ cond (is_number group (at n initial)) None (at n initial)
  groups_all now is n = is n ∙ ap (λ test. cond test None (at n initial)) (all_gone n)

-- ---- a thread is removed

stays_by : (group : ℕ) (found : Option ℕ) (test : Bool) → is_number group found ≡ test → (g : ℕ) → cond test None found ≡ Some g → (found ≡ Some g) × (g ≢ group)
stays_by group found true test g is = absurd (none-some g is)
stays_by group found false test g is = (is, λ same. true≢false (sym (ap (is_number group) is ∙ eq-eqb group g (sym same)) ∙ test))

other_name : (x y name : ℕ) → y ≢ x → cond (not (nat_eq name x)) (nat_eq name y) false ≡ nat_eq name y
other_name x y name apart = elim (cases_eq name x) [
  | inl is ↦ ap (λ test. cond (not test) (nat_eq name y) false) (eq-eqb name x is) ∙ sym (ne_eqb name y (λ same. apart (sym same ∙ is)))
  | inr not_x ↦ ap (λ test. cond (not test) (nat_eq name y) false) (ne_eqb name x not_x)
]

module _ (m mid : Maps) (are : AreMaps m) (group : ℕ) (thread : Thread) (thread_is : at group m.threads ≡ Some thread) (numbers : AreNumbers mid) (threads_mid : mid.threads ≡ m.threads) (next_mid : mid.next ≡ m.next)
    (ids_are : mid.ids ≡ filter (λ e. not (is_number group (at e.0 m.groups))) m.ids)
    (groups_are : (n : ℕ) → at n mid.groups ≡ cond (is_number group (at n m.groups)) None (at n m.groups))
    (threads : List (ℕ × Thread)) (threads_are : (g : ℕ) → at g threads ≡ cond (is_eq (nat_cmp g group)) None (at g mid.threads)) where
  abbrev pub without : Maps
  without = record { ids = mid.ids; numbers = mid.numbers; groups = mid.groups; threads = threads; members = mid.members; next = mid.next }

  abbrev keeps : ℕ × List ℕ → Bool
  keeps e = not (is_number group (at e.0 m.groups))

  group_of : (n g : ℕ) → at n mid.groups ≡ Some g → (at n m.groups ≡ Some g) × (g ≢ group)
  group_of n g is = stays_by group (at n m.groups) (is_number group (at n m.groups)) refl g (sym (groups_are n) ∙ is)

  group_kept : (n g : ℕ) → at n m.groups ≡ Some g → g ≢ group → at n mid.groups ≡ Some g
  group_kept n g is apart = groups_are n ∙ ap (λ test. cond test None (at n m.groups)) (ap (is_number group) is ∙ ne_eqb group g (λ same. apart (sym same))) ∙ is

  threads_old : (g : ℕ) → at g threads ≡ cond (is_eq (nat_cmp g group)) None (at g m.threads)
  threads_old g = threads_are g ∙ ap (λ all. cond (is_eq (nat_cmp g group)) None (at g all)) threads_mid

  thread_kept : (g : ℕ) → g ≢ group → at g threads ≡ at g m.threads
  thread_kept g apart = threads_old g ∙ ap (λ test. cond test None (at g m.threads)) (other_number g group apart)

  thread_by : (g : ℕ) (t : Thread) → at g threads ≡ Some t → (g ≡ group) ⊎ (g ≢ group) → (g ≢ group) × (at g m.threads ≡ Some t)
  thread_by g t is (inl here) = absurd (none-some t (sym (threads_old g ∙ ap (λ test. cond test None (at g m.threads)) (same_number g group here)) ∙ is))
  thread_by g t is (inr apart) = (apart, sym (thread_kept g apart) ∙ is)

  thread_of : (g : ℕ) (t : Thread) → at g threads ≡ Some t → (g ≢ group) × (at g m.threads ≡ Some t)
  thread_of g t is = thread_by g t is (cases_eq g group)

  entry_of : (e : ℕ × List ℕ) → Contains mid.ids e → Contains m.ids e × (keeps e ≡ true)
  entry_of e among = Contains_from_filter keeps m.ids e (subst (λ all. Contains all e) ids_are among)

  place_of : (e : ℕ × List ℕ) → Contains mid.ids e → (g : ℕ) × (t : Thread) × (at e.0 m.groups ≡ Some g) × (at g m.threads ≡ Some t) × (g ≢ group)
  place_of e among =
      let old = entry_of e among in
      let pair = are.grouped e.0 e.1 old.0 in
      (pair.0, pair.1, pair.2, pair.3, λ same. true≢false (sym old.1 ∙ ap not (ap (is_number group) pair.2 ∙ eq-eqb group pair.0 (sym same))))

  label_kept : (e : ℕ × List ℕ) → Contains mid.ids e → label_at without e ≡ label_at m e
  label_kept e among =
      let place = place_of e among in
      ap (λ name. record { id = e.1; number = e.0; name = name })
      (name_found without e.0 place.0 place.1 (group_kept e.0 place.0 place.2 place.4) (thread_kept place.0 place.4 ∙ place.3) ∙ sym (name_found m e.0 place.0 place.1 place.2 place.3))

  name_test : (g : ℕ) (t : Thread) → at g m.threads ≡ Some t → (group ≡ g) ⊎ (group ≢ g) → nat_eq t.name thread.name ≡ nat_eq group g
  name_test g t is (inl here) = eq-eqb t.name thread.name (ap (λ x. x.name) (same_Some t thread (sym is ∙ ap (λ k. at k m.threads) (sym here) ∙ thread_is))) ∙ sym (eq-eqb group g here)
  name_test g t is (inr apart) = ne_eqb t.name thread.name (λ same. apart (sym (are.apart g group t thread is thread_is same))) ∙ sym (ne_eqb group g apart)

  entry_test : (e : ℕ × List ℕ) → Contains m.ids e → not (nat_eq (label_at m e).name thread.name) ≡ keeps e
  entry_test e among =
      let pair = are.grouped e.0 e.1 among in
      ap not (ap (λ name. nat_eq name thread.name) (name_found m e.0 pair.0 pair.1 pair.2 pair.3) ∙ name_test pair.0 pair.1 pair.3 (cases_eq group pair.0) ∙ sym (ap (is_number group) pair.2))

  pub labels_gone : (labelling_of without).labels ≡ without_name thread.name (labelling_of m).labels
  labels_gone =
      map_among (label_at without) (label_at m) mid.ids label_kept
      ∙ ap (map (label_at m)) ids_are
      ∙ sym (filter_map_among (label_at m) (λ label. not (nat_eq label.name thread.name)) keeps m.ids entry_test)

  counted_by : (g : ℕ) (t : Thread) → at g threads ≡ Some t → t.len ≡ length (named t.name (labelling_of without).labels)
  counted_by g t is =
      let old = thread_of g t is in
      let apart : t.name ≢ thread.name = λ same. old.0 (are.apart g group t thread old.1 thread_is same) in
      are.counted g t old.1
      ∙ ap length
      (sym
      (ap (named t.name) labels_gone
      ∙ filter_twice (λ (label : Label). nat_eq label.name t.name) (λ label. not (nat_eq label.name thread.name)) (λ label. nat_eq label.name t.name) (labelling_of m).labels (λ label. sym (other_name thread.name t.name label.name apart))))

  pub maps_gone : AreMaps without
  maps_gone = record {
    ordered = numbers.ordered;
    below = numbers.below;
    once = numbers.once;
    found = numbers.found;
    kept = numbers.kept;
    grouped = λ n u among. let place = place_of (n, u) among in (place.0, place.1, group_kept n place.0 place.2 place.4, thread_kept place.0 place.4 ∙ place.3);
    fresh = numbers.fresh;
    early = λ g t is. let old = thread_of g t is in let e = are.early g t old.1 in (omega (arith, e.0, next_mid), omega (arith, e.1, next_mid));
    owned = numbers.owned;
    apart = λ g h s t first second. are.apart g h s t (thread_of g s first).1 (thread_of h t second).1;
    headed = λ g t is. let old = thread_of g t is in group_kept t.name g (are.headed g t old.1) old.0;
    counted = counted_by;
    members = numbers.members;
    small = numbers.small;
  }
