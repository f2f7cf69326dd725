-- What the maps of labels say once two groups are one. For the proof of `join`.
use Rattle.std.proofs.Common.{◌≡◌, ◌≢◌, refl, sym, ap, subst, ◌∙◌, ℕ, suc, ◌+◌, ◌<◌, ◌≤◌, Bool, true, false, cond, min, List, [], ◌∷◌, length, map, arith, inl, inr, ◌⊎◌, eq-eqb, ne_eqb, nat_eq}
use Rattle.std.specs.Prelude.{Contains, Some, None, Option}
use Rattle.std.specs.Map.{keys_of}
use Rattle.std.specs.Option.{option_and_then}
use Rattle.std.proofs.lemmas.Bool.{cases_eq}
use Rattle.std.proofs.lemmas.List.{length-map}
use Rattle.std.proofs.lemmas.List.Elements.{All-weaker, All-contains_itself}
use Rattle.std.proofs.lemmas.Map.Views.{length-le_from_below}
use Rattle.nm_base.specs.KeyLaws.{Contains_from_map}
use Rattle.std.proofs.lemmas.Option.{same_Some, none-some}
use Rattle.nm_threads.specs.Labels.{Label, named}
use Rattle.nm_threads.specs.Maps.{at, at_id, name_at, name_in, labelling_of, is_number, AreMembers, AreMaps, joined_name, relabelled}
use Rattle.nm_threads.specs.declared.maps.Maps.{Maps}
use Rattle.nm_threads.specs.declared.maps.Thread.{Thread}
use Rattle.nm_threads.proofs.FilterLemmas.{filter_yes, filter_no}
use Rattle.nm_threads.proofs.JoinLemmas.{Other, joined_of, joined_other, cases_joined, min_is}
use Rattle.nm_threads.proofs.MapLemmas.{map_among}
use Rattle.nm_threads.proofs.MemberLemmas.{is_number_from}
use Rattle.nm_threads.proofs.NumberLemmas.{label_at}
use Rattle.nm_threads.proofs.SortedLemmas.{Rising}

pub map_map : {X Y Z : Type 0} (f : Y → Z) (g : X → Y) (xs : List X) → map f (map g xs) ≡ map (λ x. f (g x)) xs
map_map f g [] = refl
map_map f g (x ∷ xs) = ap (λ more. f (g x) ∷ more) (map_map f g xs)

-- the name of a number whose group and thread are known
pub name_found : (m : Maps) (n g : ℕ) (t : Thread) → at n m.groups ≡ Some g → at g m.threads ≡ Some t → name_at m.groups m.threads n ≡ t.name
name_found m n g t n_is g_is = ap (λ found. name_in (option_and_then (λ group. at group m.threads) found)) n_is ∙ ap name_in g_is

map_itself : {X : Type 0} (f : X → X) (xs : List X) → ((x : X) → f x ≡ x) → map f xs ≡ xs
map_itself f [] itself = refl
map_itself f (x ∷ xs) itself = rw (itself x) (ap (λ more. x ∷ more) (map_itself f xs itself))

joined_itself : (x n : ℕ) → joined_name x x n ≡ n
joined_itself x n = elim (cases_joined x x n) [ inl (inl is) ↦ omega (arith, joined_of x x n (inl is), is) | inl (inr is) ↦ omega (arith, joined_of x x n (inr is), is) | inr other ↦ joined_other x x n other.not_x other.not_y ]

joined_turned : (x y n : ℕ) → joined_name x y n ≡ joined_name y x n
joined_turned x y n = elim (cases_joined x y n) [
  | inl (inl is) ↦ joined_of x y n (inl is) ∙ omega arith ∙ sym (joined_of y x n (inr is))
  | inl (inr is) ↦ joined_of x y n (inr is) ∙ omega arith ∙ sym (joined_of y x n (inl is))
  | inr other ↦ joined_other x y n other.not_x other.not_y ∙ sym (joined_other y x n other.not_y other.not_x)
]

-- a thread joined with itself stays
pub join_itself : (labels : List Label) (x y : ℕ) → x ≡ y → labels ≡ map (relabelled x y) labels
join_itself labels x y is = sym (map_itself (relabelled x y) labels (λ label. ap (λ name. record { id = label.id; number = label.number; name = name }) (ap (λ z. joined_name x z label.name) (sym is) ∙ joined_itself x label.name)))

pub join_turned : (labels : List Label) (x y : ℕ) → map (relabelled x y) labels ≡ map (relabelled y x) labels
join_turned labels x y = map_among (relabelled x y) (relabelled y x) labels (λ label among. ap (λ name. record { id = label.id; number = label.number; name = name }) (joined_turned x y label.name))

-- ---- how many labels have a name

abbrev count : ℕ → List Label → ℕ
count name labels = length (named name labels)

count_yes : (name : ℕ) (l : Label) (labels : List Label) → l.name ≡ name → count name (l ∷ labels) ≡ suc (count name labels)
count_yes name l labels is = ap length (filter_yes (λ label. nat_eq label.name name) l labels (eq-eqb l.name name is))

count_no : (name : ℕ) (l : Label) (labels : List Label) → l.name ≢ name → count name (l ∷ labels) ≡ count name labels
count_no name l labels not = ap length (filter_no (λ label. nat_eq label.name name) l labels (ne_eqb l.name name not))

both_by : (x y : ℕ) (l : Label) (labels : List Label) → x ≢ y → count x labels + count y labels ≤ length labels → (l.name ≡ x) ⊎ (l.name ≢ x) → (l.name ≡ y) ⊎ (l.name ≢ y) → count x (l ∷ labels) + count y (l ∷ labels) ≤ suc (length labels)
both_by x y l labels apart more (inl is_x) (inl is_y) = absurd (apart (sym is_x ∙ is_y))
both_by x y l labels apart more (inl is_x) (inr not_y) = omega (arith, more, count_yes x l labels is_x, count_no y l labels not_y)
both_by x y l labels apart more (inr not_x) (inl is_y) = omega (arith, more, count_no x l labels not_x, count_yes y l labels is_y)
both_by x y l labels apart more (inr not_x) (inr not_y) = omega (arith, more, count_no x l labels not_x, count_no y l labels not_y)

-- two threads have no more labels than there are
count_both : (x y : ℕ) (labels : List Label) → x ≢ y → count x labels + count y labels ≤ length labels
count_both x y [] apart = omega arith
count_both x y (l ∷ labels) apart = both_by x y l labels apart (count_both x y labels apart) (cases_eq l.name x) (cases_eq l.name y)

joined_by : (x y : ℕ) (l : Label) (labels : List Label) → x ≢ y → count (min x y) (map (relabelled x y) labels) ≡ count x labels + count y labels → ((l.name ≡ x) ⊎ (l.name ≡ y)) ⊎ Other x y l.name
    → count (min x y) (relabelled x y l ∷ map (relabelled x y) labels) ≡ count x (l ∷ labels) + count y (l ∷ labels)
joined_by x y l labels apart more (inl (inl is)) =
    omega (arith, more, count_yes (min x y) (relabelled x y l) (map (relabelled x y) labels) (joined_of x y l.name (inl is)), count_yes x l labels is, count_no y l labels (λ same. apart (sym is ∙ same)))
joined_by x y l labels apart more (inl (inr is)) =
    omega (arith, more, count_yes (min x y) (relabelled x y l) (map (relabelled x y) labels) (joined_of x y l.name (inr is)), count_no x l labels (λ same. apart (sym same ∙ is)), count_yes y l labels is)
joined_by x y l labels apart more (inr other) =
    let not : (relabelled x y l).name ≢ min x y = λ is. elim (min_is x y) [
      | inl at_x ↦ other.not_x (sym (joined_other x y l.name other.not_x other.not_y) ∙ is ∙ at_x)
      | inr at_y ↦ other.not_y (sym (joined_other x y l.name other.not_x other.not_y) ∙ is ∙ at_y)
    ] in
    omega (arith, more, count_no (min x y) (relabelled x y l) (map (relabelled x y) labels) not, count_no x l labels other.not_x, count_no y l labels other.not_y)

-- the joined thread has the labels of both
pub count_joined : (x y : ℕ) (labels : List Label) → x ≢ y → count (min x y) (map (relabelled x y) labels) ≡ count x labels + count y labels
count_joined x y [] apart = refl
count_joined x y (l ∷ labels) apart = joined_by x y l labels apart (count_joined x y labels apart) (cases_joined x y l.name)

other_by : (x y name : ℕ) (l : Label) (labels : List Label) → Other x y name → count name (map (relabelled x y) labels) ≡ count name labels → ((l.name ≡ x) ⊎ (l.name ≡ y)) ⊎ Other x y l.name → (l.name ≡ name) ⊎ (l.name ≢ name)
    → count name (relabelled x y l ∷ map (relabelled x y) labels) ≡ count name (l ∷ labels)
other_by x y name l labels apart more (inl is) here =
    let not : l.name ≢ name = λ same. elim is [ inl at_x ↦ apart.not_x (sym same ∙ at_x) | inr at_y ↦ apart.not_y (sym same ∙ at_y) ] in
    let after : (relabelled x y l).name ≢ name = λ same. elim (min_is x y) [
      | inl at_x ↦ apart.not_x (sym same ∙ joined_of x y l.name is ∙ at_x)
      | inr at_y ↦ apart.not_y (sym same ∙ joined_of x y l.name is ∙ at_y)
    ] in
    count_no name (relabelled x y l) (map (relabelled x y) labels) after ∙ more ∙ sym (count_no name l labels not)
other_by x y name l labels apart more (inr other) (inl here) =
    count_yes name (relabelled x y l) (map (relabelled x y) labels) (joined_other x y l.name other.not_x other.not_y ∙ here) ∙ ap suc more ∙ sym (count_yes name l labels here)
other_by x y name l labels apart more (inr other) (inr not) =
    count_no name (relabelled x y l) (map (relabelled x y) labels) (λ same. not (sym (joined_other x y l.name other.not_x other.not_y) ∙ same)) ∙ more ∙ sym (count_no name l labels not)

-- another thread has as many as before
pub count_other : (x y name : ℕ) (labels : List Label) → Other x y name → count name (map (relabelled x y) labels) ≡ count name labels
count_other x y name [] apart = refl
count_other x y name (l ∷ labels) apart = other_by x y name l labels apart (count_other x y name labels apart) (cases_joined x y l.name) (cases_eq l.name name)

module _ (m new : Maps) (are : AreMaps m) (from to : ℕ) (one two thread : Thread) (one_is : at from m.threads ≡ Some one) (two_is : at to m.threads ≡ Some two) (apart : from ≢ to) (name_is : thread.name ≡ min one.name two.name) (len_is : thread.len ≡ one.len + two.len)
    (ids_are : new.ids ≡ m.ids) (numbers_are : new.numbers ≡ m.numbers) (next_is : new.next ≡ m.next) (members : AreMembers new.members new.groups)
    (groups_are : (n : ℕ) → at n new.groups ≡ cond (is_number from (at n m.groups)) (Some to) (at n m.groups))
    (threads_are : (g : ℕ) → at g new.threads ≡ cond (nat_eq g to) (Some thread) (cond (nat_eq g from) None (at g m.threads))) where
  threads_to : at to new.threads ≡ Some thread
  threads_to = threads_are to ∙ ap (λ test. cond test (Some thread) (cond (nat_eq to from) None (at to m.threads))) (eq-eqb to to refl)

  threads_from : at from new.threads ≡ None
  threads_from =
      threads_are from
      ∙ ap (λ test. cond test (Some thread) (cond (nat_eq from from) None (at from m.threads))) (ne_eqb from to apart)
      ∙ ap (λ test. cond test None (at from m.threads)) (eq-eqb from from refl)

  threads_other : (g : ℕ) → g ≢ from → g ≢ to → at g new.threads ≡ at g m.threads
  threads_other g not_from not_to =
      threads_are g
      ∙ ap (λ test. cond test (Some thread) (cond (nat_eq g from) None (at g m.threads))) (ne_eqb g to not_to)
      ∙ ap (λ test. cond test None (at g m.threads)) (ne_eqb g from not_from)

  groups_from : (n : ℕ) → at n m.groups ≡ Some from → at n new.groups ≡ Some to
  groups_from n is = groups_are n ∙ ap (λ test. cond test (Some to) (at n m.groups)) (ap (is_number from) is ∙ eq-eqb from from refl)

  groups_other : (n g : ℕ) → at n m.groups ≡ Some g → g ≢ from → at n new.groups ≡ Some g
  groups_other n g is not = groups_are n ∙ ap (λ test. cond test (Some to) (at n m.groups)) (ap (is_number from) is ∙ ne_eqb from g (λ same. not (sym same))) ∙ is

  old_id : (n : ℕ) (u : List ℕ) → Contains new.ids (n, u) → Contains m.ids (n, u)
  old_id n u among = subst (λ all. Contains all (n, u)) ids_are among

  grouped_by : (n g : ℕ) (t : Thread) → at n m.groups ≡ Some g → at g m.threads ≡ Some t → (g ≡ from) ⊎ (g ≢ from) → (g ≡ to) ⊎ (g ≢ to) → (group : ℕ) × (thread : Thread) × (at n new.groups ≡ Some group) × (at group new.threads ≡ Some thread)
  grouped_by n g t n_is g_is (inl at_from) at_to = (to, thread, groups_from n (n_is ∙ ap Some at_from), threads_to)
  grouped_by n g t n_is g_is (inr not_from) (inl at_to) = (to, thread, groups_other n g n_is not_from ∙ ap Some at_to, threads_to)
  grouped_by n g t n_is g_is (inr not_from) (inr not_to) = (g, t, groups_other n g n_is not_from, threads_other g not_from not_to ∙ g_is)

  fresh_by : (n g : ℕ) (found : Option ℕ) → at n m.groups ≡ found → (test : Bool) → is_number from found ≡ test → cond test (Some to) found ≡ Some g → n < m.next
  fresh_by n g found is true test at_g = are.fresh n from (is ∙ is_number_from from found test)
  fresh_by n g found is false test at_g = are.fresh n g (is ∙ at_g)

  early_by : (g : ℕ) (t : Thread) → at g new.threads ≡ Some t → (g ≡ from) ⊎ (g ≢ from) → (g ≡ to) ⊎ (g ≢ to) → (g < m.next) × (t.name < m.next)
  early_by g t is (inl at_from) at_to = absurd (none-some t (sym threads_from ∙ ap (λ k. at k new.threads) (sym at_from) ∙ is))
  early_by g t is (inr not_from) (inl at_to) =
      let same : thread ≡ t = same_Some thread t (sym threads_to ∙ ap (λ k. at k new.threads) (sym at_to) ∙ is) in
      let first : one.name < m.next = (are.early from one one_is).1 in
      let second : two.name < m.next = (are.early to two two_is).1 in
      let here : to < m.next = (are.early to two two_is).0 in (omega (arith, at_to, here), omega (arith, ap (λ x. x.name) same, name_is, first, second))
  early_by g t is (inr not_from) (inr not_to) = are.early g t (sym (threads_other g not_from not_to) ∙ is)

  -- no other group has the joined name
  alone : (h : ℕ) (t : Thread) → at h m.threads ≡ Some t → h ≢ from → h ≢ to → thread.name ≡ t.name → ⊥
  alone h t h_is not_from not_to same = elim (min_is one.name two.name) [
    | inl first ↦ not_from (are.apart h from t one h_is one_is (sym same ∙ name_is ∙ first))
    | inr second ↦ not_to (are.apart h to t two h_is two_is (sym same ∙ name_is ∙ second))
  ]

  apart_by : (g h : ℕ) (s t : Thread) → at g new.threads ≡ Some s → at h new.threads ≡ Some t → s.name ≡ t.name → (g ≡ from) ⊎ (g ≢ from) → (g ≡ to) ⊎ (g ≢ to) → (h ≡ from) ⊎ (h ≢ from) → (h ≡ to) ⊎ (h ≢ to) → g ≡ h
  apart_by g h s t g_is h_is names (inl at_from) g_to h_from h_to = absurd (none-some s (sym threads_from ∙ ap (λ k. at k new.threads) (sym at_from) ∙ g_is))
  apart_by g h s t g_is h_is names (inr g_from) g_to (inl at_from) h_to = absurd (none-some t (sym threads_from ∙ ap (λ k. at k new.threads) (sym at_from) ∙ h_is))
  apart_by g h s t g_is h_is names (inr g_from) (inl g_to) (inr h_from) (inl h_to) = g_to ∙ sym h_to
  apart_by g h s t g_is h_is names (inr g_from) (inl g_to) (inr h_from) (inr h_to) =
      let same : thread ≡ s = same_Some thread s (sym threads_to ∙ ap (λ k. at k new.threads) (sym g_to) ∙ g_is) in
      absurd (alone h t (sym (threads_other h h_from h_to) ∙ h_is) h_from h_to (ap (λ x. x.name) same ∙ names))
  apart_by g h s t g_is h_is names (inr g_from) (inr g_to) (inr h_from) (inl h_to) =
      let same : thread ≡ t = same_Some thread t (sym threads_to ∙ ap (λ k. at k new.threads) (sym h_to) ∙ h_is) in
      absurd (alone g s (sym (threads_other g g_from g_to) ∙ g_is) g_from g_to (ap (λ x. x.name) same ∙ sym names))
  apart_by g h s t g_is h_is names (inr g_from) (inr g_to) (inr h_from) (inr h_to) = are.apart g h s t (sym (threads_other g g_from g_to) ∙ g_is) (sym (threads_other h h_from h_to) ∙ h_is) names

  name_by : (n g : ℕ) (t : Thread) → at n m.groups ≡ Some g → at g m.threads ≡ Some t → (g ≡ from) ⊎ (g ≢ from) → (g ≡ to) ⊎ (g ≢ to) → name_at new.groups new.threads n ≡ joined_name one.name two.name t.name
  name_by n g t n_is g_is (inl at_from) g_to =
      let same : one ≡ t = same_Some one t (sym one_is ∙ ap (λ k. at k m.threads) (sym at_from) ∙ g_is) in
      name_found new n to thread (groups_from n (n_is ∙ ap Some at_from)) threads_to ∙ name_is ∙ sym (joined_of one.name two.name t.name (inl (ap (λ x. x.name) (sym same))))
  name_by n g t n_is g_is (inr not_from) (inl at_to) =
      let same : two ≡ t = same_Some two t (sym two_is ∙ ap (λ k. at k m.threads) (sym at_to) ∙ g_is) in
      name_found new n to thread (groups_other n g n_is not_from ∙ ap Some at_to) threads_to ∙ name_is ∙ sym (joined_of one.name two.name t.name (inr (ap (λ x. x.name) (sym same))))
  name_by n g t n_is g_is (inr not_from) (inr not_to) =
      name_found new n g t (groups_other n g n_is not_from) (threads_other g not_from not_to ∙ g_is)
      ∙ sym (joined_other one.name two.name t.name (λ is. not_from (are.apart g from t one g_is one_is is)) (λ is. not_to (are.apart g to t two g_is two_is is)))

  label_joined : (entry : ℕ × List ℕ) → Contains m.ids entry → label_at new entry ≡ relabelled one.name two.name (label_at m entry)
  label_joined entry among =
      let pair = are.grouped entry.0 entry.1 among in
      ap (λ name. record { id = entry.1; number = entry.0; name = name })
      (name_by entry.0 pair.0 pair.1 pair.2 pair.3 (cases_eq pair.0 from) (cases_eq pair.0 to) ∙ ap (joined_name one.name two.name) (sym (name_found m entry.0 pair.0 pair.1 pair.2 pair.3)))

  pub labels_joined : (labelling_of new).labels ≡ map (relabelled one.name two.name) (labelling_of m).labels
  labels_joined =
      ap (map (label_at new)) ids_are ∙ map_among (label_at new) (λ entry. relabelled one.name two.name (label_at m entry)) m.ids label_joined ∙ sym (map_map (relabelled one.name two.name) (label_at m) m.ids)

  owned_by : (n g : ℕ) (found : Option ℕ) → at n m.groups ≡ found → (test : Bool) → is_number from found ≡ test → cond test (Some to) found ≡ Some g → (u : List ℕ) × Contains new.ids (n, u)
  owned_by n g found is true test at_g = let old = are.owned n from (is ∙ is_number_from from found test) in (old.0, subst (λ all. Contains all (n, old.0)) (sym ids_are) old.1)
  owned_by n g found is false test at_g = let old = are.owned n g (is ∙ at_g) in (old.0, subst (λ all. Contains all (n, old.0)) (sym ids_are) old.1)

  headed_by : (g : ℕ) (t : Thread) → at g new.threads ≡ Some t → (g ≡ from) ⊎ (g ≢ from) → (g ≡ to) ⊎ (g ≢ to) → at t.name new.groups ≡ Some g
  headed_by g t is (inl at_from) at_to = absurd (none-some t (sym threads_from ∙ ap (λ k. at k new.threads) (sym at_from) ∙ is))
  headed_by g t is (inr not_from) (inl at_to) =
      let same : thread ≡ t = same_Some thread t (sym threads_to ∙ ap (λ k. at k new.threads) (sym at_to) ∙ is) in
      ap (λ k. at k new.groups) (ap (λ x. x.name) (sym same) ∙ name_is)
      ∙ elim (min_is one.name two.name) [
        | inl first ↦ ap (λ k. at k new.groups) first ∙ groups_from one.name (are.headed from one one_is)
        | inr second ↦ ap (λ k. at k new.groups) second ∙ groups_other two.name to (are.headed to two two_is) (λ here. apart (sym here))
      ]
      ∙ ap Some (sym at_to)
  headed_by g t is (inr not_from) (inr not_to) = groups_other t.name g (are.headed g t (sym (threads_other g not_from not_to) ∙ is)) not_from

  names_apart : one.name ≢ two.name
  names_apart = λ is. apart (are.apart from to one two one_is two_is is)

  counted_by : (g : ℕ) (t : Thread) → at g new.threads ≡ Some t → (g ≡ from) ⊎ (g ≢ from) → (g ≡ to) ⊎ (g ≢ to) → t.len ≡ length (named t.name (labelling_of new).labels)
  counted_by g t is (inl at_from) at_to = absurd (none-some t (sym threads_from ∙ ap (λ k. at k new.threads) (sym at_from) ∙ is))
  counted_by g t is (inr not_from) (inl at_to) =
      let same : thread ≡ t = same_Some thread t (sym threads_to ∙ ap (λ k. at k new.threads) (sym at_to) ∙ is) in
      ap (λ x. x.len) (sym same)
      ∙ len_is
      ∙ omega (arith, are.counted from one one_is, are.counted to two two_is, count_joined one.name two.name (labelling_of m).labels names_apart)
      ∙ ap (count (min one.name two.name)) (sym labels_joined)
      ∙ ap (λ name. count name (labelling_of new).labels) (sym name_is ∙ ap (λ x. x.name) same)
  counted_by g t is (inr not_from) (inr not_to) =
      let old : at g m.threads ≡ Some t = sym (threads_other g not_from not_to) ∙ is in
      let other : Other one.name two.name t.name = record { not_x = λ same. not_from (are.apart g from t one old one_is same); not_y = λ same. not_to (are.apart g to t two old two_is same) } in
      are.counted g t old ∙ sym (count_other one.name two.name t.name (labelling_of m).labels other) ∙ ap (count t.name) (sym labels_joined)

  pub maps_joined : AreMaps new
  maps_joined = record {
    ordered = subst (λ all. Rising (keys_of all)) (sym ids_are) are.ordered;
    owned = λ n g is. owned_by n g (at n m.groups) refl (is_number from (at n m.groups)) refl (sym (groups_are n) ∙ is);
    headed = λ g t is. headed_by g t is (cases_eq g from) (cases_eq g to);
    counted = λ g t is. counted_by g t is (cases_eq g from) (cases_eq g to);
    below = λ n u among. let b = are.below n u (old_id n u among) in (b.0, omega (arith, b.1, next_is));
    once = λ n a b first second. are.once n a b (old_id n a first) (old_id n b second);
    found = λ u n is. subst (λ all. Contains all (n, u)) (sym ids_are) (are.found u n (subst (λ all. at_id u all ≡ Some n) numbers_are is));
    kept = λ u n among. subst (λ all. at_id u all ≡ Some n) (sym numbers_are) (are.kept u n (old_id n u among));
    grouped = λ n u among. let pair = are.grouped n u (old_id n u among) in grouped_by n pair.0 pair.1 pair.2 pair.3 (cases_eq pair.0 from) (cases_eq pair.0 to);
    fresh = λ n g is. omega (arith, next_is, fresh_by n g (at n m.groups) refl (is_number from (at n m.groups)) refl (sym (groups_are n) ∙ is));
    early = λ g t is. let e = early_by g t is (cases_eq g from) (cases_eq g to) in (omega (arith, e.0, next_is), omega (arith, e.1, next_is));
    apart = λ g h s t g_is h_is names. apart_by g h s t g_is h_is names (cases_eq g from) (cases_eq g to) (cases_eq h from) (cases_eq h to);
    members = members;
    small = (omega (arith, are.small.0, next_is), omega (arith, are.small.1, next_is));
  }

-- ---- room for how many ids a thread has

ids_le : (m : Maps) → AreMaps m → length m.ids ≤ m.next
ids_le m are =
    let keys : length (keys_of m.ids) ≤ m.next =
    length-le_from_below m.next (keys_of m.ids) are.ordered (All-weaker (Contains (keys_of m.ids)) (λ k. k < m.next) (λ n among. let e = Contains_from_map (λ e. e.0) m.ids n among in subst (λ k. k < m.next) e.2 (are.below e.0.0 e.0.1 e.1).1) (keys_of m.ids) (All-contains_itself (keys_of m.ids))) in
    omega (arith, keys, length-map m.ids (λ e. e.0))

-- two threads together have no more ids than there are numbers
pub lens_le : (m : Maps) → AreMaps m → (g h : ℕ) (s t : Thread) → at g m.threads ≡ Some s → at h m.threads ≡ Some t → g ≢ h → s.len + t.len ≤ m.next
lens_le m are g h s t g_is h_is apart =
    omega (arith, are.counted g s g_is, are.counted h t h_is, count_both s.name t.name (labelling_of m).labels (λ is. apart (are.apart g h s t g_is h_is is)), length-map m.ids (label_at m), ids_le m are)
