-- The ids of a thread, read from the maps.
-- For the proofs of `merge`, `Labels::members`, `Labels::thread_of` and others.
use Rattle.std.proofs.Common.{◌≡◌, ◌≢◌, refl, sym, ap, subst, ◌∙◌, ℕ, Bool, true, false, List, [], ◌∷◌, length, map, ◌+◌, ◌<◌, ◌++◌, take, get_or, arith, eq-eqb, ne_eqb, nat_eq}
use Rattle.std.specs.Prelude.{Contains, Some, None, Option}
use Rattle.std.specs.List.{filter, filter_map, list_any, cons_option, AllByRecursion, IsDistinct}
use Rattle.std.specs.Option.{is_some}
use Rattle.std.proofs.lemmas.Bool.{eqb-true}
use Rattle.std.proofs.lemmas.List.{length-map, take_more}
use Rattle.std.proofs.lemmas.List.Elements.{filter_map-append}
use Rattle.std.proofs.lemmas.Map.Keys.{IsDistinct-cons}
use Rattle.nm_base.specs.Order.{same_text}
use Rattle.nm_threads.specs.Labels.{Label, named}
use Rattle.nm_threads.specs.Maps.{at, at_pair, labelling_of, is_number, AreMaps}
use Rattle.nm_threads.specs.declared.maps.Maps.{Maps}
use Rattle.nm_threads.specs.declared.maps.Thread.{Thread}
use Rattle.nm_threads.proofs.FilterLemmas.{Contains_filter, Contains_from_filter, filter_none, filter_yes, filter_no}
use Rattle.nm_base.specs.KeyLaws.{any_one, any_of, same_text_from, Contains_there, Contains_first, Contains_map, Contains_from_map}
use Rattle.nm_threads.proofs.MemberLemmas.{is_number_from}
use Rattle.nm_threads.proofs.MergeLemmas.{map_map, name_found}
use Rattle.nm_threads.proofs.NumberLemmas.{label_at, label_of, label_from}
use Rattle.nm_threads.proofs.RowLemmas.{maps_labelling}
use Rattle.nm_threads.proofs.SortedLemmas.{Rising, rising_none, rising_from, rising_more, rising_same, first_below, at_from, at_not_none}

abbrev pub number_of : Label → ℕ
number_of label = label.number

-- ---- labels by rising number

filter_by : (p : Label → Bool) (x : Label) (xs : List Label) (test : Bool) → p x ≡ test → Rising (number_of x ∷ map number_of xs) → Rising (map number_of (filter p xs)) → Rising (map number_of (filter p (x ∷ xs)))
filter_by p x xs true is rising more =
    subst (λ all. Rising (map number_of all)) (sym (filter_yes p x xs is))
    (rising_from x.number (map number_of (filter p xs))
    (λ n among.
    let a = Contains_from_map number_of (filter p xs) n among in
    subst (λ k. x.number < k) a.2 (first_below x.number (map number_of xs) rising a.0.number (Contains_map number_of xs a.0 (Contains_from_filter p xs a.0 a.1).0)))
    more)
filter_by p x xs false is rising more = subst (λ all. Rising (map number_of all)) (sym (filter_no p x xs is)) more

pub rising_filter : (p : Label → Bool) (xs : List Label) → Rising (map number_of xs) → Rising (map number_of (filter p xs))
rising_filter p [] rising = rising_none
rising_filter p (x ∷ xs) rising = filter_by p x xs (p x) refl rising (rising_filter p xs (rising_more x.number (map number_of xs) rising))

apart_by : (x a : Label) → x.number < a.number → (x.id ≡ a.id → x ≡ a) → (test : Bool) → same_text x.id a.id ≡ test → test ≡ false
apart_by x a below one true is = absurd (omega (arith, below, ap number_of (one (same_text_from x.id a.id is))))
apart_by x a below one false is = refl

all_apart : (x : Label) (xs : List Label) → ((a : Label) → Contains xs a → same_text x.id a.id ≡ false) → AllByRecursion (λ id. same_text x.id id ≡ false) (map (λ label. label.id) xs)
all_apart x [] apart = tt
all_apart x (a ∷ xs) apart = (apart a (Contains_first a xs), all_apart x xs (λ b among. apart b (Contains_there a xs b among)))

pub none_twice : IsDistinct same_text []
unfolding IsDistinct
none_twice = tt

-- no id occurs twice
pub distinct_ids : (xs : List Label) → Rising (map number_of xs) → ((a b : Label) → Contains xs a → Contains xs b → a.id ≡ b.id → a ≡ b) → IsDistinct same_text (map (λ label. label.id) xs)
distinct_ids [] rising one = none_twice
distinct_ids (x ∷ xs) rising one =
    IsDistinct-cons same_text x.id (map (λ label. label.id) xs)
    (all_apart x xs
    (λ a among.
    apart_by x a (first_below x.number (map number_of xs) rising a.number (Contains_map number_of xs a among)) (one x a (Contains_first x xs) (Contains_there x xs a among)) (same_text x.id a.id) refl))
    (distinct_ids xs (rising_more x.number (map number_of xs) rising) (λ a b first second. one a b (Contains_there x xs a first) (Contains_there x xs b second)))

pub maps_rise : (m : Maps) → AreMaps m → Rising (map number_of (labelling_of m).labels)
maps_rise m are = subst Rising (sym (map_map number_of (label_at m) m.ids)) are.ordered

-- ---- the numbers of a group are those of the labels of its thread

at_by : (m : Maps) → AreMaps m → (n : ℕ) (id : List ℕ) → Contains m.ids (n, id) → (found : Option (List ℕ)) → at n m.ids ≡ found → found ≡ Some id
at_by m are n id among None is = absurd (at_not_none n m.ids id among is)
at_by m are n id among (Some u) is = ap Some (are.once n u id (at_from n m.ids u is) among)

ids_of_labels : (ids : List (ℕ × List ℕ)) (xs : List Label) → ((a : Label) → Contains xs a → at a.number ids ≡ Some a.id) → filter_map (λ n. at n ids) (map number_of xs) ≡ map (λ label. label.id) xs
ids_of_labels ids [] found = refl
ids_of_labels ids (x ∷ xs) found =
    ap (λ one. cons_option one (filter_map (λ n. at n ids) (map number_of xs))) (found x (Contains_first x xs)) ∙ ap (λ all. x.id ∷ all) (ids_of_labels ids xs (λ a among. found a (Contains_there x xs a among)))

module _ (m : Maps) (are : AreMaps m) (group : ℕ) (thread : Thread) (thread_is : at group m.threads ≡ Some thread) (numbers : List ℕ) (rising : Rising numbers) (all : (n : ℕ) → list_any (nat_eq n) numbers ≡ is_some (at_pair (group, n) m.members)) where
  abbrev test : Label → Bool
  test label = nat_eq label.name thread.name

  abbrev of_thread : List Label
  of_thread = named thread.name (labelling_of m).labels

  in_thread : (n : ℕ) → at n m.groups ≡ Some group → Contains (map number_of of_thread) n
  in_thread n is =
      let one = are.owned n group is in
      let name : (label_at m (n, one.0)).name ≡ thread.name = name_found m n group thread is thread_is in
      Contains_map number_of of_thread (label_at m (n, one.0)) (Contains_filter test (labelling_of m).labels (label_at m (n, one.0)) (label_of m n one.0 one.1) (eq-eqb (label_at m (n, one.0)).name thread.name name))

  from_thread : (n : ℕ) → Contains (map number_of of_thread) n → at n m.groups ≡ Some group
  from_thread n among =
      let a = Contains_from_map number_of of_thread n among in
      let old = Contains_from_filter test (labelling_of m).labels a.0 a.1 in
      let from = label_from m a.0 old.0 in
      let pair = are.grouped a.0.number a.0.id from.0 in
      let name : pair.1.name ≡ thread.name = sym (name_found m a.0.number pair.0 pair.1 pair.2 pair.3) ∙ ap (λ label. label.name) from.1 ∙ eqb-true a.0.name thread.name old.1 in
      ap (λ k. at k m.groups) (sym a.2) ∙ pair.2 ∙ ap Some (are.apart pair.0 group pair.1 thread pair.3 thread_is name)

  member_is : (n : ℕ) → list_any (nat_eq n) numbers ≡ is_number group (at n m.groups)
  member_is n = all n ∙ are.members group n

  numbers_are : numbers ≡ map number_of of_thread
  numbers_are =
      rising_same numbers (map number_of of_thread) rising (rising_filter test (labelling_of m).labels (maps_rise m are))
      (λ n among. in_thread n (is_number_from group (at n m.groups) (sym (member_is n) ∙ any_of (nat_eq n) numbers n among (eq-eqb n n refl))))
      (λ n among. let one = any_one (nat_eq n) numbers (member_is n ∙ ap (is_number group) (from_thread n among) ∙ eq-eqb group group refl) in subst (Contains numbers) (sym (eqb-true n one.0 one.2)) one.1)

  pub ids_found : filter_map (λ n. at n m.ids) numbers ≡ map (λ label. label.id) of_thread
  ids_found =
      ap (filter_map (λ n. at n m.ids)) numbers_are
      ∙ ids_of_labels m.ids of_thread (λ a among. let from = label_from m a (Contains_from_filter test (labelling_of m).labels a among).0 in at_by m are a.number a.id from.0 (at a.number m.ids) refl)

  pub len_found : length numbers ≡ length of_thread
  len_found = ap length numbers_are ∙ length-map of_thread number_of

pub none_named : (name : ℕ) (labels : List Label) → ((a : Label) → Contains labels a → a.name ≢ name) → [] ≡ named name labels
none_named name labels apart = sym (filter_none (λ label. nat_eq label.name name) labels (λ a among. ne_eqb a.name name (apart a among)))

pub distinct_named : (m : Maps) → AreMaps m → (name : ℕ) → IsDistinct same_text (map (λ label. label.id) (named name (labelling_of m).labels))
distinct_named m are name =
    let test : Label → Bool = λ label. nat_eq label.name name in
    distinct_ids (named name (labelling_of m).labels) (rising_filter test (labelling_of m).labels (maps_rise m are))
    (λ a b first second. (maps_labelling m are).ids a b (Contains_from_filter test (labelling_of m).labels a first).0 (Contains_from_filter test (labelling_of m).labels b second).0)

-- one number more is looked up
pub found_more : (ids : List (ℕ × List ℕ)) (numbers : List ℕ) (i : ℕ) → i < length numbers → (found : List (List ℕ)) → found ≡ filter_map (λ n. at n ids) (take i numbers) → (one : Option (List ℕ)) → at (get_or numbers i 0) ids ≡ one
    → found ++ cons_option one [] ≡ filter_map (λ n. at n ids) (take (i + 1) numbers)
found_more ids numbers i lt found so_far one is =
    ap (λ front. front ++ cons_option one []) so_far
    ∙ ap (λ last. filter_map (λ n. at n ids) (take i numbers) ++ cons_option last []) (sym is)
    ∙ sym (ap (filter_map (λ n. at n ids)) (take_more numbers i 0 lt) ∙ filter_map-append (λ n. at n ids) (take i numbers) (get_or numbers i 0 ∷ []))
