-- The threads that have one of some ids, and what is left once the others are removed.
-- For the proofs of `names_of`, `remove_dead` and `Labels::drop_dead`.
use Rattle.std.proofs.Common.{◌≡◌, refl, sym, ap, subst, ◌∙◌, ℕ, ◌+◌, ◌<◌, ◌≤◌, Bool, true, false, cond, not, ◌&&◌, ◌||◌, List, [], ◌∷◌, length, map, take, get_or, inl, inr, eq-eqb, nat_eq}
use Rattle.std.specs.Prelude.{Contains, Some}
use Rattle.std.specs.List.{filter, list_any}
use Rattle.std.specs.Option.{is_some}
use Rattle.std.specs.Ordering.{nat_cmp, is_eq}
use Rattle.std.proofs.lemmas.Bool.{eqb-true, and_parts, and_from}
use Rattle.std.proofs.lemmas.List.{take_all}
use Rattle.std.proofs.lemmas.List.Folds.{list_any_more}
use Rattle.nm_base.specs.Order.{same_text}
use Rattle.nm_base.specs.declared.facts.LinkRow.{LinkRow}
use Rattle.nm_threads.specs.Fits.{Fits}
use Rattle.nm_threads.specs.Labels.{Label, entries_of, has_entry, held_labels, is_named, without_name}
use Rattle.nm_threads.specs.Maps.{at, labelling_of, AreMaps}
use Rattle.nm_threads.specs.Same.{Same, is_held, is_same}
use Rattle.nm_threads.specs.declared.maps.Maps.{Maps}
use Rattle.nm_threads.specs.declared.maps.Member.{Member}
use Rattle.nm_threads.specs.declared.maps.Thread.{Thread}
use Rattle.nm_threads.proofs.FilterLemmas.{Contains_filter, Contains_from_filter, filter_among, filter_twice}
use Rattle.nm_threads.proofs.LabelLemmas.{has_of}
use Rattle.nm_base.specs.KeyLaws.{any_one, any_of, same_text_from, same_text_of, Contains_map}
use Rattle.nm_threads.proofs.MemberLemmas.{number_test}
use Rattle.nm_threads.proofs.MergeLemmas.{name_found}
use Rattle.nm_threads.proofs.NameLemmas.{alike}
use Rattle.nm_threads.proofs.NumberLemmas.{label_from}
use Rattle.nm_threads.proofs.SameLemmas.{Same_known, is_same_of, is_same_from, is_same_through, is_same_turned}
use Rattle.nm_threads.proofs.SortedLemmas.{at_from}

-- ---- the threads of ids

module _ (labels : List Label) (name : ℕ) where
  -- an id with a label is of the thread that the label names, and of no other
  pub named_is : (a : Label) → Contains labels a → ((b : Label) → Contains labels b → a.id ≡ b.id → a ≡ b) → (id : List ℕ) → a.id ≡ id → is_named labels name id ≡ nat_eq name a.name
  named_is a among one id is =
      alike (is_named labels name id) (nat_eq name a.name)
      (λ has.
      let b = any_one (λ label. same_text id label.id && nat_eq label.name name) labels has in
      let parts = and_parts (same_text id b.0.id) (nat_eq b.0.name name) b.2 in
      eq-eqb name a.name (sym (eqb-true b.0.name name parts.1) ∙ ap (λ label. label.name) (sym (one b.0 b.1 (is ∙ same_text_from id b.0.id parts.0)))))
      (λ same. any_of (λ label. same_text id label.id && nat_eq label.name name) labels a among (and_from (same_text id a.id) (nat_eq a.name name) (ap (same_text id) is ∙ same_text_of id) (eq-eqb a.name name (sym (eqb-true name a.name same)))))

  not_by : (id : List ℕ) → has_entry (entries_of labels) id ≡ false → (test : Bool) → is_named labels name id ≡ test → test ≡ false
  not_by id none true is =
      let b = any_one (λ label. same_text id label.id && nat_eq label.name name) labels is in
      sym (has_of labels id b.0 b.1 (sym (same_text_from id b.0.id (and_parts (same_text id b.0.id) (nat_eq b.0.name name) b.2).0))) ∙ none
  not_by id none false is = refl

  pub not_named : (id : List ℕ) → has_entry (entries_of labels) id ≡ false → is_named labels name id ≡ false
  not_named id none = not_by id none (is_named labels name id) refl

with_by : (x y : Bool) (found : List (ℕ × Member)) (n : ℕ) (member : Member) → is_some (at n found) ≡ y → is_some (cond x (Some member) (at n found)) ≡ (y || x)
with_by true true found n member is = refl
with_by true false found n member is = refl
with_by false true found n member is = is
with_by false false found n member is = is

or_false : (x y : Bool) → y ≡ false → x ≡ (x || y)
or_false true y is = refl
or_false false y is = sym is

module _ (labels : List Label) (ids : List (List ℕ)) (i : ℕ) (lt : i < length ids) (id : List ℕ) (id_is : get_or ids i id ≡ id) where
  abbrev so_far : ℕ → ℕ → Bool
  so_far k name = list_any (is_named labels name) (take k ids)

  one_more : (name : ℕ) → so_far (i + 1) name ≡ (so_far i name || is_named labels name id)
  one_more name = list_any_more (is_named labels name) ids i id lt ∙ ap (λ x. so_far i name || is_named labels name x) id_is

  pub named_more : (names after : List (ℕ × Member)) (member : Member) (a : Label) → Contains labels a → ((b : Label) → Contains labels b → a.id ≡ b.id → a ≡ b) → a.id ≡ id
      → ((name : ℕ) → at name after ≡ cond (is_eq (nat_cmp name a.name)) (Some member) (at name names)) → ((name : ℕ) → is_some (at name names) ≡ so_far i name) → (name : ℕ) → is_some (at name after) ≡ so_far (i + 1) name
  named_more names after member a among one is after_are before name =
      ap is_some (after_are name)
      ∙ with_by (is_eq (nat_cmp name a.name)) (so_far i name) names name member (before name)
      ∙ ap (λ test. so_far i name || test) (number_test name a.name ∙ sym (named_is labels name a among one id is))
      ∙ sym (one_more name)

  pub named_same : (names : List (ℕ × Member)) → has_entry (entries_of labels) id ≡ false → ((name : ℕ) → is_some (at name names) ≡ so_far i name) → (name : ℕ) → is_some (at name names) ≡ so_far (i + 1) name
  named_same names none before name = before name ∙ or_false (so_far i name) (is_named labels name id) (not_named labels name id none) ∙ sym (one_more name)

-- ---- the other threads go

neither : (x y : Bool) → not (x || y) ≡ cond (not x) (not y) false
neither true y = refl
neither false y = refl

pub labels_more : (dead : List ℕ) (i : ℕ) → i < length dead → (initial now next : List Label) → now ≡ filter (λ label. not (list_any (nat_eq label.name) (take i dead))) initial → next ≡ without_name (get_or dead i 0) now
    → next ≡ filter (λ label. not (list_any (nat_eq label.name) (take (i + 1) dead))) initial
labels_more dead i lt initial now next so_far step =
    step
    ∙ ap (without_name (get_or dead i 0)) so_far
    ∙ filter_twice (λ (label : Label). not (nat_eq label.name (get_or dead i 0))) (λ label. not (list_any (nat_eq label.name) (take i dead))) (λ label. not (list_any (nat_eq label.name) (take (i + 1) dead))) initial
    (λ label. ap not (list_any_more (nat_eq label.name) dead i 0 lt) ∙ neither (list_any (nat_eq label.name) (take i dead)) (nat_eq label.name (get_or dead i 0)))

any_filter : (p : ℕ → Bool) (names : List ℕ) (n : ℕ) → Contains names n → list_any (nat_eq n) (filter p names) ≡ p n
any_filter p names n among =
    alike (list_any (nat_eq n) (filter p names)) (p n) (λ is. let one = any_one (nat_eq n) (filter p names) is in ap p (eqb-true n one.0 one.2) ∙ (Contains_from_filter p names one.0 one.1).1)
    (λ is. any_of (nat_eq n) (filter p names) n (Contains_filter p names n among is) (eq-eqb n n refl))

not_not : (x : Bool) → not (not x) ≡ x
not_not true = refl
not_not false = refl

module _ (m : Maps) (are : AreMaps m) (live : List (List ℕ)) (held : List (ℕ × Member)) (held_are : (name : ℕ) → is_some (at name held) ≡ list_any (is_named (labelling_of m).labels name) live)
    (dead : List ℕ) (dead_are : dead ≡ filter (λ name. not (is_some (at name held))) (map (λ entry. entry.1.name) m.threads)) where
  abbrev names : List ℕ
  names = map (λ entry. entry.1.name) m.threads

  name_among : (a : Label) → Contains (labelling_of m).labels a → Contains names a.name
  name_among a among =
      let from = label_from m a among in
      let pair = are.grouped a.number a.id from.0 in
      subst (Contains names) (sym (name_found m a.number pair.0 pair.1 pair.2 pair.3) ∙ ap (λ label. label.name) from.1) (Contains_map (λ (entry : ℕ × Thread). entry.1.name) m.threads (pair.0, pair.1) (at_from pair.0 m.threads pair.1 pair.3))

  label_test : (a : Label) → Contains (labelling_of m).labels a → not (list_any (nat_eq a.name) dead) ≡ list_any (is_named (labelling_of m).labels a.name) live
  label_test a among =
      ap not (ap (list_any (nat_eq a.name)) dead_are ∙ any_filter (λ name. not (is_some (at name held))) names a.name (name_among a among)) ∙ not_not (is_some (at a.name held)) ∙ held_are a.name

  pub labels_held : (i : ℕ) → length dead ≤ i → (now : List Label) → now ≡ filter (λ label. not (list_any (nat_eq label.name) (take i dead))) (labelling_of m).labels → now ≡ held_labels live (labelling_of m).labels
  labels_held i past now is =
      is
      ∙ filter_among (λ label. not (list_any (nat_eq label.name) (take i dead))) (λ label. list_any (is_named (labelling_of m).labels label.name) live) (labelling_of m).labels
      (λ a among. ap (λ all. not (list_any (nat_eq a.name) all)) (take_all i dead past) ∙ label_test a among)

-- ---- in terms of rows

any_agree : {X : Type 0} (p q : X → Bool) (xs : List X) → ((x : X) → p x ≡ q x) → list_any p xs ≡ list_any q xs
any_agree p q [] agree = refl
any_agree p q (x ∷ xs) agree = ap (λ test. test || list_any p xs) (agree x) ∙ ap (λ rest. q x || rest) (any_agree p q xs agree)

module _ (rows : List LinkRow) (live : List (List ℕ)) where
  pub held_respects : (a b : List ℕ) → Same rows a b → is_held rows live a ≡ is_held rows live b
  held_respects a b same =
      any_agree (is_same rows a) (is_same rows b) live
      (λ u. alike (is_same rows a u) (is_same rows b u) (λ is. is_same_through rows b a u (is_same_turned rows a b (is_same_of rows a b same)) is) (λ is. is_same_through rows a b u (is_same_of rows a b same) is))

  module _ (labels : List Label) (fits : Fits rows labels) where
    label_of : (a : Label) → Contains labels a → (u : List ℕ) → is_same rows a.id u ≡ true → (b : Label) × Contains labels b × (b.id ≡ u)
    label_of a among u is = elim (Same_known rows a.id u (is_same_from rows a.id u is)) [ inl here ↦ (a, among, here) | inr known ↦ fits.known u known ]

    one_test : (a : Label) → Contains labels a → (u : List ℕ) → is_named labels a.name u ≡ is_same rows a.id u
    one_test a among u =
        alike (is_named labels a.name u) (is_same rows a.id u)
        (λ has.
        let b = any_one (λ label. same_text u label.id && nat_eq label.name a.name) labels has in
        let parts = and_parts (same_text u b.0.id) (nat_eq b.0.name a.name) b.2 in
        subst (λ x. is_same rows a.id x ≡ true) (sym (same_text_from u b.0.id parts.0)) (is_same_of rows a.id b.0.id ((fits.alike a b.0 among b.1).0 (sym (eqb-true b.0.name a.name parts.1)))))
        (λ is.
        let b = label_of a among u is in
        any_of (λ label. same_text u label.id && nat_eq label.name a.name) labels b.0 b.1
        (and_from (same_text u b.0.id) (nat_eq b.0.name a.name) (ap (same_text u) b.2 ∙ same_text_of u)
        (eq-eqb b.0.name a.name (sym ((fits.alike a b.0 among b.1).1 (subst (Same rows a.id) (sym b.2) (is_same_from rows a.id u is)))))))

    pub held_are : held_labels live labels ≡ filter (λ label. is_held rows live label.id) labels
    held_are = filter_among (λ label. list_any (is_named labels label.name) live) (λ label. is_held rows live label.id) labels (λ a among. any_agree (is_named labels a.name) (is_same rows a.id) live (one_test a among))
