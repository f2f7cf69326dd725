-- What the labels say once a row has one link more, and once the whole row has come.
-- For the proofs of `names_of`, `Labels::drop_dead`, `Labels::drop_thread` and others.
use Rattle.std.proofs.Common.{◌≡◌, refl, sym, ap, subst, ◌∙◌, ℕ, ◌+◌, ◌<◌, ◌≤◌, Bool, true, false, cond, List, [], ◌∷◌, ◌++◌, map, take, drop, length, get_or, arith, inl, inr, true≢false}
use Rattle.std.specs.Prelude.{Contains, Some}
use Rattle.std.proofs.lemmas.List.{map_push, take-append-drop, drop_more, take_more, take_all, append-nil, length-append}
use Rattle.std.proofs.lemmas.List.Concat.{flat_map-append}
use Rattle.std.specs.List.{flat_map}
use Rattle.std.specs.List.Sorted.{IsStrictlySortedBy}
use Rattle.std.specs.Ordering.{nat_cmp}
use Rattle.nm_threads.specs.Same.{ids_of}
use Rattle.nm_threads.proofs.OrderLemmas.{labels_among}
use Rattle.nm_base.specs.KeyLaws.{Contains_cases, Contains_first, Contains_there}
use Rattle.std.proofs.lemmas.List.Elements.{Contains-push, Contains-append_left, Contains-append_right, Contains-append_cases, Contains-push_cases}
use Rattle.std.proofs.lemmas.Option.{same_Some}
use Rattle.nm_base.specs.declared.facts.LinkRow.{LinkRow}
use Rattle.nm_threads.specs.Fits.{Fits, Links}
use Rattle.nm_threads.specs.Labels.{Label, Labelling, entries_of, has_entry, numbered, AreLabelsOf, IsLabelling}
use Rattle.nm_threads.specs.Maps.{at, at_id, labelling_of, AreMaps, given, relabelled}
use Rattle.nm_threads.specs.declared.maps.Maps.{Maps}
use Rattle.nm_threads.specs.declared.maps.Thread.{Thread}
use Rattle.nm_threads.proofs.LabelLemmas.{has_of, has_from, fits_new, fits_names, names_fits, fits_single}
use Rattle.nm_threads.proofs.JoinLemmas.{fits_join}
use Rattle.nm_threads.proofs.MergeLemmas.{map_map, name_found}
use Rattle.nm_threads.proofs.NumberLemmas.{label_at, label_of, label_from}

-- ---- numbers

abbrev pub Entries : Type 0
Entries = List (List ℕ × ℕ)

module _ (entries : Entries) (next : ℕ) (id : List ℕ) (more : List (List ℕ)) where
  -- what comes once the first id has its number
  abbrev after : Bool → Entries × ℕ
  after true = numbered entries next more
  after false = numbered (entries ++ (id, next) ∷ []) (next + 1) more

  numbered_first : (test : Bool) → has_entry entries id ≡ test → numbered entries next (id ∷ more) ≡ after test
  numbered_first true is = ap (λ test. cond test (numbered entries next more) (numbered (entries ++ (id, next) ∷ []) (next + 1) more)) is
  numbered_first false is = ap (λ test. cond test (numbered entries next more) (numbered (entries ++ (id, next) ∷ []) (next + 1) more)) is

after_le : (entries : Entries) (next : ℕ) (id : List ℕ) (more : List (List ℕ)) → ((e : Entries) (n : ℕ) → n ≤ (numbered e n more).1) → (test : Bool) → next ≤ (after entries next id more test).1
after_le entries next id more le true = le entries next
after_le entries next id more le false = omega (arith, le (entries ++ (id, next) ∷ []) (next + 1))

pub numbered_le : (ids : List (List ℕ)) (entries : Entries) (next : ℕ) → next ≤ (numbered entries next ids).1
numbered_le [] entries next = omega arith
numbered_le (id ∷ more) entries next = subst (λ all. next ≤ all.1) (sym (numbered_first entries next id more (has_entry entries id) refl)) (after_le entries next id more (numbered_le more) (has_entry entries id))

after_most : (entries : Entries) (next : ℕ) (id : List ℕ) (more : List (List ℕ)) → ((e : Entries) (n : ℕ) → (numbered e n more).1 ≤ n + length more) → (test : Bool) → (after entries next id more test).1 ≤ next + length (id ∷ more)
after_most entries next id more le true = omega (arith, le entries next)
after_most entries next id more le false = omega (arith, le (entries ++ (id, next) ∷ []) (next + 1))

pub numbered_most : (ids : List (List ℕ)) (entries : Entries) (next : ℕ) → (numbered entries next ids).1 ≤ next + length ids
numbered_most [] entries next = omega arith
numbered_most (id ∷ more) entries next =
    subst (λ all. all.1 ≤ next + length (id ∷ more)) (sym (numbered_first entries next id more (has_entry entries id) refl)) (after_most entries next id more (numbered_most more) (has_entry entries id))

-- an id without a number finds one, where there is room for all
pub room_first : (entries : Entries) (next : ℕ) (id : List ℕ) (more : List (List ℕ)) (most : ℕ) → (numbered entries next (id ∷ more)).1 ≤ most → has_entry entries id ≡ false → next < most
room_first entries next id more most le none = omega (arith, le, ap (λ all. all.1) (numbered_first entries next id more false none), numbered_le more (entries ++ (id, next) ∷ []) (next + 1))

append_by : (entries : Entries) (next : ℕ) (id : List ℕ) (more ys : List (List ℕ)) → ((e : Entries) (n : ℕ) → numbered e n (more ++ ys) ≡ numbered (numbered e n more).0 (numbered e n more).1 ys) → (test : Bool)
    → after entries next id (more ++ ys) test ≡ numbered (after entries next id more test).0 (after entries next id more test).1 ys
append_by entries next id more ys is true = is entries next
append_by entries next id more ys is false = is (entries ++ (id, next) ∷ []) (next + 1)

pub numbered_append : (xs ys : List (List ℕ)) (entries : Entries) (next : ℕ) → numbered entries next (xs ++ ys) ≡ numbered (numbered entries next xs).0 (numbered entries next xs).1 ys
numbered_append [] ys entries next = refl
numbered_append (id ∷ more) ys entries next =
    numbered_first entries next id (more ++ ys) (has_entry entries id) refl
    ∙ append_by entries next id more ys (numbered_append more ys) (has_entry entries id)
    ∙ ap (λ all. numbered all.0 all.1 ys) (sym (numbered_first entries next id more (has_entry entries id) refl))

module _ (l : Labelling) (id : List ℕ) where
  abbrev grown : Labelling
  grown = record { labels = l.labels ++ (record { id = id; number = l.next; name = l.next }) ∷ []; next = l.next + 1 }

  abbrev pub either : Bool → Labelling
  either true = l
  either false = grown

  pub given_is : (test : Bool) → has_entry (entries_of l.labels) id ≡ test → given l id ≡ either test
  given_is true is = ap (λ test. cond test l grown) is
  given_is false is = ap (λ test. cond test l grown) is

  numbered_by : (test : Bool) → ◌≡◌ {A = Entries × ℕ} (entries_of (either test).labels, (either test).next) (after (entries_of l.labels) l.next id [] test)
  numbered_by true = refl
  numbered_by false = ap (λ entries. (entries, l.next + 1)) (map_push (λ (label : Label). (label.id, label.number)) l.labels (record { id = id; number = l.next; name = l.next }))

  -- the entries are those that the definition numbers
  pub given_numbered : ◌≡◌ {A = Entries × ℕ} (entries_of (given l id).labels, (given l id).next) (numbered (entries_of l.labels) l.next (id ∷ []))
  given_numbered =
      ap (λ all. (entries_of all.labels, all.next)) (given_is (has_entry (entries_of l.labels) id) refl)
      ∙ numbered_by (has_entry (entries_of l.labels) id)
      ∙ sym (numbered_first (entries_of l.labels) l.next id [] (has_entry (entries_of l.labels) id) refl)

-- ---- a new number keeps what fits

module _ (m : Maps) (are : AreMaps m) (rows : List LinkRow) (id : List ℕ) (fits : Fits rows (labelling_of m).labels) where
  below : (a : Label) → Contains (labelling_of m).labels a → a.number < m.next
  below a among = (are.below a.number a.id (label_from m a among).0).1

  fits_by : (test : Bool) → has_entry (entries_of (labelling_of m).labels) id ≡ test → Fits rows (either (labelling_of m) id test).labels
  fits_by true has = fits
  fits_by false none = fits_new rows (labelling_of m).labels fits id m.next below (λ a among is. true≢false (sym (has_of (labelling_of m).labels id a among is) ∙ none))

  pub fits_given : Fits rows (given (labelling_of m) id).labels
  fits_given =
      subst (λ l. Fits rows l.labels) (sym (given_is (labelling_of m) id (has_entry (entries_of (labelling_of m).labels) id) refl)) (fits_by (has_entry (entries_of (labelling_of m).labels) id) refl)

given_has_by : (l : Labelling) (id : List ℕ) (test : Bool) → has_entry (entries_of l.labels) id ≡ test → (a : Label) × Contains (either l id test).labels a × (a.id ≡ id)
given_has_by l id true has = has_from l.labels id has
given_has_by l id false none = (record { id = id; number = l.next; name = l.next }, Contains-push l.labels (record { id = id; number = l.next; name = l.next }), refl)

pub given_has : (l : Labelling) (id : List ℕ) → (a : Label) × Contains (given l id).labels a × (a.id ≡ id)
given_has l id =
    let one = given_has_by l id (has_entry (entries_of l.labels) id) refl in (one.0, subst (λ all. Contains all.labels one.0) (sym (given_is l id (has_entry (entries_of l.labels) id) refl)) one.1, one.2)

-- ---- the maps are labels of their own

pub maps_labelling : (m : Maps) → AreMaps m → IsLabelling (labelling_of m)
maps_labelling m are = record {
  rising = subst (IsStrictlySortedBy nat_cmp) (sym (map_map (λ label. label.number) (label_at m) m.ids)) are.ordered;
  ids = λ a b first second is.
      let p = label_from m a first in
      let q = label_from m b second in
      let same : a.number ≡ b.number = same_Some a.number b.number (sym (are.kept a.id a.number p.0) ∙ ap (λ id. at_id id m.numbers) is ∙ are.kept b.id b.number q.0) in
      sym p.1 ∙ ap (λ n. label_at m (n, a.id)) same ∙ ap (λ id. label_at m (b.number, id)) is ∙ q.1;
  numbers = λ a b first second is.
      let p = label_from m a first in
      let q = label_from m b second in
      let same : a.id ≡ b.id = are.once a.number a.id b.id p.0 (subst (λ n. Contains m.ids (n, b.id)) (sym is) q.0) in
      sym p.1 ∙ ap (λ n. label_at m (n, a.id)) is ∙ ap (λ id. label_at m (b.number, id)) same ∙ q.1;
  below = λ a among. are.below a.number a.id (label_from m a among).0;
}

-- ---- one link

module _ (old mid new : Maps) (are : AreMaps old) (own link : List ℕ) (mid_is : labelling_of mid ≡ given (labelling_of old) link)
    (m n g h : ℕ) (s t : Thread) (own_in : Contains mid.ids (m, own)) (own_group : at m mid.groups ≡ Some g) (own_thread : at g mid.threads ≡ Some s)
    (link_in : Contains mid.ids (n, link)) (link_group : at n mid.groups ≡ Some h) (link_thread : at h mid.threads ≡ Some t)
    (next_is : new.next ≡ mid.next) (labels_are : (labelling_of new).labels ≡ map (relabelled s.name t.name) (labelling_of mid).labels) where
  own_label : Contains (labelling_of mid).labels (record { id = own; number = m; name = s.name })
  own_label = subst (λ name. Contains (labelling_of mid).labels (record { id = own; number = m; name = name })) (name_found mid m g s own_group own_thread) (label_of mid m own own_in)

  link_label : Contains (labelling_of mid).labels (record { id = link; number = n; name = t.name })
  link_label = subst (λ name. Contains (labelling_of mid).labels (record { id = link; number = n; name = name })) (name_found mid n h t link_group link_thread) (label_of mid n link link_in)

  pub link_is : Links (labelling_of old) (labelling_of new) own link
  link_is = record {
    entries = ap entries_of labels_are ∙ map_map (λ (label : Label). (label.id, label.number)) (relabelled s.name t.name) (labelling_of mid).labels ∙ ap (λ l. entries_of l.labels) mid_is;
    next = next_is ∙ ap (λ l. l.next) mid_is;
    fits = λ rows links fits.
        let here : Fits ((record { id = own; links = links }) ∷ rows) (labelling_of mid).labels = subst (λ l. Fits ((record { id = own; links = links }) ∷ rows) l.labels) (sym mid_is) (fits_given old are ((record { id = own; links = links }) ∷ rows) link fits) in
        subst (Fits ((record { id = own; links = links ++ link ∷ [] }) ∷ rows)) (sym labels_are)
        (fits_join rows own links link (labelling_of mid).labels here (record { id = own; number = m; name = s.name }) (record { id = link; number = n; name = t.name }) own_label link_label refl refl);
  }

-- ---- a whole row

abbrev pub Numbers : Maps → Maps → List (List ℕ) → Type 0
Numbers old now ids = ◌≡◌ {A = Entries × ℕ} (entries_of (labelling_of now).labels, now.next) (numbered (entries_of (labelling_of old).labels) old.next ids)

module _ (old now : Maps) (id : List ℕ) (items : List (List ℕ)) where
  pub row_numbers : labelling_of now ≡ given (labelling_of old) id → Numbers old now (id ∷ take 0 items)
  row_numbers is = ap (λ l. (entries_of l.labels, l.next)) is ∙ given_numbered (labelling_of old) id

  pub row_labels : AreMaps old → labelling_of now ≡ given (labelling_of old) id → (rows : List LinkRow) → AreLabelsOf rows (labelling_of old).labels → Fits ((record { id = id; links = take 0 items }) ∷ rows) (labelling_of now).labels
  row_labels are is rows labels =
      let fits : Fits rows (labelling_of old).labels = names_fits rows (labelling_of old).labels old.next (maps_labelling old are) labels in
      let one = given_has (labelling_of old) id in
      subst (λ l. Fits ((record { id = id; links = [] }) ∷ rows) l.labels) (sym is) (fits_single rows (given (labelling_of old) id).labels id one.0 (fits_given old are rows id fits) one.1 one.2)

  module _ (i : ℕ) (lt : i < length items) (item : List ℕ) (item_is : get_or items i item ≡ item) where
    whole : id ∷ items ≡ (id ∷ take i items) ++ item ∷ drop (i + 1) items
    whole = ap (λ all. id ∷ all) (sym (take-append-drop i items) ∙ ap (λ back. take i items ++ back) (drop_more items i item lt ∙ ap (λ x. x ∷ drop (i + 1) items) item_is))

    more_items : id ∷ take (i + 1) items ≡ (id ∷ take i items) ++ item ∷ []
    more_items = ap (λ all. id ∷ all) (take_more items i item lt ∙ ap (λ x. take i items ++ x ∷ []) item_is)

    pub row_room : (most : ℕ) → (numbered (entries_of (labelling_of old).labels) old.next (id ∷ items)).1 ≤ most → Numbers old now (id ∷ take i items) → has_entry (entries_of (labelling_of now).labels) item ≡ false → now.next < most
    row_room most le so_far none =
        let e : Entries = entries_of (labelling_of old).labels in
        let rest : numbered e old.next (id ∷ items) ≡ numbered (entries_of (labelling_of now).labels) now.next (item ∷ drop (i + 1) items) =
        ap (numbered e old.next) whole ∙ numbered_append (id ∷ take i items) (item ∷ drop (i + 1) items) e old.next ∙ ap (λ all. numbered all.0 all.1 (item ∷ drop (i + 1) items)) (sym so_far) in
        room_first (entries_of (labelling_of now).labels) now.next item (drop (i + 1) items) most (subst (λ all. all.1 ≤ most) rest le) none

    module _ (next : Maps) (links : Links (labelling_of now) (labelling_of next) id item) where
      pub more_numbers : Numbers old now (id ∷ take i items) → Numbers old next (id ∷ take (i + 1) items)
      more_numbers so_far =
          let e : Entries = entries_of (labelling_of old).labels in
          ap (λ entries. (entries, next.next)) links.entries
          ∙ ap (λ n. (entries_of (given (labelling_of now) item).labels, n)) links.next
          ∙ given_numbered (labelling_of now) item
          ∙ ap (λ all. numbered all.0 all.1 (item ∷ [])) so_far
          ∙ sym (numbered_append (id ∷ take i items) (item ∷ []) e old.next)
          ∙ ap (numbered e old.next) (sym more_items)

      pub more_labels : (rows : List LinkRow) → Fits ((record { id = id; links = take i items }) ∷ rows) (labelling_of now).labels → Fits ((record { id = id; links = take (i + 1) items }) ∷ rows) (labelling_of next).labels
      more_labels rows fits = subst (λ ids. Fits ((record { id = id; links = ids }) ∷ rows) (labelling_of next).labels) (sym (take_more items i item lt ∙ ap (λ x. take i items ++ x ∷ []) item_is)) (links.fits rows (take i items) fits)

pub row_ends : (rows : List LinkRow) (row : LinkRow) (labels : List Label) (items : List (List ℕ)) (i : ℕ) → items ≡ row.links → length items ≤ i → Fits ((record { id = row.id; links = take i items }) ∷ rows) labels → AreLabelsOf (row ∷ rows) labels
row_ends rows row labels items i items_are past fits = fits_names (row ∷ rows) labels (subst (λ links. Fits ((record { id = row.id; links = links }) ∷ rows) labels) (take_all i items past ∙ items_are) fits)

-- ---- rows one after the other

-- labels of the rows so far, beside others
abbrev pub LabelsSoFar : Maps → Maps → List LinkRow → Type 0
LabelsSoFar old now rows = (others : List LinkRow) → AreLabelsOf others (labelling_of old).labels → AreLabelsOf (rows ++ others) (labelling_of now).labels

module _ (old now next : Maps) (rows : List LinkRow) (i : ℕ) (lt : i < length rows) (row : LinkRow) (row_is : get_or rows i row ≡ row) where
  ids_whole : flat_map ids_of rows ≡ flat_map ids_of (take i rows) ++ (ids_of row ++ flat_map ids_of (drop (i + 1) rows))
  ids_whole =
      ap (flat_map ids_of) (sym (take-append-drop i rows) ∙ ap (λ back. take i rows ++ back) (drop_more rows i row lt ∙ ap (λ x. x ∷ drop (i + 1) rows) row_is))
      ∙ flat_map-append ids_of (take i rows) (row ∷ drop (i + 1) rows)

  rows_more : take (i + 1) rows ≡ take i rows ++ row ∷ []
  rows_more = take_more rows i row lt ∙ ap (λ x. take i rows ++ x ∷ []) row_is

  ids_more : flat_map ids_of (take (i + 1) rows) ≡ flat_map ids_of (take i rows) ++ ids_of row
  ids_more = ap (flat_map ids_of) rows_more ∙ flat_map-append ids_of (take i rows) (row ∷ []) ∙ ap (λ back. flat_map ids_of (take i rows) ++ back) (append-nil (ids_of row))

  pub len_more : length (flat_map ids_of (take (i + 1) rows)) ≡ length (flat_map ids_of (take i rows)) + length (ids_of row)
  len_more = ap length ids_more ∙ length-append (flat_map ids_of (take i rows)) (ids_of row)

  pub rows_room : (most : ℕ) → (numbered (entries_of (labelling_of old).labels) old.next (flat_map ids_of rows)).1 ≤ most → Numbers old now (flat_map ids_of (take i rows)) → (numbered (entries_of (labelling_of now).labels) now.next (ids_of row)).1 ≤ most
  rows_room most le so_far =
      let e : Entries = entries_of (labelling_of old).labels in
      let d : Entries = entries_of (labelling_of now).labels in
      let rest : List (List ℕ) = flat_map ids_of (drop (i + 1) rows) in
      let all : numbered e old.next (flat_map ids_of rows) ≡ numbered (numbered d now.next (ids_of row)).0 (numbered d now.next (ids_of row)).1 rest =
      ap (numbered e old.next) ids_whole ∙ numbered_append (flat_map ids_of (take i rows)) (ids_of row ++ rest) e old.next ∙ ap (λ part. numbered part.0 part.1 (ids_of row ++ rest)) (sym so_far) ∙ numbered_append (ids_of row) rest d now.next in
      omega (arith, le, ap (λ part. part.1) all, numbered_le rest (numbered d now.next (ids_of row)).0 (numbered d now.next (ids_of row)).1)

  pub rows_numbers : Numbers old now (flat_map ids_of (take i rows)) → Numbers now next (ids_of row) → Numbers old next (flat_map ids_of (take (i + 1) rows))
  rows_numbers so_far step =
      step
      ∙ ap (λ part. numbered part.0 part.1 (ids_of row)) so_far
      ∙ sym (numbered_append (flat_map ids_of (take i rows)) (ids_of row) (entries_of (labelling_of old).labels) old.next)
      ∙ ap (numbered (entries_of (labelling_of old).labels) old.next) (sym ids_more)

  moved_there : (others : List LinkRow) (x : LinkRow) → Contains (row ∷ (take i rows ++ others)) x → Contains ((take i rows ++ row ∷ []) ++ others) x
  moved_there others x among = elim (Contains_cases row (take i rows ++ others) x among) [
    | inl here ↦ Contains-append_left (take i rows ++ row ∷ []) others x (subst (Contains (take i rows ++ row ∷ [])) here (Contains-push (take i rows) row))
    | inr there ↦
        elim (Contains-append_cases (take i rows) others x there) [
          | inl before ↦ Contains-append_left (take i rows ++ row ∷ []) others x (Contains-append_left (take i rows) (row ∷ []) x before)
          | inr other ↦ Contains-append_right (take i rows ++ row ∷ []) others x other
        ]
  ]

  moved_back : (others : List LinkRow) (x : LinkRow) → Contains ((take i rows ++ row ∷ []) ++ others) x → Contains (row ∷ (take i rows ++ others)) x
  moved_back others x among = elim (Contains-append_cases (take i rows ++ row ∷ []) others x among) [
    | inl front ↦
        elim (Contains-push_cases (take i rows) row x front) [
          | inl before ↦ Contains_there row (take i rows ++ others) x (Contains-append_left (take i rows) others x before)
          | inr here ↦ subst (Contains (row ∷ (take i rows ++ others))) here (Contains_first row (take i rows ++ others))
        ]
    | inr other ↦ Contains_there row (take i rows ++ others) x (Contains-append_right (take i rows) others x other)
  ]

  pub rows_labels : LabelsSoFar old now (take i rows) → ((all : List LinkRow) → AreLabelsOf all (labelling_of now).labels → AreLabelsOf (row ∷ all) (labelling_of next).labels) → LabelsSoFar old next (take (i + 1) rows)
  rows_labels so_far step = λ others are.
      subst (λ front. AreLabelsOf (front ++ others) (labelling_of next).labels) (sym rows_more)
      (labels_among (row ∷ (take i rows ++ others)) ((take i rows ++ row ∷ []) ++ others) (moved_there others) (moved_back others) (labelling_of next).labels (step (take i rows ++ others) (so_far others are)))
