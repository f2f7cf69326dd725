-- What keeps labels those of their rows: a new id, a row of one id, two threads joined.
-- For the proofs of `Labels::drop_dead`, `Labels::name_of`, `Labels::thread_of` and others.
use Rattle.std.proofs.Common.{◌≡◌, ◌≢◌, refl, sym, ap, subst, ◌∙◌, ℕ, ◌<◌, ◌≤◌, true, false, List, [], ◌∷◌, ◌++◌, arith, inl, inr, ◌⊎◌, true≢false}
use Rattle.std.specs.Prelude.{Contains, Option, Some, None}
use Rattle.std.proofs.lemmas.Bool.{or_cases}
use Rattle.std.proofs.lemmas.List.Elements.{Contains-push, Contains-append_left, Contains-push_cases}
use Rattle.std.proofs.lemmas.Option.{same_Some}
use Rattle.nm_base.specs.Order.{has_text, same_text}
use Rattle.nm_base.specs.declared.facts.LinkRow.{LinkRow}
use Rattle.nm_threads.specs.Same.{ids_of, Same}
use Rattle.nm_threads.specs.Name.{thread_name, AreDistinct}
use Rattle.nm_threads.specs.Labels.{Label, entries_of, has_entry, is_in_rows, AreLabelsOf, IsLabelling}
use Rattle.nm_threads.specs.Fits.{Fits}
use Rattle.nm_base.specs.KeyLaws.{same_text_from, same_text_of, any_one, any_of, Contains_map, Contains_from_map}
use Rattle.nm_threads.proofs.NameLemmas.{name_one, name_le, name_some, one_name}
use Rattle.nm_threads.proofs.SameLemmas.{Same_itself, Same_turned, Same_through, Same_more, Same_row, Same_known}

-- ---- labels and entries

pub entry_of : (labels : List Label) (a : Label) → Contains labels a → Contains (entries_of labels) (a.id, a.number)
entry_of labels a among = Contains_map (λ label. (label.id, label.number)) labels a among

pub entry_from : (labels : List Label) (id : List ℕ) (n : ℕ) → Contains (entries_of labels) (id, n) → (a : Label) × Contains labels a × (a.id ≡ id) × (a.number ≡ n)
entry_from labels id n among = let one = Contains_from_map (λ label. (label.id, label.number)) labels (id, n) among in (one.0, one.1, ap (λ e. e.0) one.2, ap (λ e. e.1) one.2)

pub has_of : (labels : List Label) (id : List ℕ) (a : Label) → Contains labels a → a.id ≡ id → has_entry (entries_of labels) id ≡ true
has_of labels id a among is = any_of (λ entry. same_text id entry.0) (entries_of labels) (a.id, a.number) (entry_of labels a among) (ap (same_text id) is ∙ same_text_of id)

pub has_from : (labels : List Label) (id : List ℕ) → has_entry (entries_of labels) id ≡ true → (a : Label) × Contains labels a × (a.id ≡ id)
has_from labels id has =
    let one = any_one (λ entry. same_text id entry.0) (entries_of labels) has in
    let label = entry_from labels one.0.0 one.0.1 one.1 in
    (label.0, label.1, label.2 ∙ sym (same_text_from id one.0.0 one.2))

-- ---- the same, by names alone

module _ (rows : List LinkRow) (labels : List Label) where
  name_by : (fits : Fits rows labels) (a : Label) → Contains labels a → (x : ℕ) → thread_name rows (entries_of labels) a.id ≡ Some x → x ≡ a.name
  name_by fits a among x is =
      let one = name_one rows (entries_of labels) a.id x is in
      let d = entry_from labels one.0 x one.1 in
      let own = fits.owner a among in
      let same_d : a.name ≡ d.0.name = (fits.alike a d.0 among d.1).1 (subst (Same rows a.id) (sym d.2) one.2) in
      let same_c : Same rows a.id own.0.id = (fits.alike a own.0 among own.1).0 (sym own.3) in
      let above : x ≤ own.0.number = name_le rows (entries_of labels) a.id own.0.id x own.0.number is (entry_of labels own.0 own.1) same_c in
      let low : d.0.name ≤ d.0.number = fits.low d.0 d.1 in
      let number : d.0.number ≡ x = d.3 in
      let at : own.0.number ≡ a.name = own.2 in
      omega arith

  pub fits_names : Fits rows labels → AreLabelsOf rows labels
  fits_names fits = record {
    known = λ id is. let a = fits.known id is in has_of labels id a.0 a.1 a.2;
    names = λ a among. let name = name_some rows (entries_of labels) a.id a.id a.number (entry_of labels a among) (Same_itself rows a.id) in name.1 ∙ ap Some (name_by fits a among name.0 name.1);
  }

  module _ (next : ℕ) (is : IsLabelling (record { labels = labels; next = next })) where
    distinct : AreDistinct (entries_of labels)
    distinct = λ a b n first second.
        let x = entry_from labels a n first in
        let y = entry_from labels b n second in
        sym x.2 ∙ ap (λ label. label.id) (is.numbers x.0 y.0 x.1 y.1 (x.3 ∙ sym y.3)) ∙ y.2

    alike_by : AreLabelsOf rows labels → (a b : Label) → Contains labels a → Contains labels b → (a.name ≡ b.name → Same rows a.id b.id) × (Same rows a.id b.id → a.name ≡ b.name)
    alike_by are a b first second =
        let one = one_name rows (entries_of labels) a.id b.id a.number b.number distinct (entry_of labels a first) (entry_of labels b second) in (
          λ equal. one.0 (are.names a first ∙ ap Some equal ∙ sym (are.names b second)),
          λ same. same_Some a.name b.name (sym (are.names a first) ∙ one.1 same ∙ are.names b second),
        )

    pub names_fits : AreLabelsOf rows labels → Fits rows labels
    names_fits are = record {
      known = λ id has. has_from labels id (are.known id has);
      alike = alike_by are;
      low = λ a among. name_le rows (entries_of labels) a.id a.id a.name a.number (are.names a among) (entry_of labels a among) (Same_itself rows a.id);
      owner = λ a among.
          let one = name_one rows (entries_of labels) a.id a.name (are.names a among) in
          let c = entry_from labels one.0 a.name one.1 in (c.0, c.1, c.3, sym ((alike_by are a c.0 among c.1).1 (subst (Same rows a.id) (sym c.2) one.2)));
    }

-- ---- a new id

module _ (rows : List LinkRow) (labels : List Label) (fits : Fits rows labels) (id : List ℕ) (next : ℕ) (below : (a : Label) → Contains labels a → a.number < next) (absent : (a : Label) → Contains labels a → a.id ≢ id) where
  abbrev new : Label
  new = record { id = id; number = next; name = next }

  apart : (a : Label) → Contains labels a → a.name ≢ next
  apart a among is = omega (arith, fits.low a among, below a among, is)

  stranger : (a : Label) → Contains labels a → Same rows a.id id → ⊥
  stranger a among same = elim (Same_known rows a.id id same) [ inl here ↦ absent a among here | inr known ↦ let b = fits.known id known in absent b.0 b.1 b.2 ]

  new_alike : (a b : Label) → Contains labels a ⊎ (new ≡ a) → Contains labels b ⊎ (new ≡ b) → (a.name ≡ b.name → Same rows a.id b.id) × (Same rows a.id b.id → a.name ≡ b.name)
  new_alike a b (inl first) (inl second) = fits.alike a b first second
  new_alike a b (inl first) (inr second) = (
    λ equal. absurd (apart a first (equal ∙ sym (ap (λ label. label.name) second))),
    λ same. absurd (stranger a first (subst (Same rows a.id) (sym (ap (λ label. label.id) second)) same)),
  )
  new_alike a b (inr first) (inl second) = (
    λ equal. absurd (apart b second (sym equal ∙ sym (ap (λ label. label.name) first))),
    λ same. absurd (stranger b second (Same_turned rows id b.id (subst (λ x. Same rows x b.id) (sym (ap (λ label. label.id) first)) same))),
  )
  new_alike a b (inr first) (inr second) = (λ equal. subst (Same rows a.id) (sym (ap (λ label. label.id) first) ∙ ap (λ label. label.id) second) (Same_itself rows a.id), λ same. sym (ap (λ label. label.name) first) ∙ ap (λ label. label.name) second)

  pub fits_new : Fits rows (labels ++ new ∷ [])
  fits_new = record {
    known = λ u is. let a = fits.known u is in (a.0, Contains-append_left labels (new ∷ []) a.0 a.1, a.2);
    alike = λ a b first second. new_alike a b (Contains-push_cases labels new a first) (Contains-push_cases labels new b second);
    low = λ a among. elim (Contains-push_cases labels new a among) [ inl old ↦ fits.low a old | inr here ↦ omega (arith, ap (λ label. label.name) here, ap (λ label. label.number) here) ];
    owner = λ a among. elim (Contains-push_cases labels new a among) [
      | inl old ↦ let c = fits.owner a old in (c.0, Contains-append_left labels (new ∷ []) c.0 c.1, c.2, c.3)
      | inr here ↦ (new, Contains-push labels new, ap (λ label. label.name) here, ap (λ label. label.name) here)
    ];
  }

-- ---- a row of one id

pub fits_single : (rows : List LinkRow) (labels : List Label) (id : List ℕ) (c : Label) → Fits rows labels → Contains labels c → c.id ≡ id → Fits (record { id = id; links = [] } ∷ rows) labels
fits_single rows labels id c fits there c_is =
    let row : LinkRow = record { id = id; links = [] } in
    let only : (u : List ℕ) → has_text (ids_of row) u ≡ true → u ≡ id = λ u is. elim (or_cases (same_text u id) false is) [ inl own ↦ same_text_from u id own | inr none ↦ absurd (true≢false (sym none)) ] in
    record {
      known = λ u is. elim (or_cases (has_text (ids_of row) u) (is_in_rows rows u) is) [ inl here ↦ (c, there, c_is ∙ sym (only u here)) | inr old ↦ fits.known u old ];
      alike = λ a b first second. (
        λ equal. Same_more rows row a.id b.id ((fits.alike a b first second).0 equal),
        λ same. (fits.alike a b first second).1
            (elim (Same_row rows row a.id b.id same) [
              | inl before ↦ before
              | inr joined ↦ Same_through rows a.id id b.id (subst (Same rows a.id) (only joined.0.0 joined.0.1) joined.0.2) (Same_turned rows b.id id (subst (Same rows b.id) (only joined.1.0 joined.1.1) joined.1.2))
            ]),
      );
      low = fits.low;
      owner = fits.owner;
    }

-- ---- an id without a label

none_by : (rows : List LinkRow) (labels : List Label) (id : List ℕ) → AreLabelsOf rows labels → has_entry (entries_of labels) id ≡ false → (found : Option ℕ) → thread_name rows (entries_of labels) id ≡ found → None ≡ found
none_by rows labels id are none None is = refl
none_by rows labels id are none (Some x) is =
    let one = name_one rows (entries_of labels) id x is in
    let a = entry_from labels one.0 x one.1 in
    elim (Same_known rows one.0 id (Same_turned rows id one.0 one.2)) [
      | inl here ↦ absurd (true≢false (sym (has_of labels id a.0 a.1 (a.2 ∙ here)) ∙ none))
      | inr known ↦ absurd (true≢false (sym (are.known id known) ∙ none))
    ]

pub no_name : (rows : List LinkRow) (labels : List Label) (id : List ℕ) → AreLabelsOf rows labels → has_entry (entries_of labels) id ≡ false → None ≡ thread_name rows (entries_of labels) id
no_name rows labels id are none = none_by rows labels id are none (thread_name rows (entries_of labels) id) refl
