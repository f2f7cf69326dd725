-- Labels once whole threads are removed.
-- For the proofs of `Labels::drop_dead`, `Labels::drop_thread`, `Labels::drop_thread_in_place` and others.
use Rattle.std.proofs.Common.{◌≡◌, refl, sym, ap, subst, ◌∙◌, ℕ, Bool, true, false, ◌&&◌, not, List, [], ◌∷◌, map, inl, inr, eq-eqb, nat_eq, true≢false}
use Rattle.std.specs.Prelude.{Contains}
use Rattle.std.specs.List.{filter}
use Rattle.std.proofs.lemmas.Bool.{eqb-true, and_parts, and_from, or_left}
use Rattle.nm_base.specs.Order.{has_text, same_text}
use Rattle.nm_base.specs.declared.facts.LinkRow.{LinkRow}
use Rattle.nm_threads.specs.Fits.{Fits}
use Rattle.nm_threads.specs.Labels.{Label, AreLabelsOf, entries_of, has_entry, is_in_rows, named, without_name}
use Rattle.nm_threads.specs.Same.{ids_of, stand_together, IsChain, Same, is_same}
use Rattle.nm_threads.proofs.FilterLemmas.{Contains_filter, Contains_from_filter, filter_all, filter_none, filter_among, filter_map_among}
use Rattle.nm_threads.proofs.LabelLemmas.{has_of, entry_from}
use Rattle.nm_base.specs.KeyLaws.{same_text_of, any_one, any_of}
use Rattle.nm_threads.proofs.MergeLemmas.{map_map}
use Rattle.nm_threads.proofs.NameLemmas.{alike}
use Rattle.nm_threads.proofs.SameLemmas.{Same_beside, Same_turned, Same_among, Same_known, is_same_of, is_same_from, is_same_through, is_same_turned}

own_among : (row : LinkRow) → has_text (ids_of row) row.id ≡ true
own_among row = or_left (same_text row.id row.id) (has_text row.links row.id) (same_text_of row.id)

-- the ids of a row are of one thread
pub row_same : (rows : List LinkRow) (row : LinkRow) → Contains rows row → (u : List ℕ) → has_text (ids_of row) u ≡ true → Same rows row.id u
row_same rows row among u is =
    Same_beside rows row.id u (any_of (λ other. has_text (ids_of other) row.id && has_text (ids_of other) u) rows row among (and_from (has_text (ids_of row) row.id) (has_text (ids_of row) u) (own_among row) is))

module _ (rows : List LinkRow) (keep : List ℕ → Bool) (respects : (a b : List ℕ) → Same rows a b → keep a ≡ keep b) where
  abbrev kept : List LinkRow
  kept = filter (λ row. keep row.id) rows

  kept_row : (row : LinkRow) → Contains rows row → (u : List ℕ) → has_text (ids_of row) u ≡ true → keep u ≡ true → Contains kept row
  kept_row row among u is here = Contains_filter (λ other. keep other.id) rows row among (respects row.id u (row_same rows row among u is) ∙ here)

  kept_beside : (a b : List ℕ) → stand_together rows a b ≡ true → keep a ≡ true → stand_together kept a b ≡ true
  kept_beside a b is here =
      let one = any_one (λ row. has_text (ids_of row) a && has_text (ids_of row) b) rows is in
      any_of (λ row. has_text (ids_of row) a && has_text (ids_of row) b) kept one.0 (kept_row one.0 one.1 a (and_parts (has_text (ids_of one.0) a) (has_text (ids_of one.0) b) one.2).0 here) one.2

  kept_chain : (chain : List (List ℕ)) (a b : List ℕ) → IsChain rows a chain b → keep a ≡ true → IsChain kept a chain b
  kept_chain [] a b is here = is
  kept_chain (next ∷ chain) a b is here = (kept_beside a next is.0 here, kept_chain chain next b is.1 (sym (respects a next (Same_beside rows a next is.0)) ∙ here))

  -- a thread that stays keeps its chains
  kept_same : (a b : List ℕ) → Same rows a b → keep a ≡ true → Same kept a b
  kept_same a b is here = (is.0, kept_chain is.0 a b is.1 here)

  old_same : (a b : List ℕ) → Same kept a b → Same rows a b
  old_same a b is = Same_among kept rows a b (λ row among. (Contains_from_filter (λ other. keep other.id) rows row among).0) is

  pub fits_kept : (labels : List Label) → Fits rows labels → Fits kept (filter (λ label. keep label.id) labels)
  fits_kept labels fits =
      let test : Label → Bool = λ label. keep label.id in
      let from : (a : Label) → Contains (filter test labels) a → Contains labels a × (test a ≡ true) = Contains_from_filter test labels in
      record {
        known = λ u is.
            let one = any_one (λ row. has_text (ids_of row) u) kept is in
            let old = Contains_from_filter (λ (other : LinkRow). keep other.id) rows one.0 one.1 in
            let a = fits.known u (any_of (λ row. has_text (ids_of row) u) rows one.0 old.0 one.2) in
            (a.0, Contains_filter test labels a.0 a.1 (ap keep a.2 ∙ sym (respects one.0.id u (row_same rows one.0 old.0 u one.2)) ∙ old.1), a.2);
        alike = λ a b first second.
            let p = from a first in
            let q = from b second in
            (λ equal. kept_same a.id b.id ((fits.alike a b p.0 q.0).0 equal) p.1, λ same. (fits.alike a b p.0 q.0).1 (old_same a.id b.id same));
        low = λ a among. fits.low a (from a among).0;
        owner = λ a among.
            let p = from a among in
            let c = fits.owner a p.0 in
            (c.0, Contains_filter test labels c.0 c.1 (sym (respects a.id c.0.id ((fits.alike a c.0 p.0 c.1).0 (sym c.3))) ∙ p.1), c.2, c.3);
      }

not_true : (x : Bool) → not x ≡ true → x ≡ false
not_true true is = sym is
not_true false is = refl

pub entries_kept : (keep : List ℕ → Bool) (labels : List Label) → entries_of (filter (λ label. keep label.id) labels) ≡ filter (λ entry. keep entry.0) (entries_of labels)
entries_kept keep labels = sym (filter_map_among (λ label. (label.id, label.number)) (λ entry. keep entry.0) (λ label. keep label.id) labels (λ label among. refl))

-- ---- the thread of one id

module _ (rows : List LinkRow) (id : List ℕ) where
  pub other_respects : (a b : List ℕ) → Same rows a b → not (is_same rows id a) ≡ not (is_same rows id b)
  other_respects a b same =
      ap not
      (alike (is_same rows id a) (is_same rows id b) (λ is. is_same_through rows id a b is (is_same_of rows a b same))
      (λ is. is_same_through rows id b a is (is_same_turned rows a b (is_same_of rows a b same))))

  module _ (labels : List Label) (fits : Fits rows labels) (own : Label) (own_in : Contains labels own) (own_is : own.id ≡ id) where
    name_test : (a : Label) → Contains labels a → nat_eq a.name own.name ≡ is_same rows id a.id
    name_test a among =
        alike (nat_eq a.name own.name) (is_same rows id a.id)
        (λ is. is_same_of rows id a.id (subst (λ x. Same rows x a.id) own_is ((fits.alike own a own_in among).0 (sym (eqb-true a.name own.name is)))))
        (λ is. eq-eqb a.name own.name (sym ((fits.alike own a own_in among).1 (subst (λ x. Same rows x a.id) (sym own_is) (is_same_from rows id a.id is)))))

    labels_are : without_name own.name labels ≡ filter (λ label. not (is_same rows id label.id)) labels
    labels_are = filter_among (λ label. not (nat_eq label.name own.name)) (λ label. not (is_same rows id label.id)) labels (λ a among. ap not (name_test a among))

    pub entries_without : entries_of (without_name own.name labels) ≡ filter (λ entry. not (is_same rows id entry.0)) (entries_of labels)
    entries_without = ap entries_of labels_are ∙ entries_kept (λ u. not (is_same rows id u)) labels

    -- the labels of the thread are those of its ids
    pub ids_named : map (λ label. label.id) (named own.name labels) ≡ map (λ entry. entry.0) (filter (λ entry. is_same rows id entry.0) (entries_of labels))
    ids_named =
        ap (map (λ label. label.id)) (filter_among (λ label. nat_eq label.name own.name) (λ label. is_same rows id label.id) labels name_test)
        ∙ sym (ap (map (λ entry. entry.0)) (sym (entries_kept (is_same rows id) labels)) ∙ map_map (λ entry. entry.0) (λ (label : Label). (label.id, label.number)) (filter (λ label. is_same rows id label.id) labels))

    pub fits_without : Fits (filter (λ row. not (is_same rows id row.id)) rows) (without_name own.name labels)
    fits_without = subst (Fits (filter (λ row. not (is_same rows id row.id)) rows)) (sym labels_are) (fits_kept rows (λ u. not (is_same rows id u)) other_respects labels fits)

  module _ (labels : List Label) (are : AreLabelsOf rows labels) (none : has_entry (entries_of labels) id ≡ false) where
    not_in : is_in_rows rows id ≡ true → ⊥
    not_in is = true≢false (sym (are.known id is) ∙ none)

    apart_by : (u : List ℕ) → (u ≡ id → ⊥) → (test : Bool) → is_same rows id u ≡ test → not test ≡ true
    apart_by u not_u true is = elim (Same_known rows u id (Same_turned rows id u (is_same_from rows id u is))) [ inl here ↦ absurd (not_u here) | inr known ↦ absurd (not_in known) ]
    apart_by u not_u false is = refl

    -- nothing is of one thread with an id without a number
    pub rows_stay : filter (λ row. not (is_same rows id row.id)) rows ≡ rows
    rows_stay =
        filter_all (λ row. not (is_same rows id row.id)) rows
        (λ row among. apart_by row.id (λ is. not_in (any_of (λ other. has_text (ids_of other) id) rows row among (subst (λ x. has_text (ids_of row) x ≡ true) is (own_among row)))) (is_same rows id row.id) refl)

    pub entries_stay : filter (λ entry. not (is_same rows id entry.0)) (entries_of labels) ≡ entries_of labels
    entries_stay =
        filter_all (λ entry. not (is_same rows id entry.0)) (entries_of labels)
        (λ entry among. let a = entry_from labels entry.0 entry.1 among in apart_by entry.0 (λ is. true≢false (sym (has_of labels id a.0 a.1 (a.2 ∙ is)) ∙ none)) (is_same rows id entry.0) refl)

    pub none_same : filter (λ entry. is_same rows id entry.0) (entries_of labels) ≡ []
    none_same =
        filter_none (λ entry. is_same rows id entry.0) (entries_of labels)
        (λ entry among.
        let a = entry_from labels entry.0 entry.1 among in not_true (is_same rows id entry.0) (apart_by entry.0 (λ is. true≢false (sym (has_of labels id a.0 a.1 (a.2 ∙ is)) ∙ none)) (is_same rows id entry.0) refl))
