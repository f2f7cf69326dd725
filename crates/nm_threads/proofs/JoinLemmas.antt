-- Labels once two threads are joined, and a row has one link more.
-- For `MergeLemmas`, `RowLemmas`, `StepLemmas` and others.
use Rattle.std.proofs.Common.{◌≡◌, ◌≢◌, refl, sym, ap, subst, ◌∙◌, ℕ, ◌≤◌, true, false, cond, min, List, [], ◌∷◌, map, arith, inl, inr, ◌⊎◌, eq-eqb, ne_eqb, nat_eq, true≢false}
use Rattle.std.specs.Prelude.{Contains}
use Rattle.std.proofs.lemmas.Bool.{or_cases, or_left, or_right, or_from, cases_eq, cases_lt}
use Rattle.nm_base.specs.Order.{has_text, same_text}
use Rattle.nm_base.specs.declared.facts.LinkRow.{LinkRow}
use Rattle.nm_threads.specs.Same.{ids_of, Same, Touches}
use Rattle.nm_threads.specs.Labels.{Label, is_in_rows}
use Rattle.nm_threads.specs.Maps.{joined_name, relabelled}
use Rattle.nm_base.specs.KeyLaws.{same_text_from, Contains_map, Contains_from_map}
use Rattle.nm_threads.specs.Fits.{Fits}
use Rattle.nm_threads.proofs.SameLemmas.{Same_more, Same_joined, Same_row, short, long, pair, long_cases, own_in, next_in_pair, to_pair, from_pair}

-- ---- the name of joined threads

pub joined_of : (x y name : ℕ) → (name ≡ x) ⊎ (name ≡ y) → joined_name x y name ≡ min x y
joined_of x y name (inl is) = ap (λ test. cond test (min x y) name) (or_left (nat_eq name x) (nat_eq name y) (eq-eqb name x is))
joined_of x y name (inr is) = ap (λ test. cond test (min x y) name) (or_right (nat_eq name x) (nat_eq name y) (eq-eqb name y is))

pub joined_other : (x y name : ℕ) → name ≢ x → name ≢ y → joined_name x y name ≡ name
joined_other x y name not_x not_y = ap (λ test. cond test (min x y) name) (or_from (nat_eq name x) (nat_eq name y) (ne_eqb name x not_x) (ne_eqb name y not_y))

-- the name is one of the two, or none
pub record Other (x y name : ℕ) : Type 0 where
  pub not_x : name ≢ x
  pub not_y : name ≢ y

pub cases_joined : (x y name : ℕ) → ((name ≡ x) ⊎ (name ≡ y)) ⊎ Other x y name
cases_joined x y name = elim (cases_eq name x) [
  | inl is_x ↦ inl (inl is_x)
  | inr not_x ↦ elim (cases_eq name y) [ inl is_y ↦ inl (inr is_y) | inr not_y ↦ inr (record { not_x = not_x; not_y = not_y }) ]
]

pub min_is : (x y : ℕ) → (min x y ≡ x) ⊎ (min x y ≡ y)
min_is x y = elim (cases_lt x y) [ inl lt ↦ inl (omega arith) | inr le ↦ inr (omega arith) ]

-- what has a new name of another thread's, is not joined
min_other : (x y name : ℕ) → Other x y name → min x y ≡ name → ⊥
min_other x y name other is = elim (min_is x y) [ inl at_x ↦ other.not_x (sym is ∙ at_x) | inr at_y ↦ other.not_y (sym is ∙ at_y) ]

module _ (rows : List LinkRow) (id : List ℕ) (links : List (List ℕ)) (next : List ℕ) (labels : List Label) (fits : Fits (short rows id links next ∷ rows) labels)
    (own link : Label) (own_in_labels : Contains labels own) (link_in_labels : Contains labels link) (own_is : own.id ≡ id) (link_is : link.id ≡ next) where
  abbrev before : List LinkRow
  before = short rows id links next ∷ rows

  abbrev after : List LinkRow
  after = long rows id links next ∷ rows

  abbrev both : LinkRow
  both = pair rows id links next

  abbrev x : ℕ
  x = own.name

  abbrev y : ℕ
  y = link.name

  -- an id of one of the two threads is touched by the link
  touches_of : (a : Label) → Contains labels a → (a.name ≡ x) ⊎ (a.name ≡ y) → Touches before both a.id
  touches_of a among (inl is) = (id, own_in rows id links next both refl, subst (Same before a.id) own_is ((fits.alike a own among own_in_labels).0 is))
  touches_of a among (inr is) = (next, next_in_pair rows id links next, subst (Same before a.id) link_is ((fits.alike a link among link_in_labels).0 is))

  touched_by : (a : Label) → Contains labels a → (u : List ℕ) → (u ≡ id) ⊎ (u ≡ next) → Same before a.id u → (a.name ≡ x) ⊎ (a.name ≡ y)
  touched_by a among u (inl is) same = inl ((fits.alike a own among own_in_labels).1 (subst (Same before a.id) (is ∙ sym own_is) same))
  touched_by a among u (inr is) same = inr ((fits.alike a link among link_in_labels).1 (subst (Same before a.id) (is ∙ sym link_is) same))

  pair_ids : (u : List ℕ) → has_text (ids_of both) u ≡ true → (u ≡ id) ⊎ (u ≡ next)
  pair_ids u is = elim (or_cases (same_text u id) (has_text (next ∷ []) u) is) [
    | inl first ↦ inl (same_text_from u id first)
    | inr second ↦ elim (or_cases (same_text u next) false second) [ inl here ↦ inr (same_text_from u next here) | inr none ↦ absurd (true≢false (sym none)) ]
  ]

  touched : (a : Label) → Contains labels a → Touches before both a.id → (a.name ≡ x) ⊎ (a.name ≡ y)
  touched a among touch = touched_by a among touch.0 (pair_ids touch.0 touch.1) touch.2

  same_after : (a b : Label) → Contains labels a → Contains labels b → ((a.name ≡ x) ⊎ (a.name ≡ y)) ⊎ Other x y a.name → ((b.name ≡ x) ⊎ (b.name ≡ y)) ⊎ Other x y b.name
      → joined_name x y a.name ≡ joined_name x y b.name → Same after a.id b.id
  same_after a b first second (inl one) (inl two) equal = from_pair rows id links next a.id b.id (Same_joined before both a.id b.id (touches_of a first one) (touches_of b second two))
  same_after a b first second (inl one) (inr two) equal = absurd (min_other x y b.name two (sym (joined_of x y a.name one) ∙ equal ∙ joined_other x y b.name two.not_x two.not_y))
  same_after a b first second (inr one) (inl two) equal = absurd (min_other x y a.name one (sym (joined_of x y b.name two) ∙ sym equal ∙ joined_other x y a.name one.not_x one.not_y))
  same_after a b first second (inr one) (inr two) equal =
      from_pair rows id links next a.id b.id (Same_more before both a.id b.id ((fits.alike a b first second).0 (sym (joined_other x y a.name one.not_x one.not_y) ∙ equal ∙ joined_other x y b.name two.not_x two.not_y)))

  equal_after : (a b : Label) → Contains labels a → Contains labels b → Same after a.id b.id → joined_name x y a.name ≡ joined_name x y b.name
  equal_after a b first second same = elim (Same_row before both a.id b.id (to_pair rows id links next a.id b.id same)) [
    | inl old ↦ ap (joined_name x y) ((fits.alike a b first second).1 old)
    | inr touch ↦ joined_of x y a.name (touched a first touch.0) ∙ sym (joined_of x y b.name (touched b second touch.1))
  ]

  low_after : (a : Label) → Contains labels a → ((a.name ≡ x) ⊎ (a.name ≡ y)) ⊎ Other x y a.name → joined_name x y a.name ≤ a.number
  low_after a among (inl (inl is)) = omega (arith, joined_of x y a.name (inl is), fits.low a among, is)
  low_after a among (inl (inr is)) = omega (arith, joined_of x y a.name (inr is), fits.low a among, is)
  low_after a among (inr other) = omega (arith, joined_other x y a.name other.not_x other.not_y, fits.low a among)

  -- the one whose number is the new name
  heir : (c : Label) → Contains labels c → (z : ℕ) → c.number ≡ z → c.name ≡ z → (z ≡ x) ⊎ (z ≡ y) → min x y ≡ z → (d : Label) × Contains (map (relabelled x y) labels) d × (d.number ≡ min x y) × (d.name ≡ min x y)
  heir c among z number name is least =
      (relabelled x y c, Contains_map (relabelled x y) labels c among, number ∙ sym least, ap (joined_name x y) name ∙ joined_of x y z is)

  new_owner : (d : Label) × Contains (map (relabelled x y) labels) d × (d.number ≡ min x y) × (d.name ≡ min x y)
  new_owner = elim (min_is x y) [
    | inl at_x ↦ let c = fits.owner own own_in_labels in heir c.0 c.1 x c.2 c.3 (inl refl) at_x
    | inr at_y ↦ let c = fits.owner link link_in_labels in heir c.0 c.1 y c.2 c.3 (inr refl) at_y
  ]

  owner_after : (a : Label) → Contains labels a → ((a.name ≡ x) ⊎ (a.name ≡ y)) ⊎ Other x y a.name → (d : Label) × Contains (map (relabelled x y) labels) d × (d.number ≡ joined_name x y a.name) × (d.name ≡ joined_name x y a.name)
  owner_after a among (inl one) = let d = new_owner in (d.0, d.1, d.2 ∙ sym (joined_of x y a.name one), d.3 ∙ sym (joined_of x y a.name one))
  owner_after a among (inr other) =
      let c = fits.owner a among in (relabelled x y c.0, Contains_map (relabelled x y) labels c.0 c.1, c.2 ∙ sym (joined_other x y a.name other.not_x other.not_y), ap (joined_name x y) c.3)

  known_after : (u : List ℕ) → is_in_rows after u ≡ true → (a : Label) × Contains labels a × (a.id ≡ u)
  known_after u is = elim (or_cases (has_text (ids_of (long rows id links next)) u) (is_in_rows rows u) is) [
    | inl here ↦
        elim (long_cases rows id links next u here) [
          | inl old ↦ fits.known u (or_left (has_text (ids_of (short rows id links next)) u) (is_in_rows rows u) old)
          | inr new ↦ (link, link_in_labels, link_is ∙ sym new)
        ]
    | inr there ↦ fits.known u (or_right (has_text (ids_of (short rows id links next)) u) (is_in_rows rows u) there)
  ]

  pub fits_join : Fits after (map (relabelled x y) labels)
  fits_join = record {
    known = λ u is. let a = known_after u is in (relabelled x y a.0, Contains_map (relabelled x y) labels a.0 a.1, a.2);
    alike = λ a b first second.
        let p = Contains_from_map (relabelled x y) labels a first in
        let q = Contains_from_map (relabelled x y) labels b second in
        subst (λ l. (l.name ≡ b.name → Same after l.id b.id) × (Same after l.id b.id → l.name ≡ b.name)) p.2
        (subst (λ l. (joined_name x y p.0.name ≡ l.name → Same after p.0.id l.id) × (Same after p.0.id l.id → joined_name x y p.0.name ≡ l.name)) q.2
        (same_after p.0 q.0 p.1 q.1 (cases_joined x y p.0.name) (cases_joined x y q.0.name), equal_after p.0 q.0 p.1 q.1));
    low = λ a among. let p = Contains_from_map (relabelled x y) labels a among in subst (λ l. l.name ≤ l.number) p.2 (low_after p.0 p.1 (cases_joined x y p.0.name));
    owner = λ a among.
        let p = Contains_from_map (relabelled x y) labels a among in
        subst (λ l. (d : Label) × Contains (map (relabelled x y) labels) d × (d.number ≡ l.name) × (d.name ≡ l.name)) p.2 (owner_after p.0 p.1 (cases_joined x y p.0.name));
  }
