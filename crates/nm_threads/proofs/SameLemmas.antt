-- Chains, and the test that says whether there is one.
-- For the proofs of `a_row_joins_the_threads_of_its_ids`, `same_is_an_equivalence`, `same_is_what_is_computed` and others.
use Rattle.std.proofs.Common.{◌≡◌, refl, sym, ap, subst, ◌∙◌, ℕ, Bool, true, false, ◌&&◌, List, [], ◌∷◌, ◌++◌, inl, inr, ◌⊎◌}
use Rattle.std.specs.Prelude.{IsTrue, Contains}
use Rattle.std.specs.List.{list_any}
use Rattle.std.proofs.lemmas.Bool.{or_cases, or_left, or_right, and_parts, and_from}
use Rattle.nm_base.specs.Order.{has_text, same_text}
use Rattle.nm_base.specs.declared.facts.LinkRow.{LinkRow}
use Rattle.nm_threads.specs.Labels.{is_in_rows}
use Rattle.nm_threads.specs.Same.{ids_of, stand_together, IsChain, Same, Touches, is_same}
use Rattle.std.proofs.lemmas.List.Folds.{list_any-append}
use Rattle.nm_threads.proofs.ListLemmas.{text_one, text_any}
use Rattle.nm_base.specs.KeyLaws.{same_text_from, same_text_of, any_one, any_of}

both_turned : (x y : Bool) → (x && y) ≡ true → (y && x) ≡ true
both_turned x y is = let parts = and_parts x y is in and_from y x parts.1 parts.0

-- ---- chains

pub Same_itself : (rows : List LinkRow) (a : List ℕ) → Same rows a a
Same_itself rows a = ([], refl)

pub Same_beside : (rows : List LinkRow) (a b : List ℕ) → IsTrue (stand_together rows a b) → Same rows a b
Same_beside rows a b is = (b ∷ [], (is, refl))

through_chain : (rows : List LinkRow) (chain : List (List ℕ)) (a b c : List ℕ) → IsChain rows a chain b → Same rows b c → Same rows a c
through_chain rows [] a b c is more = subst (λ x. Same rows x c) (sym is) more
through_chain rows (next ∷ chain) a b c is more = let end = through_chain rows chain next b c is.1 more in (next ∷ end.0, (is.0, end.1))

pub Same_through : (rows : List LinkRow) (a b c : List ℕ) → Same rows a b → Same rows b c → Same rows a c
Same_through rows a b c first more = through_chain rows first.0 a b c first.1 more

beside_turned : (rows : List LinkRow) (a b : List ℕ) → stand_together rows a b ≡ true → stand_together rows b a ≡ true
beside_turned rows a b is =
    let one = any_one (λ row. has_text (ids_of row) a && has_text (ids_of row) b) rows is in
    any_of (λ row. has_text (ids_of row) b && has_text (ids_of row) a) rows one.0 one.1 (both_turned (has_text (ids_of one.0) a) (has_text (ids_of one.0) b) one.2)

turned_chain : (rows : List LinkRow) (chain : List (List ℕ)) (a b : List ℕ) → IsChain rows a chain b → Same rows b a
turned_chain rows [] a b is = subst (λ x. Same rows b x) (sym is) (Same_itself rows b)
turned_chain rows (next ∷ chain) a b is = Same_through rows b next a (turned_chain rows chain next b is.1) (Same_beside rows next a (beside_turned rows a next is.0))

pub Same_turned : (rows : List LinkRow) (a b : List ℕ) → Same rows a b → Same rows b a
Same_turned rows a b is = turned_chain rows is.0 a b is.1

beside_among : (rows others : List LinkRow) → ((row : LinkRow) → Contains rows row → Contains others row) → (a b : List ℕ) → stand_together rows a b ≡ true → stand_together others a b ≡ true
beside_among rows others among a b is =
    let one = any_one (λ row. has_text (ids_of row) a && has_text (ids_of row) b) rows is in any_of (λ row. has_text (ids_of row) a && has_text (ids_of row) b) others one.0 (among one.0 one.1) one.2

chain_among : (rows others : List LinkRow) → ((row : LinkRow) → Contains rows row → Contains others row) → (chain : List (List ℕ)) (a b : List ℕ) → IsChain rows a chain b → IsChain others a chain b
chain_among rows others among [] a b is = is
chain_among rows others among (next ∷ chain) a b is = (beside_among rows others among a next is.0, chain_among rows others among chain next b is.1)

pub Same_among : (rows others : List LinkRow) (a b : List ℕ) → ((row : LinkRow) → Contains rows row → Contains others row) → Same rows a b → Same others a b
Same_among rows others a b among is = (is.0, chain_among rows others among is.0 a b is.1)

chain_more : (rows : List LinkRow) (row : LinkRow) (chain : List (List ℕ)) (a b : List ℕ) → IsChain rows a chain b → IsChain (row ∷ rows) a chain b
chain_more rows row [] a b is = is
chain_more rows row (next ∷ chain) a b is = (or_right (has_text (ids_of row) a && has_text (ids_of row) next) (stand_together rows a next) is.0, chain_more rows row chain next b is.1)

pub Same_more : (rows : List LinkRow) (row : LinkRow) (a b : List ℕ) → Same rows a b → Same (row ∷ rows) a b
Same_more rows row a b is = (is.0, chain_more rows row is.0 a b is.1)

pub in_row : (rows : List LinkRow) (row : LinkRow) (a b : List ℕ) → has_text (ids_of row) a ≡ true → has_text (ids_of row) b ≡ true → Same (row ∷ rows) a b
in_row rows row a b first second =
    Same_beside (row ∷ rows) a b (or_left (has_text (ids_of row) a && has_text (ids_of row) b) (stand_together rows a b) (and_from (has_text (ids_of row) a) (has_text (ids_of row) b) first second))

pub Same_joined : (rows : List LinkRow) (row : LinkRow) (a b : List ℕ) → Touches rows row a → Touches rows row b → Same (row ∷ rows) a b
Same_joined rows row a b first second =
    Same_through (row ∷ rows) a first.0 b (Same_more rows row a first.0 first.2)
    (Same_through (row ∷ rows) first.0 second.0 b (in_row rows row first.0 second.0 first.1 second.1) (Same_turned (row ∷ rows) b second.0 (Same_more rows row b second.0 second.2)))

-- ---- the test

pub is_same_itself : (rows : List LinkRow) (a : List ℕ) → is_same rows a a ≡ true
is_same_itself [] a = same_text_of a
is_same_itself (row ∷ rows) a = or_left (is_same rows a a) (list_any (is_same rows a) (ids_of row) && list_any (is_same rows a) (ids_of row)) (is_same_itself rows a)

-- an id of the row is of one thread with this one
abbrev touches : List LinkRow → LinkRow → List ℕ → Bool
touches rows row a = list_any (is_same rows a) (ids_of row)

pub is_same_turned : (rows : List LinkRow) (a b : List ℕ) → is_same rows a b ≡ true → is_same rows b a ≡ true
is_same_turned [] a b is = ap (λ x. same_text x a) (sym (same_text_from a b is)) ∙ same_text_of a
is_same_turned (row ∷ rows) a b is = elim (or_cases (is_same rows a b) (touches rows row a && touches rows row b) is) [
  | inl before ↦ or_left (is_same rows b a) (touches rows row b && touches rows row a) (is_same_turned rows a b before)
  | inr joined ↦ or_right (is_same rows b a) (touches rows row b && touches rows row a) (both_turned (touches rows row a) (touches rows row b) joined)
]

module _ (rows : List LinkRow) (row : LinkRow) (through : (a b c : List ℕ) → is_same rows a b ≡ true → is_same rows b c ≡ true → is_same rows a c ≡ true) where
  touches_through : (a b : List ℕ) → is_same rows a b ≡ true → touches rows row b ≡ true → touches rows row a ≡ true
  touches_through a b is touch = let one = text_one (is_same rows b) (ids_of row) touch in text_any (is_same rows a) (ids_of row) one.0 one.1 (through a b one.0 is one.2)

  through_by : (a b c : List ℕ) → (is_same rows a b ≡ true) ⊎ ((touches rows row a && touches rows row b) ≡ true) → (is_same rows b c ≡ true) ⊎ ((touches rows row b && touches rows row c) ≡ true) → is_same (row ∷ rows) a c ≡ true
  through_by a b c (inl first) (inl second) = or_left (is_same rows a c) (touches rows row a && touches rows row c) (through a b c first second)
  through_by a b c (inl first) (inr second) =
      let parts = and_parts (touches rows row b) (touches rows row c) second in
      or_right (is_same rows a c) (touches rows row a && touches rows row c) (and_from (touches rows row a) (touches rows row c) (touches_through a b first parts.0) parts.1)
  through_by a b c (inr first) (inl second) =
      let parts = and_parts (touches rows row a) (touches rows row b) first in
      or_right (is_same rows a c) (touches rows row a && touches rows row c) (and_from (touches rows row a) (touches rows row c) parts.0 (touches_through c b (is_same_turned rows b c second) parts.1))
  through_by a b c (inr first) (inr second) =
      or_right (is_same rows a c) (touches rows row a && touches rows row c)
      (and_from (touches rows row a) (touches rows row c) (and_parts (touches rows row a) (touches rows row b) first).0 (and_parts (touches rows row b) (touches rows row c) second).1)

pub is_same_through : (rows : List LinkRow) (a b c : List ℕ) → is_same rows a b ≡ true → is_same rows b c ≡ true → is_same rows a c ≡ true
is_same_through [] a b c first second = subst (λ x. same_text x c ≡ true) (sym (same_text_from a b first)) second
is_same_through (row ∷ rows) a b c first second =
    through_by rows row (is_same_through rows) a b c (or_cases (is_same rows a b) (touches rows row a && touches rows row b) first) (or_cases (is_same rows b c) (touches rows row b && touches rows row c) second)

beside_is : (rows : List LinkRow) (a b : List ℕ) → stand_together rows a b ≡ true → is_same rows a b ≡ true
beside_is [] a b is = absurd (cc)
beside_is (row ∷ rows) a b is = elim (or_cases (has_text (ids_of row) a && has_text (ids_of row) b) (stand_together rows a b) is) [
  | inl here ↦
      let parts = and_parts (has_text (ids_of row) a) (has_text (ids_of row) b) here in
      or_right (is_same rows a b) (touches rows row a && touches rows row b)
      (and_from (touches rows row a) (touches rows row b) (text_any (is_same rows a) (ids_of row) a parts.0 (is_same_itself rows a)) (text_any (is_same rows b) (ids_of row) b parts.1 (is_same_itself rows b)))
  | inr there ↦ or_left (is_same rows a b) (touches rows row a && touches rows row b) (beside_is rows a b there)
]

chain_is : (rows : List LinkRow) (chain : List (List ℕ)) (a b : List ℕ) → IsChain rows a chain b → is_same rows a b ≡ true
chain_is rows [] a b is = subst (λ x. is_same rows a x ≡ true) is (is_same_itself rows a)
chain_is rows (next ∷ chain) a b is = is_same_through rows a next b (beside_is rows a next is.0) (chain_is rows chain next b is.1)

pub is_same_of : (rows : List LinkRow) (a b : List ℕ) → Same rows a b → is_same rows a b ≡ true
is_same_of rows a b is = chain_is rows is.0 a b is.1

touches_from : (rows : List LinkRow) → ((a b : List ℕ) → is_same rows a b ≡ true → Same rows a b) → (row : LinkRow) (a : List ℕ) → touches rows row a ≡ true → Touches rows row a
touches_from rows from row a is = let one = text_one (is_same rows a) (ids_of row) is in (one.0, one.1, from a one.0 one.2)

pub is_same_from : (rows : List LinkRow) (a b : List ℕ) → is_same rows a b ≡ true → Same rows a b
is_same_from [] a b is = ([], same_text_from a b is)
is_same_from (row ∷ rows) a b is = elim (or_cases (is_same rows a b) (touches rows row a && touches rows row b) is) [
  | inl before ↦ Same_more rows row a b (is_same_from rows a b before)
  | inr joined ↦
      let parts = and_parts (touches rows row a) (touches rows row b) joined in
      Same_joined rows row a b (touches_from rows (is_same_from rows) row a parts.0) (touches_from rows (is_same_from rows) row b parts.1)
]

pub Same_row : (rows : List LinkRow) (row : LinkRow) (a b : List ℕ) → Same (row ∷ rows) a b → Same rows a b ⊎ (Touches rows row a × Touches rows row b)
Same_row rows row a b is = elim (or_cases (is_same rows a b) (touches rows row a && touches rows row b) (is_same_of (row ∷ rows) a b is)) [
  | inl before ↦ inl (is_same_from rows a b before)
  | inr joined ↦
      let parts = and_parts (touches rows row a) (touches rows row b) joined in inr (touches_from rows (is_same_from rows) row a parts.0, touches_from rows (is_same_from rows) row b parts.1)
]

-- ---- ids outside all rows

beside_known : (rows : List LinkRow) (a b : List ℕ) → stand_together rows a b ≡ true → (is_in_rows rows a ≡ true) × (is_in_rows rows b ≡ true)
beside_known rows a b is =
    let one = any_one (λ row. has_text (ids_of row) a && has_text (ids_of row) b) rows is in
    let parts = and_parts (has_text (ids_of one.0) a) (has_text (ids_of one.0) b) one.2 in
    (any_of (λ row. has_text (ids_of row) a) rows one.0 one.1 parts.0, any_of (λ row. has_text (ids_of row) b) rows one.0 one.1 parts.1)

chain_known : (rows : List LinkRow) (chain : List (List ℕ)) (a b : List ℕ) → IsChain rows a chain b → (a ≡ b) ⊎ (is_in_rows rows b ≡ true)
chain_known rows [] a b is = inl is
chain_known rows (next ∷ chain) a b is = elim (chain_known rows chain next b is.1) [ inl here ↦ inr (subst (λ x. is_in_rows rows x ≡ true) here (beside_known rows a next is.0).1) | inr there ↦ inr there ]

-- an id is of one thread with none but itself, or it is in a row
pub Same_known : (rows : List LinkRow) (a b : List ℕ) → Same rows a b → (a ≡ b) ⊎ (is_in_rows rows b ≡ true)
Same_known rows a b is = chain_known rows is.0 a b is.1

-- ---- rows in place of others

chain_through : (rows others : List LinkRow) → ((a b : List ℕ) → stand_together rows a b ≡ true → Same others a b) → (chain : List (List ℕ)) (a b : List ℕ) → IsChain rows a chain b → Same others a b
chain_through rows others step [] a b is = ([], is)
chain_through rows others step (next ∷ chain) a b is = Same_through others a next b (step a next is.0) (chain_through rows others step chain next b is.1)

pub Same_steps : (rows others : List LinkRow) → ((a b : List ℕ) → stand_together rows a b ≡ true → Same others a b) → (a b : List ℕ) → Same rows a b → Same others a b
Same_steps rows others step a b is = chain_through rows others step is.0 a b is.1

module _ (rows : List LinkRow) (id : List ℕ) (links : List (List ℕ)) (next : List ℕ) where
  abbrev pub short : LinkRow
  short = record { id = id; links = links }

  abbrev pub long : LinkRow
  long = record { id = id; links = links ++ next ∷ [] }

  abbrev pub pair : LinkRow
  pair = record { id = id; links = next ∷ [] }

  pub long_cases : (u : List ℕ) → has_text (ids_of long) u ≡ true → (has_text (ids_of short) u ≡ true) ⊎ (u ≡ next)
  long_cases u is =
      elim (or_cases (same_text u id) (has_text (links ++ next ∷ []) u) is) [
        | inl own ↦ inl (or_left (same_text u id) (has_text links u) own)
        | inr link ↦
            elim (or_cases (has_text links u) (has_text (next ∷ []) u) (sym (list_any-append (same_text u) links (next ∷ [])) ∙ link)) [
              | inl old ↦ inl (or_right (same_text u id) (has_text links u) old)
              | inr new ↦ inr (elim (or_cases (same_text u next) false new) [ inl here ↦ same_text_from u next here | inr none ↦ absurd (cc) ])
            ]
      ]

  long_old : (u : List ℕ) → has_text (ids_of short) u ≡ true → has_text (ids_of long) u ≡ true
  long_old u is = elim (or_cases (same_text u id) (has_text links u) is) [
    | inl own ↦ or_left (same_text u id) (has_text (links ++ next ∷ []) u) own
    | inr link ↦ or_right (same_text u id) (has_text (links ++ next ∷ []) u) (list_any-append (same_text u) links (next ∷ []) ∙ or_left (has_text links u) (has_text (next ∷ []) u) link)
  ]

  pub own_in : (row : LinkRow) → row.id ≡ id → has_text (ids_of row) id ≡ true
  own_in row is = or_left (same_text id row.id) (has_text row.links id) (ap (same_text id) is ∙ same_text_of id)

  next_in_long : has_text (ids_of long) next ≡ true
  next_in_long =
      or_right (same_text next id) (has_text (links ++ next ∷ []) next)
      (list_any-append (same_text next) links (next ∷ []) ∙ or_right (has_text links next) (has_text (next ∷ []) next) (or_left (same_text next next) false (same_text_of next)))

  pub next_in_pair : has_text (ids_of pair) next ≡ true
  next_in_pair = or_right (same_text next id) (has_text (next ∷ []) next) (or_left (same_text next next) false (same_text_of next))

  to_own : (u : List ℕ) → has_text (ids_of long) u ≡ true → Same (pair ∷ short ∷ rows) u id
  to_own u is = elim (long_cases u is) [
    | inl old ↦ Same_more (short ∷ rows) pair u id (in_row rows short u id old (own_in short refl))
    | inr new ↦ in_row (short ∷ rows) pair u id (subst (λ x. has_text (ids_of pair) x ≡ true) (sym new) next_in_pair) (own_in pair refl)
  ]

  long_step : (u v : List ℕ) → stand_together (long ∷ rows) u v ≡ true → Same (pair ∷ short ∷ rows) u v
  long_step u v is = elim (or_cases (has_text (ids_of long) u && has_text (ids_of long) v) (stand_together rows u v) is) [
    | inl here ↦
        let parts = and_parts (has_text (ids_of long) u) (has_text (ids_of long) v) here in
        Same_through (pair ∷ short ∷ rows) u id v (to_own u parts.0) (Same_turned (pair ∷ short ∷ rows) v id (to_own v parts.1))
    | inr there ↦ Same_more (short ∷ rows) pair u v (Same_more rows short u v (Same_beside rows u v there))
  ]

  pub pair_cases : (u : List ℕ) → has_text (ids_of pair) u ≡ true → has_text (ids_of long) u ≡ true
  pair_cases u is = elim (or_cases (same_text u id) (has_text (next ∷ []) u) is) [
    | inl own ↦ or_left (same_text u id) (has_text (links ++ next ∷ []) u) own
    | inr link ↦ elim (or_cases (same_text u next) false link) [ inl here ↦ subst (λ x. has_text (ids_of long) x ≡ true) (sym (same_text_from u next here)) next_in_long | inr none ↦ absurd (cc) ]
  ]

  short_step : (u v : List ℕ) → stand_together (pair ∷ short ∷ rows) u v ≡ true → Same (long ∷ rows) u v
  short_step u v is = elim (or_cases (has_text (ids_of pair) u && has_text (ids_of pair) v) (stand_together (short ∷ rows) u v) is) [
    | inl here ↦ let parts = and_parts (has_text (ids_of pair) u) (has_text (ids_of pair) v) here in in_row rows long u v (pair_cases u parts.0) (pair_cases v parts.1)
    | inr there ↦
        elim (or_cases (has_text (ids_of short) u && has_text (ids_of short) v) (stand_together rows u v) there) [
          | inl old ↦ let parts = and_parts (has_text (ids_of short) u) (has_text (ids_of short) v) old in in_row rows long u v (long_old u parts.0) (long_old v parts.1)
          | inr beside ↦ Same_more rows long u v (Same_beside rows u v beside)
        ]
  ]

  pub to_pair : (u v : List ℕ) → Same (long ∷ rows) u v → Same (pair ∷ short ∷ rows) u v
  to_pair u v is = Same_steps (long ∷ rows) (pair ∷ short ∷ rows) long_step u v is

  pub from_pair : (u v : List ℕ) → Same (pair ∷ short ∷ rows) u v → Same (long ∷ rows) u v
  from_pair u v is = Same_steps (pair ∷ short ∷ rows) (long ∷ rows) short_step u v is
