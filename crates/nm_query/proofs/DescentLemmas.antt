-- Tokens without a fault of structure are read by the grammar: operands, groups and lists are found one after the other.
-- For the proof of `tokens_without_a_fault_are_a_query`.
use Rattle.std.proofs.Common.{◌≡◌, ℕ, zero, suc, ◌+◌, ◌*◌, ◌<◌, ◌≤◌, Bool, true, false, cond, not, List, [], ◌∷◌, ◌++◌, length, refl, sym, ap, subst, ◌∙◌, arith, append_assoc}
use Rattle.std.specs.Prelude.{Option, Some, None, nat_le}
use Rattle.std.proofs.lemmas.List.{append-nil}
use Rattle.nm_query.specs.Faults.{begin_operand, begins_operand, first_fault, is_closed, lacking_from, structure_fault, unmatched_from}
use Rattle.nm_query.specs.Grammar.{IsAnd, IsGroup, IsOperand, IsOr, IsQuery, IsXor, a_term, alone, an_or, enclosed, more_ands, more_groups, more_operands, more_xors, negated, nothing, one_and, one_group, one_operand, one_xor, placed}
use Rattle.nm_query.specs.Groups.{group_query, joined}
use Rattle.nm_query.specs.Levels.{tree_of}
use Rattle.nm_query.specs.declared.query.Query.{Query}
use Rattle.nm_query.specs.declared.query.Query.TheVariants as tree
use Rattle.nm_query.specs.declared.query_error.QueryError.TheVariants.{BadQuery}
use Rattle.nm_query.specs.declared.query_error.QueryKind.TheVariants as kind
use Rattle.nm_query.specs.declared.token.Item.{Item}
use Rattle.nm_query.specs.declared.token.Operator.{Operator}
use Rattle.nm_query.specs.declared.token.Operator.TheVariants.{Conjunction, Disjunction, Exclusion}
use Rattle.nm_query.specs.declared.token.Placed.{Placed}
use Rattle.nm_query.specs.declared.token.Token.{Token}
use Rattle.nm_query.specs.declared.token.Token.TheVariants.{Binary, Close, Negation, Open, Term}
use Rattle.nm_query.proofs.GrammarLemmas.{tree_of-query}

-- all parentheses that are open are closed in the tokens
abbrev Closed : ℕ → List Placed → Type 0
Closed zero tokens = Unit {0}
Closed (suc opened) tokens = is_closed opened tokens ≡ true

-- no fault is reported of the tokens
record Good (opened : ℕ) (before : Bool) (tokens : List Placed) : Type 0 where
  closed : Closed opened tokens
  matched : unmatched_from opened tokens ≡ None
  complete : lacking_from before tokens ≡ None

-- a list goes on by an operand, or by one of these operators
abbrev goes_at : (Operator → Bool) → Token → Bool
goes_at by Open = true
goes_at by Close = false
goes_at by Negation = true
goes_at by (Binary operator) = by operator
goes_at by (Term item) = true

abbrev goes : (Operator → Bool) → List Placed → Bool
goes by [] = false
goes by (first ∷ more) = goes_at by first.token

abbrev by_none : Operator → Bool
by_none operator = false

abbrev by_and : Operator → Bool
by_and Conjunction = true
by_and Exclusion = false
by_and Disjunction = false

abbrev by_xor : Operator → Bool
by_xor Conjunction = true
by_xor Exclusion = true
by_xor Disjunction = false

abbrev by_or : Operator → Bool
by_or operator = true

record HasOperand (opened : ℕ) (tokens : List Placed) : Type 0 where
  front : List Placed
  rest : List Placed
  item : Item
  all : tokens ≡ front ++ rest
  is : IsOperand front item
  good : Good opened true rest
  shorter : length rest < length tokens

record Part {A : Type 0} (Is : List Placed → A → Type 0) (by : Operator → Bool) (opened : ℕ) (tokens : List Placed) : Type 0 where
  front : List Placed
  rest : List Placed
  value : A
  all : tokens ≡ front ++ rest
  is : Is front value
  good : Good opened true rest
  shorter : length rest < length tokens
  stops : goes by rest ≡ false

record More {A : Type 0} (Is : List Placed → A → Type 0) (by : Operator → Bool) (opened : ℕ) (found tokens : List Placed) : Type 0 where
  front : List Placed
  rest : List Placed
  value : A
  all : tokens ≡ front ++ rest
  is : Is (found ++ front) value
  good : Good opened true rest
  fits : length rest ≤ length tokens
  stops : goes by rest ≡ false

extend : (tokens front rest more last : List Placed) → tokens ≡ front ++ rest → rest ≡ more ++ last → tokens ≡ (front ++ more) ++ last
extend tokens front rest more last e f = e ∙ ap (λ x. front ++ x) f ∙ sym (append_assoc front more last)

needs : (at : ℕ) (more : List Placed) → cond (not (begin_operand more)) (Some at) (lacking_from false more) ≡ None → (begin_operand more ≡ true) × (lacking_from false more ≡ None)
needs at more h = elim (begin_operand more) as (λ v. cond (not v) (Some at) (lacking_from false more) ≡ None → (v ≡ true) × (lacking_from false more ≡ None)) [
  | true ↦ λ h. (refl, h)
  | false ↦ λ h. absurd (cc)
] h

is_matched : (at opened : ℕ) (more : List Placed) → cond (is_closed 0 more) (unmatched_from (suc opened) more) (Some at) ≡ None → (is_closed 0 more ≡ true) × (unmatched_from (suc opened) more ≡ None)
is_matched at opened more h = elim (is_closed 0 more) as (λ v. cond v (unmatched_from (suc opened) more) (Some at) ≡ None → (v ≡ true) × (unmatched_from (suc opened) more ≡ None)) [
  | true ↦ λ h. (refl, h)
  | false ↦ λ h. absurd (cc)
] h

closed_term : (opened at : ℕ) (item : Item) (more : List Placed) → Closed opened (placed at (Term item) ∷ more) → Closed opened more
closed_term zero at item more h = h
closed_term (suc opened) at item more h = h

closed_negation : (opened at : ℕ) (more : List Placed) → Closed opened (placed at Negation ∷ more) → Closed opened more
closed_negation zero at more h = h
closed_negation (suc opened) at more h = h

closed_binary : (opened at : ℕ) (operator : Operator) (more : List Placed) → Closed opened (placed at (Binary operator) ∷ more) → Closed opened more
closed_binary zero at operator more h = h
closed_binary (suc opened) at operator more h = h

closed_open : (opened at : ℕ) (more : List Placed) → Closed opened (placed at Open ∷ more) → is_closed 0 more ≡ true → is_closed opened more ≡ true
closed_open zero at more h inner = inner
closed_open (suc opened) at more h inner = h

closed_close : (opened at : ℕ) (more : List Placed) → is_closed opened (placed at Close ∷ more) ≡ true → Closed opened more
closed_close zero at more h = tt
closed_close (suc opened) at more h = h

-- a level that ends where it has to be closed ends at a `)`
record EndsClosed (tokens : List Placed) : Type 0 where
  end : ℕ
  rest : List Placed
  all : tokens ≡ placed end Close ∷ rest

ends_at : (at : ℕ) (token : Token) (more : List Placed) → goes_at by_or token ≡ false → EndsClosed (placed at token ∷ more)
ends_at at Open more h = absurd (cc)
ends_at at Close more h = record { end = at; rest = more; all = refl }
ends_at at Negation more h = absurd (cc)
ends_at at (Binary operator) more h = absurd (cc)
ends_at at (Term item) more h = absurd (cc)

ends_closed : (opened : ℕ) (tokens : List Placed) → is_closed opened tokens ≡ true → goes by_or tokens ≡ false → EndsClosed tokens
ends_closed opened [] closed stops = absurd (cc)
ends_closed opened (first ∷ more) closed stops = ends_at first.at first.token more stops

stops_group_at : (token : Token) → begins_operand token ≡ false → goes_at by_none token ≡ false
stops_group_at Open h = h
stops_group_at Close h = refl
stops_group_at Negation h = h
stops_group_at (Binary operator) h = refl
stops_group_at (Term item) h = h

stops_group : (tokens : List Placed) → begin_operand tokens ≡ false → goes by_none tokens ≡ false
stops_group [] h = refl
stops_group (first ∷ more) h = stops_group_at first.token h

-- nothing more belongs to what was found
stopped : {A : Type 0} (Is : List Placed → A → Type 0) (by : Operator → Bool) (opened : ℕ) (found tokens : List Placed) (value : A) → Is found value → Good opened true tokens → goes by tokens ≡ false → More Is by opened found tokens
stopped Is by opened found tokens value is good stops = record { front = []; rest = tokens; value = value; all = refl; is = subst (λ x. Is x value) (sym (append-nil found)) is; good = good; fits = omega arith; stops = stops }

-- the number is more than ten for each token
mutual
  has_operand : (n opened : ℕ) (before : Bool) (tokens : List Placed) → 10 * length tokens ≤ n → begin_operand tokens ≡ true → Good opened before tokens → HasOperand opened tokens
  has_operand n opened before [] fits begins good = absurd (cc)
  has_operand zero opened before (first ∷ more) fits begins good = absurd (omega arith)
  has_operand (suc n) opened before (first ∷ more) fits begins good = operand_at n opened before first.at first.token more (omega arith) begins good

  operand_at : (n opened : ℕ) (before : Bool) (at : ℕ) (token : Token) (more : List Placed) → 10 * length more + 9 ≤ n → begins_operand token ≡ true → Good opened before (placed at token ∷ more) → HasOperand opened (placed at token ∷ more)
  operand_at zero opened before at token more fits begins good = absurd (omega arith)
  operand_at (suc n) opened before at Close more fits begins good = absurd (cc)
  operand_at (suc n) opened before at (Binary operator) more fits begins good = absurd (cc)
  operand_at (suc n) opened before at (Term item) more fits begins good =
      record { front = placed at (Term item) ∷ []; rest = more; item = item; all = refl; is = a_term at item; good = record { closed = closed_term opened at item more good.closed; matched = good.matched; complete = good.complete }; shorter = omega arith }
  operand_at (suc n) opened before at Negation more fits begins good =
      let next = needs at more good.complete in
      let inner = has_operand n opened false more (omega arith) next.0 (record { closed = closed_negation opened at more good.closed; matched = good.matched; complete = next.1 }) in
      let short = inner.shorter in
      record { front = placed at Negation ∷ inner.front; rest = inner.rest; item = alone (tree.Not inner.item.query); all = ap (λ x. placed at Negation ∷ x) inner.all; is = negated at inner.front inner.item inner.is; good = inner.good; shorter = omega arith }
  operand_at (suc n) opened before at Open more fits begins good =
      let next = needs at more good.complete in
      let match = is_matched at opened more good.matched in
      let inner = an_or_part n (suc opened) more (omega arith) next.0 (record { closed = closed_open opened at more good.closed match.0; matched = match.1; complete = next.1 }) in
      let ends = ends_closed opened inner.rest inner.good.closed inner.stops in
      let after : Good (suc opened) true (placed ends.end Close ∷ ends.rest) = subst (Good (suc opened) true) ends.all inner.good in
      let short = inner.shorter in
      let long = ap length ends.all in
      record {
        front = placed at Open ∷ (inner.front ++ placed ends.end Close ∷ []);
        rest = ends.rest;
        item = alone (joined Disjunction inner.value);
        all = ap (λ x. placed at Open ∷ x) (extend more inner.front inner.rest (placed ends.end Close ∷ []) ends.rest inner.all ends.all);
        is = enclosed at ends.end inner.front inner.value inner.is;
        good = record { closed = closed_close opened ends.end ends.rest after.closed; matched = after.matched; complete = after.complete };
        shorter = omega arith;
      }

  group_rest : (n opened : ℕ) (found : List Placed) (items : List Item) → IsGroup found items → (tokens : List Placed) → 10 * length tokens + 1 ≤ n → Good opened true tokens → More IsGroup by_none opened found tokens
  group_rest zero opened found items is tokens fits good = absurd (omega arith)
  group_rest (suc n) opened found items is tokens fits good =
      elim (begin_operand tokens) as (λ v. begin_operand tokens ≡ v → More IsGroup by_none opened found tokens) [
        | true ↦ λ begins.
            let next = has_operand n opened true tokens (omega arith) begins good in
            let short = next.shorter in
            let more = group_rest n opened (found ++ next.front) (items ++ next.item ∷ []) (more_operands found next.front items next.item is next.is) next.rest (omega arith) next.good in
            let least = more.fits in
            record {
              front = next.front ++ more.front;
              rest = more.rest;
              value = more.value;
              all = extend tokens next.front next.rest more.front more.rest next.all more.all;
              is = subst (λ x. IsGroup x more.value) (append_assoc found next.front more.front) more.is;
              good = more.good;
              fits = omega arith;
              stops = more.stops;
            }
        | false ↦ λ none. stopped IsGroup by_none opened found tokens items is good (stops_group tokens none)
      ] refl

  a_group : (n opened : ℕ) (tokens : List Placed) → 10 * length tokens + 2 ≤ n → begin_operand tokens ≡ true → Good opened false tokens → Part IsGroup by_none opened tokens
  a_group zero opened tokens fits begins good = absurd (omega arith)
  a_group (suc n) opened tokens fits begins good =
      let first = has_operand n opened false tokens (omega arith) begins good in
      let short = first.shorter in
      let more = group_rest n opened first.front (first.item ∷ []) (one_operand first.front first.item first.is) first.rest (omega arith) first.good in
      let least = more.fits in
      record { front = first.front ++ more.front; rest = more.rest; value = more.value; all = extend tokens first.front first.rest more.front more.rest first.all more.all; is = more.is; good = more.good; shorter = omega arith; stops = more.stops }

  and_rest : (n opened : ℕ) (found : List Placed) (queries : List Query) → IsAnd found queries → (tokens : List Placed) → 10 * length tokens + 1 ≤ n → Good opened true tokens → goes by_none tokens ≡ false → More IsAnd by_and opened found tokens
  and_rest zero opened found queries is tokens fits good stops = absurd (omega arith)
  and_rest (suc n) opened found queries is [] fits good stops = stopped IsAnd by_and opened found [] queries is good refl
  and_rest (suc n) opened found queries is (first ∷ more) fits good stops = and_at n opened found queries is first.at first.token more (omega arith) good stops

  and_at : (n opened : ℕ) (found : List Placed) (queries : List Query) → IsAnd found queries → (at : ℕ) (token : Token) (more : List Placed) → 10 * length more + 10 ≤ n → Good opened true (placed at token ∷ more) → goes_at by_none token ≡ false → More IsAnd by_and opened found (placed at token ∷ more)
  and_at zero opened found queries is at token more fits good stops = absurd (omega arith)
  and_at (suc n) opened found queries is at Open more fits good stops = absurd (cc)
  and_at (suc n) opened found queries is at Close more fits good stops = stopped IsAnd by_and opened found (placed at Close ∷ more) queries is good refl
  and_at (suc n) opened found queries is at Negation more fits good stops = absurd (cc)
  and_at (suc n) opened found queries is at (Term item) more fits good stops = absurd (cc)
  and_at (suc n) opened found queries is at (Binary Conjunction) more fits good stops =
      let next = needs at more good.complete in
      let inner = a_group n opened more (omega arith) next.0 (record { closed = closed_binary opened at Conjunction more good.closed; matched = good.matched; complete = next.1 }) in
      let short = inner.shorter in
      let last = and_rest n opened (found ++ placed at (Binary Conjunction) ∷ inner.front) (queries ++ group_query inner.value ∷ []) (more_groups at found inner.front queries inner.value is inner.is) inner.rest (omega arith) inner.good inner.stops in
      let least = last.fits in
      record {
        front = placed at (Binary Conjunction) ∷ (inner.front ++ last.front);
        rest = last.rest;
        value = last.value;
        all = ap (λ x. placed at (Binary Conjunction) ∷ x) (extend more inner.front inner.rest last.front last.rest inner.all last.all);
        is = subst (λ x. IsAnd x last.value) (append_assoc found (placed at (Binary Conjunction) ∷ inner.front) last.front) last.is;
        good = last.good;
        fits = omega arith;
        stops = last.stops;
      }
  and_at (suc n) opened found queries is at (Binary Exclusion) more fits good stops = stopped IsAnd by_and opened found (placed at (Binary Exclusion) ∷ more) queries is good refl
  and_at (suc n) opened found queries is at (Binary Disjunction) more fits good stops = stopped IsAnd by_and opened found (placed at (Binary Disjunction) ∷ more) queries is good refl

  an_and_part : (n opened : ℕ) (tokens : List Placed) → 10 * length tokens + 3 ≤ n → begin_operand tokens ≡ true → Good opened false tokens → Part IsAnd by_and opened tokens
  an_and_part zero opened tokens fits begins good = absurd (omega arith)
  an_and_part (suc n) opened tokens fits begins good =
      let first = a_group n opened tokens (omega arith) begins good in
      let short = first.shorter in
      let more = and_rest n opened first.front (group_query first.value ∷ []) (one_group first.front first.value first.is) first.rest (omega arith) first.good first.stops in
      let least = more.fits in
      record { front = first.front ++ more.front; rest = more.rest; value = more.value; all = extend tokens first.front first.rest more.front more.rest first.all more.all; is = more.is; good = more.good; shorter = omega arith; stops = more.stops }

  xor_rest : (n opened : ℕ) (found : List Placed) (queries : List Query) → IsXor found queries → (tokens : List Placed) → 10 * length tokens + 1 ≤ n → Good opened true tokens → goes by_and tokens ≡ false → More IsXor by_xor opened found tokens
  xor_rest zero opened found queries is tokens fits good stops = absurd (omega arith)
  xor_rest (suc n) opened found queries is [] fits good stops = stopped IsXor by_xor opened found [] queries is good refl
  xor_rest (suc n) opened found queries is (first ∷ more) fits good stops = xor_at n opened found queries is first.at first.token more (omega arith) good stops

  xor_at : (n opened : ℕ) (found : List Placed) (queries : List Query) → IsXor found queries → (at : ℕ) (token : Token) (more : List Placed) → 10 * length more + 10 ≤ n → Good opened true (placed at token ∷ more) → goes_at by_and token ≡ false → More IsXor by_xor opened found (placed at token ∷ more)
  xor_at zero opened found queries is at token more fits good stops = absurd (omega arith)
  xor_at (suc n) opened found queries is at Open more fits good stops = absurd (cc)
  xor_at (suc n) opened found queries is at Close more fits good stops = stopped IsXor by_xor opened found (placed at Close ∷ more) queries is good refl
  xor_at (suc n) opened found queries is at Negation more fits good stops = absurd (cc)
  xor_at (suc n) opened found queries is at (Term item) more fits good stops = absurd (cc)
  xor_at (suc n) opened found queries is at (Binary Conjunction) more fits good stops = absurd (cc)
  xor_at (suc n) opened found queries is at (Binary Exclusion) more fits good stops =
      let next = needs at more good.complete in
      let inner = an_and_part n opened more (omega arith) next.0 (record { closed = closed_binary opened at Exclusion more good.closed; matched = good.matched; complete = next.1 }) in
      let short = inner.shorter in
      let last = xor_rest n opened (found ++ placed at (Binary Exclusion) ∷ inner.front) (queries ++ joined Conjunction inner.value ∷ []) (more_ands at found inner.front queries inner.value is inner.is) inner.rest (omega arith) inner.good inner.stops in
      let least = last.fits in
      record {
        front = placed at (Binary Exclusion) ∷ (inner.front ++ last.front);
        rest = last.rest;
        value = last.value;
        all = ap (λ x. placed at (Binary Exclusion) ∷ x) (extend more inner.front inner.rest last.front last.rest inner.all last.all);
        is = subst (λ x. IsXor x last.value) (append_assoc found (placed at (Binary Exclusion) ∷ inner.front) last.front) last.is;
        good = last.good;
        fits = omega arith;
        stops = last.stops;
      }
  xor_at (suc n) opened found queries is at (Binary Disjunction) more fits good stops = stopped IsXor by_xor opened found (placed at (Binary Disjunction) ∷ more) queries is good refl

  an_xor_part : (n opened : ℕ) (tokens : List Placed) → 10 * length tokens + 4 ≤ n → begin_operand tokens ≡ true → Good opened false tokens → Part IsXor by_xor opened tokens
  an_xor_part zero opened tokens fits begins good = absurd (omega arith)
  an_xor_part (suc n) opened tokens fits begins good =
      let first = an_and_part n opened tokens (omega arith) begins good in
      let short = first.shorter in
      let more = xor_rest n opened first.front (joined Conjunction first.value ∷ []) (one_and first.front first.value first.is) first.rest (omega arith) first.good first.stops in
      let least = more.fits in
      record { front = first.front ++ more.front; rest = more.rest; value = more.value; all = extend tokens first.front first.rest more.front more.rest first.all more.all; is = more.is; good = more.good; shorter = omega arith; stops = more.stops }

  or_rest : (n opened : ℕ) (found : List Placed) (queries : List Query) → IsOr found queries → (tokens : List Placed) → 10 * length tokens + 1 ≤ n → Good opened true tokens → goes by_xor tokens ≡ false → More IsOr by_or opened found tokens
  or_rest zero opened found queries is tokens fits good stops = absurd (omega arith)
  or_rest (suc n) opened found queries is [] fits good stops = stopped IsOr by_or opened found [] queries is good refl
  or_rest (suc n) opened found queries is (first ∷ more) fits good stops = or_at n opened found queries is first.at first.token more (omega arith) good stops

  or_at : (n opened : ℕ) (found : List Placed) (queries : List Query) → IsOr found queries → (at : ℕ) (token : Token) (more : List Placed) → 10 * length more + 10 ≤ n → Good opened true (placed at token ∷ more) → goes_at by_xor token ≡ false → More IsOr by_or opened found (placed at token ∷ more)
  or_at zero opened found queries is at token more fits good stops = absurd (omega arith)
  or_at (suc n) opened found queries is at Open more fits good stops = absurd (cc)
  or_at (suc n) opened found queries is at Close more fits good stops = stopped IsOr by_or opened found (placed at Close ∷ more) queries is good refl
  or_at (suc n) opened found queries is at Negation more fits good stops = absurd (cc)
  or_at (suc n) opened found queries is at (Term item) more fits good stops = absurd (cc)
  or_at (suc n) opened found queries is at (Binary Conjunction) more fits good stops = absurd (cc)
  or_at (suc n) opened found queries is at (Binary Exclusion) more fits good stops = absurd (cc)
  or_at (suc n) opened found queries is at (Binary Disjunction) more fits good stops =
      let next = needs at more good.complete in
      let inner = an_xor_part n opened more (omega arith) next.0 (record { closed = closed_binary opened at Disjunction more good.closed; matched = good.matched; complete = next.1 }) in
      let short = inner.shorter in
      let last = or_rest n opened (found ++ placed at (Binary Disjunction) ∷ inner.front) (queries ++ joined Exclusion inner.value ∷ []) (more_xors at found inner.front queries inner.value is inner.is) inner.rest (omega arith) inner.good inner.stops in
      let least = last.fits in
      record {
        front = placed at (Binary Disjunction) ∷ (inner.front ++ last.front);
        rest = last.rest;
        value = last.value;
        all = ap (λ x. placed at (Binary Disjunction) ∷ x) (extend more inner.front inner.rest last.front last.rest inner.all last.all);
        is = subst (λ x. IsOr x last.value) (append_assoc found (placed at (Binary Disjunction) ∷ inner.front) last.front) last.is;
        good = last.good;
        fits = omega arith;
        stops = last.stops;
      }

  an_or_part : (n opened : ℕ) (tokens : List Placed) → 10 * length tokens + 5 ≤ n → begin_operand tokens ≡ true → Good opened false tokens → Part IsOr by_or opened tokens
  an_or_part zero opened tokens fits begins good = absurd (omega arith)
  an_or_part (suc n) opened tokens fits begins good =
      let first = an_xor_part n opened tokens (omega arith) begins good in
      let short = first.shorter in
      let more = or_rest n opened first.front (joined Exclusion first.value ∷ []) (one_xor first.front first.value first.is) first.rest (omega arith) first.good first.stops in
      let least = more.fits in
      record { front = first.front ++ more.front; rest = more.rest; value = more.value; all = extend tokens first.front first.rest more.front more.rest first.all more.all; is = more.is; good = more.good; shorter = omega arith; stops = more.stops }

-- what the grammar reads in tokens of which no fault is reported
record ReadQuery (tokens : List Placed) : Type 0 where
  query : Query
  is : IsQuery tokens query

begins_at : (at : ℕ) (token : Token) (more : List Placed) → unmatched_from 0 (placed at token ∷ more) ≡ None → lacking_from false (placed at token ∷ more) ≡ None → begins_operand token ≡ true
begins_at at Open more matched complete = refl
begins_at at Close more matched complete = absurd (cc)
begins_at at Negation more matched complete = refl
begins_at at (Binary operator) more matched complete = absurd (cc)
begins_at at (Term item) more matched complete = refl

-- where nothing is open a level ends at the end
ends_all_at : (at : ℕ) (token : Token) (more : List Placed) → unmatched_from 0 (placed at token ∷ more) ≡ None → goes_at by_or token ≡ false → ⊥
ends_all_at at Open more matched stops = cc
ends_all_at at Close more matched stops = cc
ends_all_at at Negation more matched stops = cc
ends_all_at at (Binary operator) more matched stops = cc
ends_all_at at (Term item) more matched stops = cc

ends_all : (tokens : List Placed) → unmatched_from 0 tokens ≡ None → goes by_or tokens ≡ false → tokens ≡ []
ends_all [] matched stops = refl
ends_all (first ∷ more) matched stops = absurd (ends_all_at first.at first.token more matched stops)

reads_good : (tokens : List Placed) → unmatched_from 0 tokens ≡ None → lacking_from false tokens ≡ None → ReadQuery tokens
reads_good [] matched complete = record { query = tree.All; is = nothing }
reads_good (first ∷ more) matched complete =
    let tokens : List Placed = first ∷ more in
    let part = an_or_part (10 * length tokens + 5) 0 tokens (omega arith) (begins_at first.at first.token more matched complete) (record { closed = tt; matched = matched; complete = complete }) in
    let none = ends_all part.rest part.good.matched part.stops in
    let all : part.front ≡ tokens = sym (part.all ∙ ap (λ x. part.front ++ x) none ∙ append-nil part.front) in
    record { query = joined Disjunction part.value; is = subst (λ x. IsQuery x (joined Disjunction part.value)) all (an_or part.front part.value part.is) }

some_fault : (paren operand : ℕ) → first_fault (Some paren) (Some operand) ≡ None → ⊥
some_fault paren operand h = elim (nat_le paren operand) as (λ v. cond v (Some (BadQuery paren kind.Paren)) (Some (BadQuery operand kind.Operand)) ≡ None → ⊥) [
  | true ↦ λ h. cc
  | false ↦ λ h. cc
] h

no_fault : (paren operand : Option ℕ) → first_fault paren operand ≡ None → (paren ≡ None) × (operand ≡ None)
no_fault None None h = (refl, refl)
no_fault None (Some operand) h = absurd (cc)
no_fault (Some paren) None h = absurd (cc)
no_fault (Some paren) (Some operand) h = absurd (some_fault paren operand h)

pub query_of-structure : (tokens : List Placed) → structure_fault tokens ≡ None → IsQuery tokens (tree_of tokens)
query_of-structure tokens h =
    let none = no_fault (unmatched_from 0 tokens) (lacking_from false tokens) h in
    let read = reads_good tokens none.0 none.1 in
    subst (IsQuery tokens) (sym (tree_of-query tokens read.query read.is)) read.is
