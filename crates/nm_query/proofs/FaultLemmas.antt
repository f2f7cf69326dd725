-- Where a fault of structure is reported beside queries. For the proof of `a_fault_of_structure_is_told_at_its_place`.
use Rattle.std.proofs.Common.{◌≡◌, ℕ, Bool, true, false, cond, not, List, [], ◌∷◌, ◌++◌, refl, sym, ap, ◌∙◌, arith}
use Rattle.std.specs.Prelude.{Option, Some, None, nat_le}
use Rattle.std.proofs.lemmas.Bool.Decides.{nat_tests}
use Rattle.std.proofs.lemmas.List.{append-nil}
use Rattle.nm_query.specs.Faults.{begin_operand, first_fault, is_closed, lacking_from, structure_fault, unmatched_from}
use Rattle.nm_query.specs.Grammar.{IsQuery, an_or, nothing, placed}
use Rattle.nm_query.specs.declared.query.Query.{Query}
use Rattle.nm_query.specs.declared.query_error.QueryError.TheVariants.{BadQuery}
use Rattle.nm_query.specs.declared.query_error.QueryKind.TheVariants as kind
use Rattle.nm_query.specs.declared.token.Operator.{Operator}
use Rattle.nm_query.specs.declared.token.Placed.{Placed}
use Rattle.nm_query.specs.declared.token.Token.TheVariants.{Binary, Close, Negation, Open}
use Rattle.nm_query.proofs.StructureLemmas.{fine-or}

-- what a query before these tokens leaves to be reported of them
matched-after : (first rest : List Placed) (query : Query) → IsQuery first query → unmatched_from 0 (first ++ rest) ≡ unmatched_from 0 rest
matched-after first rest query nothing = refl
matched-after first rest query (an_or tokens queries is) = (fine-or tokens queries is).matches 0 rest

lacking-after : (first rest : List Placed) (query : Query) → IsQuery first query → lacking_from true rest ≡ lacking_from false rest → lacking_from false (first ++ rest) ≡ lacking_from false rest
lacking-after first rest query nothing same = refl
lacking-after first rest query (an_or tokens queries is) same = (fine-or tokens queries is).lacks false rest ∙ same

-- a query closes no parenthesis before it, and nothing is reported of it
never-closes : (tokens : List Placed) (query : Query) → IsQuery tokens query → is_closed 0 tokens ≡ false
never-closes tokens query nothing = refl
never-closes tokens query (an_or tokens' queries is) = ap (is_closed 0) (sym (append-nil tokens')) ∙ (fine-or tokens' queries is).closes 0 []

all-matched : (tokens : List Placed) (query : Query) → IsQuery tokens query → unmatched_from 0 tokens ≡ None
all-matched tokens query is = ap (unmatched_from 0) (sym (append-nil tokens)) ∙ matched-after tokens [] query is

none-lacks : (before : Bool) (tokens : List Placed) (query : Query) → IsQuery tokens query → lacking_from before tokens ≡ None
none-lacks before tokens query nothing = refl
none-lacks before tokens query (an_or tokens' queries is) = ap (lacking_from before) (sym (append-nil tokens')) ∙ (fine-or tokens' queries is).lacks before []

-- of two faults
both : (tokens : List Placed) (paren operand : Option ℕ) → unmatched_from 0 tokens ≡ paren → lacking_from false tokens ≡ operand → structure_fault tokens ≡ first_fault paren operand
both tokens paren operand unmatched lacking = ap (λ x. first_fault x (lacking_from false tokens)) unmatched ∙ ap (first_fault paren) lacking

at-once : (at : ℕ) → first_fault (Some at) (Some at) ≡ Some (BadQuery at kind.Paren)
at-once at = let least : nat_le at at ≡ true = grind (arith, nat_tests) in ap (λ v. cond v (Some (BadQuery at kind.Paren)) (Some (BadQuery at kind.Operand))) least

-- after the `(` there is a query, or nothing
open_at : (at : ℕ) (second : List Placed) (begins : Bool) → begin_operand second ≡ begins → lacking_from false second ≡ None → first_fault (Some at) (lacking_from false (placed at Open ∷ second)) ≡ Some (BadQuery at kind.Paren)
open_at at second true begins none =
    ap (λ v. first_fault (Some at) (cond (not v) (Some at) (lacking_from false second))) begins ∙ ap (first_fault (Some at)) none
open_at at second false begins none =
    ap (λ v. first_fault (Some at) (cond (not v) (Some at) (lacking_from false second))) begins ∙ at-once at

module _ (at : ℕ) (first second : List Placed) (query other : Query) (is : IsQuery first query) (too : IsQuery second other) where
  unmatched-open : unmatched_from 0 (first ++ placed at Open ∷ second) ≡ Some at
  unmatched-open =
      matched-after first (placed at Open ∷ second) query is
      ∙ ap (λ v. cond v (unmatched_from 1 second) (Some at)) (never-closes second other too)

  pub open-told : structure_fault (first ++ placed at Open ∷ second) ≡ Some (BadQuery at kind.Paren)
  open-told =
      ap (λ x. first_fault x (lacking_from false (first ++ placed at Open ∷ second))) unmatched-open
      ∙ ap (first_fault (Some at)) (lacking-after first (placed at Open ∷ second) query is refl)
      ∙ open_at at second (begin_operand second) refl (none-lacks false second other too)

  pub close-told : structure_fault (first ++ placed at Close ∷ second) ≡ Some (BadQuery at kind.Paren)
  close-told =
      ap (λ x. first_fault x (lacking_from false (first ++ placed at Close ∷ second))) (matched-after first (placed at Close ∷ second) query is)
      ∙ ap (first_fault (Some at)) (lacking-after first (placed at Close ∷ second) query is refl ∙ none-lacks true second other too)

  pub empty-told : (end : ℕ) → structure_fault (first ++ placed at Open ∷ placed end Close ∷ second) ≡ Some (BadQuery at kind.Operand)
  empty-told end =
      both (first ++ placed at Open ∷ placed end Close ∷ second) None (Some at)
      (matched-after first (placed at Open ∷ placed end Close ∷ second) query is ∙ all-matched second other too)
      (lacking-after first (placed at Open ∷ placed end Close ∷ second) query is refl)

pub last-told : (at : ℕ) (operator : Operator) (first : List Placed) (query : Query) → IsQuery first query → structure_fault (first ++ placed at (Binary operator) ∷ []) ≡ Some (BadQuery at kind.Operand)
last-told at operator first query is =
    both (first ++ placed at (Binary operator) ∷ []) None (Some at) (matched-after first (placed at (Binary operator) ∷ []) query is) (lacking-after first (placed at (Binary operator) ∷ []) query is refl)

pub first-told : (at : ℕ) (operator : Operator) (second : List Placed) (other : Query) → IsQuery second other → structure_fault (placed at (Binary operator) ∷ second) ≡ Some (BadQuery at kind.Operand)
first-told at operator second other too = both (placed at (Binary operator) ∷ second) None (Some at) (all-matched second other too) refl

pub negation-told : (at : ℕ) (first : List Placed) (query : Query) → IsQuery first query → structure_fault (first ++ placed at Negation ∷ []) ≡ Some (BadQuery at kind.Operand)
negation-told at first query is =
    both (first ++ placed at Negation ∷ []) None (Some at) (matched-after first (placed at Negation ∷ []) query is) (lacking-after first (placed at Negation ∷ []) query is refl)
