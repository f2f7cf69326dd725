-- What the grammar reads as a query has no fault of structure. For the proof of `tokens_without_a_fault_are_a_query`.
use Rattle.std.proofs.Common.{◌≡◌, ℕ, suc, Bool, true, false, cond, not, List, [], ◌∷◌, ◌++◌, refl, sym, ap, ◌∙◌, append_assoc}
use Rattle.std.specs.Prelude.{Some, None}
use Rattle.std.proofs.lemmas.List.{append-nil}
use Rattle.nm_query.specs.Faults.{begin_operand, first_fault, is_closed, lacking_from, structure_fault, unmatched_from}
use Rattle.nm_query.specs.Grammar.{IsAnd, IsGroup, IsOperand, IsOr, IsQuery, IsXor, a_term, an_or, enclosed, more_ands, more_groups, more_operands, more_xors, negated, nothing, one_and, one_group, one_operand, one_xor, placed}
use Rattle.nm_query.specs.declared.query.Query.{Query}
use Rattle.nm_query.specs.declared.token.Item.{Item}
use Rattle.nm_query.specs.declared.token.Operator.{Operator}
use Rattle.nm_query.specs.declared.token.Placed.{Placed}
use Rattle.nm_query.specs.declared.token.Token.TheVariants.{Binary, Close, Negation, Open, Term}

-- these tokens are an operand: what is reported of them and others after them is reported of the others alone
pub record Fine (tokens : List Placed) : Type 0 where
  pub closes : (opened : ℕ) (rest : List Placed) → is_closed opened (tokens ++ rest) ≡ is_closed opened rest
  pub matches : (opened : ℕ) (rest : List Placed) → unmatched_from opened (tokens ++ rest) ≡ unmatched_from opened rest
  pub lacks : (before : Bool) (rest : List Placed) → lacking_from before (tokens ++ rest) ≡ lacking_from true rest
  pub begins : (rest : List Placed) → begin_operand (tokens ++ rest) ≡ true

-- a token that needs an operand after it, and has one
needed : (at : ℕ) (rest : List Placed) (before : Bool) → begin_operand rest ≡ true → cond (not (begin_operand rest)) (Some at) (lacking_from before rest) ≡ lacking_from before rest
needed at rest before begins = ap (λ v. cond (not v) (Some at) (lacking_from before rest)) begins

fine_term : (at : ℕ) (item : Item) → Fine (placed at (Term item) ∷ [])
fine_term at item = record {
  closes = λ opened rest. refl;
  matches = λ opened rest. refl;
  lacks = λ before rest. refl;
  begins = λ rest. refl;
}

fine_negated : (at : ℕ) (tokens : List Placed) → Fine tokens → Fine (placed at Negation ∷ tokens)
fine_negated at tokens fine = record {
  closes = λ opened rest. fine.closes opened rest;
  matches = λ opened rest. fine.matches opened rest;
  lacks = λ before rest. needed at (tokens ++ rest) false (fine.begins rest) ∙ fine.lacks false rest;
  begins = λ rest. refl;
}

fine_enclosed : (at end : ℕ) (tokens : List Placed) → Fine tokens → Fine (placed at Open ∷ (tokens ++ placed end Close ∷ []))
fine_enclosed at end tokens fine =
    let close : List Placed → List Placed = λ rest. placed end Close ∷ rest in
    let whole : (rest : List Placed) → (tokens ++ placed end Close ∷ []) ++ rest ≡ tokens ++ close rest = λ rest. append_assoc tokens (placed end Close ∷ []) rest in
    let begins : (rest : List Placed) → begin_operand ((tokens ++ placed end Close ∷ []) ++ rest) ≡ true = λ rest. ap begin_operand (whole rest) ∙ fine.begins (close rest) in
    record {
      closes = λ opened rest. ap (is_closed (suc opened)) (whole rest) ∙ fine.closes (suc opened) (close rest);
      matches = λ opened rest.
          ap (λ v. cond v (unmatched_from (suc opened) ((tokens ++ placed end Close ∷ []) ++ rest)) (Some at)) (ap (is_closed 0) (whole rest) ∙ fine.closes 0 (close rest))
          ∙ ap (unmatched_from (suc opened)) (whole rest) ∙ fine.matches (suc opened) (close rest);
      lacks = λ before rest.
          needed at ((tokens ++ placed end Close ∷ []) ++ rest) false (begins rest)
          ∙ ap (lacking_from false) (whole rest) ∙ fine.lacks false (close rest);
      begins = λ rest. refl;
    }

fine_after : (first tokens : List Placed) → Fine first → Fine tokens → Fine (first ++ tokens)
fine_after first tokens fine more = record {
  closes = λ opened rest. ap (is_closed opened) (append_assoc first tokens rest) ∙ fine.closes opened (tokens ++ rest) ∙ more.closes opened rest;
  matches = λ opened rest. ap (unmatched_from opened) (append_assoc first tokens rest) ∙ fine.matches opened (tokens ++ rest) ∙ more.matches opened rest;
  lacks = λ before rest. ap (lacking_from before) (append_assoc first tokens rest) ∙ fine.lacks before (tokens ++ rest) ∙ more.lacks true rest;
  begins = λ rest. ap begin_operand (append_assoc first tokens rest) ∙ fine.begins (tokens ++ rest);
}

fine_joined : (at : ℕ) (operator : Operator) (first tokens : List Placed) → Fine first → Fine tokens → Fine (first ++ placed at (Binary operator) ∷ tokens)
fine_joined at operator first tokens fine more =
    let behind : List Placed → List Placed = λ rest. placed at (Binary operator) ∷ (tokens ++ rest) in
    let whole : (rest : List Placed) → (first ++ placed at (Binary operator) ∷ tokens) ++ rest ≡ first ++ behind rest = λ rest. append_assoc first (placed at (Binary operator) ∷ tokens) rest in
    record {
      closes = λ opened rest. ap (is_closed opened) (whole rest) ∙ fine.closes opened (behind rest) ∙ more.closes opened rest;
      matches = λ opened rest. ap (unmatched_from opened) (whole rest) ∙ fine.matches opened (behind rest) ∙ more.matches opened rest;
      lacks = λ before rest. ap (lacking_from before) (whole rest) ∙ fine.lacks before (behind rest) ∙ needed at (tokens ++ rest) false (more.begins rest) ∙ more.lacks false rest;
      begins = λ rest. ap begin_operand (whole rest) ∙ fine.begins (behind rest);
    }

mutual
  fine-operand : (tokens : List Placed) (item : Item) → IsOperand tokens item → Fine tokens
  fine-operand tokens item (a_term at item') = fine_term at item'
  fine-operand tokens item (negated at rest item' is) = fine_negated at rest (fine-operand rest item' is)
  fine-operand tokens item (enclosed at end rest queries is) = fine_enclosed at end rest (fine-or rest queries is)

  fine-group : (tokens : List Placed) (items : List Item) → IsGroup tokens items → Fine tokens
  fine-group tokens items (one_operand tokens' item is) = fine-operand tokens' item is
  fine-group tokens items (more_operands first rest some item group is) = fine_after first rest (fine-group first some group) (fine-operand rest item is)

  fine-and : (tokens : List Placed) (queries : List Query) → IsAnd tokens queries → Fine tokens
  fine-and tokens queries (one_group tokens' items is) = fine-group tokens' items is
  fine-and tokens queries (more_groups at first rest some items ands is) = fine_joined at _ first rest (fine-and first some ands) (fine-group rest items is)

  fine-xor : (tokens : List Placed) (queries : List Query) → IsXor tokens queries → Fine tokens
  fine-xor tokens queries (one_and tokens' ands is) = fine-and tokens' ands is
  fine-xor tokens queries (more_ands at first rest some ands xors is) = fine_joined at _ first rest (fine-xor first some xors) (fine-and rest ands is)

  pub fine-or : (tokens : List Placed) (queries : List Query) → IsOr tokens queries → Fine tokens
  fine-or tokens queries (one_xor tokens' xors is) = fine-xor tokens' xors is
  fine-or tokens queries (more_xors at first rest some xors ors is) = fine_joined at _ first rest (fine-or first some ors) (fine-xor rest xors is)

no-fault : (tokens : List Placed) → Fine tokens → structure_fault tokens ≡ None
no-fault tokens fine =
    let all : tokens ++ [] ≡ tokens = append-nil tokens in
    let matched : unmatched_from 0 tokens ≡ None = ap (unmatched_from 0) (sym all) ∙ fine.matches 0 [] in
    let complete : lacking_from false tokens ≡ None = ap (lacking_from false) (sym all) ∙ fine.lacks false [] in
    ap (λ x. first_fault x (lacking_from false tokens)) matched ∙ ap (first_fault None) complete

pub structure_fault-query : (tokens : List Placed) (query : Query) → IsQuery tokens query → structure_fault tokens ≡ None
structure_fault-query tokens query nothing = refl
structure_fault-query tokens query (an_or tokens' queries is) = no-fault tokens' (fine-or tokens' queries is)
