-- The grammar of queries, a case for each of its rules: which tokens are read as which query.
--   query := or?   or := xor ("or" xor)*   xor := and ("xor" and)*   and := group ("and" group)*
--   group := operand+   operand := "not" operand | "(" or ")" | term
-- Cited by `laws`.
use Rattle.std.specs.Prelude.{ℕ, List, [], ◌∷◌, ◌++◌}
use Rattle.nm_query.specs.Groups.{group_query, joined}
use Rattle.nm_query.specs.declared.query.Query.{Query}
use Rattle.nm_query.specs.declared.query.Query.TheVariants as tree
use Rattle.nm_query.specs.declared.token.Item.{Item}
use Rattle.nm_query.specs.declared.token.Operator.TheVariants.{Conjunction, Disjunction, Exclusion}
use Rattle.nm_query.specs.declared.token.Placed.{Placed}
use Rattle.nm_query.specs.declared.token.TermKind.TheVariants as joins
use Rattle.nm_query.specs.declared.token.Token.{Token}
use Rattle.nm_query.specs.declared.token.Token.TheVariants.{Binary, Close, Negation, Open, Term}

-- a query that is joined with no others by Or
abbrev pub alone : Query → Item
alone query = record { kind = joins.Other; query = query }

-- a token at a place, whichever it is
abbrev pub placed : ℕ → Token → Placed
placed at token = record { at = at; token = token }

mutual
  pub data IsOperand : List Placed → Item → Type 0 where
    a_term : (at : ℕ) (item : Item) → IsOperand (placed at (Term item) ∷ []) item
    negated : (at : ℕ) (tokens : List Placed) (item : Item) → IsOperand tokens item → IsOperand (placed at Negation ∷ tokens) (alone (tree.Not item.query))
    enclosed : (at end : ℕ) (tokens : List Placed) (queries : List Query) → IsOr tokens queries → IsOperand (placed at Open ∷ (tokens ++ placed end Close ∷ [])) (alone (joined Disjunction queries))

  pub data IsGroup : List Placed → List Item → Type 0 where
    one_operand : (tokens : List Placed) (item : Item) → IsOperand tokens item → IsGroup tokens (item ∷ [])
    more_operands : (first tokens : List Placed) (items : List Item) (item : Item) → IsGroup first items → IsOperand tokens item → IsGroup (first ++ tokens) (items ++ item ∷ [])

  pub data IsAnd : List Placed → List Query → Type 0 where
    one_group : (tokens : List Placed) (items : List Item) → IsGroup tokens items → IsAnd tokens (group_query items ∷ [])
    more_groups : (at : ℕ) (first tokens : List Placed) (queries : List Query) (items : List Item) → IsAnd first queries → IsGroup tokens items → IsAnd (first ++ placed at (Binary Conjunction) ∷ tokens) (queries ++ group_query items ∷ [])

  pub data IsXor : List Placed → List Query → Type 0 where
    one_and : (tokens : List Placed) (queries : List Query) → IsAnd tokens queries → IsXor tokens (joined Conjunction queries ∷ [])
    more_ands : (at : ℕ) (first tokens : List Placed) (all queries : List Query) → IsXor first all → IsAnd tokens queries → IsXor (first ++ placed at (Binary Exclusion) ∷ tokens) (all ++ joined Conjunction queries ∷ [])

  pub data IsOr : List Placed → List Query → Type 0 where
    one_xor : (tokens : List Placed) (queries : List Query) → IsXor tokens queries → IsOr tokens (joined Exclusion queries ∷ [])
    more_xors : (at : ℕ) (first tokens : List Placed) (all queries : List Query) → IsOr first all → IsXor tokens queries → IsOr (first ++ placed at (Binary Disjunction) ∷ tokens) (all ++ joined Exclusion queries ∷ [])

-- the tokens are read as the query
pub data IsQuery : List Placed → Query → Type 0 where
  nothing : IsQuery [] tree.All
  an_or : (tokens : List Placed) (queries : List Query) → IsOr tokens queries → IsQuery tokens (joined Disjunction queries)
