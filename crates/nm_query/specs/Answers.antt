-- What a text is as a query: a tree, or the one refusal. Cited by `parser`, `nm_core`, `nm_top` and others.
use Rattle.std.specs.Prelude.{◌≡◌, ℕ, ◌≤◌, false, List, length, nat_lt, Some, None, Result, Ok, Err, if◌then◌else◌}
use Rattle.nm_base.specs.Limits.{max_query_bytes}
use Rattle.nm_base.specs.declared.limit.Limit.TheVariants.{QueryBytes, QueryDepth}
use Rattle.nm_query.specs.Faults.{structure_fault}
use Rattle.nm_query.specs.Grammar.{IsQuery}
use Rattle.nm_query.specs.Levels.{tree_of}
use Rattle.nm_query.specs.Nesting.{is_too_deep}
use Rattle.nm_query.specs.Tokens.{tokens_of}
use Rattle.nm_query.specs.declared.query.Query.{Query}
use Rattle.nm_query.specs.declared.query_error.QueryError.{QueryError}
use Rattle.nm_query.specs.declared.query_error.QueryError.TheVariants.{Limit}
use Rattle.nm_query.specs.declared.token.Placed.{Placed}

-- the tree of tokens, or their first fault of structure
abbrev pub structured : List Placed → Result Query QueryError
structured tokens = elim (structure_fault tokens) [ None ↦ Ok (tree_of tokens) | Some fault ↦ Err fault ]

-- depth is reported before structure
abbrev pub nested : List Placed → Result Query QueryError
nested tokens = if is_too_deep tokens then Err (Limit QueryDepth) else structured tokens

-- and a faulty token before depth
abbrev pub tokened : Result (List Placed) QueryError → Result Query QueryError
tokened tokens = elim tokens [ Ok tokens ↦ nested tokens | Err refusal ↦ Err refusal ]

-- what a text is as a query
abbrev pub answer_of : List ℕ → Result Query QueryError
answer_of text = if nat_lt max_query_bytes (length text) then Err (Limit QueryBytes) else tokened (tokens_of text)

-- the text is a query of at most 65,536 bytes that nests at most 64 deep, and the grammar reads it so
pub record IsRead (text : List ℕ) (query : Query) : Type 0 where
  pub tokens : List Placed
  pub short : length text ≤ max_query_bytes
  pub cut : tokens_of text ≡ Ok tokens
  pub shallow : is_too_deep tokens ≡ false
  pub read : IsQuery tokens query
