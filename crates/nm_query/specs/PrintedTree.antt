-- Texts that are made of texts: two terms side by side, a text in parentheses, a tree in full parentheses.
-- Cited by `laws`.
use Rattle.std.specs.Prelude.{◌≡◌, ◌⊎◌, ℕ, Bool, true, false, ◌==◌, ◌&&◌, List, [], ◌∷◌, ◌++◌, Ok, Err, codes, if◌then◌else◌}
use Rattle.nm_base.specs.declared.limit.Limit.TheVariants.{QueryBytes, QueryDepth}
use Rattle.nm_query.specs.Answers.{answer_of}
use Rattle.nm_query.specs.Grammar.{placed}
use Rattle.nm_query.specs.Groups.{joined, kind_number}
use Rattle.nm_query.specs.Tokens.{tokens_of}
use Rattle.nm_query.specs.declared.query.Query.{Query}
use Rattle.nm_query.specs.declared.query.Query.TheVariants as tree
use Rattle.nm_query.specs.declared.query_error.QueryError.TheVariants.{Limit}
use Rattle.nm_query.specs.declared.token.Item.{Item}
use Rattle.nm_query.specs.declared.token.Operator.{Operator}
use Rattle.nm_query.specs.declared.token.Operator.TheVariants.{Conjunction, Disjunction, Exclusion}
use Rattle.nm_query.specs.declared.token.TermKind.{TermKind}
use Rattle.nm_query.specs.declared.token.TermKind.TheVariants as joins
use Rattle.nm_query.specs.declared.token.Token.TheVariants.{Term}

-- the text is one term, which asks this
pub record IsTerm (text : List ℕ) (item : Item) : Type 0 where
  pub at : ℕ
  pub cut : tokens_of text ≡ Ok (placed at (Term item) ∷ [])

-- the text has this tree, or passes a limit
abbrev pub IsReadOrPasses : List ℕ → Query → Type 0
IsReadOrPasses text query = (answer_of text ≡ Ok query) ⊎ (answer_of text ≡ Err (Limit QueryBytes)) ⊎ (answer_of text ≡ Err (Limit QueryDepth))

-- each `"` occurs twice
abbrev pub doubled : List ℕ → List ℕ
doubled [] = []
doubled (b ∷ more) = if b == 34 then 34 ∷ 34 ∷ doubled more else b ∷ doubled more

-- the text as a quoted one
abbrev pub in_quotes : List ℕ → List ℕ
in_quotes text = 34 ∷ (doubled text ++ 34 ∷ [])

-- white space between two texts
abbrev pub beside : List ℕ → List ℕ → List ℕ
beside first second = first ++ 32 ∷ second

-- white space before the `)` lets a sign at the end of the text stay a word
abbrev pub in_parentheses : List ℕ → List ℕ
in_parentheses text = 40 ∷ (text ++ 32 ∷ 41 ∷ [])

-- the kind of a term is seen in its tree
abbrev pub kind_of : Query → TermKind
kind_of (tree.Tag text) = joins.Tag
kind_of (tree.Id text) = joins.Id
kind_of (tree.Thread number) = joins.Thread
kind_of (tree.Folder text) = joins.Folder
kind_of (tree.Path dir deep) = joins.Path
kind_of query = joins.Other

-- tags, ids, threads, folders and paths
abbrev pub is_or_kind : TermKind → Bool
is_or_kind joins.Tag = true
is_or_kind joins.Id = true
is_or_kind joins.Thread = true
is_or_kind joins.Folder = true
is_or_kind joins.Path = true
is_or_kind joins.Other = false

-- of one kind among these
abbrev pub are_joined_by_or : TermKind → TermKind → Bool
are_joined_by_or first second = is_or_kind first && kind_number first == kind_number second

-- what two terms side by side ask
abbrev pub side_by_side : Item → Item → Query
side_by_side first second =
    if are_joined_by_or first.kind second.kind then tree.Or (first.query ∷ second.query ∷ []) else tree.And (first.query ∷ second.query ∷ [])

-- the word of an operator
abbrev pub word_of : Operator → List ℕ
word_of Conjunction = codes "and"
word_of Exclusion = codes "xor"
word_of Disjunction = codes "or"

-- The text is the tree in full parentheses, whichever texts its terms have: each `not` and each list is in parentheses of its own.
mutual
  pub data IsPrinted : List ℕ → Query → Type 0 where
    a_term : (text : List ℕ) (item : Item) → IsTerm text item → IsPrinted text item.query
    a_negation : (text : List ℕ) (query : Query) → IsPrinted text query → IsPrinted (in_parentheses (beside (codes "not") text)) (tree.Not query)
    a_list : (operator : Operator) (text : List ℕ) (queries : List Query) → IsPrintedList operator text queries → IsPrinted (in_parentheses text) (joined operator queries)

  pub data IsPrintedList : Operator → List ℕ → List Query → Type 0 where
    one_printed : (operator : Operator) (text : List ℕ) (query : Query) → IsPrinted text query → IsPrintedList operator text (query ∷ [])
    more_printed : (operator : Operator) (first text : List ℕ) (queries : List Query) (query : Query) → IsPrintedList operator first queries → IsPrinted text query →
        IsPrintedList operator (beside first (beside (word_of operator) text)) (queries ++ query ∷ [])
