-- Two terms side by side, a text in parentheses, and a tree in full parentheses, as they are read.
-- For the proofs of `a_printed_tree_is_read_back`, `parentheses_change_nothing` and `two_terms_of_a_kind_are_joined_by_or`.
use Rattle.std.proofs.Common.{◌≡◌, ◌≢◌, ℕ, ◌+◌, ◌≤◌, true, false, cond, List, [], ◌∷◌, ◌++◌, length, refl, sym, ap, subst, inl, inr, ◌∙◌, arith}
use Rattle.std.specs.Prelude.{Ok, Err, codes, nat_lt}
use Rattle.std.proofs.lemmas.Bool.Decides.{nat_tests}
use Rattle.std.proofs.lemmas.List.{append-nil}
use Rattle.nm_base.specs.Limits.{max_query_bytes}
use Rattle.nm_base.specs.declared.limit.Limit.TheVariants.{QueryBytes, QueryDepth}
use Rattle.nm_query.specs.Answers.{answer_of, structured, tokened}
use Rattle.nm_query.specs.Grammar.{IsAnd, IsOperand, IsOr, IsQuery, IsXor, a_term, alone, an_or, enclosed, more_ands, more_groups, more_xors, negated, nothing, one_and, one_group, one_operand, one_xor, placed}
use Rattle.nm_query.specs.Groups.{group_query, joined}
use Rattle.nm_query.specs.Nesting.{is_too_deep}
use Rattle.nm_query.specs.PrintedTree.{IsPrinted, IsPrintedList, IsTerm, a_list, a_negation, IsReadOrPasses, a_term as term_printed, beside, in_parentheses, more_printed, one_printed, side_by_side, word_of}
use Rattle.nm_query.specs.Tokens.{tokens_from, tokens_of}
use Rattle.nm_query.specs.declared.query.Query.{Query}
use Rattle.nm_query.specs.declared.query.Query.TheVariants as tree
use Rattle.nm_query.specs.declared.query_error.QueryError.TheVariants.{Limit}
use Rattle.nm_query.specs.declared.token.Item.{Item}
use Rattle.nm_query.specs.declared.token.Operator.{Operator}
use Rattle.nm_query.specs.declared.token.Operator.TheVariants.{Conjunction, Disjunction, Exclusion}
use Rattle.nm_query.specs.declared.token.Placed.{Placed}
use Rattle.nm_query.specs.declared.token.TermKind.{TermKind}
use Rattle.nm_query.specs.declared.token.TermKind.TheVariants as joins
use Rattle.nm_query.specs.declared.token.Token.TheVariants.{Binary, Close, Negation, Open, Term}
use Rattle.nm_query.proofs.AnswerLemmas.{answer-read, read-answer}
use Rattle.nm_query.proofs.MoveLemmas.{and-moved, moved, or-moved, tokens-follow, xor-moved}
use Rattle.nm_query.proofs.TokenLemmas.{with_tokens}

-- Tokens of a text that others follow.

-- the text, wherever it is
pub tokens-moved : (text : List ℕ) (at place by : ℕ) (tokens : List Placed) → place ≡ at + by → tokens_from 0 at text ≡ Ok tokens → tokens_from 0 place text ≡ Ok (moved by tokens)
tokens-moved text at place by tokens moves read =
    sym (ap (tokens_from 0 place) (append-nil text)) ∙ tokens-follow text by 0 at place [] tokens refl moves (omega arith) read ∙ ap Ok (append-nil (moved by tokens))

-- white space and another text after it
pub tokens-beside : (first second : List ℕ) (at : ℕ) (tokens others : List Placed) → tokens_from 0 at first ≡ Ok tokens → tokens_from 0 (at + length first + 1) second ≡ Ok others →
    tokens_from 0 at (first ++ 32 ∷ second) ≡ Ok (moved 0 tokens ++ others)
tokens-beside first second at tokens others read then =
    tokens-follow first 0 0 at at (32 ∷ second) tokens refl (omega arith) (omega arith) read
    ∙ ap (λ x. with_tokens (moved 0 tokens) x) (space (at + length first) second others then)
  where
    space : (at : ℕ) (second : List ℕ) (others : List Placed) → tokens_from 0 (at + 1) second ≡ Ok others → tokens_from 0 at (32 ∷ second) ≡ Ok others
    space at second others h = ap (λ x. elim x [ Ok tokens ↦ Ok tokens | Err refusal ↦ Err refusal ]) h

-- Parentheses.

enclosed-tokens : (text : List ℕ) (at : ℕ) (tokens : List Placed) → tokens_from 0 (at + 1) text ≡ Ok tokens →
    tokens_from 0 at (in_parentheses text) ≡ Ok (placed at Open ∷ (moved 0 tokens ++ placed (at + 1 + length text + 1) Close ∷ []))
enclosed-tokens text at tokens read =
    ap (λ x. elim x [ Ok tokens ↦ Ok (placed at Open ∷ tokens) | Err refusal ↦ Err refusal ]) (tokens-beside text (41 ∷ []) (at + 1) tokens (placed (at + 1 + length text + 1) Close ∷ []) read refl)

fits_or_not : (n : ℕ) → nat_lt max_query_bytes n ≡ false → n ≤ max_query_bytes
fits_or_not n h = grind (arith, nat_tests)

pub read_or_passes : (text : List ℕ) (tokens : List Placed) (query : Query) → tokens_of text ≡ Ok tokens → IsQuery tokens query → IsReadOrPasses text query
read_or_passes text tokens query cut is =
    elim (nat_lt max_query_bytes (length text)) as (λ v. nat_lt max_query_bytes (length text) ≡ v → IsReadOrPasses text query) [
      | true ↦ λ long. inr (inl (ap (λ v. cond v (Err (Limit QueryBytes)) (tokened (tokens_of text))) long))
      | false ↦ λ short. elim (is_too_deep tokens) as (λ v. is_too_deep tokens ≡ v → IsReadOrPasses text query) [
        | true ↦ λ deep. inr (inr (ap (λ v. cond v (Err (Limit QueryBytes)) (tokened (tokens_of text))) short ∙ ap tokened cut ∙ ap (λ v. cond v (Err (Limit QueryDepth)) (structured tokens)) deep))
        | false ↦ λ shallow. inl (answer-read text query (record { tokens = tokens; short = fits_or_not (length text) short; cut = cut; shallow = shallow; read = is }))
      ] refl
    ] refl

enclosed_query : (text : List ℕ) (tokens : List Placed) (query : Query) → tokens_of text ≡ Ok tokens → tokens_of text ≢ Ok [] → IsQuery tokens query → IsReadOrPasses (in_parentheses text) query
enclosed_query text tokens query cut some nothing = absurd (some cut)
enclosed_query text tokens query cut some (an_or tokens' queries is) =
    let moves = tokens-moved text 0 1 1 tokens' (omega arith) cut in
    let end : ℕ = 0 + 1 + length text + 1 in
    let inner : List Placed = moved 0 (moved 1 tokens') in
    let all : List Placed = placed 0 Open ∷ (inner ++ placed end Close ∷ []) in
    read_or_passes (in_parentheses text) all query (enclosed-tokens text 0 (moved 1 tokens') moves)
    (an_or all (query ∷ []) (one_xor all (query ∷ []) (one_and all (query ∷ []) (one_group all (alone query ∷ []) (one_operand all (alone query)
    (enclosed 0 end inner queries (or-moved 0 (moved 1 tokens') queries (or-moved 1 tokens' queries is))))))))

-- a query that has some token, in parentheses
pub read-enclosed : (text : List ℕ) (query : Query) → answer_of text ≡ Ok query → tokens_of text ≢ Ok [] → IsReadOrPasses (in_parentheses text) query
read-enclosed text query answers some =
    let is = read-answer text query answers in enclosed_query text is.tokens query is.cut some is.read

-- Groups of one and of two.

group-one : (kind : TermKind) (query : Query) → group_query (record { kind = kind; query = query } ∷ []) ≡ query
group-one joins.Tag query = refl
group-one joins.Id query = refl
group-one joins.Thread query = refl
group-one joins.Folder query = refl
group-one joins.Path query = refl
group-one joins.Other query = refl

abbrev Paired : TermKind → TermKind → Query → Query → Type 0
Paired kind other first second =
    group_query (record { kind = kind; query = first } ∷ record { kind = other; query = second } ∷ [])
    ≡ side_by_side (record { kind = kind; query = first }) (record { kind = other; query = second })

group-two : (kind other : TermKind) (first second : Query) → Paired kind other first second
group-two kind other first second = elim kind as (λ kind. Paired kind other first second) [
  | joins.Tag ↦ elim other as (λ other. Paired joins.Tag other first second) [ joins.Tag ↦ refl | joins.Id ↦ refl | joins.Thread ↦ refl | joins.Folder ↦ refl | joins.Path ↦ refl | joins.Other ↦ refl ]
  | joins.Id ↦ elim other as (λ other. Paired joins.Id other first second) [ joins.Tag ↦ refl | joins.Id ↦ refl | joins.Thread ↦ refl | joins.Folder ↦ refl | joins.Path ↦ refl | joins.Other ↦ refl ]
  | joins.Thread ↦ elim other as (λ other. Paired joins.Thread other first second) [ joins.Tag ↦ refl | joins.Id ↦ refl | joins.Thread ↦ refl | joins.Folder ↦ refl | joins.Path ↦ refl | joins.Other ↦ refl ]
  | joins.Folder ↦ elim other as (λ other. Paired joins.Folder other first second) [ joins.Tag ↦ refl | joins.Id ↦ refl | joins.Thread ↦ refl | joins.Folder ↦ refl | joins.Path ↦ refl | joins.Other ↦ refl ]
  | joins.Path ↦ elim other as (λ other. Paired joins.Path other first second) [ joins.Tag ↦ refl | joins.Id ↦ refl | joins.Thread ↦ refl | joins.Folder ↦ refl | joins.Path ↦ refl | joins.Other ↦ refl ]
  | joins.Other ↦ elim other as (λ other. Paired joins.Other other first second) [ joins.Tag ↦ refl | joins.Id ↦ refl | joins.Thread ↦ refl | joins.Folder ↦ refl | joins.Path ↦ refl | joins.Other ↦ refl ]
]

term-at : (text : List ℕ) (item : Item) (at : ℕ) → (term : IsTerm text item) → tokens_from 0 at text ≡ Ok (placed (term.at + at) (Term item) ∷ [])
term-at text item at term = tokens-moved text 0 at at (placed term.at (Term item) ∷ []) (omega arith) term.cut

is_short : (n : ℕ) → n ≤ max_query_bytes → nat_lt max_query_bytes n ≡ false
is_short n h = grind (arith, nat_tests)

pub terms-beside : (first second : List ℕ) (one other : Item) → IsTerm first one → IsTerm second other → length (beside first second) ≤ max_query_bytes → answer_of (beside first second) ≡ Ok (side_by_side one other)
terms-beside first second one other is is_too short =
    let place : ℕ = 0 + length first + 1 in
    ap (λ v. cond v (Err (Limit QueryBytes)) (tokened (tokens_of (beside first second)))) (is_short (length (beside first second)) short)
    ∙ ap tokened (tokens-beside first second 0 (placed is.at (Term one) ∷ []) (placed (is_too.at + place) (Term other) ∷ []) is.cut (term-at second other place is_too))
    ∙ ap Ok (group-two one.kind other.kind one.query other.query)

-- Printed trees.

-- what the operator joins
abbrev IsListOf : Operator → List Placed → List Query → Type 0
IsListOf Conjunction = IsAnd
IsListOf Exclusion = IsXor
IsListOf Disjunction = IsOr

and-one : (tokens : List Placed) (item : Item) → IsOperand tokens item → IsAnd tokens (item.query ∷ [])
and-one tokens item is = subst (λ query. IsAnd tokens (query ∷ [])) (group-one item.kind item.query) (one_group tokens (item ∷ []) (one_operand tokens item is))

xor-one : (tokens : List Placed) (item : Item) → IsOperand tokens item → IsXor tokens (item.query ∷ [])
xor-one tokens item is = one_and tokens (item.query ∷ []) (and-one tokens item is)

or-one : (tokens : List Placed) (item : Item) → IsOperand tokens item → IsOr tokens (item.query ∷ [])
or-one tokens item is = one_xor tokens (item.query ∷ []) (xor-one tokens item is)

list-one : (operator : Operator) (tokens : List Placed) (item : Item) → IsOperand tokens item → IsListOf operator tokens (item.query ∷ [])
list-one Conjunction = and-one
list-one Exclusion = xor-one
list-one Disjunction = or-one

list-more : (operator : Operator) (at : ℕ) (first tokens : List Placed) (queries : List Query) (item : Item) → IsListOf operator first queries → IsOperand tokens item →
    IsListOf operator (first ++ placed at (Binary operator) ∷ tokens) (queries ++ item.query ∷ [])
list-more Conjunction at first tokens queries item is operand =
    subst (λ query. IsAnd (first ++ placed at (Binary Conjunction) ∷ tokens) (queries ++ query ∷ [])) (group-one item.kind item.query) (more_groups at first tokens queries (item ∷ []) is (one_operand tokens item operand))
list-more Exclusion at first tokens queries item is operand = more_ands at first tokens queries (item.query ∷ []) is (and-one tokens item operand)
list-more Disjunction at first tokens queries item is operand = more_xors at first tokens queries (item.query ∷ []) is (xor-one tokens item operand)

list-moved : (operator : Operator) (tokens : List Placed) (queries : List Query) → IsListOf operator tokens queries → IsListOf operator (moved 0 tokens) queries
list-moved Conjunction = and-moved 0
list-moved Exclusion = xor-moved 0
list-moved Disjunction = or-moved 0

-- a list as what is in parentheses
record Whole (tokens : List Placed) (query : Query) : Type 0 where
  queries : List Query
  is : IsOr tokens queries
  asks : joined Disjunction queries ≡ query

whole-list : (operator : Operator) (tokens : List Placed) (queries : List Query) → IsListOf operator tokens queries → Whole tokens (joined operator queries)
whole-list Conjunction tokens queries is = record { queries = joined Conjunction queries ∷ []; is = one_xor tokens (joined Conjunction queries ∷ []) (one_and tokens queries is); asks = refl }
whole-list Exclusion tokens queries is = record { queries = joined Exclusion queries ∷ []; is = one_xor tokens queries is; asks = refl }
whole-list Disjunction tokens queries is = record { queries = queries; is = is; asks = refl }

word-read : (operator : Operator) (at : ℕ) → tokens_from 0 at (word_of operator) ≡ Ok (placed at (Binary operator) ∷ [])
word-read Conjunction at = refl
word-read Exclusion at = refl
word-read Disjunction at = refl

-- a printed tree is an operand, wherever it is
record Reads (text : List ℕ) (query : Query) (at : ℕ) : Type 0 where
  tokens : List Placed
  item : Item
  is : IsOperand tokens item
  asks : item.query ≡ query
  read : tokens_from 0 at text ≡ Ok tokens

record ReadsList (operator : Operator) (text : List ℕ) (queries : List Query) (at : ℕ) : Type 0 where
  tokens : List Placed
  is : IsListOf operator tokens queries
  read : tokens_from 0 at text ≡ Ok tokens

reads-enclosed : (text : List ℕ) (query : Query) (at : ℕ) (tokens : List Placed) → Whole tokens query → tokens_from 0 (at + 1) text ≡ Ok tokens → Reads (in_parentheses text) query at
reads-enclosed text query at tokens whole read =
    let end : ℕ = at + 1 + length text + 1 in
    record {
      tokens = placed at Open ∷ (moved 0 tokens ++ placed end Close ∷ []);
      item = alone (joined Disjunction whole.queries);
      is = enclosed at end (moved 0 tokens) whole.queries (or-moved 0 tokens whole.queries whole.is);
      asks = whole.asks;
      read = enclosed-tokens text at tokens read;
    }

mutual
  reads-printed : (text : List ℕ) (query : Query) → IsPrinted text query → (at : ℕ) → Reads text query at
  reads-printed text query (term_printed text' item term) at =
      record { tokens = placed (term.at + at) (Term item) ∷ []; item = item; is = a_term (term.at + at) item; asks = refl; read = term-at text' item at term }
  reads-printed text query (a_negation inner asked is) at =
      let place : ℕ = at + 1 + length (codes "not") + 1 in
      let operand = reads-printed inner asked is place in
      let tokens : List Placed = placed (at + 1 + 0) Negation ∷ operand.tokens in
      let item : Item = alone (tree.Not operand.item.query) in
      let whole : Whole tokens (tree.Not asked) = record {
        queries = item.query ∷ [];
        is = or-one tokens item (negated (at + 1 + 0) operand.tokens operand.item operand.is);
        asks = ap tree.Not operand.asks;
      } in
      reads-enclosed (beside (codes "not") inner) (tree.Not asked) at tokens whole
      (tokens-beside (codes "not") inner (at + 1) (placed (at + 1) Negation ∷ []) operand.tokens refl operand.read)
  reads-printed text query (a_list operator inner queries is) at =
      let list = reads-list operator inner queries is (at + 1) in
      reads-enclosed inner (joined operator queries) at list.tokens (whole-list operator list.tokens queries list.is) list.read

  reads-list : (operator : Operator) (text : List ℕ) (queries : List Query) → IsPrintedList operator text queries → (at : ℕ) → ReadsList operator text queries at
  reads-list operator text queries (one_printed operator' text' query is) at =
      let operand = reads-printed text' query is at in
      record { tokens = operand.tokens; is = subst (λ query. IsListOf operator operand.tokens (query ∷ [])) operand.asks (list-one operator operand.tokens operand.item operand.is); read = operand.read }
  reads-list operator text queries (more_printed operator' first last some query front is) at =
      let before = reads-list operator first some front at in
      let sign : ℕ = at + length first + 1 in
      let operand = reads-printed last query is (sign + length (word_of operator) + 1) in
      let tokens : List Placed = moved 0 before.tokens ++ placed (sign + 0) (Binary operator) ∷ operand.tokens in
      record {
        tokens = tokens;
        is = subst (λ query. IsListOf operator tokens (some ++ query ∷ [])) operand.asks
            (list-more operator (sign + 0) (moved 0 before.tokens) operand.tokens some operand.item (list-moved operator before.tokens some before.is) operand.is);
        read = tokens-beside first (beside (word_of operator) last) at before.tokens (placed (sign + 0) (Binary operator) ∷ operand.tokens) before.read
            (tokens-beside (word_of operator) last sign (placed sign (Binary operator) ∷ []) operand.tokens (word-read operator sign) operand.read);
      }

pub read-printed : (text : List ℕ) (query : Query) → IsPrinted text query → IsReadOrPasses text query
read-printed text query is =
    let reads = reads-printed text query is 0 in
    read_or_passes text reads.tokens query reads.read
    (subst (IsQuery reads.tokens) reads.asks (an_or reads.tokens (reads.item.query ∷ []) (or-one reads.tokens reads.item reads.is)))
