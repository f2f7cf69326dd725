-- The tokens of a text that white space follows are those of the text and those of what follows, wherever they are.
-- For `PrintLemmas`.
use Rattle.std.proofs.Common.{◌≡◌, ℕ, zero, suc, ◌+◌, ◌-◌, ◌≤◌, false, List, [], ◌∷◌, ◌++◌, length, refl, sym, ap, subst, ◌∙◌, arith}
use Rattle.std.specs.Prelude.{Option, Some, None, Result, Ok, Err}
use Rattle.nm_query.specs.Grammar.{IsAnd, IsGroup, IsOperand, IsOr, IsXor, a_term, enclosed, more_ands, more_groups, more_operands, more_xors, negated, one_and, one_group, one_operand, one_xor, placed}
use Rattle.nm_query.specs.Lexemes.{goes_on, lexeme_at}
use Rattle.nm_query.specs.Tokens.{after_token, before_tokens, followed, tokens_from}
use Rattle.nm_query.specs.declared.query.Query.{Query}
use Rattle.nm_query.specs.declared.query_error.QueryError.{QueryError}
use Rattle.nm_query.specs.declared.token.Item.{Item}
use Rattle.nm_query.specs.declared.token.Lexeme.{Lexeme}
use Rattle.nm_query.specs.declared.token.Operator.TheVariants.{Conjunction, Disjunction, Exclusion}
use Rattle.nm_query.specs.declared.token.Placed.{Placed}
use Rattle.nm_query.specs.declared.token.Token.{Token}
use Rattle.nm_query.specs.declared.token.Token.TheVariants.{Binary, Close, Open}
use Rattle.nm_query.proofs.LexemeLemmas.{lexeme-stays}
use Rattle.nm_query.proofs.TokenLemmas.{with_tokens}

-- the tokens, n bytes further on
abbrev pub moved : ℕ → List Placed → List Placed
moved by [] = []
moved by (first ∷ more) = placed (first.at + by) first.token ∷ moved by more

pub moved-append : (by : ℕ) (first tokens : List Placed) → moved by (first ++ tokens) ≡ moved by first ++ moved by tokens
moved-append by [] tokens = refl
moved-append by (one ∷ first) tokens = ap (λ x. placed (one.at + by) one.token ∷ x) (moved-append by first tokens)

with-none : (more : Result (List Placed) QueryError) → more ≡ with_tokens [] more
with-none (Ok more) = refl
with-none (Err refusal) = refl

with-first : (at place by : ℕ) (token : Option Token) (tokens : List Placed) (more : Result (List Placed) QueryError) (lexeme : Lexeme) → place ≡ at + by → lexeme.token ≡ token →
    before_tokens place lexeme (with_tokens (moved by tokens) more) ≡ with_tokens (moved by (after_token at token tokens)) more
with-first at place by None tokens (Ok more) lexeme moves same = ap (λ t. Ok (after_token place t (moved by tokens ++ more))) same
with-first at place by (Some token) tokens (Ok more) lexeme moves same =
    ap (λ t. Ok (after_token place t (moved by tokens ++ more))) same ∙ ap (λ n. Ok (placed n token ∷ (moved by tokens ++ more))) moves
with-first at place by token tokens (Err refusal) lexeme moves same = refl

same_tokens : (first tokens : List Placed) → (let answer : Result (List Placed) QueryError = Ok first in answer ≡ Ok tokens) → first ≡ tokens
same_tokens first tokens h = cc

-- what follows is read at its own place
abbrev Follows : ℕ → ℕ → ℕ → List ℕ → List ℕ → List Placed → Type 0
Follows by inside place text blank tokens =
    tokens_from inside place (text ++ blank) ≡ with_tokens (moved by tokens) (tokens_from 0 (place + length text) blank)

-- where the text after the first byte is followed so, the whole is
lexeme-follow : (text : List ℕ) (b by at place : ℕ) (blank : List ℕ) (tokens : List Placed) (lexeme : Lexeme) (rest : Result (List Placed) QueryError) → goes_on blank ≡ false → place ≡ at + by →
    lexeme_at at (b ∷ text) ≡ Ok lexeme → tokens_from (lexeme.len - 1) (at + 1) text ≡ rest → before_tokens at lexeme rest ≡ Ok tokens →
    ((inside : ℕ) (tokens : List Placed) → inside ≤ length text → tokens_from inside (at + 1) text ≡ Ok tokens → Follows by inside (place + 1) text blank tokens) → Follows by 0 place (b ∷ text) blank tokens
lexeme-follow text b by at place blank tokens lexeme (Err refusal) h moves here after read follow = absurd (cc)
lexeme-follow text b by at place blank tokens lexeme (Ok rest) h moves here after read follow =
    let stays = lexeme-stays at place b text blank h lexeme here in
    let within : lexeme.len - 1 ≤ length text = omega (arith, stays.1) in
    ap (λ x. followed place x (λ len. tokens_from (len - 1) (place + 1) (text ++ blank))) stays.0
    ∙ ap (before_tokens place lexeme) (follow (lexeme.len - 1) rest within after)
    ∙ with-first at place by lexeme.token rest (tokens_from 0 (place + 1 + length text) blank) lexeme moves refl
    ∙ ap (λ x. with_tokens (moved by x) (tokens_from 0 (place + 1 + length text) blank)) (same_tokens (after_token at lexeme.token rest) tokens read)
    ∙ ap (λ n. with_tokens (moved by tokens) (tokens_from 0 n blank)) (omega arith)

none : (n : ℕ) → n ≤ 0 → n ≡ 0
none n h = omega arith

pub tokens-follow : (text : List ℕ) (by inside at place : ℕ) (blank : List ℕ) (tokens : List Placed) → goes_on blank ≡ false → place ≡ at + by → inside ≤ length text →
    tokens_from inside at text ≡ Ok tokens → Follows by inside place text blank tokens
tokens-follow [] by inside at place blank tokens h moves within read =
    ap (λ n. tokens_from n place blank) (none inside within) ∙ with-none (tokens_from 0 place blank)
    ∙ ap (λ n. with_tokens [] (tokens_from 0 n blank)) (omega arith) ∙ ap (λ x. with_tokens (moved by x) (tokens_from 0 (place + 0) blank)) (same_tokens [] tokens read)
tokens-follow (b ∷ text) by (suc inside) at place blank tokens h moves within read =
    tokens-follow text by inside (at + 1) (place + 1) blank tokens h (omega arith) (omega arith) read
    ∙ ap (λ n. with_tokens (moved by tokens) (tokens_from 0 n blank)) (omega arith)
tokens-follow (b ∷ text) by zero at place blank tokens h moves within read =
    elim (lexeme_at at (b ∷ text)) as (λ lexeme. lexeme_at at (b ∷ text) ≡ lexeme → followed at lexeme (λ len. tokens_from (len - 1) (at + 1) text) ≡ Ok tokens → Follows by 0 place (b ∷ text) blank tokens) [
      | Ok lexeme ↦ λ here read. lexeme-follow text b by at place blank tokens lexeme (tokens_from (lexeme.len - 1) (at + 1) text) h moves here refl read
          (λ inside others within read. tokens-follow text by inside (at + 1) (place + 1) blank others h (omega arith) within read)
      | Err refusal ↦ λ here read. absurd (cc)
    ] refl read

-- the grammar reads tokens wherever they are
mutual
  operand-moved : (by : ℕ) (tokens : List Placed) (item : Item) → IsOperand tokens item → IsOperand (moved by tokens) item
  operand-moved by tokens item (a_term at item') = a_term (at + by) item'
  operand-moved by tokens item (negated at rest item' is) = negated (at + by) (moved by rest) item' (operand-moved by rest item' is)
  operand-moved by tokens item (enclosed at end rest queries is) =
      subst (λ x. IsOperand (placed (at + by) Open ∷ x) item) (sym (moved-append by rest (placed end Close ∷ []))) (enclosed (at + by) (end + by) (moved by rest) queries (or-moved by rest queries is))

  group-moved : (by : ℕ) (tokens : List Placed) (items : List Item) → IsGroup tokens items → IsGroup (moved by tokens) items
  group-moved by tokens items (one_operand tokens' item is) = one_operand (moved by tokens') item (operand-moved by tokens' item is)
  group-moved by tokens items (more_operands first rest some item group is) =
      subst (λ x. IsGroup x items) (sym (moved-append by first rest)) (more_operands (moved by first) (moved by rest) some item (group-moved by first some group) (operand-moved by rest item is))

  pub and-moved : (by : ℕ) (tokens : List Placed) (queries : List Query) → IsAnd tokens queries → IsAnd (moved by tokens) queries
  and-moved by tokens queries (one_group tokens' items is) = one_group (moved by tokens') items (group-moved by tokens' items is)
  and-moved by tokens queries (more_groups at first rest some items ands is) =
      subst (λ x. IsAnd x queries) (sym (moved-append by first (placed at (Binary Conjunction) ∷ rest))) (more_groups (at + by) (moved by first) (moved by rest) some items (and-moved by first some ands) (group-moved by rest items is))

  pub xor-moved : (by : ℕ) (tokens : List Placed) (queries : List Query) → IsXor tokens queries → IsXor (moved by tokens) queries
  xor-moved by tokens queries (one_and tokens' ands is) = one_and (moved by tokens') ands (and-moved by tokens' ands is)
  xor-moved by tokens queries (more_ands at first rest some ands xors is) =
      subst (λ x. IsXor x queries) (sym (moved-append by first (placed at (Binary Exclusion) ∷ rest))) (more_ands (at + by) (moved by first) (moved by rest) some ands (xor-moved by first some xors) (and-moved by rest ands is))

  pub or-moved : (by : ℕ) (tokens : List Placed) (queries : List Query) → IsOr tokens queries → IsOr (moved by tokens) queries
  or-moved by tokens queries (one_xor tokens' xors is) = one_xor (moved by tokens') xors (xor-moved by tokens' xors is)
  or-moved by tokens queries (more_xors at first rest some xors ors is) =
      subst (λ x. IsOr x queries) (sym (moved-append by first (placed at (Binary Disjunction) ∷ rest))) (more_xors (at + by) (moved by first) (moved by rest) some xors (or-moved by first some ors) (xor-moved by rest xors is))
