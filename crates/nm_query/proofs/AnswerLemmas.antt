-- A text has a tree exactly where the grammar reads it. For the proof of `a_text_is_read_as_the_grammar_reads_it`.
use Rattle.std.proofs.Common.{◌≡◌, ℕ, ◌≤◌, true, false, cond, List, length, refl, ap, subst, ◌∙◌, arith}
use Rattle.std.specs.Prelude.{Option, Some, None, Result, Ok, Err, nat_lt}
use Rattle.std.proofs.lemmas.Bool.Decides.{nat_tests}
use Rattle.nm_base.specs.Limits.{max_query_bytes}
use Rattle.nm_base.specs.declared.limit.Limit.TheVariants.{QueryBytes, QueryDepth}
use Rattle.nm_query.specs.Answers.{IsRead, answer_of, nested, structured, tokened}
use Rattle.nm_query.specs.Faults.{structure_fault}
use Rattle.nm_query.specs.Grammar.{IsQuery}
use Rattle.nm_query.specs.Levels.{tree_of}
use Rattle.nm_query.specs.Nesting.{is_too_deep}
use Rattle.nm_query.specs.Tokens.{tokens_of}
use Rattle.nm_query.specs.declared.query.Query.{Query}
use Rattle.nm_query.specs.declared.query_error.QueryError.{QueryError}
use Rattle.nm_query.specs.declared.query_error.QueryError.TheVariants.{Limit}
use Rattle.nm_query.specs.declared.token.Placed.{Placed}
use Rattle.nm_query.proofs.DescentLemmas.{query_of-structure}
use Rattle.nm_query.proofs.GrammarLemmas.{tree_of-query}
use Rattle.nm_query.proofs.StructureLemmas.{structure_fault-query}

is_short : (n : ℕ) → n ≤ max_query_bytes → nat_lt max_query_bytes n ≡ false
is_short n h = grind (arith, nat_tests)

not_long : (n : ℕ) → nat_lt max_query_bytes n ≡ false → n ≤ max_query_bytes
not_long n h = grind (arith, nat_tests)

abbrev told : Query → Option QueryError → Result Query QueryError
told query fault = elim fault [ None ↦ Ok query | Some fault ↦ Err fault ]

pub answer-read : (text : List ℕ) (query : Query) → IsRead text query → answer_of text ≡ Ok query
answer-read text query is =
    ap (λ v. cond v (Err (Limit QueryBytes)) (tokened (tokens_of text))) (is_short (length text) is.short)
    ∙ ap tokened is.cut
    ∙ ap (λ v. cond v (Err (Limit QueryDepth)) (structured is.tokens)) is.shallow
    ∙ ap (told (tree_of is.tokens)) (structure_fault-query is.tokens query is.read)
    ∙ ap Ok (tree_of-query is.tokens query is.read)

same_tree : (tree query : Query) → (let answer : Result Query QueryError = Ok tree in answer ≡ Ok query) → tree ≡ query
same_tree tree query h = cc

read_tokens : (text : List ℕ) (query : Query) (tokens : List Placed) → length text ≤ max_query_bytes → tokens_of text ≡ Ok tokens → is_too_deep tokens ≡ false → structured tokens ≡ Ok query → IsRead text query
read_tokens text query tokens short cut shallow h =
    elim (structure_fault tokens) as (λ fault. structure_fault tokens ≡ fault → told (tree_of tokens) fault ≡ Ok query → IsRead text query) [
      | None ↦ λ none h. record { tokens = tokens; short = short; cut = cut; shallow = shallow; read = subst (IsQuery tokens) (same_tree (tree_of tokens) query h) (query_of-structure tokens none) }
      | Some fault ↦ λ some h. absurd (cc)
    ] refl h

read_nested : (text : List ℕ) (query : Query) (tokens : List Placed) → length text ≤ max_query_bytes → tokens_of text ≡ Ok tokens → nested tokens ≡ Ok query → IsRead text query
read_nested text query tokens short cut h =
    elim (is_too_deep tokens) as (λ v. is_too_deep tokens ≡ v → cond v (Err (Limit QueryDepth)) (structured tokens) ≡ Ok query → IsRead text query) [
      | true ↦ λ deep h. absurd (cc)
      | false ↦ λ shallow h. read_tokens text query tokens short cut shallow h
    ] refl h

read_cut : (text : List ℕ) (query : Query) → length text ≤ max_query_bytes → tokened (tokens_of text) ≡ Ok query → IsRead text query
read_cut text query short h =
    elim (tokens_of text) as (λ tokens. tokens_of text ≡ tokens → tokened tokens ≡ Ok query → IsRead text query) [
      | Ok tokens ↦ λ cut h. read_nested text query tokens short cut h
      | Err refusal ↦ λ cut h. absurd (cc)
    ] refl h

pub read-answer : (text : List ℕ) (query : Query) → answer_of text ≡ Ok query → IsRead text query
read-answer text query h =
    elim (nat_lt max_query_bytes (length text)) as (λ v. nat_lt max_query_bytes (length text) ≡ v → cond v (Err (Limit QueryBytes)) (tokened (tokens_of text)) ≡ Ok query → IsRead text query) [
      | true ↦ λ long h. absurd (cc)
      | false ↦ λ short h. read_cut text query (not_long (length text) short) h
    ] refl h
