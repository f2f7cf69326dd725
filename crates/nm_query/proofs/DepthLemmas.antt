-- How deep `*` in parentheses and `*` after signs nest. For the proof of `depth_ends_at_64_levels`.
use Rattle.std.proofs.Common.{◌≡◌, ℕ, zero, suc, ◌+◌, ◌*◌, ◌-◌, ◌<◌, ◌≤◌, Bool, true, false, cond, ◌||◌, List, [], ◌∷◌, ◌++◌, length, refl, sym, ap, ◌∙◌, arith, append_assoc, length-append}
use Rattle.std.specs.Prelude.{Result, Ok, Err, nat_lt, sum}
use Rattle.std.proofs.lemmas.Bool.Decides.{nat_tests}
use Rattle.std.proofs.lemmas.List.{append-nil}
use Rattle.nm_base.specs.Limits.{max_query_bytes}
use Rattle.nm_base.specs.declared.limit.Limit.TheVariants.{QueryBytes, QueryDepth}
use Rattle.nm_query.specs.Answers.{answer_of, structured, tokened}
use Rattle.nm_query.specs.Grammar.{IsOperand, IsOr, a_term, alone, an_or, enclosed, negated, one_and, one_group, one_operand, one_xor, placed}
use Rattle.nm_query.specs.Lexemes.{goes_on, lexeme_at, passed, token_of, word_at}
use Rattle.nm_query.specs.Nesting.{depth_of, is_too_deep, passes_depth}
use Rattle.nm_query.specs.Samples.{after_signs, in_pairs, nots}
use Rattle.nm_query.specs.Terms.{other_item}
use Rattle.nm_query.specs.Tokens.{before_tokens, followed, tokens_from, tokens_of}
use Rattle.nm_query.specs.declared.query.Query.{Query}
use Rattle.nm_query.specs.declared.query.Query.TheVariants as tree
use Rattle.nm_query.specs.declared.query_error.QueryError.{QueryError}
use Rattle.nm_query.specs.declared.query_error.QueryError.TheVariants.{Limit}
use Rattle.nm_query.specs.declared.token.Lexeme.{Lexeme}
use Rattle.nm_query.specs.declared.token.Placed.{Placed}
use Rattle.nm_query.specs.declared.token.Token.TheVariants.{Close, Negation, Open, Term}
use Rattle.nm_query.proofs.AnswerLemmas.{answer-read}

-- ---- depths

-- no negation waits in any of n parentheses
abbrev zeros : ℕ → List ℕ
zeros zero = []
zeros (suc n) = 0 ∷ zeros n

sum-zeros : (n : ℕ) → sum (zeros n) ≡ 0
sum-zeros zero = refl
sum-zeros (suc n) = sum-zeros n

length-zeros : (n : ℕ) → length (zeros n) ≡ n
length-zeros zero = refl
length-zeros (suc n) = ap suc (length-zeros n)

depth-zeros : (n : ℕ) → depth_of (zeros (suc n)) ≡ n
depth-zeros n = let added = sum-zeros (suc n) in let long = length-zeros (suc n) in omega (arith, added, long)

shallow_at : (n depth : ℕ) → depth ≡ n → n ≤ 64 → nat_lt 64 depth ≡ false
shallow_at n depth is few = grind (arith, nat_tests)

deep_at : (n depth : ℕ) → depth ≡ n → nat_lt 64 depth ≡ false → n ≤ 64
deep_at n depth is few = grind (arith, nat_tests)

-- ---- parentheses

abbrev all : ℕ → Placed
all at = placed at (Term (other_item tree.All))

-- the tokens of `*` in n pairs of parentheses
abbrev pair_tokens : ℕ → ℕ → List Placed
pair_tokens zero at = all at ∷ []
pair_tokens (suc n) at = placed at Open ∷ (pair_tokens n (at + 1) ++ placed (at + (2 * n + 2)) Close ∷ [])

pairs-len : (n : ℕ) → length (in_pairs n) ≡ 2 * n + 1
pairs-len zero = refl
pairs-len (suc n) = let inner = pairs-len n in let long = length-append (in_pairs n) (41 ∷ []) in omega (arith, inner, long)

-- what ends a `*`: the end, or a `)`
abbrev Ends : List ℕ → Type 0
Ends [] = Unit {0}
Ends (b ∷ rest) = b ≡ 41

star-lexeme : (at : ℕ) (rest : List ℕ) → Ends rest → lexeme_at at (42 ∷ rest) ≡ Ok (token_of (Term (other_item tree.All)) 1)
star-lexeme at [] ends = refl
star-lexeme at (b ∷ rest) ends = rw ends refl

abbrev then : ℕ → List ℕ → Result Lexeme QueryError → Result (List Placed) QueryError
then at text lexeme = followed at lexeme (λ len. tokens_from (len - 1) (at + 1) text)

pairs-read : (n at place : ℕ) (rest : List ℕ) (more : List Placed) → Ends rest → place ≡ at + (2 * n + 1) → tokens_from 0 place rest ≡ Ok more →
    tokens_from 0 at (in_pairs n ++ rest) ≡ Ok (pair_tokens n at ++ more)
pairs-read zero at place rest more ends there read =
    let here : tokens_from 0 (at + 1) rest ≡ Ok more = ap (λ p. tokens_from 0 p rest) (omega (arith, there)) ∙ read in
    ap (then at rest) (star-lexeme at rest ends) ∙ ap (before_tokens at (token_of (Term (other_item tree.All)) 1)) here
pairs-read (suc n) at place rest more ends there read =
    let end : ℕ = at + (2 * n + 2) in
    let close : List Placed = placed end Close ∷ [] in
    let after : tokens_from 0 (end + 1) rest ≡ Ok more = ap (λ p. tokens_from 0 p rest) (omega (arith, there)) ∙ read in
    let inner : tokens_from 0 (at + 1) (in_pairs n ++ 41 ∷ rest) ≡ Ok (pair_tokens n (at + 1) ++ placed end Close ∷ more) =
    pairs-read n (at + 1) end (41 ∷ rest) (placed end Close ∷ more) refl (omega arith) (ap (before_tokens end (token_of Close 1)) after) in
    ap (tokens_from 0 at) (ap (λ x. 40 ∷ x) (append_assoc (in_pairs n) (41 ∷ []) rest))
    ∙ ap (before_tokens at (token_of Open 1)) inner
    ∙ ap (λ x. Ok (placed at Open ∷ x)) (sym (append_assoc (pair_tokens n (at + 1)) close more))

pairs-tokens : (n : ℕ) → tokens_of (in_pairs n) ≡ Ok (pair_tokens n 0)
pairs-tokens n =
    ap tokens_of (sym (append-nil (in_pairs n))) ∙ pairs-read n 0 (0 + (2 * n + 1)) [] [] tt refl refl ∙ ap Ok (append-nil (pair_tokens n 0))

-- up to 64 levels nothing is too deep
pairs-shallow : (n k at : ℕ) (rest : List Placed) → k + n ≤ 64 → passes_depth (zeros (suc k)) (pair_tokens n at ++ rest) ≡ passes_depth (zeros (suc k)) rest
pairs-shallow zero k at rest few = ap (λ v. v || passes_depth (zeros (suc k)) rest) (shallow_at k (depth_of (zeros (suc k))) (depth-zeros k) (omega arith))
pairs-shallow (suc n) k at rest few =
    let close : Placed = placed (at + (2 * n + 2)) Close in
    let inner : List Placed = pair_tokens n (at + 1) in
    ap (λ v. v || passes_depth (zeros (suc (suc k))) ((inner ++ close ∷ []) ++ rest)) (shallow_at (suc k) (depth_of (zeros (suc (suc k)))) (depth-zeros (suc k)) (omega arith))
    ∙ ap (passes_depth (zeros (suc (suc k)))) (append_assoc inner (close ∷ []) rest)
    ∙ pairs-shallow n (suc k) (at + 1) (close ∷ rest) (omega arith)
    ∙ ap (λ v. v || passes_depth (zeros (suc k)) rest) (shallow_at k (depth_of (zeros (suc k))) (depth-zeros k) (omega arith))

pairs-deep : (n k at : ℕ) (rest : List Placed) → 64 < k + n → k ≤ 64 → passes_depth (zeros (suc k)) (pair_tokens n at ++ rest) ≡ true
pairs-deep zero k at rest many few = absurd (omega arith)
pairs-deep (suc n) k at rest many few =
    let close : Placed = placed (at + (2 * n + 2)) Close in
    let inner : List Placed = pair_tokens n (at + 1) in
    let after : Bool = passes_depth (zeros (suc (suc k))) ((inner ++ close ∷ []) ++ rest) in
    elim (nat_lt 64 (depth_of (zeros (suc (suc k))))) as (λ v. nat_lt 64 (depth_of (zeros (suc (suc k)))) ≡ v → (v || after) ≡ true) [
      | true ↦ λ deep. refl
      | false ↦ λ here.
          ap (passes_depth (zeros (suc (suc k)))) (append_assoc inner (close ∷ []) rest)
          ∙ pairs-deep n (suc k) (at + 1) (close ∷ rest) (omega arith) (deep_at (suc k) (depth_of (zeros (suc (suc k)))) (depth-zeros (suc k)) here)
    ] refl

-- a query that is one operand
one-operand : (tokens : List Placed) (query : Query) → IsOperand tokens (alone query) → IsOr tokens (query ∷ [])
one-operand tokens query is = one_xor tokens (query ∷ []) (one_and tokens (query ∷ []) (one_group tokens (alone query ∷ []) (one_operand tokens (alone query) is)))

pairs-operand : (n at : ℕ) → IsOperand (pair_tokens n at) (alone tree.All)
pairs-operand zero at = a_term at (alone tree.All)
pairs-operand (suc n) at = enclosed at (at + (2 * n + 2)) (pair_tokens n (at + 1)) (tree.All ∷ []) (one-operand (pair_tokens n (at + 1)) tree.All (pairs-operand n (at + 1)))

-- ---- signs

abbrev sign_tokens : ℕ → ℕ → List Placed
sign_tokens zero at = all at ∷ []
sign_tokens (suc n) at = placed at Negation ∷ sign_tokens n (at + 1)

signs-len : (n : ℕ) → length (after_signs n) ≡ n + 1
signs-len zero = refl
signs-len (suc n) = ap suc (signs-len n) ∙ omega arith

signs-go_on : (n : ℕ) → goes_on (after_signs n) ≡ true
signs-go_on zero = refl
signs-go_on (suc n) = refl

signs-read : (n at : ℕ) → tokens_from 0 at (after_signs n) ≡ Ok (sign_tokens n at)
signs-read zero at = refl
signs-read (suc n) at =
    ap (λ v. then at (after_signs n) (cond v (Ok (token_of Negation 1)) (cond false (Ok (passed 1)) (word_at at (45 ∷ after_signs n))))) (signs-go_on n)
    ∙ ap (before_tokens at (token_of Negation 1)) (signs-read n (at + 1))

signs-shallow : (n k at : ℕ) → k + n ≤ 64 → passes_depth (k ∷ []) (sign_tokens n at) ≡ false
signs-shallow zero k at few = refl
signs-shallow (suc n) k at few =
    ap (λ v. v || passes_depth ((k + 1) ∷ []) (sign_tokens n (at + 1))) (shallow_at (k + 1) (depth_of ((k + 1) ∷ [])) (omega arith) (omega arith))
    ∙ signs-shallow n (k + 1) (at + 1) (omega arith)

signs-deep : (n k at : ℕ) → 64 < k + n → k ≤ 64 → passes_depth (k ∷ []) (sign_tokens n at) ≡ true
signs-deep zero k at many few = absurd (omega arith)
signs-deep (suc n) k at many few =
    elim (nat_lt 64 (depth_of ((k + 1) ∷ []))) as (λ v. nat_lt 64 (depth_of ((k + 1) ∷ [])) ≡ v → (v || passes_depth ((k + 1) ∷ []) (sign_tokens n (at + 1))) ≡ true) [
      | true ↦ λ deep. refl
      | false ↦ λ here. signs-deep n (k + 1) (at + 1) (omega arith) (deep_at (k + 1) (depth_of ((k + 1) ∷ [])) (omega arith) here)
    ] refl

signs-operand : (n at : ℕ) → IsOperand (sign_tokens n at) (alone (nots n))
signs-operand zero at = a_term at (alone tree.All)
signs-operand (suc n) at = negated at (sign_tokens n (at + 1)) (alone (nots n)) (signs-operand n (at + 1))

-- ---- both

is_short : (n : ℕ) → n ≤ max_query_bytes → nat_lt max_query_bytes n ≡ false
is_short n h = grind (arith, nat_tests)

read-shallow : (text : List ℕ) (tokens : List Placed) (query : Query) → length text ≤ max_query_bytes → tokens_of text ≡ Ok tokens → is_too_deep tokens ≡ false → IsOperand tokens (alone query) → answer_of text ≡ Ok query
read-shallow text tokens query short cut shallow is =
    answer-read text query (record { tokens = tokens; short = short; cut = cut; shallow = shallow; read = an_or tokens (query ∷ []) (one-operand tokens query is) })

refused-deep : (text : List ℕ) (tokens : List Placed) → length text ≤ max_query_bytes → tokens_of text ≡ Ok tokens → is_too_deep tokens ≡ true → answer_of text ≡ Err (Limit QueryDepth)
refused-deep text tokens short cut deep =
    ap (λ v. cond v (Err (Limit QueryBytes)) (tokened (tokens_of text))) (is_short (length text) short)
    ∙ ap tokened cut ∙ ap (λ v. cond v (Err (Limit QueryDepth)) (structured tokens)) deep

pub pairs-answer : (n : ℕ) → n ≤ 64 → answer_of (in_pairs n) ≡ Ok tree.All
pairs-answer n few =
    let deep : is_too_deep (pair_tokens n 0) ≡ false = ap is_too_deep (sym (append-nil (pair_tokens n 0))) ∙ pairs-shallow n 0 0 [] (omega arith) in
    read-shallow (in_pairs n) (pair_tokens n 0) tree.All (omega (arith, pairs-len n)) (pairs-tokens n) deep (pairs-operand n 0)

pub pairs-refused : (n : ℕ) → 64 < n → n ≤ 32767 → answer_of (in_pairs n) ≡ Err (Limit QueryDepth)
pairs-refused n many few =
    let deep : is_too_deep (pair_tokens n 0) ≡ true = ap is_too_deep (sym (append-nil (pair_tokens n 0))) ∙ pairs-deep n 0 0 [] (omega arith) (omega arith) in
    refused-deep (in_pairs n) (pair_tokens n 0) (omega (arith, pairs-len n)) (pairs-tokens n) deep

pub signs-answer : (n : ℕ) → n ≤ 64 → answer_of (after_signs n) ≡ Ok (nots n)
signs-answer n few =
    read-shallow (after_signs n) (sign_tokens n 0) (nots n) (omega (arith, signs-len n)) (signs-read n 0) (signs-shallow n 0 0 (omega arith)) (signs-operand n 0)

pub signs-refused : (n : ℕ) → 64 < n → n ≤ 65535 → answer_of (after_signs n) ≡ Err (Limit QueryDepth)
signs-refused n many few =
    refused-deep (after_signs n) (sign_tokens n 0) (omega (arith, signs-len n)) (signs-read n 0) (signs-deep n 0 0 (omega arith) (omega arith))
