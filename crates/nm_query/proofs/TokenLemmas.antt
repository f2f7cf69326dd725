-- The tokens of a text are those of its first lexeme and those of the rest. For the proof of `tokens`.
use Rattle.std.proofs.Common.{◌≡◌, ℕ, zero, suc, ◌+◌, ◌-◌, ◌<◌, ◌≤◌, List, [], ◌∷◌, ◌++◌, length, drop, refl, sym, ap, subst, ◌∙◌, arith, append_assoc}
use Rattle.std.specs.Prelude.{Option, Some, None, Result, Ok, Err, IfOk}
use Rattle.nm_query.specs.Lexemes.{lexeme_at}
use Rattle.nm_query.specs.Prefixes.{CutsOff}
use Rattle.nm_query.specs.Tokens.{after_token, before_tokens, followed, tokens_from}
use Rattle.nm_query.specs.declared.query_error.QueryError.{QueryError}
use Rattle.nm_query.specs.declared.token.Lexeme.{Lexeme}
use Rattle.nm_query.specs.declared.token.Placed.{Placed}
use Rattle.nm_query.specs.declared.token.Token.{Token}

-- these tokens before the others
abbrev pub with_tokens : List Placed → Result (List Placed) QueryError → Result (List Placed) QueryError
with_tokens tokens more = elim more [ Ok more ↦ Ok (tokens ++ more) | Err refusal ↦ Err refusal ]

after_token-more : (at : ℕ) (token : Option Token) (more : List Placed) → after_token at token more ≡ after_token at token [] ++ more
after_token-more at None more = refl
after_token-more at (Some token) more = refl

pub with_lexeme : (tokens : List Placed) (at : ℕ) (lexeme : Lexeme) (more : Result (List Placed) QueryError) → with_tokens tokens (before_tokens at lexeme more) ≡ with_tokens (tokens ++ after_token at lexeme.token []) more
with_lexeme tokens at lexeme (Ok more) = ap (λ x. Ok (tokens ++ x)) (after_token-more at lexeme.token more) ∙ ap Ok (sym (append_assoc tokens (after_token at lexeme.token []) more))
with_lexeme tokens at lexeme (Err refusal) = refl

-- inside a lexeme none begins
tokens_inside : (inside at : ℕ) (text : List ℕ) → inside ≤ length text → tokens_from inside at text ≡ tokens_from 0 (at + inside) (drop inside text)
tokens_inside zero at text within = ap (λ n. tokens_from 0 n text) (omega arith)
tokens_inside (suc inside) at [] within = absurd (omega arith)
tokens_inside (suc inside) at (b ∷ more) within =
    tokens_inside inside (at + 1) more (omega arith) ∙ ap (λ n. tokens_from 0 n (drop inside more)) (omega arith)

-- a lexeme, and what follows it
pub lexeme_first : (at : ℕ) (text : List ℕ) (lexeme : Lexeme) → 0 < length text → lexeme_at at text ≡ Ok lexeme → 0 < lexeme.len → lexeme.len ≤ length text →
    tokens_from 0 at text ≡ before_tokens at lexeme (tokens_from 0 (at + lexeme.len) (drop lexeme.len text))
lexeme_first at [] lexeme some read long within = absurd (omega arith)
lexeme_first at (b ∷ more) lexeme some read long within =
    let one_more : suc (lexeme.len - 1) ≡ lexeme.len = omega arith in
    let sum : at + 1 + (lexeme.len - 1) ≡ at + lexeme.len = omega arith in
    ap (λ x. followed at x (λ len. tokens_from (len - 1) (at + 1) more)) read
    ∙ ap (before_tokens at lexeme) (tokens_inside (lexeme.len - 1) (at + 1) more (omega arith)
    ∙ ap (λ n. tokens_from 0 n (drop (lexeme.len - 1) more)) sum ∙ ap (λ n. tokens_from 0 (at + lexeme.len) (drop n (b ∷ more))) one_more)

pub fault_first : (at : ℕ) (text : List ℕ) (refusal : QueryError) → 0 < length text → lexeme_at at text ≡ Err refusal → tokens_from 0 at text ≡ Err refusal
fault_first at [] refusal some read = absurd (omega arith)
fault_first at (b ∷ more) refusal some read = ap (λ x. followed at x (λ len. tokens_from (len - 1) (at + 1) more)) read

pub cut_at : (text : List ℕ) (read : Result Lexeme QueryError) (lexeme : Lexeme) → read ≡ Ok lexeme → IfOk read (λ lexeme. CutsOff text lexeme.len) → CutsOff text lexeme.len
cut_at text read lexeme same cut = subst (λ read. IfOk read (λ lexeme. CutsOff text lexeme.len)) same cut
