-- The tokens of a query, each with its place, or the first fault of one. Cited by `tokens`.
use Rattle.std.specs.Prelude.{ℕ, zero, suc, ◌+◌, ◌-◌, List, [], ◌∷◌, Option, Some, None, Result, Ok, Err}
use Rattle.nm_query.specs.Lexemes.{lexeme_at}
use Rattle.nm_query.specs.declared.query_error.QueryError.{QueryError}
use Rattle.nm_query.specs.declared.token.Lexeme.{Lexeme}
use Rattle.nm_query.specs.declared.token.Placed.{Placed}
use Rattle.nm_query.specs.declared.token.Token.{Token}

-- a token at this place, if there is one, before others
abbrev pub after_token : ℕ → Option Token → List Placed → List Placed
after_token at None tokens = tokens
after_token at (Some token) tokens = record { at = at; token = token } ∷ tokens

-- a lexeme at this place and the tokens after it; of two faults the first
abbrev pub before_tokens : ℕ → Lexeme → Result (List Placed) QueryError → Result (List Placed) QueryError
before_tokens at lexeme tokens = elim tokens [ Ok tokens ↦ Ok (after_token at lexeme.token tokens) | Err refusal ↦ Err refusal ]

-- a lexeme at this place, and what follows by its length
abbrev pub followed : ℕ → Result Lexeme QueryError → (ℕ → Result (List Placed) QueryError) → Result (List Placed) QueryError
followed at lexeme after = elim lexeme [ Ok lexeme ↦ before_tokens at lexeme (after lexeme.len) | Err refusal ↦ Err refusal ]

-- the tokens of a text that is at this place, where n of its bytes still belong to the lexeme before
abbrev pub tokens_from : ℕ → ℕ → List ℕ → Result (List Placed) QueryError
tokens_from inside at [] = Ok []
tokens_from (suc inside) at (b ∷ more) = tokens_from inside (at + 1) more
tokens_from zero at (b ∷ more) = followed at (lexeme_at at (b ∷ more)) (λ len. tokens_from (len - 1) (at + 1) more)

-- the tokens of a query
abbrev pub tokens_of : List ℕ → Result (List Placed) QueryError
tokens_of text = tokens_from 0 0 text
