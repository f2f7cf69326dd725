use denote.Shadow.{shadow}
use denote.Text.{Utf8}
use Rattle.std.proofs.Common.{◌≡◌, ◌+◌, length}
use Rattle.nm_query.specs.Tokens.{tokens_from, tokens_of}
use Rattle.nm_query.proofs.TokenLemmas.{with_tokens}
use Rattle.nm_query.proofs.tokens.tokens.Given as goal

-- the tokens so far, and those of the rest, are all
abbrev pub invariant-lexemes : goal.invariant-lexemes
invariant-lexemes l = shadow (Utf8 l.rest) × (l.at + length l.rest ≡ length l.text) × (with_tokens l.tokens (tokens_from 0 l.at l.rest) ≡ tokens_of l.text)

abbrev pub decreases-lexemes : goal.decreases-lexemes
decreases-lexemes l = length l.rest
