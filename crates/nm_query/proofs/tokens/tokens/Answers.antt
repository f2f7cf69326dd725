use Rattle.std.proofs.Common.{◌+◌, ◌<◌, drop, length, sym, ap, ◌∙◌, arith}
use Rattle.std.proofs.lemmas.Bool.Decides.{nat_tests}
use Rattle.nm_query.specs.Tokens.{tokens_from}
use Rattle.nm_query.proofs.TokenLemmas.{cut_at, lexeme_first, with_lexeme, with_tokens}
use Rattle.nm_query.proofs.tokens.tokens.Goals as goal

pub lexemes-preserved : goal.lexemes-preserved
lexemes-preserved c =
    let at = c.lexemes.at in
    let rest = c.lexemes.rest.now in
    let lexeme = c.in-Ok.lexeme in
    let some : 0 < length rest = grind (arith, nat_tests) in
    let off = cut_at rest c.in_ok-lexeme.field-0 lexeme c.in-Ok.is c.in_ok-lexeme.ensures.cut in
    let first = lexeme_first at rest lexeme some (sym c.in_ok-lexeme.ensures.value ∙ c.in-Ok.is) off.0 off.1.0 in (
      c.range_from-rest.utf8,
      omega (arith, c.range_from-rest.ensures.len, c.lexemes.invariant.1, off.1.0),
      ap (λ x. with_tokens c.push_token.new.tokens (tokens_from 0 (at + lexeme.len) x)) c.range_from-rest.ensures.value
          ∙ ap (λ x. with_tokens x (tokens_from 0 (at + lexeme.len) (drop lexeme.len rest))) c.in_ok-push_token-in-Ok.ensures
          ∙ sym (with_lexeme c.lexemes.tokens at lexeme (tokens_from 0 (at + lexeme.len) (drop lexeme.len rest)))
          ∙ ap (with_tokens c.lexemes.tokens) (sym first)
          ∙ c.lexemes.invariant.2,
    )
