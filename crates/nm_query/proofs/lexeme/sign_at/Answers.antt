use Rattle.std.proofs.Common.{sym, ap, ◌∙◌, arith}
use Rattle.nm_query.specs.declared.token.Lexeme.{Lexeme}
use Rattle.nm_query.proofs.CutLemmas.{off_by, one_cut}
use Rattle.nm_query.proofs.lexeme.sign_at.Goals as goal

pub returns-then-goes_on-clause-cut : goal.returns-then-goes_on-clause-cut
returns-then-goes_on-clause-cut c =
    off_by c.args.text.now c.token_of.result 1 (ap (λ (lexeme : Lexeme). lexeme.len) c.token_of.ensures)
    (one_cut 45 c.args.text.now c.as_bytes-bytes.result.now (omega arith) c.as_bytes-bytes.ensures.value (sym c.begins_with.ensures ∙ c.if-begins_with.true) c.utf8.text)

pub returns-then-goes_on-2-clause-cut : goal.returns-then-goes_on-2-clause-cut
returns-then-goes_on-2-clause-cut c =
    off_by c.args.text.now c.passed.result 1 (ap (λ (lexeme : Lexeme). lexeme.len) c.passed.ensures)
    (one_cut 43 c.args.text.now c.as_bytes-bytes.result.now (omega arith) c.as_bytes-bytes.ensures.value (sym c.begins_with-2.ensures ∙ c.if-begins_with-2.true) c.utf8.text)
