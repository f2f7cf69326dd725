use Rattle.std.proofs.Common.{sym, ap, ◌∙◌, arith}
use Rattle.nm_query.specs.declared.token.Lexeme.{Lexeme}
use Rattle.nm_query.proofs.CutLemmas.{cut_after_one, inside, off_by, one_cut, space_cut}
use Rattle.nm_query.proofs.lexeme.lexeme_at.Goals as goal

pub returns-then-not-goes_on-clause-cut : goal.returns-then-not-goes_on-clause-cut
returns-then-not-goes_on-clause-cut c =
    off_by c.args.text.now c.passed.result 1 (ap (λ (lexeme : Lexeme). lexeme.len) c.passed.ensures)
    (space_cut c.args.text.now c.as_bytes-bytes.result.now c.as_bytes-bytes.ensures.value (sym c.goes_on.ensures ∙ c.if-not-goes_on.true) c.requires.some c.utf8.text)

pub returns-then-begins_with-clause-cut : goal.returns-then-begins_with-clause-cut
returns-then-begins_with-clause-cut c =
    off_by c.args.text.now c.token_of.result 1 (ap (λ (lexeme : Lexeme). lexeme.len) c.token_of.ensures)
    (one_cut 40 c.args.text.now c.as_bytes-bytes.result.now (omega arith) c.as_bytes-bytes.ensures.value (sym c.begins_with.ensures ∙ c.if-begins_with.true) c.utf8.text)

pub returns-then-begins_with-2-clause-cut : goal.returns-then-begins_with-2-clause-cut
returns-then-begins_with-2-clause-cut c =
    off_by c.args.text.now c.token_of-then-begins_with-2.result 1 (ap (λ (lexeme : Lexeme). lexeme.len) c.token_of-then-begins_with-2.ensures)
    (one_cut 41 c.args.text.now c.as_bytes-bytes.result.now (omega arith) c.as_bytes-bytes.ensures.value (sym c.begins_with-2.ensures ∙ c.if-begins_with-2.true) c.utf8.text)

pub range_from-requires : goal.range_from-requires
range_from-requires c = λ _.
    (one_cut 34 c.args.text.now c.as_bytes-bytes.result.now (omega arith) c.as_bytes-bytes.ensures.value (sym c.begins_with-3.ensures ∙ c.if-begins_with-3.true) c.utf8.text).1

pub returns-then-begins_with-3-clause-cut : goal.returns-then-begins_with-3-clause-cut
returns-then-begins_with-3-clause-cut c =
    let off = one_cut 34 c.args.text.now c.as_bytes-bytes.result.now (omega arith) c.as_bytes-bytes.ensures.value (sym c.begins_with-3.ensures ∙ c.if-begins_with-3.true) c.utf8.text in
    inside c.quoted_term.result _ _ (λ lexeme h. (omega (arith, h.0), cut_after_one c.args.text.now c.range_from.result.now lexeme.len off.1.0 c.range_from.ensures.value h.0 h.1)) c.quoted_term.ensures.cut
