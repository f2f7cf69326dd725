-- So far, and what is left, is all, and is text.
use Rattle.std.proofs.Common.{sym, ◌∙◌}
use Rattle.nm_header.proofs.PlainLemmas.{plain_end, plain_turn, plain_utf8}
use Rattle.nm_header.proofs.plain_text.plain.Goals as goal

pub lexemes-preserved : goal.lexemes-preserved
lexemes-preserved c = record {
  text = plain_turn c.lexemes.shown.items c.show.new.text.items c.split_at.result.0.now c.lexemes.left.now c.split_at.result.1.now c.lexeme_len.result c.lexeme_len.ensures.first c.split_at.ensures.front c.split_at.ensures.back c.in_ok-show.ensures ∙ c.lexemes.invariant.text;
  utf8 = plain_utf8 c.lexemes.shown.items c.show.new.text.items c.split_at.result.0.now c.lexemes.left.now c.split_at.result.1.now c.lexeme_len.result c.lexeme_len.ensures.some c.split_at.ensures.front c.split_at.ensures.back c.in_ok-show.ensures c.lexeme_len.ensures.after c.lexemes.invariant.utf8;
}

pub returns : goal.returns
returns c = c.in_ok-plain.ensures ∙ sym (plain_end c.lexemes.shown.items c.lexemes.left.now (sym c.is_empty.ensures ∙ c.lexemes-test.false)) ∙ c.lexemes.invariant.text
