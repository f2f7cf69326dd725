use Rattle.std.proofs.Common.{sym, ◌∙◌, arith, [], ◌∷◌, ◌++◌, take}
use Rattle.nm_header.proofs.LexemeLemmas.{gone_begin, gone_turn, stop_at, stop_end}
use Rattle.nm_header.proofs.mailbox_lexemes.stop_len.Goals as goal

pub lexemes-init : goal.lexemes-init
lexemes-init c = (([], gone_begin c.args.specials.now c.args.text.now), omega arith)

pub lexemes-preserved : goal.lexemes-preserved
lexemes-preserved c = ((c.lexemes.invariant.0.0 ++ take c.mailbox_lexeme_len.result c.lexemes.left.now ∷ [], gone_turn c.args.specials.now c.args.text.now c.lexemes.left.now c.split_at.result.1.now c.lexemes.invariant.0.0 c.mailbox_lexeme_len.result c.lexemes.invariant.0.1 c.mailbox_lexeme_len.ensures.first c.mailbox_lexeme_len.ensures.some (sym c.begins_with_any.ensures ∙ c.if-begins_with_any.false) c.split_at.ensures.back), omega arith)

pub returns-then-begins_with_any : goal.returns-then-begins_with_any
returns-then-begins_with_any c = stop_at c.args.specials.now c.args.text.now c.lexemes.left.now c.lexemes.invariant.0.0 c.lexemes.invariant.0.1 c.lexemes.invariant.1 (sym c.begins_with_any.ensures ∙ c.if-begins_with_any.true)

pub returns : goal.returns
returns c = stop_end c.args.specials.now c.args.text.now c.lexemes.left.now c.lexemes.invariant.0.0 c.lexemes.invariant.0.1 c.lexemes.invariant.1 (sym c.is_empty.ensures ∙ c.lexemes-test.false)
