use Rattle.nm_header.proofs.CommentLemmas.{lexeme_comment, lexeme_quoted, lexeme_pair}
use Rattle.nm_header.proofs.comments.lexeme_len.Goals as goal

pub returns-then-text-eq40-clause-first : goal.returns-then-text-eq40-clause-first
returns-then-text-eq40-clause-first c = lexeme_comment c.args.text.now c.split_at.result.1.now c.comment_len.result c.requires c.if-text-eq40.true c.split_at.ensures.back c.comment_len.ensures.value

pub returns-then-text-eq34-clause-first : goal.returns-then-text-eq34-clause-first
returns-then-text-eq34-clause-first c = lexeme_quoted c.args.text.now c.split_at.result.1.now c.quoted_len.result c.requires c.if-text-eq34.true c.split_at.ensures.back c.quoted_len.ensures.value

pub returns-clause-first : goal.returns-clause-first
returns-clause-first c = lexeme_pair c.args.text.now c.pair_len.result c.requires c.if-text-eq40.false c.if-text-eq34.false c.pair_len.ensures.first c.pair_len.ensures.within
