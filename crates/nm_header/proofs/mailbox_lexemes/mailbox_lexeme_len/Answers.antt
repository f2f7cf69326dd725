use Rattle.nm_header.proofs.LexemeLemmas.{first_angle, first_quoted, first_pair}
use Rattle.nm_header.proofs.mailbox_lexemes.mailbox_lexeme_len.Goals as goal

pub returns-then-text-eq34-clause-first : goal.returns-then-text-eq34-clause-first
returns-then-text-eq34-clause-first c = first_quoted c.args.text.now c.split_at.result.1.now c.quoted_len.result c.requires c.if-text-eq34.true c.split_at.ensures.back c.quoted_len.ensures.value

pub returns-then-text-eq60-clause-first : goal.returns-then-text-eq60-clause-first
returns-then-text-eq60-clause-first c = first_angle c.args.text.now c.split_at.result.1.now c.angle_len.result c.requires c.if-text-eq60.true c.split_at.ensures.back c.angle_len.ensures.value

pub returns-clause-first : goal.returns-clause-first
returns-clause-first c = first_pair c.args.text.now c.pair_len.result c.requires c.if-text-eq34.false c.if-text-eq60.false c.pair_len.ensures.first c.pair_len.ensures.within
