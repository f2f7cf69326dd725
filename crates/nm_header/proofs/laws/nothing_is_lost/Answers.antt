use Rattle.nm_header.specs.Comments.{lexeme_more}
use Rattle.nm_header.specs.Mailboxes.{mailbox_lexeme_more}
use Rattle.nm_header.proofs.laws.nothing_is_lost.Goals as goal

pub returns-clause-lexemes : goal.returns-clause-lexemes
returns-clause-lexemes c = λ bytes. c.nothing_is_cut_away.ensures.lexemes lexeme_more bytes

pub returns-clause-mailbox_lexemes : goal.returns-clause-mailbox_lexemes
returns-clause-mailbox_lexemes c = λ bytes. c.nothing_is_cut_away.ensures.lexemes mailbox_lexeme_more bytes
