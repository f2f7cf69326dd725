use Rattle.std.proofs.Common.{sym, ◌∙◌}
use Rattle.nm_header.proofs.MailboxLemmas.{mailboxes_end}
use Rattle.nm_header.proofs.mailbox_list.mailboxes.Goals as goal

pub returns : goal.returns
returns c = mailboxes_end c.parts.found c.parts.left.now (sym c.is_empty.ensures ∙ c.parts-test.false) ∙ c.parts.invariant.1
