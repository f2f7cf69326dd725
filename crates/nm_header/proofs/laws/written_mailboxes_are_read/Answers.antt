use Rattle.nm_header.proofs.WrittenMailboxLemmas.{mailboxes-written}
use Rattle.nm_header.proofs.laws.written_mailboxes_are_read.Goals as goal

pub returns : goal.returns
returns c = λ written e. mailboxes-written written e
