use Rattle.std.proofs.Common.{◌≡◌, ◌++◌, map, take}
use Rattle.nm_extract.specs.Mailboxes.{decoded_mailbox}
use Rattle.nm_extract.proofs.mailboxes.add_decoded.Given as goal

abbrev pub invariant-mailboxes : goal.invariant-mailboxes
invariant-mailboxes l = l.found ≡ l.initial.found ++ map decoded_mailbox (take l.mailbox-index l.mailbox-items)
