use Rattle.std.proofs.Common.{◌≡◌, take}
use Rattle.std.specs.List.{flat_map}
use Rattle.nm_extract.specs.Mailboxes.{mailbox_words}
use Rattle.nm_extract.proofs.mailboxes.words_of_mailboxes.Given as goal

abbrev pub invariant-mailboxes : goal.invariant-mailboxes
invariant-mailboxes l = l.found ≡ flat_map mailbox_words (take l.mailbox-index l.mailboxes)
