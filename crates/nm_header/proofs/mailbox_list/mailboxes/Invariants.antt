use Rattle.std.proofs.Common.{◌≡◌, ◌++◌, length}
use denote.Text.{Utf8}
use denote.Shadow.{shadow}
use Rattle.nm_header.specs.Mailboxes.{mailbox_lexemes_of, mailboxes_in, mailboxes_of}
use Rattle.nm_header.proofs.mailbox_list.mailboxes.Given as goal

-- so far, and what is left, is all
abbrev pub invariant-parts : goal.invariant-parts
invariant-parts l = shadow (Utf8 l.left) × (l.found ++ mailboxes_in (mailbox_lexemes_of l.left) ≡ mailboxes_of l.text)

abbrev pub decreases-parts : goal.decreases-parts
decreases-parts l = length l.left
