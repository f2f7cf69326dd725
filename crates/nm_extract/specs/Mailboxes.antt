-- The mailboxes of a mail (RFC 5322, sections 3.6.2 and 3.6.3), their names decoded. Cited by `mailboxes`.
use Rattle.std.specs.Prelude.{ℕ, List, ◌++◌, map, codes}
use Rattle.std.specs.List.{flat_map}
use Rattle.nm_base.specs.declared.facts.Mailbox.{Mailbox}
use Rattle.nm_decode.specs.EncodedWords.{words_decoded}
use Rattle.nm_header.specs.Mailboxes.{mailboxes_of}
use Rattle.nm_header.specs.Texts.{texts_of}
use Rattle.nm_header.specs.declared.header.HeaderField.{HeaderField}
use Rattle.nm_words.specs.Words.{words_of}

-- the mailbox with its name decoded
abbrev pub decoded_mailbox : Mailbox → Mailbox
decoded_mailbox mailbox = record { name = words_decoded mailbox.name; address = mailbox.address }

abbrev pub decoded_mailboxes : List ℕ → List Mailbox
decoded_mailboxes text = map decoded_mailbox (mailboxes_of text)

-- the mailboxes in the fields of a name that count
abbrev pub field_mailboxes : List HeaderField → List ℕ → List Mailbox
field_mailboxes fields name = flat_map decoded_mailboxes (texts_of fields name)

abbrev pub from_of : List HeaderField → List Mailbox
from_of fields = field_mailboxes fields (codes "from")

-- those of To, then of Cc, then of Bcc
abbrev pub to_of : List HeaderField → List Mailbox
to_of fields = field_mailboxes fields (codes "to") ++ (field_mailboxes fields (codes "cc") ++ field_mailboxes fields (codes "bcc"))

-- the words of the name, then those of the address
abbrev pub mailbox_words : Mailbox → List (List ℕ)
mailbox_words mailbox = words_of mailbox.name ++ words_of mailbox.address
