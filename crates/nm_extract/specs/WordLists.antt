-- The words of a mail, a list for each text: the mailboxes, the subject, the names of attached files, the bodies.
-- Cited by `part_facts` and `word_lists`.
use Rattle.std.specs.Prelude.{ℕ, Bool, List, [], ◌∷◌, ◌++◌, Option, Some, None, codes, if◌then◌else◌}
use Rattle.std.specs.List.{flat_map, list_any}
use Rattle.std.specs.Str.{bytes_eq}
use Rattle.nm_base.specs.declared.facts.Field.{Field}
use Rattle.nm_base.specs.declared.facts.Field.TheVariants.{From, To, Subject, Body, Attachment}
use Rattle.nm_base.specs.declared.facts.FieldWords.{FieldWords}
use Rattle.nm_base.specs.declared.facts.Mailbox.{Mailbox}
use Rattle.nm_base.specs.declared.facts.Marks.{Marks}
use Rattle.nm_extract.specs.Mailboxes.{mailbox_words}
use Rattle.nm_extract.specs.PartText.{is_readable, part_text, visible_text}
use Rattle.nm_mime.specs.declared.entity.Part.{Part}
use Rattle.nm_words.specs.Words.{words_of}

-- these words, in this field
abbrev pub list_of : Field → List (List ℕ) → FieldWords
list_of field words = record { field = field; words = words }

abbrev pub mailbox_list : Field → List Mailbox → FieldWords
mailbox_list field mailboxes = list_of field (flat_map mailbox_words mailboxes)

-- the words of a filename, where there is one
abbrev pub name_list : Option (List ℕ) → List FieldWords
name_list None = []
name_list (Some name) = list_of Attachment (words_of name) ∷ []

-- of an attached part with a filename the words of that
abbrev pub attachment_list : Part → List FieldWords
attachment_list part = if part.attached then name_list part.filename else []

-- of a readable part the words of its text
abbrev pub body_list : List ℕ → Part → List FieldWords
body_list mail part =
    if is_readable part.role then list_of Body (words_of (visible_text part.kind (part_text mail part))) ∷ [] else []

-- mailboxes and subject, then the attached files, then the bodies
abbrev pub word_lists : List Mailbox → List Mailbox → List ℕ → List FieldWords → List FieldWords → List FieldWords
word_lists from to subject attachments bodies =
    (mailbox_list From from ∷ mailbox_list To to ∷ list_of Subject (words_of subject) ∷ []) ++ (attachments ++ bodies)

-- a part is attached
abbrev pub has_attachment : List Part → Bool
has_attachment parts = list_any (λ part. part.attached) parts

-- a part has the type
abbrev pub has_type : List Part → List ℕ → Bool
has_type parts type = list_any (λ part. bytes_eq part.kind type) parts

-- what is reported of a mail by its parts: a file is attached, it is signed, it is encrypted
abbrev pub marks_of : List Part → Marks
marks_of parts = record {
  attachment = has_attachment parts;
  signed = has_type parts (codes "multipart/signed");
  encrypted = has_type parts (codes "multipart/encrypted");
}
