-- The facts of a mail, from its header and its parts. Cited by `mail` and `nm_scan`.
use Rattle.std.specs.Prelude.{◌≡◌, ℕ, Bool, ◌||◌, List, Option, Some, None, ⊤, codes, if◌then◌else◌}
use Rattle.nm_base.specs.declared.facts.Facts.{Facts}
use Rattle.nm_decode.specs.EncodedWords.{words_decoded}
use Rattle.nm_extract.specs.Date.{date_of}
use Rattle.nm_extract.specs.Ids.{links_among, named_ids, own_id}
use Rattle.nm_extract.specs.PartFacts.{facts_of_parts}
use Rattle.nm_extract.specs.WordLists.{word_lists}
use Rattle.nm_extract.specs.Mailboxes.{from_of, to_of}
use Rattle.nm_extract.specs.declared.part_facts.PartFacts.{PartFacts}
use Rattle.nm_extract.specs.declared.mail.ExtractError.{ExtractError}
use Rattle.nm_extract.specs.declared.mail.ExtractError.TheVariants.{NotMail, NoMemory}
use Rattle.nm_header.specs.Fields.{header_of}
use Rattle.nm_header.specs.Texts.{field_text, has_field}
use Rattle.nm_header.specs.declared.header.HeaderField.{HeaderField}
use Rattle.nm_mime.specs.Parts.{parts_of}

-- a mail says who wrote it, who gets it, or what it is about
abbrev pub is_mail : List HeaderField → Bool
is_mail fields = has_field fields (codes "from") || (has_field fields (codes "to") || has_field fields (codes "subject"))

abbrev pub subject_of : List HeaderField → List ℕ
subject_of fields = words_decoded (field_text fields (codes "subject"))

-- the facts of a mail with these fields, whose parts say this
abbrev pub facts_with : List ℕ → List HeaderField → PartFacts → Facts
facts_with mail fields parts = record {
  id = own_id mail fields;
  links = links_among (own_id mail fields) (named_ids fields);
  date = date_of fields;
  from = from_of fields;
  to = to_of fields;
  subject = subject_of fields;
  lists = word_lists (from_of fields) (to_of fields) (subject_of fields) parts.attachments parts.bodies;
  types = parts.types;
  marks = parts.marks;
}

-- the facts of bytes that are a mail, and none of others
abbrev pub facts_of : List ℕ → Option Facts
facts_of bytes =
    if is_mail (header_of bytes).list then Some (facts_with bytes (header_of bytes).list (facts_of_parts bytes (parts_of bytes))) else None

-- why a file has no facts: it is no mail, or memory ran out
abbrev pub IsExtractFault : List ℕ → ExtractError → Type 0
IsExtractFault bytes NotMail = facts_of bytes ≡ None
IsExtractFault bytes NoMemory = ⊤
