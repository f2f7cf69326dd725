-- The facts of a mail in bytes, field by field: its id, its links, its date, the mailboxes of From and of To, its subject, its
-- words, its types, its marks.
-- Cited by `changes`, `facts` and `names`.
use Rattle.std.specs.Prelude.{ℕ, ℤ, List, refl}
use Rattle.nm_base.specs.MessageId.{is_message_id}
use Rattle.nm_base.specs.MailPath.{is_mail_path}
use Rattle.nm_base.specs.Tag.{is_tag}
use Rattle.nm_base.specs.Limits.{is_date}
use Rattle.nm_base.specs.declared.facts.Mailbox.{Mailbox}
use Rattle.nm_base.specs.declared.facts.Facts.{Facts}
use Rattle.nm_base.specs.declared.facts.Field.{Field}
use Rattle.nm_base.specs.declared.facts.FieldWords.{FieldWords}
use Rattle.nm_base.specs.declared.facts.Marks.{Marks}
use Rattle.nm_record.specs.CodeLaws.{date_fits, field_back, field_number_of, field_is_small, marks_back, marks_code_of, marks_are_small}
use Rattle.nm_base.specs.FieldNumber.{field_number}
use Rattle.nm_record.specs.Codes.{field_of, marks_code, marks_of}
use Rattle.nm_codec.specs.Grammar.{Grammar, code_grammar, list_grammar, mapped_grammar, pair_grammar, signed_grammar, tested_grammar, text_grammar, words_grammar}

abbrev pub id_grammar : Grammar (List ℕ)
id_grammar = tested_grammar is_message_id text_grammar

abbrev pub tag_grammar : Grammar (List ℕ)
tag_grammar = tested_grammar is_tag text_grammar

abbrev pub path_grammar : Grammar (List ℕ)
path_grammar = tested_grammar is_mail_path text_grammar

abbrev pub mailbox_of : List ℕ × List ℕ → Mailbox
mailbox_of pair = record { name = pair.0; address = pair.1 }

-- a name and an address
abbrev pub mailbox_grammar : Grammar Mailbox
mailbox_grammar = mapped_grammar mailbox_of (λ mailbox. (mailbox.name, mailbox.address)) (λ mailbox. refl) (λ pair. refl) (pair_grammar text_grammar text_grammar)

-- a field in one byte
abbrev pub field_grammar : Grammar Field
field_grammar = code_grammar field_of field_number field_back field_is_small field_number_of

-- the marks in one byte
abbrev pub marks_grammar : Grammar Marks
marks_grammar = code_grammar marks_of marks_code marks_back marks_are_small marks_code_of

abbrev pub field_words_of : Field × List (List ℕ) → FieldWords
field_words_of pair = record { field = pair.0; words = pair.1 }

-- a field, and the words of one of its texts
abbrev pub field_words_grammar : Grammar FieldWords
field_words_grammar = mapped_grammar field_words_of (λ list. (list.field, list.words)) (λ list. refl) (λ pair. refl) (pair_grammar field_grammar words_grammar)

-- the second of a mail, in the range of dates
abbrev pub date_grammar : Grammar ℤ
date_grammar = signed_grammar is_date date_fits

-- the values of facts, one after the other
abbrev pub FactsParts : Type 0
FactsParts = List ℕ × (List (List ℕ) × (ℤ × (List Mailbox × (List Mailbox × (List ℕ × (List FieldWords × (List (List ℕ) × Marks)))))))

-- the facts, of the parts of which they are made
abbrev pub facts_of : FactsParts → Facts
facts_of (id, (links, (date, (from, (to, (subject, (lists, (types, marks)))))))) =
    record { id = id; links = links; date = date; from = from; to = to; subject = subject; lists = lists; types = types; marks = marks }

abbrev pub content_parts : Facts → List FieldWords × (List (List ℕ) × Marks)
content_parts f = (f.lists, (f.types, f.marks))

abbrev pub heading_parts : Facts → List Mailbox × (List Mailbox × (List ℕ × (List FieldWords × (List (List ℕ) × Marks))))
heading_parts f = (f.from, (f.to, (f.subject, content_parts f)))

abbrev pub facts_parts : Facts → FactsParts
facts_parts f = (f.id, (f.links, (f.date, heading_parts f)))

-- words, types, marks
abbrev pub content_grammar : Grammar (List FieldWords × (List (List ℕ) × Marks))
content_grammar = pair_grammar (list_grammar field_words_grammar) (pair_grammar (list_grammar text_grammar) marks_grammar)

-- the mailboxes of From and of To, the subject, and the content
abbrev pub heading_grammar : Grammar (List Mailbox × (List Mailbox × (List ℕ × (List FieldWords × (List (List ℕ) × Marks)))))
heading_grammar = pair_grammar (list_grammar mailbox_grammar) (pair_grammar (list_grammar mailbox_grammar) (pair_grammar text_grammar content_grammar))

-- the one encoding of the facts of a mail
abbrev pub facts_grammar : Grammar Facts
facts_grammar = mapped_grammar facts_of facts_parts (λ f. refl) (λ parts. refl)
    (pair_grammar id_grammar (pair_grammar (list_grammar id_grammar) (pair_grammar date_grammar heading_grammar)))
