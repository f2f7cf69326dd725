-- The model's answer to a show: the messages that a query finds, the oldest first, or one file as it is. What the lead files
-- hold is what the mail folder gave, a read for each message.
--   for each message:  "message id:" ID LF, for each file "file " PATH LF, "from " MAILBOX (", " MAILBOX)* LF, "subject " SUBJECT LF,
--                      "date " YYYY-MM-DD LF, "tags " TAG (" " TAG)* LF, LF, the body, "end" LF
--   body:              each text, and LF where it does not end so; or "missing" LF; or "too long" LF
-- Cited by `nm_render`, `nm_session` and `nm_history`.
use Rattle.std.specs.Prelude.{ℕ, ℤ, Bool, true, ◌&&◌, ◌==◌, not, List, [], ◌∷◌, ◌++◌, length, map, nat_eq, codes, Option, None, Some, Ok, Err, if◌then◌else◌}
use Rattle.std.specs.List.{ends_with, flat_map}
use Rattle.nm_base.specs.declared.asks.ShowAsk.{ShowAsk}
use Rattle.nm_base.specs.declared.facts.Facts.{Facts}
use Rattle.nm_base.specs.declared.facts.Mailbox.{Mailbox}
use Rattle.nm_extract.specs.PartText.{bodies_of}
use Rattle.nm_model_index.specs.declared.base.Base.{Base}
use Rattle.nm_maildir.specs.declared.given.Given.{Given}
use Rattle.nm_maildir.specs.declared.given.Given.TheVariants as givens
use Rattle.nm_maildir.specs.declared.given.ReadAnswer.{ReadAnswer}
use Rattle.nm_maildir.specs.declared.given.ReadAnswer.TheVariants as answers
use Rattle.nm_query.specs.Answers.{answer_of}
use Rattle.nm_query.specs.declared.query.Query.{Query}
use Rattle.nm_model_answer.specs.Json.{joined}
use Rattle.nm_model_answer.specs.Matches.{matches_of}
use Rattle.nm_model_answer.specs.Search.{item_line, lines_text, message_date, ordered}
use Rattle.nm_model_answer.specs.Summary.{lead_subject, shown, shown_day}
use Rattle.nm_model_answer.specs.View.{files_of, tags_of}

-- ---- which messages

-- the messages that a show finds, the oldest first
abbrev pub shown_ids : ShowAsk → Base → ℤ → Query → List (List ℕ)
shown_ids ask index moment query = ordered index true (matches_of index query moment ask.exclude)

-- raw form shows one message, and these are more or none
abbrev pub is_not_one : ShowAsk → List (List ℕ) → Bool
is_not_one ask ids = ask.raw && not (length ids == 1)

-- the path of the lead file, if there is one
abbrev pub lead_path : List (List ℕ × Facts) → List (List ℕ)
lead_path [] = []
lead_path (lead ∷ others) = lead.0 ∷ []

-- the paths that a show reads: those of the lead files
abbrev pub lead_paths : Base → List (List ℕ) → List (List ℕ)
lead_paths index ids = flat_map (λ id. lead_path (files_of index id)) ids

-- ---- the lines before the body

-- a mailbox with its name, or the address alone
abbrev pub mailbox_text : Mailbox → List ℕ
mailbox_text mailbox =
    if length mailbox.name == 0 then mailbox.address else mailbox.name ++ (codes " <" ++ (mailbox.address ++ codes ">"))

abbrev pub mailboxes_text : List Mailbox → List ℕ
mailboxes_text mailboxes = joined (codes ", ") (map mailbox_text mailboxes)

-- who wrote a message, by its lead file
abbrev pub lead_from : List (List ℕ × Facts) → List Mailbox
lead_from [] = []
lead_from (lead ∷ others) = lead.1.from

-- the id and the files, in order of arrival
abbrev pub names_text : Base → List ℕ → List ℕ
names_text index id = item_line (codes "message id:") id ++ lines_text (codes "file ") (map (λ file. file.0) (files_of index id))

-- who wrote it and about what, with control characters as spaces
abbrev pub fields_text : Base → List ℕ → List ℕ
fields_text index id =
    item_line (codes "from ") (shown (mailboxes_text (lead_from (files_of index id))))
    ++ item_line (codes "subject ") (shown (lead_subject (files_of index id)))

-- its day and its tags
abbrev pub marks_text : Base → List ℕ → List ℕ
marks_text index id = item_line (codes "date ") (shown_day (message_date index id)) ++ item_line (codes "tags ") (joined (codes " ") (tags_of index id))

-- all of these, and an empty line
abbrev pub head_text : Base → List ℕ → List ℕ
head_text index id = names_text index id ++ (fields_text index id ++ (marks_text index id ++ codes "\n"))

-- ---- the body

-- a text, and LF where it does not end so
abbrev pub ended : List ℕ → List ℕ
ended text = if ends_with nat_eq text (codes "\n") then text else text ++ codes "\n"

-- what is shown of an answer to a read: the texts of the bytes, or why there are none
abbrev pub body_text : ReadAnswer → List ℕ
body_text answers.Mail = []
body_text answers.NotMail = []
body_text answers.Missing = codes "missing\n"
body_text answers.TooLong = codes "too long\n"
body_text (answers.Body bytes) = flat_map ended (bodies_of bytes)

-- the same of what the folder gave
abbrev pub given_text : Given → List ℕ
given_text (givens.Listed paths) = []
given_text (givens.Read path answer) = body_text answer
given_text (givens.Renamed from to answer) = []

-- ---- the whole

abbrev pub message_text : Base → List ℕ → Given → List ℕ
message_text index id given = head_text index id ++ (given_text given ++ codes "end\n")

-- messages one after the other, each with what the folder gave for it
abbrev pub messages_text : Base → List (List ℕ) → List Given → List ℕ
messages_text index [] given = []
messages_text index (id ∷ ids) [] = []
messages_text index (id ∷ ids) (first ∷ given) = message_text index id first ++ messages_text index ids given

-- the bytes that a read found
abbrev pub bytes_of : ReadAnswer → List ℕ
bytes_of answers.Mail = []
bytes_of answers.NotMail = []
bytes_of answers.Missing = []
bytes_of answers.TooLong = []
bytes_of (answers.Body bytes) = bytes

-- those of the first read, as they are
abbrev pub raw_text : List Given → List ℕ
raw_text [] = []
raw_text (givens.Listed paths ∷ more) = []
raw_text (givens.Read path answer ∷ more) = bytes_of answer
raw_text (givens.Renamed from to answer ∷ more) = []

-- what is shown of messages, which are one in raw form
abbrev pub show_text : ShowAsk → Base → List (List ℕ) → List Given → List ℕ
show_text ask index ids given = if ask.raw then raw_text given else messages_text index ids given

-- the path, where a read found no bytes there
abbrev pub path_lost : List ℕ → ReadAnswer → Option (List ℕ)
path_lost path answers.Mail = None
path_lost path answers.NotMail = None
path_lost path answers.Missing = Some path
path_lost path answers.TooLong = Some path
path_lost path (answers.Body bytes) = None

-- that of the first read
abbrev pub first_lost : List Given → Option (List ℕ)
first_lost [] = None
first_lost (givens.Listed paths ∷ more) = None
first_lost (givens.Read path answer ∷ more) = path_lost path answer
first_lost (givens.Renamed from to answer ∷ more) = None

-- the path of the file that raw form asks for, where it is missing; text form tells it in its place
abbrev pub gone_path : ShowAsk → List Given → Option (List ℕ)
gone_path ask given = if ask.raw then first_lost given else None

-- the text over the messages that a query finds
abbrev pub show_found : ShowAsk → Base → ℤ → Query → List Given → List ℕ
show_found ask index moment query given = show_text ask index (shown_ids ask index moment query) given

-- what a show is answered; a text that is no query has no answer
abbrev pub show_answer : ShowAsk → Base → ℤ → List Given → List ℕ
show_answer ask index moment given = elim (answer_of ask.query) [ Ok query ↦ show_found ask index moment query given | Err refusal ↦ [] ]
