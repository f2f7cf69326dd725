-- What a search prints of a thread: its first message that matches, how many there are, who wrote them, and their tags.
-- Cited by `nm_render`.
use Rattle.std.specs.Prelude.{ℕ, zero, suc, ℤ, pos, Bool, ◌||◌, ◌==◌, not, nat_lt, int_lt, List, [], ◌∷◌, ◌++◌, length, filter, map, take, drop, codes, Some, if◌then◌else◌}
use Rattle.std.specs.Fmt.{decimal}
use Rattle.std.specs.List.{flat_map}
use Rattle.nm_base.specs.Limits.{min_date}
use Rattle.nm_base.specs.Order.{has_text, same_text}
use Rattle.nm_base.specs.declared.asks.SearchAsk.{SearchAsk}
use Rattle.nm_base.specs.declared.facts.Facts.{Facts}
use Rattle.nm_base.specs.declared.facts.Mailbox.{Mailbox}
use Rattle.nm_dates.specs.Calendar.{date_of, date_text}
use Rattle.nm_dates.specs.Seconds.{day_of, last_shown_second}
use Rattle.nm_model_index.specs.Index.{live_ids, rows_of}
use Rattle.nm_model_index.specs.declared.base.Base.{Base}
use Rattle.nm_text.specs.Case.{same_ignoring_case}
use Rattle.nm_text.specs.WhiteSpace.{trimmed_start}
use Rattle.nm_threads.specs.Name.{thread_name}
use Rattle.nm_model_answer.specs.Count.{files_of_all}
use Rattle.nm_model_answer.specs.Json.{joined}
use Rattle.nm_model_answer.specs.Listing.{by_rank, each_once}
use Rattle.nm_model_answer.specs.Search.{message_date, part_asked, tags_of_all, thread_digits, threads_of}
use Rattle.nm_model_answer.specs.Test.{is_thread}
use Rattle.nm_model_answer.specs.View.{files_of}
use Rattle.nm_model_answer.specs.declared.summary.ThreadSummary.{ThreadSummary}

-- ---- its messages

-- those of the messages that are of the thread
abbrev pub in_thread : Base → ℕ → List (List ℕ) → List (List ℕ)
in_thread index name ids = filter (λ id. is_thread (Some name) (thread_name (rows_of index) index.entries id)) ids

-- its live messages, by their numbers
abbrev pub members_of : Base → ℕ → List (List ℕ)
members_of index name = in_thread index name (live_ids index.files index.entries)

-- those of the messages that are not among these
abbrev pub others_of : List (List ℕ) → List (List ℕ) → List (List ℕ)
others_of these ids = filter (λ id. not (has_text these id)) ids

-- ---- texts as they are shown

-- a control character is shown as a space
abbrev pub shown_byte : ℕ → ℕ
shown_byte byte = if nat_lt byte 32 || byte == 127 then 32 else byte

abbrev pub shown : List ℕ → List ℕ
shown text = map shown_byte text

-- the day of a date, as YYYY-MM-DD; a date that no mail has, which is before the year 1 or after 9999, as the nearest day
abbrev pub in_range : ℤ → ℤ
in_range date = if int_lt date min_date then min_date else if int_lt last_shown_second date then last_shown_second else date

abbrev pub shown_day : ℤ → List ℕ
shown_day date = date_text (date_of (day_of (in_range date)))

-- ---- authors

-- a text is not empty
abbrev pub is_some_text : List ℕ → Bool
is_some_text text = not (length text == 0)

-- whose a mailbox is: its name, or its address where that is empty
abbrev pub mailbox_author : Mailbox → List ℕ
mailbox_author mailbox = if length mailbox.name == 0 then mailbox.address else mailbox.name

-- after the first one
abbrev pub first_author : List Mailbox → List ℕ
first_author [] = []
first_author (mailbox ∷ more) = mailbox_author mailbox

-- who wrote a message, by its lead file
abbrev pub lead_author : List (List ℕ × Facts) → List ℕ
lead_author [] = []
lead_author (lead ∷ others) = first_author lead.1.from

abbrev pub author_of : Base → List ℕ → List ℕ
author_of index id = lead_author (files_of index id)

-- the authors of messages, by date, each once; who has no name and no address is left out
abbrev pub authors_of : Base → List (List ℕ) → List (List ℕ)
authors_of index ids = each_once same_text (filter is_some_text (map (author_of index) (by_rank (message_date index) ids)))

-- names with commas between them, and others after a bar
abbrev pub with_others : List (List ℕ) → List (List ℕ) → List ℕ
with_others authors [] = joined (codes ", ") authors
with_others authors (first ∷ more) = joined (codes ", ") authors ++ (codes "| " ++ joined (codes ", ") (first ∷ more))

-- the authors of messages, and of others that are left
abbrev pub authors_text : Base → List (List ℕ) → List (List ℕ) → List ℕ
authors_text index matched others =
    shown (with_others (authors_of index matched) (others_of (authors_of index matched) (authors_of index others)))

-- ---- the subject

-- the text is `Re:`, in any case, after white space, and more
abbrev pub is_reply : List ℕ → Bool
is_reply subject = same_ignoring_case (take 3 (trimmed_start subject)) (codes "re:")

-- what comes after it and the white space after it
abbrev pub after_reply : List ℕ → List ℕ
after_reply subject = trimmed_start (drop 3 (trimmed_start subject))

-- the subject without the first such marks, n at most
unfoldable pub without_replies : ℕ → List ℕ → List ℕ
without_replies zero subject = subject
without_replies (suc n) subject = if is_reply subject then without_replies n (after_reply subject) else subject

-- without all that are at its front
abbrev pub bare_subject : List ℕ → List ℕ
bare_subject subject = without_replies (length subject) subject

-- that of the lead file
abbrev pub lead_subject : List (List ℕ × Facts) → List ℕ
lead_subject [] = []
lead_subject (lead ∷ others) = lead.1.subject

abbrev pub subject_of : Base → List ℕ → List ℕ
subject_of index id = shown (bare_subject (lead_subject (files_of index id)))

-- ---- the summary

-- of the first of messages
abbrev pub first_date : Base → List (List ℕ) → ℤ
first_date index [] = pos 0
first_date index (id ∷ more) = message_date index id

-- and its subject, as it is shown
abbrev pub first_subject : Base → List (List ℕ) → List ℕ
first_subject index [] = []
first_subject index (id ∷ more) = subject_of index id

-- of a thread, by its messages that match, in order, and its live ones
abbrev pub summary_by : Base → ℕ → List (List ℕ) → List (List ℕ) → ThreadSummary
summary_by index name matched members = record {
  thread = name;
  date = first_date index matched;
  matched = length matched;
  total = length members;
  files = length (files_of_all index members);
  authors = authors_text index matched (others_of matched members);
  subject = first_subject index matched;
  tags = tags_of_all index members;
}

-- of a thread that a search finds, by the messages that it finds, in its order
abbrev pub summary_of : Base → List (List ℕ) → ℕ → ThreadSummary
summary_of index ids name = summary_by index name (in_thread index name ids) (members_of index name)

-- ---- as a line

-- the files, where there are more than messages
abbrev pub files_told : ThreadSummary → List ℕ
files_told summary = if nat_lt summary.total summary.files then codes "(" ++ (decimal summary.files ++ codes ")") else []

-- the name, and what comes before a date that is right in 12 places
abbrev pub name_told : ThreadSummary → List ℕ
name_told summary = codes "thread:" ++ (thread_digits summary.thread ++ codes "   ")

-- the name and the date
abbrev pub thread_told : ThreadSummary → List ℕ
thread_told summary = name_told summary ++ shown_day summary.date

-- how many messages match, how many there are, and how many files where there are more
abbrev pub counts_told : ThreadSummary → List ℕ
counts_told summary = codes " [" ++ (decimal summary.matched ++ (codes "/" ++ (decimal summary.total ++ (files_told summary ++ codes "] "))))

-- who wrote, the subject, and the tags
abbrev pub mail_told : ThreadSummary → List ℕ
mail_told summary = summary.authors ++ (codes "; " ++ (summary.subject ++ (codes " (" ++ (joined (codes " ") summary.tags ++ codes ")\n"))))

abbrev pub summary_line : ThreadSummary → List ℕ
summary_line summary = thread_told summary ++ (counts_told summary ++ mail_told summary)

-- the lines of the threads of messages in order; the offset and the limit count threads
abbrev pub summary_lines : SearchAsk → Base → List (List ℕ) → List ℕ
summary_lines ask index ids = flat_map summary_line (map (summary_of index ids) (part_asked ask (threads_of index ids)))
