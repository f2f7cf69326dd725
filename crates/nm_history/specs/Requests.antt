-- What a line asks for, what refuses it before any device is touched, and what refuses a show for what it found and read.
-- Cited by `laws`, `nm_session` and `nm_top`.
use Rattle.std.specs.Prelude.{ℕ, ℤ, ◌-◌, ◌||◌, List, [], ◌∷◌, length, Bool, true, false, Option, None, Some, Result, Ok, Err, if◌then◌else◌}
use Rattle.nm_model_answer.specs.BatchLines.{queries_in, taggings_in}
use Rattle.nm_model_answer.specs.DumpLines.{read_dump}
use Rattle.nm_model_answer.specs.Show.{gone_path, is_not_one, lead_paths, shown_ids}
use Rattle.nm_model_answer.specs.declared.request.Request.{Request}
use Rattle.nm_base.specs.declared.asks.ShowAsk.{ShowAsk}
use Rattle.nm_base.specs.declared.limit.Limit.TheVariants.{ShowBytes}
use Rattle.nm_model_index.specs.declared.base.Base.{Base}
use Rattle.nm_log.specs.Kind.{DumpLines, Kind, NoQuery, OwnQuery, QueryLines, ReadsIndex, SetsTags, ShowsFiles, Source, TaggingLines, TakesMail, kind_of, source_of}
use Rattle.nm_log.specs.declared.line_parser.ParsedLine.{ParsedLine}
use Rattle.nm_log.specs.declared.line_parser.ParsedLine.TheVariants as asked
use Rattle.nm_log.specs.declared.outcome.Outcome.{Outcome}
use Rattle.nm_log.specs.declared.outcome.Outcome.TheVariants.{BadDate, BadLine, BadQuery, Closed, Gone, Limit, NoMemory, NotOne, Usage}
use Rattle.nm_maildir.specs.declared.given.Given.{Given}
use Rattle.nm_maildir.specs.declared.given.Given.TheVariants as givens
use Rattle.nm_query.specs.Answers.{answer_of}
use Rattle.nm_query.specs.declared.query.Query.{Query}
use Rattle.nm_query.specs.declared.query_error.QueryError.{QueryError}
use Rattle.nm_query.specs.declared.query_error.QueryError.TheVariants as errors
use Rattle.nm_scan.specs.Bodies.{body_len, is_over}
use Rattle.nm_tags.specs.declared.line_error.LineKind.{LineKind}

-- requests of this kind may change the index
abbrev pub writes_index : Kind → Bool
writes_index TakesMail = true
writes_index ReadsIndex = false
writes_index (ShowsFiles ask) = false
writes_index SetsTags = true

-- and so may the request
abbrev pub is_writing : Request → Bool
is_writing request = writes_index (kind_of request)

-- a line that asks for one
abbrev pub asks_to_write : ParsedLine → Bool
asks_to_write (asked.Request request) = is_writing request
asks_to_write (asked.Usage word kind) = false

-- requests of this kind may ask the mail folder
abbrev pub asks_folder : Kind → Bool
asks_folder TakesMail = true
asks_folder ReadsIndex = false
asks_folder (ShowsFiles ask) = true
asks_folder SetsTags = true

-- and so may the request
abbrev pub is_asking : Request → Bool
is_asking request = asks_folder (kind_of request)

-- a line that asks for one
abbrev pub asks_the_folder : ParsedLine → Bool
asks_the_folder (asked.Request request) = is_asking request
asks_the_folder (asked.Usage word kind) = false

-- requests of this kind set tags, and may go on after a fault of the mail folder
abbrev pub sets_tags : Kind → Bool
sets_tags TakesMail = false
sets_tags ReadsIndex = false
sets_tags (ShowsFiles ask) = false
sets_tags SetsTags = true

-- and so may the request
abbrev pub is_tagging : Request → Bool
is_tagging request = sets_tags (kind_of request)

-- a line that asks for one
abbrev pub asks_to_tag : ParsedLine → Bool
asks_to_tag (asked.Request request) = is_tagging request
asks_to_tag (asked.Usage word kind) = false

-- the query of the request's own words
abbrev pub query_in : Source → Option (List ℕ)
query_in NoQuery = None
query_in (OwnQuery text) = Some text
query_in QueryLines = None
query_in (TaggingLines clear) = None
query_in (DumpLines form) = None

-- the text of its own query, where it has one: what reads its queries from an input has none
abbrev pub own_query : Request → Option (List ℕ)
own_query request = query_in (source_of request)

-- how a line ends whose query has no tree
abbrev pub query_outcome : QueryError → Outcome
query_outcome (errors.BadQuery at kind) = BadQuery at kind
query_outcome (errors.BadDate at) = BadDate at
query_outcome (errors.Limit limit) = Limit limit
query_outcome errors.NoMemory = NoMemory

-- a text that is no query is refused
abbrev pub refused_text : Result Query QueryError → Option Outcome
refused_text answered = elim answered [ Ok query ↦ None | Err refusal ↦ Some (query_outcome refusal) ]

-- a request is refused whose own query is none
abbrev pub refused_query : Option (List ℕ) → Option Outcome
refused_query None = None
refused_query (Some text) = refused_text (answer_of text)

-- the first line of an input that is not of its form, where there is one: its number and what is wrong
abbrev pub bad_line_in : {T : Type 0} → Result T (ℕ × LineKind) → Option (ℕ × LineKind)
bad_line_in read = elim read [ Ok lines ↦ None | Err fault ↦ Some fault ]

-- that of lines of this form
abbrev pub bad_line_of : Source → List ℕ → Option (ℕ × LineKind)
bad_line_of NoQuery input = None
bad_line_of (OwnQuery text) input = None
bad_line_of QueryLines input = bad_line_in (queries_in input)
bad_line_of (TaggingLines clear) input = bad_line_in (taggings_in clear input)
bad_line_of (DumpLines form) input = bad_line_in (read_dump input form)

-- that of the lines that a request reads
abbrev pub first_bad_line : Request → List ℕ → Option (ℕ × LineKind)
first_bad_line request input = bad_line_of (source_of request) input

-- a request is refused that reads lines of which one is not of its form
abbrev pub refused_line : Option (ℕ × LineKind) → Option Outcome
refused_line fault = elim fault [ None ↦ None | Some bad ↦ Some (BadLine bad.0 bad.1) ]

-- after a fault of the disk what would change the index is refused
abbrev pub refused_closed : Option ℕ → Bool → Option Outcome
refused_closed None writing = None
refused_closed (Some fault) writing = if writing then Some (Closed fault) else None

-- the first refusal, if there is one
abbrev pub first_refusal : Option Outcome → Option Outcome → Option Outcome
first_refusal None other = other
first_refusal (Some outcome) other = Some outcome

-- what a request is refused for before a device is touched: a line of its input, or its query
abbrev pub refused_text_of : Request → List ℕ → Option Outcome
refused_text_of request input = first_refusal (refused_line (first_bad_line request input)) (refused_query (own_query request))

-- the same of a line
abbrev pub refused_text_in : ParsedLine → List ℕ → Option Outcome
refused_text_in (asked.Usage word kind) input = None
refused_text_in (asked.Request request) input = refused_text_of request input

-- How a line ends that asks no device: its words are outside the grammar, or else a line of its input is of no form, or else its query
-- has no tree, or else the index is closed to it.
abbrev pub refused_unasked : ParsedLine → List ℕ → Option ℕ → Option Outcome
refused_unasked (asked.Usage word kind) input closed = Some (Usage word kind)
refused_unasked (asked.Request request) input closed = first_refusal (refused_text_of request input) (refused_closed closed (is_writing request))

-- ---- what a show is refused for

-- the messages that a show finds, the oldest first; a text that is no query finds none
abbrev pub found_to_show : ShowAsk → Base → ℤ → List (List ℕ)
found_to_show ask index moment = elim (answer_of ask.query) [ Ok query ↦ shown_ids ask index moment query | Err refusal ↦ [] ]

-- the paths that it reads
abbrev pub paths_to_show : ShowAsk → Base → ℤ → List (List ℕ)
paths_to_show ask index moment = lead_paths index (found_to_show ask index moment)

-- raw form shows one message
abbrev pub refused_number : ShowAsk → List (List ℕ) → Option Outcome
refused_number ask ids = if is_not_one ask ids then Some (NotOne (length ids)) else None

-- a read, one after the other, found a file that has more bytes than are left, where fewer are left than a file may have
abbrev pub passes_bytes : ℕ → List Given → Bool
passes_bytes left [] = false
passes_bytes left (givens.Listed paths ∷ more) = passes_bytes left more
passes_bytes left (givens.Read path answer ∷ more) = is_over left answer || passes_bytes (left - body_len answer) more
passes_bytes left (givens.Renamed from to answer ∷ more) = passes_bytes left more

abbrev pub refused_bytes : ℕ → List Given → Option Outcome
refused_bytes left given = if passes_bytes left given then Some (Limit ShowBytes) else None

-- the file that raw form asks for is not there any more, or too long
abbrev pub refused_gone : Option (List ℕ) → Option Outcome
refused_gone None = None
refused_gone (Some path) = Some (Gone path)

-- what a show is refused for, by what it finds and by what the mail folder gave
abbrev pub refused_show : ShowAsk → Base → ℤ → ℕ → List Given → Option Outcome
refused_show ask index moment left given =
    first_refusal (refused_number ask (found_to_show ask index moment)) (first_refusal (refused_bytes left given) (refused_gone (gone_path ask given)))

-- what a request of this kind is refused for by what it found and read: a show alone is
abbrev pub refused_found : Kind → Base → ℤ → ℕ → List Given → Option Outcome
refused_found TakesMail index moment left given = None
refused_found ReadsIndex index moment left given = None
refused_found (ShowsFiles ask) index moment left given = refused_show ask index moment left given
refused_found SetsTags index moment left given = None

-- How a line ends for what it found and read, where n bytes were left to show.
abbrev pub refused_reading : ParsedLine → Base → ℤ → ℕ → List Given → Option Outcome
refused_reading (asked.Usage word kind) index moment left given = None
refused_reading (asked.Request request) index moment left given = refused_found (kind_of request) index moment left given
