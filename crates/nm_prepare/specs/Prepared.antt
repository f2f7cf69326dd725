-- What a line asks for, ready to be answered. Cited by `prepared`, `nm_line`, `nm_phase`, `nm_session`, `nm_call` and `nm_top`.
use Rattle.std.specs.Prelude.{◌≡◌, ℕ, true, false, List, Option, None, Some, Result, Ok, Err}
use Rattle.nm_model_answer.specs.BatchLines.{queries_in}
use Rattle.nm_model_answer.specs.DumpLines.{read_dump}
use Rattle.nm_model_answer.specs.Tag.{taggings_of}
use Rattle.nm_model_answer.specs.declared.request.Request.{Request}
use Rattle.nm_model_answer.specs.declared.request.Request.TheVariants as requests
use Rattle.nm_model_answer.specs.declared.tag_change.TagChange.{TagChange}
use Rattle.nm_base.specs.declared.asks.TagAsk.{TagAsk}
use Rattle.nm_history.specs.LineAnswers.{refused_lane_read}
use Rattle.nm_history.specs.Requests.{refused_text_of}
use Rattle.nm_lanes.specs.Lines.{in_lane}
use Rattle.nm_prepare.specs.declared.prepared.AskError.{AskError}
use Rattle.nm_prepare.specs.declared.prepared.AskError.TheVariants as errors
use Rattle.nm_prepare.specs.declared.prepared.Prepared.{Prepared}
use Rattle.nm_prepare.specs.declared.prepared.Prepared.TheVariants as ready
use Rattle.nm_prepare.specs.declared.prepared.Reading.{Reading}
use Rattle.nm_prepare.specs.declared.prepared.Reading.TheVariants as readings
use Rattle.nm_log.specs.ParsedLine.{parse_line}
use Rattle.nm_log.specs.declared.line_parser.ParsedLine.{ParsedLine}
use Rattle.nm_log.specs.declared.line_parser.ParsedLine.TheVariants as asked
use Rattle.nm_log.specs.declared.outcome.Outcome.{Outcome}
use Rattle.nm_log.specs.declared.outcome.Outcome.TheVariants as outcomes
use Rattle.nm_query.specs.Answers.{answer_of}
use Rattle.nm_query.specs.declared.query_error.QueryError.{QueryError}
use Rattle.nm_query.specs.declared.query_error.QueryError.TheVariants as queries
use Rattle.nm_tags.specs.declared.line_error.LineError.{LineError}
use Rattle.nm_tags.specs.declared.line_error.LineError.TheVariants as lines

-- what is asked that the index alone answers
abbrev pub reading_request : Reading → Request
reading_request (readings.Count ask query) = requests.Count ask
reading_request (readings.Counts ask texts) = requests.Count ask
reading_request (readings.Search ask query) = requests.Search ask
reading_request (readings.Dump ask query) = requests.Dump ask

-- what is asked
abbrev pub request_of : Prepared → Request
request_of ready.New = requests.New
request_of (ready.Read reading) = reading_request reading
request_of (ready.Show ask query) = requests.Show ask
request_of (ready.Tag ask wanted) = requests.Tag ask
request_of (ready.Restore ask wanted) = requests.Restore ask

-- its query has this tree, or the lines of its input are these queries
abbrev pub IsReadingOf : List ℕ → Reading → Type 0
IsReadingOf input (readings.Count ask query) = (ask.batch ≡ false) × (answer_of ask.query ≡ Ok query)
IsReadingOf input (readings.Counts ask texts) = (ask.batch ≡ true) × (queries_in input ≡ Ok texts)
IsReadingOf input (readings.Search ask query) = answer_of ask.query ≡ Ok query
IsReadingOf input (readings.Dump ask query) = answer_of ask.query ≡ Ok query

-- its query has this tree, or the lines of its input are these
abbrev pub IsMadeOf : List ℕ → Prepared → Type 0
IsMadeOf input ready.New = Unit {0}
IsMadeOf input (ready.Read reading) = IsReadingOf input reading
IsMadeOf input (ready.Show ask query) = answer_of ask.query ≡ Ok query
IsMadeOf input (ready.Tag ask wanted) = wanted ≡ taggings_of ask input
IsMadeOf input (ready.Restore ask wanted) = read_dump input ask.form ≡ Ok wanted

-- The line asks for this, and nothing of its words, its query and its input is refused.
pub record IsPrepared (line : ParsedLine) (input : List ℕ) (prepared : Prepared) : Type 0 where
  pub asks : line ≡ asked.Request (request_of prepared)
  pub sound : refused_lane_read line input ≡ None
  pub made : IsMadeOf input prepared

-- it is refused so, or memory ran out
abbrev pub IsFault : Option Outcome → AskError → Type 0
IsFault fault (errors.Refused outcome) = fault ≡ Some outcome
IsFault fault errors.NoMemory = Unit {0}

-- the line is prepared so, or it is refused for its words, its query or a line of its input
abbrev pub IsPreparedAs : ParsedLine → List ℕ → Result Prepared AskError → Type 0
IsPreparedAs line input (Ok prepared) = IsPrepared line input prepared
IsPreparedAs line input (Err error) = IsFault (refused_lane_read line input) error

-- the lines of a `tag`, none of which is refused
abbrev pub AreTagLines : TagAsk → List ℕ → List TagChange → Type 0
AreTagLines ask input wanted = (refused_text_of (requests.Tag ask) input ≡ None) × (wanted ≡ taggings_of ask input)

-- a query that has no tree
abbrev pub query_error : QueryError → AskError
query_error (queries.BadQuery at kind) = errors.Refused (outcomes.BadQuery at kind)
query_error (queries.BadDate at) = errors.Refused (outcomes.BadDate at)
query_error (queries.Limit limit) = errors.Refused (outcomes.Limit limit)
query_error queries.NoMemory = errors.NoMemory

-- a line that is not of its form
abbrev pub line_error : LineError → AskError
line_error (lines.BadLine line kind) = errors.Refused (outcomes.BadLine line kind)
line_error lines.NoMemory = errors.NoMemory

-- the words of a single command, over the input that it reads, ask for this
abbrev pub AsksAlone : List (List ℕ) → List ℕ → Prepared → Type 0
AsksAlone words input prepared = IsPrepared (parse_line (in_lane 1 0 words input)) input prepared
