-- The texts of replies and refusals, and how a log is printed. Cited by `header`, `print`, `nm_history` and others.
use Rattle.std.specs.Prelude.{ℕ, Bool, true, false, List, [], ◌++◌, length, codes, if◌then◌else◌}
use Rattle.std.specs.Fmt.{decimal}
use Rattle.std.specs.List.{flat_map}
use Rattle.nm_base.specs.declared.limit.Limit.{Limit}
use Rattle.nm_base.specs.declared.limit.Limit.TheVariants as limits
use Rattle.nm_base.specs.declared.refusals.UsageKind.{UsageKind}
use Rattle.nm_base.specs.declared.refusals.UsageKind.TheVariants as kinds
use Rattle.nm_model_answer.specs.NewText.{number_after}
use Rattle.nm_query.specs.declared.query_error.QueryKind.{QueryKind}
use Rattle.nm_query.specs.declared.query_error.QueryKind.TheVariants as query_kinds
use Rattle.nm_tags.specs.declared.line_error.LineKind.{LineKind}
use Rattle.nm_tags.specs.declared.line_error.LineKind.TheVariants as line_kinds
use Rattle.nm_log.specs.declared.outcome.Outcome.{Outcome}
use Rattle.nm_log.specs.declared.outcome.Outcome.TheVariants as outcomes
use Rattle.nm_log.specs.declared.log.LineLog.{LineLog}

-- the kind of a usage fault, in lower case
abbrev pub kind_name : UsageKind → List ℕ
kind_name kinds.Command = codes "command"
kind_name kinds.Option = codes "option"
kind_name kinds.Value = codes "value"
kind_name kinds.Repeat = codes "repeat"
kind_name kinds.Missing = codes "missing"
kind_name kinds.Extra = codes "extra"
kind_name kinds.Tag = codes "tag"
kind_name kinds.Clash = codes "clash"
kind_name kinds.Lane = codes "lane"
kind_name kinds.Input = codes "input"
kind_name kinds.Utf8 = codes "utf8"

abbrev pub usage_line : UsageKind → List ℕ → List ℕ
usage_line kind word = codes "notmuch: usage: " ++ (kind_name kind ++ (codes ": " ++ (word ++ codes "\n")))

-- what is wrong with a query, in lower case
abbrev pub query_kind_name : QueryKind → List ℕ
query_kind_name query_kinds.Quote = codes "quote"
query_kind_name query_kinds.Paren = codes "paren"
query_kind_name query_kinds.Operand = codes "operand"
query_kind_name query_kinds.Value = codes "value"
query_kind_name query_kinds.NotHere = codes "nothere"

-- what is wrong with a query, and the byte of its text at fault
abbrev pub query_line : QueryKind → ℕ → List ℕ
query_line kind at = codes "notmuch: query: " ++ (query_kind_name kind ++ (codes " at " ++ (decimal at ++ codes "\n")))

-- the byte at which a date of a query should begin
abbrev pub date_line : ℕ → List ℕ
date_line at = codes "notmuch: date: at " ++ (decimal at ++ codes "\n")

-- what is wrong with a line of an input, in lower case
abbrev pub line_kind_name : LineKind → List ℕ
line_kind_name line_kinds.Utf8 = codes "utf8"
line_kind_name line_kinds.Tag = codes "tag"
line_kind_name line_kinds.Query = codes "query"
line_kind_name line_kinds.Form = codes "form"

-- the line of the input at fault, counted from 1, and what is wrong with it
abbrev pub bad_line : ℕ → LineKind → List ℕ
bad_line line kind = codes "notmuch: line " ++ (decimal line ++ (codes ": " ++ (line_kind_name kind ++ codes "\n")))

-- how many messages match where one is wanted
abbrev pub not_one_line : ℕ → List ℕ
not_one_line found = codes "notmuch: " ++ (decimal found ++ codes " messages match\n")

-- the path of a file that is missing
abbrev pub gone_line : List ℕ → List ℕ
gone_line path = codes "notmuch: gone: " ++ (path ++ codes "\n")

-- the bound that was passed, in lower case
abbrev pub limit_name : Limit → List ℕ
limit_name limits.Files = codes "files"
limit_name limits.Dirs = codes "dirs"
limit_name limits.Depth = codes "depth"
limit_name limits.IndexBytes = codes "indexbytes"
limit_name limits.CommitBytes = codes "commitbytes"
limit_name limits.InputBytes = codes "inputbytes"
limit_name limits.Lines = codes "lines"
limit_name limits.Commits = codes "commits"
limit_name limits.QueryBytes = codes "querybytes"
limit_name limits.QueryDepth = codes "querydepth"
limit_name limits.ShowBytes = codes "showbytes"
limit_name limits.Numbers = codes "numbers"

abbrev pub limit_line : Limit → List ℕ
limit_line limit = codes "notmuch: limit: " ++ (limit_name limit ++ codes "\n")

-- the line of a refusal; an Ok has none
abbrev pub refusal_line : Outcome → List ℕ
refusal_line outcomes.Ok = []
refusal_line (outcomes.Usage word kind) = usage_line kind word
refusal_line (outcomes.BadQuery at kind) = query_line kind at
refusal_line (outcomes.BadDate at) = date_line at
refusal_line (outcomes.BadLine line kind) = bad_line line kind
refusal_line (outcomes.NotOne found) = not_one_line found
refusal_line (outcomes.Gone path) = gone_line path
refusal_line outcomes.MailFault = codes "notmuch: mail fault\n"
refusal_line outcomes.DiskFault = codes "notmuch: disk fault\n"
refusal_line (outcomes.Closed fault) = codes "notmuch: closed by a disk fault\n"
refusal_line (outcomes.Limit limit) = limit_line limit
refusal_line outcomes.NoMemory = codes "notmuch: no memory\n"

-- the status of a line
abbrev pub status_of : Outcome → ℕ
status_of outcomes.Ok = 0
status_of (outcomes.Usage word kind) = 2
status_of (outcomes.BadQuery at kind) = 1
status_of (outcomes.BadDate at) = 1
status_of (outcomes.BadLine line kind) = 1
status_of (outcomes.NotOne found) = 1
status_of (outcomes.Gone path) = 1
status_of outcomes.MailFault = 3
status_of outcomes.DiskFault = 4
status_of (outcomes.Closed fault) = 4
status_of (outcomes.Limit limit) = 9
status_of outcomes.NoMemory = 7

-- the line went well
abbrev pub is_well : Outcome → Bool
is_well outcomes.Ok = true
is_well (outcomes.Usage word kind) = false
is_well (outcomes.BadQuery at kind) = false
is_well (outcomes.BadDate at) = false
is_well (outcomes.BadLine line kind) = false
is_well (outcomes.NotOne found) = false
is_well (outcomes.Gone path) = false
is_well outcomes.MailFault = false
is_well outcomes.DiskFault = false
is_well (outcomes.Closed fault) = false
is_well (outcomes.Limit limit) = false
is_well outcomes.NoMemory = false

-- the lane and the number of the line, the revision, the status, and the length of the reply
abbrev pub header_of : LineLog → List ℕ
header_of log =
    number_after (codes "@") log.lane
    ++ number_after (codes " ") log.line
    ++ number_after (codes " ") log.revision
    ++ number_after (codes " ") log.status
    ++ number_after (codes " ") (length log.text)
    ++ codes "\n"

-- a reply after its header
abbrev pub printed_line : LineLog → List ℕ
printed_line log = header_of log ++ log.text

-- all replies, in the order of the log
abbrev pub printed : List LineLog → List ℕ
printed lines = flat_map printed_line lines

-- a reply without a header; a refusal is no reply
abbrev pub reply_of : LineLog → List ℕ
reply_of log = if is_well log.outcome then log.text else []

-- the replies alone, as a single command prints its one
abbrev pub replies_alone : List LineLog → List ℕ
replies_alone lines = flat_map reply_of lines
