-- What a line of a script or a single command asks for, or the first fault of its words: a flaw that needs no command comes first, then the
-- command, which not every lane may run, then the words of the command.
-- Cited by `line_parser`, `nm_session`, `nm_top` and others.
use Rattle.std.specs.Prelude.{ℕ, Bool, true, false, ◌==◌, ◌||◌, List, [], ◌∷◌, length, Option, None, Some, Result, Ok, Err, codes, if◌then◌else◌}
use Rattle.nm_base.specs.declared.refusals.UsageKind.{UsageKind}
use Rattle.nm_base.specs.declared.refusals.UsageKind.TheVariants as kinds
use Rattle.nm_model_answer.specs.declared.request.Request as requests
use Rattle.nm_model_answer.specs.declared.request.Request.TheVariants as asks_for
use Rattle.nm_command.specs.Requests.{request_of}
use Rattle.nm_command.specs.Table.{commands, meaning_of}
use Rattle.nm_command.specs.declared.command_error.CommandError.{CommandError}
use Rattle.nm_command.specs.declared.command_error.CommandError.TheVariants as errors
use Rattle.nm_command.specs.declared.request.Request as asks
use Rattle.nm_command.specs.declared.request.Request.TheVariants as asked
use Rattle.nm_command.specs.declared.table.CommandName.{CommandName}
use Rattle.nm_command.specs.declared.table.CommandName.TheVariants as names
use Rattle.nm_lanes.specs.declared.script.ScriptLine.{ScriptLine}
use Rattle.nm_log.specs.Kind.{kind_of, may_run_anywhere, reads_lines, source_of}
use Rattle.nm_log.specs.declared.line_parser.ParsedLine.{ParsedLine}
use Rattle.nm_log.specs.declared.line_parser.ParsedLine.TheVariants.{Request, Usage}

abbrev pub refused : UsageKind → List ℕ → ParsedLine
refused kind word = Usage word kind

-- what is wrong with a command in lane 0, whatever follows it: a session begins no other, and no drill
abbrev pub fault_in_first : CommandName → Option UsageKind
fault_in_first names.New = None
fault_in_first names.Search = None
fault_in_first names.Count = None
fault_in_first names.Show = None
fault_in_first names.Dump = None
fault_in_first names.Tag = None
fault_in_first names.Restore = None
fault_in_first names.Drill = Some kinds.Lane
fault_in_first names.Session = Some kinds.Lane

-- the other lanes search, count and dump
abbrev pub fault_in_others : CommandName → Option UsageKind
fault_in_others names.New = Some kinds.Lane
fault_in_others names.Search = None
fault_in_others names.Count = None
fault_in_others names.Show = Some kinds.Lane
fault_in_others names.Dump = None
fault_in_others names.Tag = Some kinds.Lane
fault_in_others names.Restore = Some kinds.Lane
fault_in_others names.Drill = Some kinds.Lane
fault_in_others names.Session = Some kinds.Lane

-- in lane 0, or in another
abbrev pub command_fault : Bool → CommandName → Option UsageKind
command_fault true command = fault_in_first command
command_fault false command = fault_in_others command

-- a word that names no command is at fault as the command of any words is
abbrev pub fault_of_named : Bool → Option CommandName → Option UsageKind
fault_of_named first None = None
fault_of_named first (Some command) = command_fault first command

-- what is wrong with the first word of a command in a lane, beside what is wrong with it anywhere
abbrev pub name_fault : ℕ → List ℕ → Option UsageKind
name_fault lane name = fault_of_named (lane == 0) (meaning_of name commands)

-- what words ask for that begin with this name, where a session answers it
abbrev pub line_request : List ℕ → asks.Request → ParsedLine
line_request name asked.New = Request asks_for.New
line_request name (asked.Search ask) = Request (asks_for.Search ask)
line_request name (asked.Count ask) = Request (asks_for.Count ask)
line_request name (asked.Show ask) = Request (asks_for.Show ask)
line_request name (asked.Dump ask) = Request (asks_for.Dump ask)
line_request name (asked.Tag ask) = Request (asks_for.Tag ask)
line_request name (asked.Restore ask) = Request (asks_for.Restore ask)
line_request name (asked.Drill count) = refused kinds.Lane name
line_request name asked.Session = refused kinds.Lane name

-- or the word of them that is at fault; running out of memory is no fault of words
abbrev pub parse_answer : List ℕ → Result asks.Request CommandError → ParsedLine
parse_answer name (Ok request) = line_request name request
parse_answer name (Err (errors.Usage word kind)) = refused kind word
parse_answer name (Err errors.NoMemory) = refused kinds.Command name

-- the words of a command, in this lane
abbrev pub parse_command : ℕ → List (List ℕ) → ParsedLine
parse_command lane [] = refused kinds.Command []
parse_command lane (name ∷ words) =
    elim (name_fault lane name) [ Some kind ↦ refused kind name | None ↦ parse_answer name (request_of (name ∷ words)) ]

-- the words of a single command are those of a line of lane 0
abbrev pub parse_single : List (List ℕ) → ParsedLine
parse_single words = parse_command 0 words

-- the word at fault in a line with a flaw, where it has one
abbrev pub first_word : List (List ℕ) → List ℕ
first_word [] = []
first_word (word ∷ more) = word

-- a flaw is reported, and where there is none the words are read
abbrev pub asked_unless : Option UsageKind → ℕ → List (List ℕ) → ParsedLine
asked_unless (Some kind) lane words = refused kind (first_word words)
asked_unless None lane words = parse_command lane words

-- what the words of a line ask for
abbrev pub asked_by : ScriptLine → ParsedLine
asked_by line = asked_unless line.flaw line.lane line.words

-- the request reads lines from its input
abbrev pub reads_input : requests.Request → Bool
reads_input request = reads_lines (source_of request)

-- the request is one of every lane
abbrev pub is_of_every_lane : requests.Request → Bool
is_of_every_lane request = may_run_anywhere (kind_of request)

-- a command that reads no input has none
abbrev pub fed : List ℕ → ParsedLine → ParsedLine
fed input (Request request) = if reads_input request || length input == 0 then Request request else refused kinds.Input (codes "|")
fed input (Usage word kind) = Usage word kind

-- what a line asks for
abbrev pub parse_line : ScriptLine → ParsedLine
parse_line line = fed line.input (asked_by line)
