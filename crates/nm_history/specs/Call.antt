-- One call of the program: what it is given, what is observed of the devices when it begins and when it has returned, and what it answers.
-- Cited by `lane_zero_laws`, `nm_session` and `nm_top`.
use Rattle.std.specs.Prelude.{ℕ, ◌+◌, ◌==◌, Bool, true, false, List, [], ◌∷◌, ◌++◌, codes, filter, map, take, Option, None, Some, Result, Ok, Err}
use Rattle.std.specs.List.{flat_map, range_with_len}
use Rattle.nm_base.specs.Order.{same_text}
use Rattle.nm_command.specs.Requests.{request_of}
use Rattle.nm_command.specs.declared.command_error.CommandError.{CommandError}
use Rattle.nm_command.specs.declared.command_error.CommandError.TheVariants as faults
use Rattle.nm_command.specs.declared.request.Request as asks
use Rattle.nm_disk.specs.Observed.{ObservedDisk}
use Rattle.nm_io.specs.Observed.{ObservedSink, ObservedStream}
use Rattle.nm_lanes.specs.Lines.{in_lane}
use Rattle.nm_lanes.specs.Script.{script_of}
use Rattle.nm_lanes.specs.declared.script.Phase.{Phase}
use Rattle.nm_lanes.specs.declared.script.ScriptLine.{ScriptLine}
use Rattle.nm_log.specs.ParsedLine.{parse_single, reads_input}
use Rattle.nm_log.specs.declared.line_parser.ParsedLine.{ParsedLine}
use Rattle.nm_log.specs.declared.line_parser.ParsedLine.TheVariants as asked
use Rattle.nm_log.specs.declared.log.Done.{Done}
use Rattle.nm_log.specs.declared.log.Setting.{Setting}
use Rattle.nm_log.specs.declared.outcome.Outcome.{Outcome}
use Rattle.nm_log.specs.declared.outcome.Outcome.TheVariants as outcomes
use Rattle.nm_log.specs.declared.refusal.Refusal.{Refusal}
use Rattle.nm_maildir.specs.Observed.{ObservedMail}
use Rattle.nm_history.specs.Requests.{first_bad_line, own_query, refused_line, refused_query}

-- what is observed of all devices at one moment
pub record Devices : Type 0 where
  pub mail : ObservedMail
  pub disk : ObservedDisk
  pub input : ObservedStream
  pub out : ObservedSink
  pub err : ObservedSink

-- the devices, by what is observed of each
abbrev pub devices : ObservedMail → ObservedDisk → ObservedStream → ObservedSink → ObservedSink → Devices
devices folder held source sink errors = record { mail = folder; disk = held; input = source; out = sink; err = errors }

-- A call: its words and its setting, the devices at its entry and at its return, and what it answers.
pub record Call : Type 0 where
  pub words : List (List ℕ)
  pub setting : Setting
  pub entry : Devices
  pub after : Devices
  pub done : Done

-- the call of these words
abbrev pub call_of : List (List ℕ) → Setting → Devices → Devices → Done → Call
call_of given told old new ended = record { words = given; setting = told; entry = old; after = new; done = ended }

-- How a call ends: it is refused as a whole; its one line, a single command, ends so before the mail folder and the disk are asked; or it
-- runs its lines from an opening index.
pub data Ending : Type 0 where
  Refused : Refusal → Ending
  Unasked : Outcome → Ending
  Ran : Ending

-- a word is the first of these
abbrev pub is_first : List ℕ → List (List ℕ) → Bool
is_first word [] = false
is_first word (first ∷ more) = same_text first word

-- the call runs a script: its first word is `session`; any other words are a single command
abbrev pub is_session : List (List ℕ) → Bool
is_session words = is_first (codes "session") words

-- why words that begin with `session` are refused
abbrev pub fault_of_session : Result asks.Request CommandError → Option Outcome
fault_of_session (Ok request) = None
fault_of_session (Err (faults.Usage word kind)) = Some (outcomes.Usage word kind)
fault_of_session (Err faults.NoMemory) = None

-- why a single command is refused before a device is asked: its words are outside the grammar, or its query has no tree
abbrev pub fault_of_command : ParsedLine → Option Outcome
fault_of_command (asked.Usage word kind) = Some (outcomes.Usage word kind)
fault_of_command (asked.Request request) = refused_query (own_query request)

-- why words are refused, where they begin a session and where they don't
abbrev pub fault_by : Bool → List (List ℕ) → Option Outcome
fault_by true words = fault_of_session (request_of words)
fault_by false words = fault_of_command (parse_single words)

-- why a call is refused for its words
abbrev pub call_fault : List (List ℕ) → Option Outcome
call_fault words = fault_by (is_session words) words

-- the command reads lines from its input
abbrev pub command_reads : ParsedLine → Bool
command_reads (asked.Usage word kind) = false
command_reads (asked.Request request) = reads_input request

-- the call reads its input: a session its script, and a single command the lines that it asks for
abbrev pub reads_by : Bool → List (List ℕ) → Bool
reads_by true words = true
reads_by false words = command_reads (parse_single words)

abbrev pub call_reads : List (List ℕ) → Bool
call_reads words = reads_by (is_session words) words

-- why the lines are refused that a command reads
abbrev pub fault_of_input : ParsedLine → List ℕ → Option Outcome
fault_of_input (asked.Usage word kind) input = None
fault_of_input (asked.Request request) input = refused_line (first_bad_line request input)

-- a script is not refused for its lines: each of them has its own outcome
abbrev pub input_fault_by : Bool → List (List ℕ) → List ℕ → Option Outcome
input_fault_by true words input = None
input_fault_by false words input = fault_of_input (parse_single words) input

-- why a call is refused for its input
abbrev pub input_fault : List (List ℕ) → List ℕ → Option Outcome
input_fault words input = input_fault_by (is_session words) words input

-- ---- the lines of a call, in the order of its log

-- lanes 0 to 15
abbrev pub lanes : List ℕ
lanes = range_with_len 0 16

-- the lines of a lane in a phase, in their order
abbrev pub lines_of_lane : List ScriptLine → ℕ → List ScriptLine
lines_of_lane lines lane = filter (λ line. line.lane == lane) lines

-- the lines of a phase, one lane after the other
abbrev pub lines_by_lane : Phase → List ScriptLine
lines_by_lane phase = flat_map (lines_of_lane phase.lines) lanes

-- a line, with the number of its phase
abbrev pub PlacedLine : Type 0
PlacedLine = ℕ × ScriptLine

abbrev pub placed_in : ℕ → ScriptLine → PlacedLine
placed_in phase line = (phase, line)

-- the lines of phases that are numbered from this one on
abbrev pub placed_from : ℕ → List Phase → List PlacedLine
placed_from number [] = []
placed_from number (phase ∷ more) = map (placed_in number) (lines_by_lane phase) ++ placed_from (number + 1) more

-- a single command is a line of lane 0, alone in its phase, with the input that it reads
abbrev pub single_phase : List (List ℕ) → List ℕ → Phase
single_phase words input = record { lines = in_lane 1 0 words input ∷ [] }

-- the phases of a script, or the one that a single command is
abbrev pub phases_by : Bool → List (List ℕ) → List ℕ → List Phase
phases_by true words input = (script_of input).phases
phases_by false words input = single_phase words input ∷ []

-- the phases that a call runs
abbrev pub call_phases : List (List ℕ) → List ℕ → List Phase
call_phases words input = phases_by (is_session words) words input

-- the lines that a call runs: those of its input, or its words as the only one
abbrev pub call_lines : List (List ℕ) → List ℕ → List PlacedLine
call_lines words input = placed_from 0 (call_phases words input)

-- the lines of the first n phases
abbrev pub lines_of_first : ℕ → List Phase → List PlacedLine
lines_of_first count phases = placed_from 0 (take count phases)

-- how many phases have ended, where n were run, and where no line was
abbrev pub phases_ended : Ending → ℕ → ℕ
phases_ended (Refused refusal) ran = 0
phases_ended (Unasked outcome) ran = 0
phases_ended Ran ran = ran
