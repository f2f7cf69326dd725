-- Scripts: the lines of an input, each ended by LF or CR LF and counted from 1, in phases that lines `---` part. Empty lines are passed over;
-- input lines belong to the command before them in their phase.
-- Cited by `script`.
use Rattle.std.specs.Prelude.{◌≡◌, ℕ, ◌<◌, List, [], ◌∷◌, ◌++◌, length, map, filter, if◌then◌else◌}
use Rattle.std.specs.List.{before_first, enumerate_from, flat_map, slice_split}
use Rattle.std.specs.Str.Lines.{lines}
use Rattle.nm_base.specs.Limits.{max_lines}
use Rattle.nm_base.specs.declared.limit.Limit.TheVariants.{Lines}
use Rattle.nm_lanes.specs.Lines.{command_line, input_line, is_command, is_input, is_separator, stray_line}
use Rattle.nm_lanes.specs.declared.script.Phase.{Phase}
use Rattle.nm_lanes.specs.declared.script.Script.{Script}
use Rattle.nm_lanes.specs.declared.script.ScriptError.{ScriptError}
use Rattle.nm_lanes.specs.declared.script.ScriptError.TheVariants as faults
use Rattle.nm_lanes.specs.declared.script.ScriptLine.{ScriptLine}

-- the lines, each with its number
abbrev pub numbered : List ℕ → List (ℕ × List ℕ)
numbered bytes = enumerate_from 1 (lines bytes)

-- what comes before the next command
abbrev pub before_command : List (ℕ × List ℕ) → List (ℕ × List ℕ)
before_command rest = before_first (λ line. is_command line.1) rest

-- the input of a command that these lines follow: what the input lines up to the next command say
abbrev pub input_of : List (ℕ × List ℕ) → List ℕ
input_of rest = flat_map (λ line. input_line line.1) (before_command rest)

-- the commands of a phase, each with its input
abbrev pub commands_in : List (ℕ × List ℕ) → List ScriptLine
commands_in [] = []
commands_in (line ∷ rest) = if is_command line.1 then command_line line.0 line.1 (input_of rest) ∷ commands_in rest else commands_in rest

-- the input lines of a phase before its first command
abbrev pub stray_lines : List (ℕ × List ℕ) → List ScriptLine
stray_lines rest = map (λ line. stray_line line.0) (filter (λ line. is_input line.1) (before_command rest))

abbrev pub lines_in : List (ℕ × List ℕ) → List ScriptLine
lines_in rest = stray_lines rest ++ commands_in rest

abbrev pub phase_of : List (ℕ × List ℕ) → Phase
phase_of rest = record { lines = lines_in rest }

-- the phases are between the lines `---`, also where a phase has no line
abbrev pub script_of : List ℕ → Script
script_of bytes = record { phases = map phase_of (slice_split (λ line. is_separator line.1) (numbered bytes)) }

-- why a script may be refused: it has more than 4,096 lines, or memory ran out
abbrev pub IsScriptFault : List ℕ → ScriptError → Type 0
IsScriptFault bytes (faults.Limit limit) = (limit ≡ Lines) × (max_lines < length (lines bytes))
IsScriptFault bytes faults.NoMemory = Unit {0}
