-- How a script is read, line by line: what a reader has after each. Only proofs need this. Cited by `reader`.
use Rattle.std.specs.Prelude.{ℕ, ◌==◌, List, [], ◌∷◌, ◌++◌, length, Option, Some, None, if◌then◌else◌}
use Rattle.nm_lanes.specs.Lines.{command_line, input_line, is_input, is_separator, stray_line}
use Rattle.nm_lanes.specs.declared.reader.Reader.{Reader}
use Rattle.nm_lanes.specs.declared.script.ScriptLine.{ScriptLine}

-- the line with more input
abbrev pub fed_with : ScriptLine → List ℕ → ScriptLine
fed_with line more = record { number = line.number; lane = line.lane; words = line.words; input = line.input ++ more; flaw = line.flaw }

-- the command that may get more input, as it is
abbrev pub closed : Option ScriptLine → List ScriptLine
closed None = []
closed (Some command) = command ∷ []

abbrev pub new_reader : Reader
new_reader = record { phases = []; lines = []; command = None }

-- a phase has ended
abbrev pub after_separator : Reader → Reader
after_separator reader = record { phases = reader.phases ++ record { lines = reader.lines ++ closed reader.command } ∷ []; lines = []; command = None }

-- a command has begun
abbrev pub after_command : Reader → ScriptLine → Reader
after_command reader line = record { phases = reader.phases; lines = reader.lines ++ closed reader.command; command = Some line }

-- an input line goes to the command, or represents itself where there is none
abbrev pub after_input : Reader → ℕ → List ℕ → Reader
after_input reader number line =
    elim (reader.command) [
      | Some command ↦ record { phases = reader.phases; lines = reader.lines; command = Some (fed_with command (input_line line)) }
      | None ↦ record { phases = reader.phases; lines = reader.lines ++ stray_line number ∷ []; command = None }
    ]

-- one line more
abbrev pub after_line : Reader → ℕ → List ℕ → Reader
after_line reader number line =
    if length line == 0 then reader
    else (if is_separator line then after_separator reader
    else (if is_input line then after_input reader number line else after_command reader (command_line number line [])))
