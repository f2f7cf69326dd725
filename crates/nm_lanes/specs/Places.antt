-- What a script tells, line by line: of each line by its place alone, by what comes before it and after it in the whole script.
-- Cited by `laws`.
use Rattle.std.specs.Prelude.{ℕ, ◌+◌, Bool, false, ◌&&◌, ◌||◌, not, List, [], ◌∷◌, ◌++◌, length, map, filter, fold, Option, Some, None, if◌then◌else◌}
use Rattle.std.specs.List.{before_first, flat_map}
use Rattle.nm_lanes.specs.Lines.{command_line, input_line, is_command, is_input, is_separator, stray_line}
use Rattle.nm_lanes.specs.declared.script.Phase.{Phase}
use Rattle.nm_lanes.specs.declared.script.Script.{Script}
use Rattle.nm_lanes.specs.declared.script.ScriptLine.{ScriptLine}

-- a line, and all lines before it and after it
pub record Place : Type 0 where
  pub before : List (List ℕ)
  pub line : List ℕ
  pub after : List (List ℕ)

-- the places of the lines that follow others
abbrev pub places_after : List (List ℕ) → List (List ℕ) → List Place
places_after before [] = []
places_after before (line ∷ after) = record { before = before; line = line; after = after } ∷ places_after (before ++ line ∷ []) after

abbrev pub places : List (List ℕ) → List Place
places lines = places_after [] lines

-- how many phases have ended with these lines
abbrev pub phases_ended : List (List ℕ) → ℕ
phases_ended lines = length (filter is_separator lines)

-- a command is among these lines, and no `---` after it
abbrev pub has_command : List (List ℕ) → Bool
has_command lines = fold (λ has line. is_command line || (has && not (is_separator line))) false lines

-- what the input lines say up to the next command or `---`
abbrev pub input_after : List (List ℕ) → List ℕ
input_after lines = flat_map input_line (before_first (λ line. is_command line || is_separator line) lines)

-- what the line in this place tells, with the number of its phase: a command, or an input line that no command has
abbrev pub told_at : Place → Option (ℕ × ScriptLine)
told_at place =
    if is_command place.line then Some (phases_ended place.before, command_line (length place.before + 1) place.line (input_after place.after))
    else (if is_input place.line && not (has_command place.before) then Some (phases_ended place.before, stray_line (length place.before + 1)) else None)

-- the lines of phases, each with the number of its phase
abbrev pub told_from : ℕ → List Phase → List (ℕ × ScriptLine)
told_from number [] = []
told_from number (phase ∷ more) = map (λ line. (number, line)) phase.lines ++ told_from (number + 1) more

abbrev pub told_in : Script → List (ℕ × ScriptLine)
told_in script = told_from 0 script.phases
