-- One line of a script: whether it is a command, input or the end of a phase, and what a command line says by itself.
-- Cited by `line` and `reader`.
use Rattle.std.specs.Prelude.{ℕ, Bool, false, ◌==◌, ◌&&◌, not, nat_le, List, [], ◌∷◌, ◌++◌, drop, length, Option, Some, None, codes, if◌then◌else◌}
use Rattle.std.specs.Char.{is_ascii_digit}
use Rattle.std.specs.List.{list_all}
use Rattle.std.specs.Str.{is_utf8}
use Rattle.std.specs.Str.Parse.{digits_value}
use Rattle.nm_base.specs.Order.{same_text}
use Rattle.nm_base.specs.declared.refusals.UsageKind.{UsageKind}
use Rattle.nm_base.specs.declared.refusals.UsageKind.TheVariants.{Input, Lane, Utf8}
use Rattle.nm_lanes.specs.Words.{words_of}
use Rattle.nm_lanes.specs.declared.script.ScriptLine.{ScriptLine}

-- a line that begins with `|` is input, whatever its bytes
abbrev pub is_input : List ℕ → Bool
is_input [] = false
is_input (first ∷ rest) = first == 124

-- what it adds to an input: what comes after its `|`, and LF
abbrev pub input_line : List ℕ → List ℕ
input_line line = if is_input line then drop 1 line ++ 10 ∷ [] else []

-- the line `---` ends a phase
abbrev pub is_separator : List ℕ → Bool
is_separator line = same_text line (codes "---")

-- every other line that is not empty is a command
abbrev pub is_command : List ℕ → Bool
is_command line = not (length line == 0) && not (is_input line) && not (is_separator line)

-- 1 to 10 decimal digits and nothing else
abbrev pub is_number : List ℕ → Bool
is_number word = nat_le 1 (length word) && nat_le (length word) 10 && list_all is_ascii_digit word

-- the lane that a word says: a number 0 to 15
abbrev pub lane_in : List ℕ → Option ℕ
lane_in word = if is_number word && nat_le (digits_value 10 word) 15 then Some (digits_value 10 word) else None

-- a line of a lane, with the words of a command
abbrev pub in_lane : ℕ → ℕ → List (List ℕ) → List ℕ → ScriptLine
in_lane number lane words input = record { number = number; lane = lane; words = words; input = input; flaw = None }

-- a line with a flaw counts as lane 0's, and has the word at fault alone
abbrev pub flawed : ℕ → UsageKind → List (List ℕ) → List ℕ → ScriptLine
flawed number kind words input = record { number = number; lane = 0; words = words; input = input; flaw = Some kind }

-- a line whose first word says this lane, or none
abbrev pub line_in : ℕ → List ℕ → List (List ℕ) → List ℕ → Option ℕ → ScriptLine
line_in number word words input (Some lane) = in_lane number lane words input
line_in number word words input None = flawed number Lane (word ∷ []) input

-- the first word is the lane, the others are the words of the command; a line of blanks alone is lane 0's, without words
abbrev pub line_of_words : ℕ → List (List ℕ) → List ℕ → ScriptLine
line_of_words number [] input = in_lane number 0 [] input
line_of_words number (word ∷ words) input = line_in number word words input (lane_in word)

-- a command line by its number, its bytes and its input; one that is not UTF-8 has no words
abbrev pub command_line : ℕ → List ℕ → List ℕ → ScriptLine
command_line number line input = if is_utf8 line then line_of_words number (words_of line) input else flawed number Utf8 [] input

-- an input line with no command before it
abbrev pub stray_line : ℕ → ScriptLine
stray_line number = flawed number Input (codes "|" ∷ []) []
