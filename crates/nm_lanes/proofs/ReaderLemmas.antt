-- What a reader has, and what the lines that are left give, are all phases of a script.
-- For the proof of `read_script`.
use Rattle.std.proofs.Common.{◌≡◌, ℕ, ◌+◌, ◌==◌, Bool, true, false, cond, not, List, [], ◌∷◌, ◌++◌, length, map, take, refl, sym, ap, ◌∙◌, append-nil, append_assoc, arith, subst, suc}
use Rattle.std.specs.Prelude.{Option, Some, None, filter}
use Rattle.std.specs.List.{before_first, flat_map, onto_first, position_or_len, slice_split}
use Rattle.std.specs.Str.{is_utf8}
use Rattle.std.proofs.lemmas.List.Splits.{slice_split-cons_no, slice_split-cons_yes}
use Rattle.std.proofs.lemmas.Bool.Decides.{nat_tests}
use Rattle.nm_base.specs.declared.refusals.UsageKind.TheVariants.{Utf8}
use Rattle.nm_lanes.specs.Lines.{command_line, flawed, input_line, is_command, is_input, is_separator, lane_in, line_in, line_of_words, stray_line}
use Rattle.nm_lanes.specs.ReaderState.{after_command, after_input, after_line, after_separator, closed, fed_with, new_reader}
use Rattle.nm_lanes.specs.Script.{before_command, commands_in, input_of, lines_in, phase_of, stray_lines}
use Rattle.nm_lanes.specs.Words.{words_of}
use Rattle.nm_lanes.specs.declared.reader.Reader.{Reader}
use Rattle.nm_lanes.specs.declared.script.Phase.{Phase}
use Rattle.nm_lanes.specs.declared.script.ScriptLine.{ScriptLine}

abbrev pub Line : Type 0
Line = ℕ × List ℕ

abbrev pub ends_phase : Line → Bool
ends_phase line = is_separator line.1

-- what a phase has from a command on that was read, or from its begin
abbrev pub lines_from : Option ScriptLine → List Line → List ScriptLine
lines_from None rest = lines_in rest
lines_from (Some command) rest = fed_with command (input_of rest) ∷ commands_in rest

-- the first of these parts goes on with a phase that has begun
abbrev pub phases_from : Reader → List (List Line) → List Phase
phases_from reader [] = []
phases_from reader (rest ∷ more) = record { lines = reader.lines ++ lines_from reader.command rest } ∷ map phase_of more

-- all phases
abbrev pub phases_with : Reader → List Line → List Phase
phases_with reader rest = reader.phases ++ phases_from reader (slice_split ends_phase rest)

-- what comes before the first that passes
pub before-yes : {X : Type 0} (p : X → Bool) (x : X) (xs : List X) → p x ≡ true → before_first p (x ∷ xs) ≡ []
before-yes p x xs e = ap (λ (b : Bool). take (cond (not b) (1 + position_or_len p xs) 0) (x ∷ xs)) e

pub before-no : {X : Type 0} (p : X → Bool) (x : X) (xs : List X) → p x ≡ false → before_first p (x ∷ xs) ≡ x ∷ before_first p xs
before-no p x xs e =
    let n = position_or_len p xs in
    let one : 1 + n ≡ suc n = omega arith in
    ap (λ (b : Bool). take (cond (not b) (1 + n) 0) (x ∷ xs)) e ∙ ap (λ (k : ℕ). take k (x ∷ xs)) one

-- the kinds of lines
pub empty-is : (line : List ℕ) → (length line == 0) ≡ true → line ≡ []
empty-is [] e = refl
empty-is (b ∷ bs) e = absurd (grind (arith, nat_tests))

pub input-is_no_command : (line : List ℕ) → is_input line ≡ true → is_command line ≡ false
input-is_no_command [] e = absurd (cc)
input-is_no_command (b ∷ bs) e = grind (arith, nat_tests)

pub command-is : (line : List ℕ) → (length line == 0) ≡ false → is_separator line ≡ false → is_input line ≡ false → is_command line ≡ true
command-is line some part input = grind (arith, nat_tests)

-- a line that is no command goes to the input of the command before it
pub input_of-more : (line : Line) (rest : List Line) → is_command line.1 ≡ false → input_of (line ∷ rest) ≡ input_line line.1 ++ input_of rest
input_of-more line rest e = ap (flat_map (λ (l : Line). input_line l.1)) (before-no (λ (l : Line). is_command l.1) line rest e)

pub input_of-none : (line : Line) (rest : List Line) → is_command line.1 ≡ true → input_of (line ∷ rest) ≡ []
input_of-none line rest e = ap (flat_map (λ (l : Line). input_line l.1)) (before-yes (λ (l : Line). is_command l.1) line rest e)

pub commands-skip : (line : Line) (rest : List Line) → is_command line.1 ≡ false → commands_in (line ∷ rest) ≡ commands_in rest
commands-skip line rest e = ap (λ (b : Bool). cond b (command_line line.0 line.1 (input_of rest) ∷ commands_in rest) (commands_in rest)) e

pub commands-here : (line : Line) (rest : List Line) → is_command line.1 ≡ true → commands_in (line ∷ rest) ≡ command_line line.0 line.1 (input_of rest) ∷ commands_in rest
commands-here line rest e = ap (λ (b : Bool). cond b (command_line line.0 line.1 (input_of rest) ∷ commands_in rest) (commands_in rest)) e

pub stray-none : (line : Line) (rest : List Line) → is_command line.1 ≡ true → stray_lines (line ∷ rest) ≡ []
stray-none line rest e = ap (λ (ls : List Line). map (λ (l : Line). stray_line l.0) (filter (λ (l : Line). is_input l.1) ls)) (before-yes (λ (l : Line). is_command l.1) line rest e)

stray-more : (line : Line) (rest : List Line) → is_command line.1 ≡ false
    → stray_lines (line ∷ rest) ≡ map (λ (l : Line). stray_line l.0) (cond (is_input line.1) (line ∷ filter (λ (l : Line). is_input l.1) (before_command rest)) (filter (λ (l : Line). is_input l.1) (before_command rest)))
stray-more line rest e = ap (λ (ls : List Line). map (λ (l : Line). stray_line l.0) (filter (λ (l : Line). is_input l.1) ls)) (before-no (λ (l : Line). is_command l.1) line rest e)

pub stray-skip : (line : Line) (rest : List Line) → is_command line.1 ≡ false → is_input line.1 ≡ false → stray_lines (line ∷ rest) ≡ stray_lines rest
stray-skip line rest e no_input =
    stray-more line rest e
    ∙ ap (λ (b : Bool). map (λ (l : Line). stray_line l.0) (cond b (line ∷ filter (λ (l : Line). is_input l.1) (before_command rest)) (filter (λ (l : Line). is_input l.1) (before_command rest)))) no_input

pub stray-here : (line : Line) (rest : List Line) → is_command line.1 ≡ false → is_input line.1 ≡ true → stray_lines (line ∷ rest) ≡ stray_line line.0 ∷ stray_lines rest
stray-here line rest e input =
    stray-more line rest e
    ∙ ap (λ (b : Bool). map (λ (l : Line). stray_line l.0) (cond b (line ∷ filter (λ (l : Line). is_input l.1) (before_command rest)) (filter (λ (l : Line). is_input l.1) (before_command rest)))) input

-- a line with more input
pub fed-none : (line : ScriptLine) → fed_with line [] ≡ line
fed-none line = ap (λ (input : List ℕ). record { number = line.number; lane = line.lane; words = line.words; input = input; flaw = line.flaw }) (append-nil line.input)

pub fed-twice : (line : ScriptLine) (first second : List ℕ) → fed_with (fed_with line first) second ≡ fed_with line (first ++ second)
fed-twice line first second =
    ap (λ (input : List ℕ). record { number = line.number; lane = line.lane; words = line.words; input = input; flaw = line.flaw }) (append_assoc line.input first second)

fed-lane : (number : ℕ) (word : List ℕ) (words : List (List ℕ)) (more : List ℕ) (lane : Option ℕ) → fed_with (line_in number word words [] lane) more ≡ line_in number word words more lane
fed-lane number word words more (Some lane) = refl
fed-lane number word words more None = refl

fed-words : (number : ℕ) (words : List (List ℕ)) (more : List ℕ) → fed_with (line_of_words number words []) more ≡ line_of_words number words more
fed-words number [] more = refl
fed-words number (word ∷ words) more = fed-lane number word words more (lane_in word)

fed-text : (number : ℕ) (words : List (List ℕ)) (more : List ℕ) (b : Bool)
    → fed_with (cond b (line_of_words number words []) (flawed number Utf8 [] [])) more ≡ cond b (line_of_words number words more) (flawed number Utf8 [] more)
fed-text number words more true = fed-words number words more
fed-text number words more false = refl

pub fed-command : (number : ℕ) (line more : List ℕ) → fed_with (command_line number line []) more ≡ command_line number line more
fed-command number line more = fed-text number (words_of line) more (is_utf8 line)

-- a command that gets no more input
pub closed-end : (command : Option ScriptLine) → closed command ≡ lines_from command []
closed-end None = refl
closed-end (Some command) = ap (λ (c : ScriptLine). c ∷ []) (sym (fed-none command))

-- the part with the line at its front, and the parts after it
parts-step : (before after : Reader) (line : Line) (parts : List (List Line)) → before.phases ≡ after.phases
    → ((rest : List Line) → after.lines ++ lines_from after.command rest ≡ before.lines ++ lines_from before.command (line ∷ rest))
    → (rest : List Line) (more : List (List Line)) → parts ≡ rest ∷ more
    → after.phases ++ phases_from after parts ≡ before.phases ++ phases_from before (onto_first line parts)
parts-step before after line parts phases step rest more is =
    subst
    (λ (ps : List (List Line)). after.phases ++ phases_from after ps ≡ before.phases ++ phases_from before (onto_first line ps))
    (sym is)
    (ap (λ (ls : List ScriptLine). after.phases ++ record { lines = ls } ∷ map phase_of more) (step rest)
    ∙ ap (λ (ps : List Phase). ps ++ record { lines = before.lines ++ lines_from before.command (line ∷ rest) } ∷ map phase_of more) (sym phases))

-- there is always a part
by_test : {X : Type 0} (p : X → Bool) (x : X) (xs first : List X) (more : List (List X)) → slice_split p xs ≡ first ∷ more → (b : Bool) → p x ≡ b
    → (first : List X) × (more : List (List X)) × (slice_split p (x ∷ xs) ≡ first ∷ more)
by_test p x xs first more h true e = ([], slice_split p xs, slice_split-cons_yes p x xs e)
by_test p x xs first more h false e = (x ∷ first, more, slice_split-cons_no p x xs e ∙ ap (onto_first x) h)

some-part : {X : Type 0} (p : X → Bool) (xs : List X) → (first : List X) × (more : List (List X)) × (slice_split p xs ≡ first ∷ more)
some-part p [] = ([], [], refl)
some-part p (x ∷ xs) = let h = some-part p xs in by_test p x xs h.0 h.1 h.2 (p x) refl

-- the same, of the parts of lines
goes_on : (before after : Reader) (line : Line) (rest : List Line) → before.phases ≡ after.phases
    → ((rest : List Line) → after.lines ++ lines_from after.command rest ≡ before.lines ++ lines_from before.command (line ∷ rest))
    → is_separator line.1 ≡ false → phases_with after rest ≡ phases_with before (line ∷ rest)
goes_on before after line rest phases step part =
    let h = some-part ends_phase rest in
    parts-step before after line (slice_split ends_phase rest) phases step h.0 h.1 h.2
    ∙ ap (λ (ps : List (List Line)). before.phases ++ phases_from before ps) (sym (slice_split-cons_no ends_phase line rest part))

-- an empty line
empty-step : (command : Option ScriptLine) (number : ℕ) (rest : List Line) → lines_from command rest ≡ lines_from command ((number, []) ∷ rest)
empty-step None number rest = ap (λ (ls : List ScriptLine). ls ++ commands_in rest) (sym (stray-skip (number, []) rest refl refl))
empty-step (Some command) number rest = ap (λ (input : List ℕ). fed_with command input ∷ commands_in rest) (sym (input_of-more (number, []) rest refl))

with_empty : (reader : Reader) (number : ℕ) (rest : List Line) → phases_with reader rest ≡ phases_with reader ((number, []) ∷ rest)
with_empty reader number rest =
    goes_on reader reader (number, []) rest refl (λ (rest : List Line). ap (λ (ls : List ScriptLine). reader.lines ++ ls) (empty-step reader.command number rest)) refl

-- a line that ends a phase
new-phase : (phases : List Phase) (parts : List (List Line)) → phases_from (record { phases = phases; lines = []; command = None }) parts ≡ map phase_of parts
new-phase phases [] = refl
new-phase phases (rest ∷ more) = refl

with_separator : (reader : Reader) (line : Line) (rest : List Line) → is_separator line.1 ≡ true → phases_with (after_separator reader) rest ≡ phases_with reader (line ∷ rest)
with_separator reader line rest e =
    let parts = slice_split ends_phase rest in
    ap (λ (ps : List Phase). (after_separator reader).phases ++ ps) (new-phase (after_separator reader).phases parts)
    ∙ (append_assoc reader.phases (record { lines = reader.lines ++ closed reader.command } ∷ []) (map phase_of parts)
    ∙ (ap (λ (ls : List ScriptLine). reader.phases ++ record { lines = reader.lines ++ ls } ∷ map phase_of parts) (closed-end reader.command)
    ∙ ap (λ (ps : List (List Line)). reader.phases ++ phases_from reader ps) (sym (slice_split-cons_yes ends_phase line rest e))))

-- an input line
input-step : (lines : List ScriptLine) (number : ℕ) (line : List ℕ) (command : Option ScriptLine) (phases : List Phase) (rest : List Line) → is_input line ≡ true
    → (after_input (record { phases = phases; lines = lines; command = command }) number line).lines ++ lines_from (after_input (record { phases = phases; lines = lines; command = command }) number line).command rest
    ≡ lines ++ lines_from command ((number, line) ∷ rest)
input-step lines number line None phases rest e =
    let no_command = input-is_no_command line e in
    append_assoc lines (stray_line number ∷ []) (lines_in rest)
    ∙ ap (λ (ls : List ScriptLine). lines ++ ls)
    (ap (λ (ls : List ScriptLine). (stray_line number ∷ stray_lines rest) ++ ls) (sym (commands-skip (number, line) rest no_command))
    ∙ ap (λ (ls : List ScriptLine). ls ++ commands_in ((number, line) ∷ rest)) (sym (stray-here (number, line) rest no_command e)))
input-step lines number line (Some command) phases rest e =
    let no_command = input-is_no_command line e in
    ap (λ (c : ScriptLine). lines ++ c ∷ commands_in rest) (fed-twice command (input_line line) (input_of rest))
    ∙ (ap (λ (input : List ℕ). lines ++ fed_with command input ∷ commands_in rest) (sym (input_of-more (number, line) rest no_command))
    ∙ ap (λ (ls : List ScriptLine). lines ++ fed_with command (input_of ((number, line) ∷ rest)) ∷ ls) (sym (commands-skip (number, line) rest no_command)))

input-phases : (phases : List Phase) (lines : List ScriptLine) (command : Option ScriptLine) (number : ℕ) (line : List ℕ)
    → phases ≡ (after_input (record { phases = phases; lines = lines; command = command }) number line).phases
input-phases phases lines None number line = refl
input-phases phases lines (Some command) number line = refl

with_input : (reader : Reader) (number : ℕ) (line : List ℕ) (rest : List Line) → is_separator line ≡ false → is_input line ≡ true
    → phases_with (after_input reader number line) rest ≡ phases_with reader ((number, line) ∷ rest)
with_input reader number line rest part e =
    goes_on reader (after_input reader number line) (number, line) rest (input-phases reader.phases reader.lines reader.command number line)
    (λ (rest : List Line). input-step reader.lines number line reader.command reader.phases rest e) part

-- a command
command-from : (number : ℕ) (line : List ℕ) (rest : List Line) → is_command line ≡ true → lines_from (Some (command_line number line [])) rest ≡ commands_in ((number, line) ∷ rest)
command-from number line rest e =
    ap (λ (c : ScriptLine). c ∷ commands_in rest) (fed-command number line (input_of rest)) ∙ sym (commands-here (number, line) rest e)

command-step : (lines : List ScriptLine) (number : ℕ) (line : List ℕ) (command : Option ScriptLine) (rest : List Line) → is_command line ≡ true
    → (lines ++ closed command) ++ lines_from (Some (command_line number line [])) rest ≡ lines ++ lines_from command ((number, line) ∷ rest)
command-step lines number line None rest e =
    ap (λ (ls : List ScriptLine). (lines ++ []) ++ ls) (command-from number line rest e)
    ∙ (append_assoc lines [] (commands_in ((number, line) ∷ rest))
    ∙ ap (λ (ls : List ScriptLine). lines ++ (ls ++ commands_in ((number, line) ∷ rest))) (sym (stray-none (number, line) rest e)))
command-step lines number line (Some command) rest e =
    ap (λ (ls : List ScriptLine). (lines ++ command ∷ []) ++ ls) (command-from number line rest e)
    ∙ (append_assoc lines (command ∷ []) (commands_in ((number, line) ∷ rest))
    ∙ ap (λ (c : ScriptLine). lines ++ c ∷ commands_in ((number, line) ∷ rest))
    (sym (ap (fed_with command) (input_of-none (number, line) rest e) ∙ fed-none command)))

with_command : (reader : Reader) (number : ℕ) (line : List ℕ) (rest : List Line) → is_separator line ≡ false → is_command line ≡ true
    → phases_with (after_command reader (command_line number line [])) rest ≡ phases_with reader ((number, line) ∷ rest)
with_command reader number line rest part e =
    goes_on reader (after_command reader (command_line number line [])) (number, line) rest refl
    (λ (rest : List Line). command-step reader.lines number line reader.command rest e) part

-- any line
by_kind : (reader : Reader) (number : ℕ) (line : List ℕ) (rest : List Line) (none part input : Bool) → (length line == 0) ≡ none → is_separator line ≡ part → is_input line ≡ input
    → phases_with
    (cond none reader (cond part (after_separator reader) (cond input (after_input reader number line) (after_command reader (command_line number line []))))) rest
    ≡ phases_with reader ((number, line) ∷ rest)
by_kind reader number line rest true part input e p i =
    with_empty reader number rest ∙ ap (λ (l : List ℕ). phases_with reader ((number, l) ∷ rest)) (sym (empty-is line e))
by_kind reader number line rest false true input e p i = with_separator reader (number, line) rest p
by_kind reader number line rest false false true e p i = with_input reader number line rest p i
by_kind reader number line rest false false false e p i = with_command reader number line rest p (command-is line e p i)

pub with_line : (reader : Reader) (number : ℕ) (line : List ℕ) (rest : List Line) → phases_with (after_line reader number line) rest ≡ phases_with reader ((number, line) ∷ rest)
with_line reader number line rest = by_kind reader number line rest (length line == 0) (is_separator line) (is_input line) refl refl refl

-- the first and the last
pub all-phases : (rest : List Line) → phases_with new_reader rest ≡ map phase_of (slice_split ends_phase rest)
all-phases rest = new-phase [] (slice_split ends_phase rest)

pub none-left : (reader : Reader) → (after_separator reader).phases ≡ phases_with reader []
none-left reader = ap (λ (ls : List ScriptLine). reader.phases ++ record { lines = reader.lines ++ ls } ∷ []) (closed-end reader.command)
