-- The lines of a script, phase after phase, are what its lines tell by their places.
-- For the proof of `lines_are_told_where_they_stand`.
use Rattle.std.proofs.Common.{◌≡◌, ℕ, ◌+◌, ◌<◌, ◌&&◌, ◌||◌, Bool, true, false, cond, not, List, [], ◌∷◌, ◌++◌, length, map, refl, sym, ap, ◌∙◌, arith, length-append, suc}
use Rattle.std.specs.Prelude.{Some, None, filter, codes}
use Rattle.std.specs.List.{cons_option, enumerate_from, filter_map, flat_map, onto_first, slice_split}
use Rattle.std.specs.Cmp.Lexicographic.{same_text}
use Rattle.std.specs.Str.Lines.{lines}
use Rattle.std.proofs.lemmas.List.Splits.{slice_split-cons_no, slice_split-cons_yes}
use Rattle.std.proofs.lemmas.List.{length-map}
use Rattle.std.proofs.lemmas.List.Elements.{filter-append}
use Rattle.std.proofs.lemmas.List.Sums.{fold-append}
use Rattle.std.proofs.lemmas.Bool.Decides.{nat_tests}
use Rattle.nm_lanes.specs.Lines.{command_line, input_line, is_command, is_input, is_separator, stray_line}
use Rattle.nm_lanes.specs.Places.{Place, has_command, input_after, phases_ended, places, places_after, told_at, told_from, told_in}
use Rattle.nm_lanes.specs.Script.{commands_in, input_of, lines_in, phase_of, script_of, stray_lines}
use Rattle.nm_lanes.specs.declared.script.ScriptLine.{ScriptLine}
use Rattle.nm_lanes.proofs.ReaderLemmas.{Line, before-no, before-yes, commands-here, commands-skip, ends_phase, input_of-more, input_of-none, stray-here, stray-none, stray-skip}

-- the parts of the lines from a number on
abbrev parts_of : ℕ → List (List ℕ) → List (List Line)
parts_of number lines = slice_split ends_phase (enumerate_from number lines)

abbrev first_of : List (List Line) → List Line
first_of [] = []
first_of (part ∷ parts) = part

abbrev rest_of : List (List Line) → List (List Line)
rest_of [] = []
rest_of (part ∷ parts) = parts

first-onto : (line : Line) (parts : List (List Line)) → first_of (onto_first line parts) ≡ line ∷ first_of parts
first-onto line [] = refl
first-onto line (part ∷ parts) = refl

rest-onto : (line : Line) (parts : List (List Line)) → rest_of (onto_first line parts) ≡ rest_of parts
rest-onto line [] = refl
rest-onto line (part ∷ parts) = refl

parts-ended : (number : ℕ) (line : List ℕ) (rest : List (List ℕ)) → is_separator line ≡ true → parts_of number (line ∷ rest) ≡ [] ∷ parts_of (number + 1) rest
parts-ended number line rest e = slice_split-cons_yes ends_phase (number, line) (enumerate_from (number + 1) rest) e

first-more : (number : ℕ) (line : List ℕ) (rest : List (List ℕ)) → is_separator line ≡ false → first_of (parts_of number (line ∷ rest)) ≡ (number, line) ∷ first_of (parts_of (number + 1) rest)
first-more number line rest e =
    ap first_of (slice_split-cons_no ends_phase (number, line) (enumerate_from (number + 1) rest) e) ∙ first-onto (number, line) (parts_of (number + 1) rest)

rest-more : (number : ℕ) (line : List ℕ) (rest : List (List ℕ)) → is_separator line ≡ false → rest_of (parts_of number (line ∷ rest)) ≡ rest_of (parts_of (number + 1) rest)
rest-more number line rest e =
    ap rest_of (slice_split-cons_no ends_phase (number, line) (enumerate_from (number + 1) rest) e) ∙ rest-onto (number, line) (parts_of (number + 1) rest)

-- a line that ends a phase is no command and no input
separator-is : (line : List ℕ) → is_separator line ≡ true → line ≡ codes "---"
separator-is line e = same_text line (codes "---") (sym e)

separator-no_command : (line : List ℕ) → is_separator line ≡ true → is_command line ≡ false
separator-no_command line e = ap is_command (separator-is line e)

separator-no_input : (line : List ℕ) → is_separator line ≡ true → is_input line ≡ false
separator-no_input line e = ap is_input (separator-is line e)

command-no_separator : (line : List ℕ) → is_command line ≡ true → is_separator line ≡ false
command-no_separator line e = grind (arith, nat_tests)

command-no_input : (line : List ℕ) → is_command line ≡ true → is_input line ≡ false
command-no_input line e = grind (arith, nat_tests)

-- what ends an input
abbrev ends : List ℕ → Bool
ends line = is_command line || is_separator line

ends-command : (line : List ℕ) → is_command line ≡ true → ends line ≡ true
ends-command line e = ap (λ (b : Bool). b || is_separator line) e

ends-separator : (line : List ℕ) → is_separator line ≡ true → ends line ≡ true
ends-separator line e = ap (λ (b : Bool). b || is_separator line) (separator-no_command line e) ∙ e

ends-neither : (line : List ℕ) → is_command line ≡ false → is_separator line ≡ false → ends line ≡ false
ends-neither line c s = ap (λ (b : Bool). b || is_separator line) c ∙ s

input_after-none : (line : List ℕ) (rest : List (List ℕ)) → ends line ≡ true → input_after (line ∷ rest) ≡ []
input_after-none line rest e = ap (flat_map input_line) (before-yes ends line rest e)

input_after-more : (line : List ℕ) (rest : List (List ℕ)) → ends line ≡ false → input_after (line ∷ rest) ≡ input_line line ++ input_after rest
input_after-more line rest e = ap (flat_map input_line) (before-no ends line rest e)

-- the input of a command by its part, and by its place
input-kinds : (number : ℕ) (line : List ℕ) (rest : List (List ℕ)) → input_of (first_of (parts_of (number + 1) rest)) ≡ input_after rest
    → (c s : Bool) → is_command line ≡ c → is_separator line ≡ s → input_of (first_of (parts_of number (line ∷ rest))) ≡ input_after (line ∷ rest)
input-kinds number line rest h true s c e =
    ap input_of (first-more number line rest (command-no_separator line c))
    ∙ (input_of-none (number, line) (first_of (parts_of (number + 1) rest)) c ∙ sym (input_after-none line rest (ends-command line c)))
input-kinds number line rest h false true c e =
    ap (λ (ps : List (List Line)). input_of (first_of ps)) (parts-ended number line rest e) ∙ sym (input_after-none line rest (ends-separator line e))
input-kinds number line rest h false false c e =
    ap input_of (first-more number line rest e)
    ∙ (input_of-more (number, line) (first_of (parts_of (number + 1) rest)) c
    ∙ (ap (λ (input : List ℕ). input_line line ++ input) h ∙ sym (input_after-more line rest (ends-neither line c e))))

input-same : (number : ℕ) (lines : List (List ℕ)) → input_of (first_of (parts_of number lines)) ≡ input_after lines
input-same number [] = refl
input-same number (line ∷ rest) = input-kinds number line rest (input-same (number + 1) rest) (is_command line) (is_separator line) refl refl

-- what a phase tells, where a command is in it already, or none
abbrev lines_when : Bool → List Line → List ScriptLine
lines_when true part = commands_in part
lines_when false part = lines_in part

abbrev tag : ℕ → List ScriptLine → List (ℕ × ScriptLine)
tag phase lines = map (λ (line : ScriptLine). (phase, line)) lines

-- what the lines from a number on tell
abbrev told_when : ℕ → Bool → ℕ → List (List ℕ) → List (ℕ × ScriptLine)
told_when phase has number rest =
    tag phase (lines_when has (first_of (parts_of number rest))) ++ told_from (phase + 1) (map phase_of (rest_of (parts_of number rest)))

-- the first part and the others are all parts
told-whole : (phase : ℕ) (parts : List (List Line)) → tag phase (lines_in (first_of parts)) ++ told_from (phase + 1) (map phase_of (rest_of parts)) ≡ told_from phase (map phase_of parts)
told-whole phase [] = refl
told-whole phase (part ∷ parts) = refl

nothing-told : (phase : ℕ) (has : Bool) (more : List (ℕ × ScriptLine)) → tag phase (lines_when has []) ++ more ≡ more
nothing-told phase true more = refl
nothing-told phase false more = refl

-- a line that ends no phase is the first of its part
told-more : (phase : ℕ) (has : Bool) (number : ℕ) (line : List ℕ) (rest : List (List ℕ)) → is_separator line ≡ false
    → told_when phase has number (line ∷ rest)
    ≡ tag phase (lines_when has ((number, line) ∷ first_of (parts_of (number + 1) rest))) ++ told_from (phase + 1) (map phase_of (rest_of (parts_of (number + 1) rest)))
told-more phase has number line rest e =
    ap (λ (part : List Line). tag phase (lines_when has part) ++ told_from (phase + 1) (map phase_of (rest_of (parts_of number (line ∷ rest))))) (first-more number line rest e)
    ∙ ap (λ (ps : List (List Line)). tag phase (lines_when has ((number, line) ∷ first_of (parts_of (number + 1) rest))) ++ told_from (phase + 1) (map phase_of ps)) (rest-more number line rest e)

-- a command
when-command : (has : Bool) (line : Line) (part : List Line) → is_command line.1 ≡ true → lines_when has (line ∷ part) ≡ command_line line.0 line.1 (input_of part) ∷ commands_in part
when-command true line part c = commands-here line part c
when-command false line part c = ap (λ (ls : List ScriptLine). ls ++ commands_in (line ∷ part)) (stray-none line part c) ∙ commands-here line part c

told-command : (phase : ℕ) (has : Bool) (number : ℕ) (line : List ℕ) (rest : List (List ℕ)) → is_command line ≡ true
    → (phase, command_line number line (input_after rest)) ∷ told_when phase true (number + 1) rest ≡ told_when phase has number (line ∷ rest)
told-command phase has number line rest c =
    let part = first_of (parts_of (number + 1) rest) in
    let more = told_from (phase + 1) (map phase_of (rest_of (parts_of (number + 1) rest))) in
    ap (λ (input : List ℕ). tag phase (command_line number line input ∷ commands_in part) ++ more) (sym (input-same (number + 1) rest))
    ∙ (ap (λ (ls : List ScriptLine). tag phase ls ++ more) (sym (when-command has (number, line) part c)) ∙ sym (told-more phase has number line rest (command-no_separator line c)))

-- the end of a phase
told-separator : (phase : ℕ) (has : Bool) (number : ℕ) (line : List ℕ) (rest : List (List ℕ)) → is_separator line ≡ true
    → told_when (phase + 1) false (number + 1) rest ≡ told_when phase has number (line ∷ rest)
told-separator phase has number line rest s =
    told-whole (phase + 1) (parts_of (number + 1) rest)
    ∙ (sym (nothing-told phase has (told_from (phase + 1) (map phase_of (parts_of (number + 1) rest))))
    ∙ ap (λ (ps : List (List Line)). tag phase (lines_when has (first_of ps)) ++ told_from (phase + 1) (map phase_of (rest_of ps))) (sym (parts-ended number line rest s)))

-- an input line that no command has
told-stray : (phase number : ℕ) (line : List ℕ) (rest : List (List ℕ)) → is_command line ≡ false → is_separator line ≡ false → is_input line ≡ true
    → (phase, stray_line number) ∷ told_when phase false (number + 1) rest ≡ told_when phase false number (line ∷ rest)
told-stray phase number line rest c s i =
    let part = first_of (parts_of (number + 1) rest) in
    let more = told_from (phase + 1) (map phase_of (rest_of (parts_of (number + 1) rest))) in
    ap (λ (ls : List ScriptLine). tag phase ((stray_line number ∷ stray_lines part) ++ ls) ++ more) (sym (commands-skip (number, line) part c))
    ∙ (ap (λ (ls : List ScriptLine). tag phase (ls ++ commands_in ((number, line) ∷ part)) ++ more) (sym (stray-here (number, line) part c i))
    ∙ sym (told-more phase false number line rest s))

-- a line that tells nothing by itself
when-skipped : (has : Bool) (line : Line) (part : List Line) → is_command line.1 ≡ false → (is_input line.1 && not has) ≡ false → lines_when has (line ∷ part) ≡ lines_when has part
when-skipped true line part c i = commands-skip line part c
when-skipped false line part c i =
    let no_input : is_input line.1 ≡ false = grind (arith, nat_tests) in
    ap (λ (ls : List ScriptLine). ls ++ commands_in (line ∷ part)) (stray-skip line part c no_input)
    ∙ ap (λ (ls : List ScriptLine). stray_lines part ++ ls) (commands-skip line part c)

told-skipped : (phase : ℕ) (has : Bool) (number : ℕ) (line : List ℕ) (rest : List (List ℕ)) → is_command line ≡ false → is_separator line ≡ false → (is_input line && not has) ≡ false
    → told_when phase has (number + 1) rest ≡ told_when phase has number (line ∷ rest)
told-skipped phase has number line rest c s i =
    let more = told_from (phase + 1) (map phase_of (rest_of (parts_of (number + 1) rest))) in
    ap (λ (ls : List ScriptLine). tag phase ls ++ more) (sym (when-skipped has (number, line) (first_of (parts_of (number + 1) rest)) c i))
    ∙ sym (told-more phase has number line rest s)

-- any line
told-kinds : (phase number : ℕ) (line : List ℕ) (rest : List (List ℕ)) (h c s i : Bool) → is_command line ≡ c → is_separator line ≡ s → is_input line ≡ i
    → cons_option (cond c (Some (phase, command_line number line (input_after rest))) (cond (i && not h) (Some (phase, stray_line number)) None))
    (told_when (cond s (phase + 1) phase) (c || (h && not s)) (number + 1) rest)
    ≡ told_when phase h number (line ∷ rest)
told-kinds phase number line rest h true true i c s e = let no = command-no_separator line c in absurd (cc)
told-kinds phase number line rest h true false i c s e = told-command phase h number line rest c
told-kinds phase number line rest h false true true c s e = let no = separator-no_input line s in absurd (cc)
told-kinds phase number line rest true false true false c s e = told-separator phase true number line rest s
told-kinds phase number line rest false false true false c s e = told-separator phase false number line rest s
told-kinds phase number line rest true false false true c s e = told-skipped phase true number line rest c s (ap (λ (b : Bool). b && false) e)
told-kinds phase number line rest false false false true c s e = told-stray phase number line rest c s e
told-kinds phase number line rest true false false false c s e = told-skipped phase true number line rest c s (ap (λ (b : Bool). b && false) e)
told-kinds phase number line rest false false false false c s e = told-skipped phase false number line rest c s (ap (λ (b : Bool). b && true) e)

-- one line more before a place
ended-by : (lines : List (List ℕ)) (line : List ℕ) (s : Bool) → is_separator line ≡ s → phases_ended (lines ++ line ∷ []) ≡ cond s (phases_ended lines + 1) (phases_ended lines)
ended-by lines line true e =
    let both : phases_ended (lines ++ line ∷ []) ≡ length (filter is_separator lines ++ filter is_separator (line ∷ [])) = ap length (filter-append is_separator lines (line ∷ [])) in
    let one : length (filter is_separator (line ∷ [])) ≡ 1 = ap (λ (b : Bool). length (cond b (line ∷ []) [])) e in
    omega (arith, length-append (filter is_separator lines) (filter is_separator (line ∷ [])))
ended-by lines line false e =
    let both : phases_ended (lines ++ line ∷ []) ≡ length (filter is_separator lines ++ filter is_separator (line ∷ [])) = ap length (filter-append is_separator lines (line ∷ [])) in
    let none : length (filter is_separator (line ∷ [])) ≡ 0 = ap (λ (b : Bool). length (cond b (line ∷ []) [])) e in
    omega (arith, length-append (filter is_separator lines) (filter is_separator (line ∷ [])))

ended-more : (lines : List (List ℕ)) (line : List ℕ) → phases_ended (lines ++ line ∷ []) ≡ cond (is_separator line) (phases_ended lines + 1) (phases_ended lines)
ended-more lines line = ended-by lines line (is_separator line) refl

has_command-more : (lines : List (List ℕ)) (line : List ℕ) → has_command (lines ++ line ∷ []) ≡ (is_command line || (has_command lines && not (is_separator line)))
has_command-more lines line = fold-append (λ (has : Bool) (line : List ℕ). is_command line || (has && not (is_separator line))) false lines (line ∷ [])

-- what the lines after some tell by their places
places-tell : (before rest : List (List ℕ)) → filter_map told_at (places_after before rest) ≡ told_when (phases_ended before) (has_command before) (length before + 1) rest
places-tell before [] = sym (nothing-told (phases_ended before) (has_command before) [])
places-tell before (line ∷ rest) =
    let phase = phases_ended before in
    let has = has_command before in
    let number = length before + 1 in
    let place : Place = record { before = before; line = line; after = rest } in
    let counted : length (before ++ line ∷ []) + 1 ≡ number + 1 = omega (arith, length-append before (line ∷ [])) in
    ap (cons_option (told_at place))
    (places-tell (before ++ line ∷ []) rest
    ∙ (ap (λ (n : ℕ). told_when (phases_ended (before ++ line ∷ [])) (has_command (before ++ line ∷ [])) n rest) counted
    ∙ (ap (λ (b : Bool). told_when (phases_ended (before ++ line ∷ [])) b (number + 1) rest) (has_command-more before line)
    ∙ ap (λ (n : ℕ). told_when n (is_command line || (has && not (is_separator line))) (number + 1) rest) (ended-more before line))))
    ∙ told-kinds phase number line rest has (is_command line) (is_separator line) (is_input line) refl refl refl

-- the lines of a script
pub told-script : (bytes : List ℕ) → told_in (script_of bytes) ≡ filter_map told_at (places (lines bytes))
told-script bytes = sym (places-tell [] (lines bytes) ∙ told-whole 0 (parts_of 1 (lines bytes)))

-- the number of phases
onto-length : (line : Line) (parts : List (List Line)) → 0 < length parts → length (onto_first line parts) ≡ length parts
onto-length line [] some = absurd (omega arith)
onto-length line (part ∷ parts) some = refl

parts-kinds : (number : ℕ) (line : List ℕ) (rest : List (List ℕ)) (s : Bool) → is_separator line ≡ s → length (parts_of (number + 1) rest) ≡ phases_ended rest + 1
    → length (parts_of number (line ∷ rest)) ≡ phases_ended (line ∷ rest) + 1
parts-kinds number line rest true s h =
    let parts : length (parts_of number (line ∷ rest)) ≡ suc (length (parts_of (number + 1) rest)) = ap length (parts-ended number line rest s) in
    let ended : phases_ended (line ∷ rest) ≡ suc (phases_ended rest) = ap (λ (b : Bool). length (cond b (line ∷ filter is_separator rest) (filter is_separator rest))) s in
    omega arith
parts-kinds number line rest false s h =
    let parts : length (parts_of number (line ∷ rest)) ≡ length (parts_of (number + 1) rest) =
    ap length (slice_split-cons_no ends_phase (number, line) (enumerate_from (number + 1) rest) s) ∙ onto-length (number, line) (parts_of (number + 1) rest) (omega arith) in
    let ended : phases_ended (line ∷ rest) ≡ phases_ended rest = ap (λ (b : Bool). length (cond b (line ∷ filter is_separator rest) (filter is_separator rest))) s in
    omega arith

parts-counted : (number : ℕ) (lines : List (List ℕ)) → length (parts_of number lines) ≡ phases_ended lines + 1
parts-counted number [] = refl
parts-counted number (line ∷ rest) = parts-kinds number line rest (is_separator line) refl (parts-counted (number + 1) rest)

pub phases-counted : (bytes : List ℕ) → length (script_of bytes).phases ≡ phases_ended (lines bytes) + 1
phases-counted bytes = length-map (parts_of 1 (lines bytes)) phase_of ∙ parts-counted 1 (lines bytes)
