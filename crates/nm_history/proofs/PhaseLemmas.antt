-- In which phase steps are, and in which lane: steps and lines cut in two, and those of one line.
-- For `MachineLemmas`, `LaneReadLemmas`, `AloneLemmas` and `EarlierLemmas`.
use Rattle.std.proofs.Common.{◌≡◌, ℕ, ◌+◌, ◌-◌, ◌*◌, ◌==◌, Bool, true, false, cond, List, [], ◌∷◌, ◌++◌, if◌then◌else◌, filter, length, map, fold, replicate, refl, sym, ap, ◌∙◌, arith, append-nil, append_assoc}
use Rattle.std.specs.List.{AllByRecursion, flat_map}
use Rattle.std.proofs.lemmas.Grind.{flat_map-append}
use Rattle.std.proofs.lemmas.List.{replicate-append-replicate}
use Rattle.std.proofs.lemmas.List.Elements.{filter-append}
use Rattle.nm_commit.specs.declared.change.Commit.{Commit}
use Rattle.nm_model_machine.specs.Machine.{Machine}
use Rattle.nm_model_machine.specs.declared.step.Step.{Step}
use Rattle.nm_log.specs.ParsedLine.{parse_line}
use Rattle.nm_log.specs.declared.line_parser.ParsedLine.{ParsedLine}
use Rattle.nm_log.specs.declared.line_parser.ParsedLine.TheVariants as asked
use Rattle.nm_log.specs.declared.outcome.Outcome.{Outcome}
use Rattle.nm_log.specs.declared.outcome.Outcome.TheVariants as outcomes
use Rattle.nm_history.specs.LineResult.{begin_step, commit_steps, line_steps, reply_step}
use Rattle.nm_history.specs.Lines.{Before, RunLine, after_line, after_lines, is_in_lane_zero, lane_zero_lines}
use Rattle.nm_history.specs.MachineRun.{LaneStep, Replied, commit_phase_by, commit_phases_from, commit_phases_of, commit_steps_in, is_in_lane, is_of_lane, lane_steps_by, lane_steps_from, lane_steps_of, lane_read_in, next, phase_after, replied_where, reply_in, reply_to}

-- ---- cut in two

pub lane-steps-append : (phase : ℕ) (m : Machine) (taken more : List Step)
    → lane_steps_from phase m (taken ++ more) ≡ lane_steps_from phase m taken ++ lane_steps_from (fold phase_after phase taken) (fold next m taken) more
lane-steps-append phase m [] more = refl
lane-steps-append phase m (step ∷ taken) more =
    ap (λ (l : List LaneStep). lane_steps_by phase m step ++ l) (lane-steps-append (phase_after phase step) (next m step) taken more)
    ∙ sym (append_assoc (lane_steps_by phase m step) (lane_steps_from (phase_after phase step) (next m step) taken) (lane_steps_from (fold phase_after phase (step ∷ taken)) (fold next m (step ∷ taken)) more))

pub phases-append : (phase : ℕ) (taken more : List Step) → commit_phases_from phase (taken ++ more) ≡ commit_phases_from phase taken ++ commit_phases_from (fold phase_after phase taken) more
phases-append phase [] more = refl
phases-append phase (step ∷ taken) more =
    ap (λ (l : List ℕ). commit_phase_by phase step ++ l) (phases-append (phase_after phase step) taken more)
    ∙ sym (append_assoc (commit_phase_by phase step) (commit_phases_from (phase_after phase step) taken) (commit_phases_from (fold phase_after phase (step ∷ taken)) more))

pub phases-of-more : (before : Before) (done : List RunLine) (ran : RunLine)
    → commit_phases_of before (done ++ ran ∷ []) ≡ commit_phases_of before done ++ replicate (commit_steps_in (after_lines before done) ran) ran.1.phase
phases-of-more before [] ran = append-nil (replicate (commit_steps_in before ran) ran.1.phase)
phases-of-more before (first ∷ done) ran =
    ap (λ (l : List ℕ). replicate (commit_steps_in before first) first.1.phase ++ l) (phases-of-more (after_line before first) done ran)
    ∙ sym (append_assoc (replicate (commit_steps_in before first) first.1.phase) (commit_phases_of (after_line before first) done) (replicate (commit_steps_in (after_lines (after_line before first) done) ran) ran.1.phase))

-- lines of lane 0 and of the others

pub zero-more : (lines : List RunLine) (ran : RunLine) → is_in_lane_zero ran ≡ true → lane_zero_lines (lines ++ ran ∷ []) ≡ lane_zero_lines lines ++ ran ∷ []
zero-more lines ran zero =
    filter-append is_in_lane_zero lines (ran ∷ []) ∙ ap (λ (b : Bool). lane_zero_lines lines ++ cond b (ran ∷ []) []) zero

pub zero-same : (lines : List RunLine) (ran : RunLine) → is_in_lane_zero ran ≡ false → lane_zero_lines (lines ++ ran ∷ []) ≡ lane_zero_lines lines
zero-same lines ran other =
    filter-append is_in_lane_zero lines (ran ∷ []) ∙ (ap (λ (b : Bool). lane_zero_lines lines ++ cond b (ran ∷ []) []) other ∙ append-nil (lane_zero_lines lines))

-- ---- the steps of one line

in-phase-commits : (phase : ℕ) (made : List Commit) → fold phase_after phase (flat_map commit_steps made) ≡ phase
in-phase-commits phase [] = refl
in-phase-commits phase (commit ∷ made) = in-phase-commits phase made

in-phase-flight : (phase : ℕ) (in_flight : List Commit) → fold phase_after phase (map begin_step in_flight) ≡ phase
in-phase-flight phase [] = refl
in-phase-flight phase (commit ∷ in_flight) = in-phase-flight phase in_flight

replicate-three : (phase n : ℕ) → phase ∷ phase ∷ phase ∷ replicate (3 * n) phase ≡ replicate (3 * (n + 1)) phase
replicate-three phase n =
    let more : 3 + 3 * n ≡ 3 * (n + 1) = omega arith in
    replicate-append-replicate 3 (3 * n) phase ∙ ap (λ (k : ℕ). replicate k phase) more

phases-commits : (phase : ℕ) (made : List Commit) → commit_phases_from phase (flat_map commit_steps made) ≡ replicate (3 * length made) phase
phases-commits phase [] = refl
phases-commits phase (commit ∷ made) =
    let longer : length made + 1 ≡ length (commit ∷ made) = omega arith in
    ap (λ (l : List ℕ). phase ∷ phase ∷ phase ∷ l) (phases-commits phase made) ∙ (replicate-three phase (length made) ∙ ap (λ (k : ℕ). replicate (3 * k) phase) longer)

phases-flight : (phase : ℕ) (in_flight : List Commit) → commit_phases_from phase (map begin_step in_flight) ≡ replicate (length in_flight) phase
phases-flight phase [] = refl
phases-flight phase (commit ∷ in_flight) = ap (λ (l : List ℕ). phase ∷ l) (phases-flight phase in_flight)

pub phases-replies : (phase : ℕ) (replies : List Replied) → commit_phases_from phase (map reply_step replies) ≡ []
phases-replies phase [] = refl
phases-replies phase (replied ∷ replies) = phases-replies phase replies

pub phases-line : (phase : ℕ) (made in_flight : List Commit) (replies : List Replied) → commit_phases_from phase (line_steps made in_flight replies) ≡ replicate (3 * length made + length in_flight) phase
phases-line phase made in_flight replies =
    let tail : commit_phases_from phase (map begin_step in_flight ++ map reply_step replies) ≡ replicate (length in_flight) phase =
    phases-append phase (map begin_step in_flight) (map reply_step replies)
    ∙ (ap (λ (n : ℕ). commit_phases_from phase (map begin_step in_flight) ++ commit_phases_from n (map reply_step replies)) (in-phase-flight phase in_flight)
    ∙ (ap (λ (l : List ℕ). commit_phases_from phase (map begin_step in_flight) ++ l) (phases-replies phase replies)
    ∙ (append-nil (commit_phases_from phase (map begin_step in_flight)) ∙ phases-flight phase in_flight))) in
    phases-append phase (flat_map commit_steps made) (map begin_step in_flight ++ map reply_step replies)
    ∙ (ap (λ (n : ℕ). commit_phases_from phase (flat_map commit_steps made) ++ commit_phases_from n (map begin_step in_flight ++ map reply_step replies)) (in-phase-commits phase made)
    ∙ (ap (λ (l : List ℕ). l ++ commit_phases_from phase (map begin_step in_flight ++ map reply_step replies)) (phases-commits phase made)
    ∙ (ap (λ (l : List ℕ). replicate (3 * length made) phase ++ l) tail ∙ replicate-append-replicate (3 * length made) (length in_flight) phase)))

-- how many they are, by the revisions before and after it
pub steps-in : (before : Before) (ran : RunLine) (made in_flight earlier start : ℕ) → before.revision ≡ start + earlier → ran.1.revision ≡ start + (earlier + made) → in_flight ≡ (if ran.1.disk_failed then 1 else 0)
    → 3 * made + in_flight ≡ commit_steps_in before ran
steps-in before ran made in_flight earlier start at after flight =
    let made_are : made ≡ ran.1.revision - before.revision = omega (arith, at, after) in
    ap (λ (n : ℕ). 3 * n + in_flight) made_are ∙ ap (λ (n : ℕ). 3 * (ran.1.revision - before.revision) + n) flight

-- ---- what a line's lane does is of its lane

of-asked : (line : ParsedLine) (phase lane revision : ℕ) (text : List ℕ) → AllByRecursion (λ (step : LaneStep). step.lane ≡ lane) (map (reply_in phase) (replied_where outcomes.Ok line lane revision text))
of-asked (asked.Request request) phase lane revision text = (refl, tt)
of-asked (asked.Usage word kind) phase lane revision text = tt

of-outcome : (outcome : Outcome) (line : ParsedLine) (phase lane revision : ℕ) (text : List ℕ) → AllByRecursion (λ (step : LaneStep). step.lane ≡ lane) (map (reply_in phase) (replied_where outcome line lane revision text))
of-outcome outcomes.Ok line phase lane revision text = of-asked line phase lane revision text
of-outcome (outcomes.Usage word kind) line phase lane revision text = tt
of-outcome (outcomes.BadQuery at kind) line phase lane revision text = tt
of-outcome (outcomes.BadDate at) line phase lane revision text = tt
of-outcome (outcomes.BadLine bad kind) line phase lane revision text = tt
of-outcome (outcomes.NotOne found) line phase lane revision text = tt
of-outcome (outcomes.Gone path) line phase lane revision text = tt
of-outcome outcomes.MailFault line phase lane revision text = tt
of-outcome outcomes.DiskFault line phase lane revision text = tt
of-outcome (outcomes.Closed fault) line phase lane revision text = tt
of-outcome (outcomes.Limit limit) line phase lane revision text = tt
of-outcome outcomes.NoMemory line phase lane revision text = tt

of-lane_answer : (zero : Bool) (phase lane revision : ℕ) (more : List LaneStep) → AllByRecursion (λ (step : LaneStep). step.lane ≡ lane) more
    → AllByRecursion (λ (step : LaneStep). step.lane ≡ lane) ((if zero then [] else lane_read_in phase lane revision ∷ []) ++ more)
of-lane_answer true phase lane revision more h = h
of-lane_answer false phase lane revision more h = (refl, h)

pub of-line : (ran : RunLine) → AllByRecursion (λ (step : LaneStep). step.lane ≡ ran.1.lane) (lane_steps_of ran)
of-line ran =
    of-lane_answer (is_in_lane_zero ran) ran.1.phase ran.1.lane ran.1.revision (map (reply_in ran.1.phase) (reply_to ran))
    (of-outcome ran.1.outcome (parse_line ran.0) ran.1.phase ran.1.lane ran.1.revision ran.1.text)

keep-or-drop : (b : Bool) (step : LaneStep) (more kept : List LaneStep) → kept ≡ (if b then more else []) → cond b (step ∷ kept) kept ≡ (if b then step ∷ more else [])
keep-or-drop true step more kept e = ap (λ (l : List LaneStep). step ∷ l) e
keep-or-drop false step more kept e = e

abbrev no-steps : List LaneStep
no-steps = []

none-either : (b : Bool) → no-steps ≡ (if b then no-steps else no-steps)
none-either true = refl
none-either false = refl

pub filter-lane : (lane who : ℕ) (done : List LaneStep) → AllByRecursion (λ (step : LaneStep). step.lane ≡ who) done → filter (is_of_lane lane) done ≡ (if who == lane then done else [])
filter-lane lane who [] h = none-either (who == lane)
filter-lane lane who (step ∷ more) h =
    ap (λ (n : ℕ). cond (n == lane) (step ∷ filter (is_of_lane lane) more) (filter (is_of_lane lane) more)) h.0
    ∙ keep-or-drop (who == lane) step more (filter (is_of_lane lane) more) (filter-lane lane who more h.1)

one-or-none : (b : Bool) (ran : RunLine) → (if b then lane_steps_of ran else []) ≡ flat_map lane_steps_of (cond b (ran ∷ []) [])
one-or-none true ran = sym (append-nil (lane_steps_of ran))
one-or-none false ran = refl

-- in each lane a line more is last
pub lane-more : (lane : ℕ) (done : List LaneStep) (lines : List RunLine) (ran : RunLine) → filter (is_of_lane lane) done ≡ flat_map lane_steps_of (filter (is_in_lane lane) lines)
    → filter (is_of_lane lane) (done ++ lane_steps_of ran) ≡ flat_map lane_steps_of (filter (is_in_lane lane) (lines ++ ran ∷ []))
lane-more lane done lines ran h =
    filter-append (is_of_lane lane) done (lane_steps_of ran)
    ∙ (ap (λ (l : List LaneStep). l ++ filter (is_of_lane lane) (lane_steps_of ran)) h
    ∙ (ap (λ (l : List LaneStep). flat_map lane_steps_of (filter (is_in_lane lane) lines) ++ l) (filter-lane lane ran.1.lane (lane_steps_of ran) (of-line ran) ∙ one-or-none (ran.1.lane == lane) ran)
    ∙ (sym (flat_map-append lane_steps_of (filter (is_in_lane lane) lines) (filter (is_in_lane lane) (ran ∷ [])))
    ∙ ap (flat_map lane_steps_of) (sym (filter-append (is_in_lane lane) lines (ran ∷ []))))))

-- a line of lane 0 has no read
pub zero-steps : (ran : RunLine) (phase : ℕ) → is_in_lane_zero ran ≡ true → ran.1.phase ≡ phase → map (reply_in phase) (reply_to ran) ≡ lane_steps_of ran
zero-steps ran phase zero at =
    ap (λ (n : ℕ). map (reply_in n) (reply_to ran)) (sym at)
    ∙ ap (λ (b : Bool). (if b then [] else lane_read_in ran.1.phase ran.1.lane ran.1.revision ∷ []) ++ map (reply_in ran.1.phase) (reply_to ran)) (sym zero)

-- and a line of another lane has one
pub other-steps : (ran : RunLine) (phase lane revision : ℕ) → is_in_lane_zero ran ≡ false → ran.1.phase ≡ phase → ran.1.lane ≡ lane → ran.1.revision ≡ revision
    → lane_read_in phase lane revision ∷ map (reply_in phase) (reply_to ran) ≡ lane_steps_of ran
other-steps ran phase lane revision other at who seen =
    ap (λ (n : ℕ). lane_read_in n lane revision ∷ map (reply_in n) (reply_to ran)) (sym at)
    ∙ (ap (λ (n : ℕ). lane_read_in ran.1.phase n revision ∷ map (reply_in ran.1.phase) (reply_to ran)) (sym who)
    ∙ (ap (λ (n : ℕ). lane_read_in ran.1.phase ran.1.lane n ∷ map (reply_in ran.1.phase) (reply_to ran)) (sym seen)
    ∙ ap (λ (b : Bool). (if b then [] else lane_read_in ran.1.phase ran.1.lane ran.1.revision ∷ []) ++ map (reply_in ran.1.phase) (reply_to ran)) (sym other)))
