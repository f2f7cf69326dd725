-- The turns of phases: their lines, how many phases end with them, and where each line is.
-- For the proofs of `phases`, `plan` and `session`.
use Rattle.std.proofs.Common.{◌≡◌, ℕ, ◌+◌, ◌<◌, ◌==◌, Bool, true, false, cond, not, List, [], ◌∷◌, ◌++◌, ◌≤◌, Some, drop, filter, length, map, slice_get, take, get_or, zero, suc, refl, sym, ap, ◌∙◌, subst, arith, append-nil, append_assoc}
use Rattle.std.proofs.lemmas.Bool.{eqb-true}
use Rattle.std.proofs.lemmas.Bool.Decides.{nat_tests}
use Rattle.std.proofs.lemmas.Grind.{flat_map-append}
use Rattle.std.proofs.lemmas.List.{drop_more, length-append, length-map, take_more}
use Rattle.std.specs.List.{AllByRecursion, flat_map, range_with_len}
use Rattle.nm_history.specs.Call.{PlacedLine, lines_by_lane, lines_of_lane, placed_from, placed_in}
use Rattle.nm_history.specs.MachineRun.{lane_count}
use Rattle.nm_lanes.specs.declared.script.Phase.{Phase}
use Rattle.nm_lanes.specs.declared.script.ScriptLine.{ScriptLine}
use Rattle.nm_phase.specs.Turns.{Meets, Planned, Runs, planned_line, planned_phase}
use Rattle.nm_session.specs.Turns.{AreInPlace, ends_in, line_in, lines_in, places_in, planned_from}

-- the lines of a phase, and of phases

mapped-lines : (number : ℕ) (lines : List ScriptLine) → lines_in (map (planned_line number) lines) ≡ map (placed_in number) lines
mapped-lines number [] = refl
mapped-lines number (line ∷ lines) = ap (λ (l : List PlacedLine). (number, line) ∷ l) (mapped-lines number lines)

phase-lines : (number : ℕ) (phase : Phase) → lines_in (planned_phase number phase) ≡ map (placed_in number) (lines_by_lane phase)
phase-lines number phase =
    flat_map-append line_in (map (planned_line number) (lines_by_lane phase)) (Meets ∷ [])
    ∙ (append-nil (lines_in (map (planned_line number) (lines_by_lane phase))) ∙ mapped-lines number (lines_by_lane phase))

pub lines-planned : (number : ℕ) (phases : List Phase) → lines_in (planned_from number phases) ≡ placed_from number phases
lines-planned number [] = refl
lines-planned number (phase ∷ more) =
    flat_map-append line_in (planned_phase number phase) (planned_from (number + 1) more)
    ∙ (ap (λ (l : List PlacedLine). l ++ lines_in (planned_from (number + 1) more)) (phase-lines number phase)
    ∙ ap (λ (l : List PlacedLine). map (placed_in number) (lines_by_lane phase) ++ l) (lines-planned (number + 1) more))

-- how many phases end

ends-before : (number : ℕ) (lines : List ScriptLine) (more : List Planned) → ends_in (map (planned_line number) lines ++ more) ≡ ends_in more
ends-before number [] more = refl
ends-before number (line ∷ lines) more = ends-before number lines more

pub ends-planned : (number : ℕ) (phases : List Phase) → ends_in (planned_from number phases) ≡ length phases
ends-planned number [] = refl
ends-planned number (phase ∷ more) =
    let rest : ends_in (planned_from (number + 1) more) ≡ length more = ends-planned (number + 1) more in
    ap ends_in (append_assoc (map (planned_line number) (lines_by_lane phase)) (Meets ∷ []) (planned_from (number + 1) more))
    ∙ (ends-before number (lines_by_lane phase) (Meets ∷ planned_from (number + 1) more) ∙ omega (arith, rest))

-- where the lines are

abbrev AreThere : List ScriptLine → Type 0
AreThere lines = AllByRecursion (λ (line : ScriptLine). line.lane < lane_count) lines

there-append : (lines more : List ScriptLine) → AreThere lines → AreThere more → AreThere (lines ++ more)
there-append [] more h k = k
there-append (line ∷ lines) more h k = (h.0, there-append lines more h.1 k)

there-or : (b : Bool) (line : ScriptLine) (kept : List ScriptLine) → (b ≡ true → line.lane < lane_count) → AreThere kept → AreThere (cond b (line ∷ kept) kept)
there-or true line kept is h = (is refl, h)
there-or false line kept is h = h

of-lane-there : (lines : List ScriptLine) (lane : ℕ) → lane < lane_count → AreThere (lines_of_lane lines lane)
of-lane-there [] lane within = tt
of-lane-there (line ∷ lines) lane within =
    there-or (line.lane == lane) line (lines_of_lane lines lane) (λ same. let is : line.lane ≡ lane = eqb-true line.lane lane same in omega (arith, is, within)) (of-lane-there lines lane within)

by-lane-there : (lines : List ScriptLine) (first n : ℕ) → first + n < lane_count + 1 → AreThere (flat_map (lines_of_lane lines) (range_with_len first n))
by-lane-there lines first zero within = tt
by-lane-there lines first (suc n) within =
    there-append (lines_of_lane lines first) (flat_map (lines_of_lane lines) (range_with_len (first + 1) n)) (of-lane-there lines first (omega (arith, within))) (by-lane-there lines (first + 1) n (omega (arith, within)))

place-lines : (number : ℕ) (lines : List ScriptLine) (more : List Planned) → AreThere lines → AreInPlace number more → AreInPlace number (map (planned_line number) lines ++ more)
place-lines number [] more h k = k
place-lines number (line ∷ lines) more h k = (refl, h.0, place-lines number lines more h.1 k)

pub in-place : (number : ℕ) (phases : List Phase) → AreInPlace number (planned_from number phases)
in-place number [] = tt
in-place number (phase ∷ more) =
    subst (AreInPlace number) (sym (append_assoc (map (planned_line number) (lines_by_lane phase)) (Meets ∷ []) (planned_from (number + 1) more)))
    (place-lines number (lines_by_lane phase) (Meets ∷ planned_from (number + 1) more) (by-lane-there phase.lines 0 16 (omega arith)) (in-place (number + 1) more))

-- the next turn is in its phase
abbrev pub IsNext : ℕ → List Planned → Planned → Type 0
IsNext number front (Runs phase line) = (phase ≡ number + ends_in front) × (line.lane < lane_count)
IsNext number front Meets = Unit {0}

next-first : (number : ℕ) (turn : Planned) (more : List Planned) → AreInPlace number (turn ∷ more) → IsNext number [] turn
next-first number (Runs phase line) more h = (omega (arith, h.0), h.1)
next-first number Meets more h = tt

next-line : (number phase : ℕ) (line : ScriptLine) (front : List Planned) (turn : Planned) → IsNext number front turn → IsNext number (Runs phase line ∷ front) turn
next-line number phase line front (Runs other next) h = h
next-line number phase line front Meets h = tt

next-meet : (number : ℕ) (front : List Planned) (turn : Planned) → IsNext (number + 1) front turn → IsNext number (Meets ∷ front) turn
next-meet number front (Runs phase line) h = (omega (arith, h.0), h.1)
next-meet number front Meets h = tt

pub next-of : (number : ℕ) (front : List Planned) (turn : Planned) (back : List Planned) → AreInPlace number (front ++ turn ∷ back) → IsNext number front turn
next-of number [] turn back h = next-first number turn back h
next-of number (Runs phase line ∷ front) turn back h = next-line number phase line front turn (next-of number front turn back h.2)
next-of number (Meets ∷ front) turn back h = next-meet number front turn (next-of (number + 1) front turn back h)

-- ---- how the turns are made

pub planned-more : (number : ℕ) (phases : List Phase) (phase : Phase) → planned_from number (phases ++ phase ∷ []) ≡ planned_from number phases ++ planned_phase (number + length phases) phase
planned-more number [] phase =
    let same : number ≡ number + 0 = omega arith in
    append-nil (planned_phase number phase) ∙ ap (λ (n : ℕ). planned_phase n phase) same
planned-more number (first ∷ phases) phase =
    let same : number + 1 + length phases ≡ number + length (first ∷ phases) = omega arith in
    ap (λ (l : List Planned). planned_phase number first ++ l) (planned-more (number + 1) phases phase ∙ ap (λ (n : ℕ). planned_from (number + 1) phases ++ planned_phase n phase) same)
    ∙ sym (append_assoc (planned_phase number first) (planned_from (number + 1) phases) (planned_phase (number + length (first ∷ phases)) phase))

-- the lines of a lane, one by one

-- how many are left

-- phases, one by one

pub take-within : {X : Type 0} (i : ℕ) (xs : List X) → i ≤ length xs → length (take i xs) ≡ i
take-within zero xs within = refl
take-within (suc i) [] within = absurd (omega (arith, within))
take-within (suc i) (x ∷ xs) within = ap suc (take-within i xs (omega (arith, within)))

take-len : {X : Type 0} (xs : List X) (i : ℕ) → i < length xs → length (take i xs) ≡ i
take-len [] i within = absurd (omega (arith, within))
take-len (x ∷ xs) zero within = refl
take-len (x ∷ xs) (suc i) within = ap suc (take-len xs i (omega (arith, within)))

pub phase-more : (before after : List Planned) (phases : List Phase) (i : ℕ) (phase : Phase) → i < length phases → phase ≡ get_or phases i phase
    → before ≡ planned_from 0 (take i phases) → after ≡ before ++ planned_phase i phase → after ≡ planned_from 0 (take (i + 1) phases)
phase-more before after phases i phase within is so_far added =
    let long : 0 + length (take i phases) ≡ i = omega (arith, take-len phases i within) in
    added
    ∙ (ap (λ (l : List Planned). l ++ planned_phase i phase) so_far
    ∙ (ap (λ (n : ℕ). planned_from 0 (take i phases) ++ planned_phase n phase) (sym long)
    ∙ (sym (planned-more 0 (take i phases) phase)
    ∙ ap (planned_from 0) (ap (λ (p : Phase). take i phases ++ p ∷ []) is ∙ sym (take_more phases i phase within)))))

-- ---- how many turns there are

-- the lines of other lanes than this one
abbrev apart : ℕ → List ScriptLine → List ScriptLine
apart lane lines = filter (λ (line : ScriptLine). not (line.lane == lane)) lines

split-cond : (b : Bool) (line : ScriptLine) (own other : List ScriptLine) → length (cond b (line ∷ own) own) + length (cond (not b) (line ∷ other) other) ≡ length own + length other + 1
split-cond true line own other = omega arith
split-cond false line own other = omega arith

split-lines : (lane : ℕ) (lines : List ScriptLine) → length (lines_of_lane lines lane) + length (apart lane lines) ≡ length lines
split-lines lane [] = omega arith
split-lines lane (line ∷ lines) = omega (arith, split-cond (line.lane == lane) line (lines_of_lane lines lane) (apart lane lines), split-lines lane lines)

apart-keeps : (b c : Bool) (line : ScriptLine) (lane : ℕ) (rest kept : List ScriptLine) → (line.lane == lane) ≡ c → (b ≡ true → c ≡ false) → lines_of_lane rest lane ≡ lines_of_lane kept lane
    → cond c (line ∷ lines_of_lane rest lane) (lines_of_lane rest lane) ≡ lines_of_lane (cond (not b) (line ∷ kept) kept) lane
apart-keeps true c line lane rest kept is clash same = ap (λ (d : Bool). cond d (line ∷ lines_of_lane rest lane) (lines_of_lane rest lane)) (clash refl) ∙ same
apart-keeps false c line lane rest kept is clash same =
    ap (λ (l : List ScriptLine). cond c (line ∷ l) l) same ∙ ap (λ (d : Bool). cond d (line ∷ lines_of_lane kept lane) (lines_of_lane kept lane)) (sym is)

clashes : (own lane first : ℕ) → first < lane → (own == first) ≡ true → (own == lane) ≡ false
clashes own lane first later is = let same : own ≡ first = eqb-true own first is in grind (arith, nat_tests, same, later)

of-apart : (first lane : ℕ) (lines : List ScriptLine) → first < lane → lines_of_lane lines lane ≡ lines_of_lane (apart first lines) lane
of-apart first lane [] later = refl
of-apart first lane (line ∷ lines) later =
    apart-keeps (line.lane == first) (line.lane == lane) line lane lines (apart first lines) refl (clashes line.lane lane first later) (of-apart first lane lines later)

all-apart : (first from n : ℕ) (lines : List ScriptLine) → first < from → flat_map (lines_of_lane lines) (range_with_len from n) ≡ flat_map (lines_of_lane (apart first lines)) (range_with_len from n)
all-apart first from zero lines later = refl
all-apart first from (suc n) lines later =
    ap (λ (l : List ScriptLine). l ++ flat_map (lines_of_lane lines) (range_with_len (from + 1) n)) (of-apart first from lines later)
    ∙ ap (λ (l : List ScriptLine). lines_of_lane (apart first lines) from ++ l) (all-apart first (from + 1) n lines (omega (arith, later)))

lanes-within : (from n : ℕ) (lines : List ScriptLine) → length (flat_map (lines_of_lane lines) (range_with_len from n)) ≤ length lines
lanes-within from zero lines = omega arith
lanes-within from (suc n) lines =
    let later : from < from + 1 = omega arith in
    omega (
      arith,
      length-append (lines_of_lane lines from) (flat_map (lines_of_lane lines) (range_with_len (from + 1) n)),
      ap length (all-apart from (from + 1) n lines later),
      lanes-within (from + 1) n (apart from lines),
      split-lines from lines,
    )

pub phase-within : (number : ℕ) (phase : Phase) → length (planned_phase number phase) ≤ length phase.lines + 1
phase-within number phase =
    omega (arith, length-append (map (planned_line number) (lines_by_lane phase)) (Meets ∷ []), length-map (lines_by_lane phase) (planned_line number), lanes-within 0 16 phase.lines)

pub planned-within : (number : ℕ) (phases : List Phase) → length (planned_from number phases) ≤ places_in phases
planned-within number [] = omega arith
planned-within number (phase ∷ more) =
    omega (arith, length-append (planned_phase number phase) (planned_from (number + 1) more), phase-within number phase, planned-within (number + 1) more)

pub places-cut : (count : ℕ) (phases : List Phase) → places_in (take count phases) ≤ places_in phases
places-cut zero phases = omega arith
places-cut (suc count) [] = omega arith
places-cut (suc count) (phase ∷ more) = omega (arith, places-cut count more)

pub places-more : (phases : List Phase) (i : ℕ) (phase : Phase) → i < length phases → phase ≡ get_or phases i phase → places_in (take (i + 1) phases) ≡ places_in (take i phases) + length phase.lines + 1
places-more [] i phase within is = absurd (omega (arith, within))
places-more (first ∷ phases) zero phase within is = omega (arith, ap (λ (p : Phase). length p.lines) is)
places-more (first ∷ phases) (suc i) phase within is =
    let longer : suc i + 1 ≡ suc (i + 1) = omega arith in
    ap (λ (n : ℕ). places_in (take n (first ∷ phases))) longer ∙ omega (arith, places-more phases i phase (omega (arith, within)) is)

pub places-left : (phases : List Phase) (i : ℕ) (phase : Phase) → i < length phases → phase ≡ get_or phases i phase → places_in (drop i phases) ≡ length phase.lines + 1 + places_in (drop (i + 1) phases)
places-left phases i phase within is = ap places_in (drop_more phases i phase within) ∙ ap (λ (p : Phase). length p.lines + 1 + places_in (drop (i + 1) phases)) (sym is)

pub get-some : {X : Type 0} (xs : List X) (i : ℕ) → i < length xs → (x : X) × (slice_get xs i ≡ Some x) × (x ≡ get_or xs i x)
get-some [] i within = absurd (omega (arith, within))
get-some (x ∷ xs) zero within = (x, refl, refl)
get-some (x ∷ xs) (suc i) within = get-some xs i (omega (arith, within))

-- the lines of the first phases are the first of all
pub placed-cut : (number count : ℕ) (phases : List Phase) → (more : List PlacedLine) × (placed_from number phases ≡ placed_from number (take count phases) ++ more)
placed-cut number zero phases = (placed_from number phases, refl)
placed-cut number (suc count) [] = ([], refl)
placed-cut number (suc count) (phase ∷ more) =
    let rest = placed-cut (number + 1) count more in (
      rest.0,
      ap (λ (l : List PlacedLine). map (placed_in number) (lines_by_lane phase) ++ l) rest.1
          ∙ sym (append_assoc (map (placed_in number) (lines_by_lane phase)) (placed_from (number + 1) (take count more)) rest.0),
    )
