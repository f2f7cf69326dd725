-- The lines of a lane, one by one, and how many there are. For the proofs of `first_lane`, `barrier` and `run_one`.
use Rattle.std.proofs.Common.{◌≡◌, ℕ, ◌+◌, ◌<◌, ◌==◌, Bool, true, false, cond, List, [], ◌∷◌, ◌++◌, drop, length, map, take, get_or, zero, suc, sym, ap, ◌∙◌, arith, append-nil, append_assoc}
use Rattle.std.proofs.lemmas.List.{drop_more, map-append, take_more}
use Rattle.std.proofs.lemmas.List.Elements.{filter-append}
use Rattle.std.specs.List.{flat_map, range_with_len}
use Rattle.nm_history.specs.Call.{lines_of_lane}
use Rattle.nm_lanes.specs.declared.script.Phase.{Phase}
use Rattle.nm_lanes.specs.declared.script.ScriptLine.{ScriptLine}
use Rattle.nm_phase.specs.Turns.{Meets, Planned, other_lanes, planned_line, planned_phase}

pub range-more : (first n : ℕ) → range_with_len first (n + 1) ≡ range_with_len first n ++ (first + n) ∷ []
range-more first zero = let same : first ≡ first + 0 = omega arith in ap (λ (k : ℕ). k ∷ []) same
range-more first (suc n) =
    let same : first + 1 + n ≡ first + suc n = omega arith in
    let longer : suc n + 1 ≡ suc (n + 1) = omega arith in
    ap (range_with_len first) longer
    ∙ ap (λ (l : List ℕ). first ∷ l) (range-more (first + 1) n ∙ ap (λ (k : ℕ). range_with_len (first + 1) n ++ k ∷ []) same)

pub own-more : (number lane : ℕ) (lines : List ScriptLine) (i : ℕ) (line : ScriptLine) → i < length lines → line ≡ get_or lines i line → (line.lane == lane) ≡ true
    → map (planned_line number) (lines_of_lane (take i lines) lane) ++ planned_line number line ∷ [] ≡ map (planned_line number) (lines_of_lane (take (i + 1) lines) lane)
own-more number lane lines i line within is own =
    let here : List ScriptLine → List ScriptLine = λ l. lines_of_lane l lane in
    let longer : here (take i lines) ++ line ∷ [] ≡ here (take (i + 1) lines) =
    ap (λ (b : Bool). here (take i lines) ++ cond b (line ∷ []) []) (sym own)
    ∙ (sym (filter-append (λ (l : ScriptLine). l.lane == lane) (take i lines) (line ∷ []))
    ∙ ap here (ap (λ (l : ScriptLine). take i lines ++ l ∷ []) is ∙ sym (take_more lines i line within))) in
    sym (map-append (planned_line number) (here (take i lines)) (line ∷ [])) ∙ ap (map (planned_line number)) longer

pub other-same : (lane : ℕ) (lines : List ScriptLine) (i : ℕ) (line : ScriptLine) → i < length lines → line ≡ get_or lines i line → (line.lane == lane) ≡ false
    → lines_of_lane (take i lines) lane ≡ lines_of_lane (take (i + 1) lines) lane
other-same lane lines i line within is other =
    let here : List ScriptLine → List ScriptLine = λ l. lines_of_lane l lane in
    sym (append-nil (here (take i lines)))
    ∙ (ap (λ (b : Bool). here (take i lines) ++ cond b (line ∷ []) []) (sym other)
    ∙ (sym (filter-append (λ (l : ScriptLine). l.lane == lane) (take i lines) (line ∷ []))
    ∙ ap here (ap (λ (l : ScriptLine). take i lines ++ l ∷ []) is ∙ sym (take_more lines i line within))))

pub own-left : (lane : ℕ) (lines : List ScriptLine) (i : ℕ) (line : ScriptLine) → i < length lines → line ≡ get_or lines i line → (line.lane == lane) ≡ true
    → length (lines_of_lane (drop i lines) lane) ≡ length (lines_of_lane (drop (i + 1) lines) lane) + 1
own-left lane lines i line within is own =
    let rest : List ScriptLine = drop (i + 1) lines in
    ap (λ (l : List ScriptLine). length (lines_of_lane l lane)) (drop_more lines i line within ∙ ap (λ (l : ScriptLine). l ∷ rest) (sym is))
    ∙ (ap (λ (b : Bool). length (cond b (line ∷ lines_of_lane rest lane) (lines_of_lane rest lane))) own ∙ omega arith)

pub other-left : (lane : ℕ) (lines : List ScriptLine) (i : ℕ) (line : ScriptLine) → i < length lines → line ≡ get_or lines i line → (line.lane == lane) ≡ false
    → length (lines_of_lane (drop i lines) lane) ≡ length (lines_of_lane (drop (i + 1) lines) lane)
other-left lane lines i line within is other =
    let rest : List ScriptLine = drop (i + 1) lines in
    ap (λ (l : List ScriptLine). length (lines_of_lane l lane)) (drop_more lines i line within ∙ ap (λ (l : ScriptLine). l ∷ rest) (sym is))
    ∙ ap (λ (b : Bool). length (cond b (line ∷ lines_of_lane rest lane) (lines_of_lane rest lane))) other

-- a phase is the lines of lane 0, those of the other lanes, and its end
pub phase-cut : (number : ℕ) (phase : Phase)
    → planned_phase number phase ≡ map (planned_line number) (lines_of_lane phase.lines 0) ++ (map (planned_line number) (flat_map (lines_of_lane phase.lines) other_lanes) ++ Meets ∷ [])
phase-cut number phase =
    let first : List ScriptLine = lines_of_lane phase.lines 0 in
    let others : List ScriptLine = flat_map (lines_of_lane phase.lines) other_lanes in
    ap (λ (l : List Planned). l ++ Meets ∷ []) (map-append (planned_line number) first others) ∙ append_assoc (map (planned_line number) first) (map (planned_line number) others) (Meets ∷ [])
