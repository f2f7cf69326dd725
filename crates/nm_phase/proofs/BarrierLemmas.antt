-- The lines of other lanes are noted, one after the other. For the proofs of `barrier`.
use Rattle.std.proofs.Common.{◌≡◌, ℕ, ℤ, ◌+◌, ◌-◌, ◌==◌, ◌<◌, ◌≤◌, true, None, List, [], ◌∷◌, ◌++◌, drop, get_or, inr, length, map, take, suc, refl, sym, ap, ◌∙◌, subst, arith, append-nil}
use Rattle.std.specs.List.{flat_map, range_with_len}
use Rattle.std.proofs.lemmas.Grind.{flat_map-append}
use Rattle.std.proofs.lemmas.List.{length-append, length-map, map-append}
use Rattle.nm_history.specs.Call.{lines_of_lane}
use Rattle.nm_history.specs.LineResult.{Place}
use Rattle.nm_lanes.specs.declared.script.ScriptLine.{ScriptLine}
use Rattle.nm_phase.specs.LaneLog.{IsLaneReadNoted}
use Rattle.nm_phase.specs.Taken.{AreTaken}
use Rattle.nm_trace.specs.ReservedLog.{HasSpare}
use Rattle.nm_phase.specs.Turns.{Planned, Runs, planned_line}
use Rattle.nm_trace.specs.declared.reserved_log.ReservedLog.{ReservedLog}
use Rattle.nm_trace.specs.SpareLaws.{spare-fewer}
use Rattle.nm_phase.proofs.TakenLemmas.{spare-all, taken-append, taken-one}
use Rattle.nm_phase.proofs.LaneLemmas.{own-left, own-more, range-more}
use Rattle.nm_writer.specs.Writer.{WriterState}

pub lane_read-spare : (begun lane : ℕ) (lines : List ScriptLine) (at : ℕ) (line : ScriptLine) (reserved : ReservedLog) → at < length lines → line ≡ get_or lines at line → (line.lane == lane) ≡ true
    → HasSpare (length (lines_of_lane (drop at lines) lane)) begun reserved → HasSpare 1 begun reserved
lane_read-spare begun lane lines at line reserved within is own spare =
    spare-fewer (length (lines_of_lane (drop at lines) lane)) 1 begun reserved (omega (arith, own-left lane lines at line within is own)) spare

-- a line more of a lane
pub record LaneReadTaken (moment : ℤ) (phase : ℕ) (writer : WriterState) (lane : ℕ) (lines : List ScriptLine) (at : ℕ) (first after : ReservedLog) : Type 0 where
  pub spare : HasSpare (length (lines_of_lane (drop (at + 1) lines) lane)) (length writer.begun) after
  pub taken : (place : Place) → place.writer ≡ writer → AreTaken moment (map (planned_line phase) (lines_of_lane (take (at + 1) lines) lane)) place first after place

spare-lane_read : (moment : ℤ) (phase turns begun : ℕ) (writer : WriterState) (line : ScriptLine) (before after : ReservedLog) → HasSpare (turns + 1) begun before → IsLaneReadNoted moment phase writer line before after → HasSpare turns begun after
spare-lane_read moment phase turns begun writer line before after h lane_read = record {
  logs = omega (arith, h.logs, lane_read.noted.logs_spare);
  marks = omega (arith, h.marks, lane_read.noted.marks_spare);
  fallbacks = omega (arith, h.fallbacks, lane_read.noted.fallbacks);
  texts = lane_read.noted.texts;
}

pub lane_read-taken : (moment : ℤ) (phase : ℕ) (writer : WriterState) (lane : ℕ) (lines : List ScriptLine) (at : ℕ) (line : ScriptLine) (first before after : ReservedLog) → at < length lines → line ≡ get_or lines at line
    → (line.lane == lane) ≡ true → 1 ≤ line.lane → IsLaneReadNoted moment phase writer line before after → HasSpare (length (lines_of_lane (drop at lines) lane)) (length writer.begun) before
    → ((place : Place) → place.writer ≡ writer → AreTaken moment (map (planned_line phase) (lines_of_lane (take at lines) lane)) place first before place) → LaneReadTaken moment phase writer lane lines at first after
lane_read-taken moment phase writer lane lines at line first before after within is own another lane_read spare taken = record {
  spare = spare-lane_read moment phase (length (lines_of_lane (drop (at + 1) lines) lane)) (length writer.begun) writer line before after
      (subst (λ (n : ℕ). HasSpare n (length writer.begun) before) (own-left lane lines at line within is own) spare) lane_read;
  taken = λ place here.
      subst (λ (l : List Planned). AreTaken moment l place first after place) (own-more phase lane lines at line within is own)
      (taken-append moment (map (planned_line phase) (lines_of_lane (take at lines) lane)) (Runs phase line ∷ []) place place place first before after (taken place here)
      (taken-one moment (Runs phase line) place place before after
      (inr (another, subst (λ (w : WriterState). IsLaneReadNoted moment phase w line before after) (sym here) lane_read, refl))));
}

-- ---- the lanes, one by one

abbrev from-lane : List ScriptLine → ℕ → List ScriptLine
from-lane lines lane = flat_map (lines_of_lane lines) (range_with_len lane (16 - lane))

next-lane : (lines : List ScriptLine) (lane : ℕ) → lane < 16 → from-lane lines lane ≡ lines_of_lane lines lane ++ from-lane lines (lane + 1)
next-lane lines lane within =
    let one : 16 - lane ≡ suc (16 - (lane + 1)) = omega (arith, within) in
    ap (λ (n : ℕ). flat_map (lines_of_lane lines) (range_with_len lane n)) one

pub lane-spare : (begun : ℕ) (lines : List ScriptLine) (lane : ℕ) (reserved : ReservedLog) → lane < 16 → HasSpare (length (from-lane lines lane)) begun reserved → HasSpare (length (lines_of_lane lines lane)) begun reserved
lane-spare begun lines lane reserved within spare =
    spare-fewer (length (from-lane lines lane)) (length (lines_of_lane lines lane)) begun reserved
    (omega (arith, ap length (next-lane lines lane within), length-append (lines_of_lane lines lane) (from-lane lines (lane + 1)))) spare

pub lane-left : (moment : ℤ) (phase : ℕ) (lines : List ScriptLine) (lane : ℕ) (place : Place) (before after : ReservedLog) → lane < 16 → HasSpare (length (from-lane lines lane)) (length place.writer.begun) before
    → AreTaken moment (map (planned_line phase) (lines_of_lane lines lane)) place before after place → HasSpare (length (from-lane lines (lane + 1))) (length place.writer.begun) after
lane-left moment phase lines lane place before after within spare taken =
    let own : List ScriptLine = lines_of_lane lines lane in
    let rest : List ScriptLine = from-lane lines (lane + 1) in
    spare-all moment (length rest) (map (planned_line phase) own) place place before after
    (spare-fewer (length (from-lane lines lane)) (length rest + length (map (planned_line phase) own)) (length place.writer.begun) before
    (omega (arith, ap length (next-lane lines lane within), length-append own rest, length-map own (planned_line phase))) spare) taken

pub lane-taken : (moment : ℤ) (phase : ℕ) (lines : List ScriptLine) (lane : ℕ) (place : Place) (first before after : ReservedLog) → 1 ≤ lane
    → AreTaken moment (map (planned_line phase) (flat_map (lines_of_lane lines) (range_with_len 1 (lane - 1)))) place first before place
    → AreTaken moment (map (planned_line phase) (lines_of_lane lines lane)) place before after place
    → AreTaken moment (map (planned_line phase) (flat_map (lines_of_lane lines) (range_with_len 1 (lane + 1 - 1)))) place first after place
lane-taken moment phase lines lane place first before after least so_far taken =
    let done : List ScriptLine = flat_map (lines_of_lane lines) (range_with_len 1 (lane - 1)) in
    let n : lane + 1 - 1 ≡ lane - 1 + 1 = omega (arith, least) in
    let here : 1 + (lane - 1) ≡ lane = omega (arith, least) in
    let longer : done ++ lines_of_lane lines lane ≡ flat_map (lines_of_lane lines) (range_with_len 1 (lane + 1 - 1)) =
    ap (λ (l : List ScriptLine). done ++ l) (sym (append-nil (lines_of_lane lines lane)))
    ∙ (ap (λ (k : ℕ). done ++ flat_map (lines_of_lane lines) (k ∷ [])) (sym here)
    ∙ (sym (flat_map-append (lines_of_lane lines) (range_with_len 1 (lane - 1)) ((1 + (lane - 1)) ∷ []))
    ∙ ap (flat_map (lines_of_lane lines)) (sym (range-more 1 (lane - 1)) ∙ ap (range_with_len 1) (sym n)))) in
    subst (λ (l : List Planned). AreTaken moment l place first after place) (sym (map-append (planned_line phase) done (lines_of_lane lines lane)) ∙ ap (map (planned_line phase)) longer)
    (taken-append moment (map (planned_line phase) done) (map (planned_line phase) (lines_of_lane lines lane)) place place place first before after so_far taken)

-- some place of a writer
abbrev pub any-place : WriterState → Place
any-place writer = record { writer = writer; mail = record { tree = None; reads = None; faults = 0 }; disk_faults = 0; left = 0 }
