-- What the lanes other than 0 see of a phase. Cited by `reads`, `barrier` and `phases`.
use Rattle.std.specs.Prelude.{◌≡◌, ℕ, ℤ, ◌+◌, List, Some, slice_get}
use Rattle.std.specs.List.{AllByRecursion}
use Rattle.logbook.specs.Pages.{Book}
use Rattle.nm_lanes.specs.declared.script.Phase.{Phase}
use Rattle.nm_lanes.specs.declared.script.ScriptLine.{ScriptLine}
use Rattle.nm_publish.specs.Published.{GoesOn, Published, index_of}
use Rattle.nm_line.specs.LaneRead.{IsAnswerOn}
use Rattle.nm_trace.specs.Trace.{IsPlaceOf}
use Rattle.nm_trace.specs.declared.trace.Mark.{Mark}
use Rattle.nm_phase.specs.declared.reader_lane.ReaderLane.{ReaderLane}
use Rattle.nm_phase.specs.declared.reader_lane.Observation.{Observation}

-- the line was answered on what was published so far
pub record IsSeen (moment : ℤ) (line : ScriptLine) (saw : Published) (observation : Observation) : Type 0 where
  pub revision : observation.revision ≡ (index_of saw).revision
  pub answer : IsAnswerOn moment (index_of saw) line observation.answered

-- A line of these was answered on what was published up to some moment, which begins what is known.
pub record IsObservation (moment : ℤ) (lines : List ScriptLine) (known : Published) (observation : Observation) : Type 0 where
  pub line : ScriptLine
  pub is_line : slice_get lines observation.at ≡ Some line
  pub saw : Published
  pub before : GoesOn saw known
  pub seen : IsSeen moment line saw observation

abbrev pub AreObservations : ℤ → List ScriptLine → Published → List Observation → Type 0
AreObservations moment lines known observations = AllByRecursion (IsObservation moment lines known) observations

-- A lane has run its lines of the next phase.
pub record HasSeen (before after : ReaderLane) : Type 0 where
  pub moment : after.setting.now.moment ≡ before.setting.now.moment
  pub phases : after.phases.now ≡ before.phases.now
  pub book : after.reader.book ≡ before.reader.book
  pub next : (phase : Phase) → slice_get before.phases.now before.at ≡ Some phase
      → (after.at ≡ before.at + 1) × AreObservations before.setting.now.moment phase.lines after.reader after.observations

-- A lane runs the phase of this number next, and its reader reads the list of that book.
pub record IsLaneAt (moment : ℤ) (phases : List Phase) (number : ℕ) (book : Book) (lane : ReaderLane) : Type 0 where
  pub moment_is : lane.setting.now.moment ≡ moment
  pub phases_are : lane.phases.now ≡ phases
  pub next_is : lane.at ≡ number
  pub book_is : lane.reader.book ≡ book

-- ---- what is done with them

-- the reader of the lane reads the list of that book, and the lane has seen these lines
pub record HasAnswered (moment : ℤ) (lines : List ScriptLine) (book : Book) (lane : ReaderLane) : Type 0 where
  pub book_is : lane.reader.book ≡ book
  pub observations : AreObservations moment lines lane.reader lane.observations

-- where it is of the line at this place, the line was answered on what was published up to some moment; of that and of all that is shown one
-- begins the other
pub record MayBeOf (moment : ℤ) (at : ℕ) (line : ScriptLine) (shown : Published) (observation : Observation) : Type 0 where
  pub known : Published
  pub goes_on : GoesOn shown known
  pub saw : Published
  pub before : GoesOn saw known
  pub seen : observation.at ≡ at → IsSeen moment line saw observation

-- what is known of them begins with what was published, or goes on from it
pub record AreKnown (moment : ℤ) (lines : List ScriptLine) (shown : Published) (observations : List Observation) : Type 0 where
  pub known : Published
  pub goes_on : GoesOn shown known
  pub sights_are : AreObservations moment lines known observations

-- the lane is as it was, but for what it saw and learned
pub record KeepsLane (before after : ReaderLane) : Type 0 where
  pub moment : after.setting.now.moment ≡ before.setting.now.moment
  pub phases : after.phases.now ≡ before.phases.now
  pub next : after.at ≡ before.at
  pub book : after.reader.book ≡ before.reader.book

-- the observation is of the line at this place, and where it saw no more than this revision its read has this place in the
-- marks
pub record IsSeenAt (at lane : ℕ) (marks : List Mark) (now : ℕ) (observation : Observation) (place : ℕ) : Type 0 where
  pub at_is : observation.at ≡ at
  pub behind : ℕ
  pub revision : observation.revision + behind ≡ now
  pub has_place : IsPlaceOf lane behind marks place
