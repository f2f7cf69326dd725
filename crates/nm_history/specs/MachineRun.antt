-- The log is a run of the machine of commits and replies: each read and each reply is in it in the phase and at the revision of its line,
-- those of one lane in the order of its lines, and each commit in the phase of its line.
-- Cited by `lane_zero_laws`, `nm_session` and `nm_top`.
use Rattle.std.specs.Prelude.{◌≡◌, ℕ, ℤ, ◌+◌, ◌-◌, ◌*◌, ◌==◌, Bool, true, false, List, [], ◌∷◌, ◌++◌, Option, None, Some, filter, fold, length, map, slice_index, slice_set, replicate, if◌then◌else◌}
use Rattle.std.specs.List.{AllByRecursion, flat_map}
use Rattle.nm_model_answer.specs.declared.request.Request.{Request}
use Rattle.nm_commit.specs.declared.change.Commit.{Commit}
use Rattle.nm_model_index.specs.declared.base.Base.{Base}
use Rattle.nm_log.specs.ParsedLine.{parse_line}
use Rattle.nm_log.specs.declared.line_parser.ParsedLine.{ParsedLine}
use Rattle.nm_log.specs.declared.line_parser.ParsedLine.TheVariants as asked
use Rattle.nm_log.specs.declared.outcome.Outcome.{Outcome}
use Rattle.nm_log.specs.declared.outcome.Outcome.TheVariants as outcomes
use Rattle.nm_model_machine.specs.Machine as machine
use Rattle.nm_model_machine.specs.Machine.{Machine, commits_in_flight}
use Rattle.nm_model_machine.specs.declared.step.Step.{Step}
use Rattle.nm_model_machine.specs.declared.step.Step.TheVariants.{Begin, Append, Show, See, Meet, Reply, Crash, Reopen}
use Rattle.nm_history.specs.Lines.{Before, RunLine, after_line, after_lines, begun, lane_zero_lines, is_in_lane_zero}

-- lanes 0 to 15
abbrev pub lane_count : ℕ
lane_count = 16

-- a reply: its lane, the revision that the lane saw, what was asked, and the text
pub record Replied : Type 0 where
  pub lane : ℕ
  pub revision : ℕ
  pub request : Request
  pub text : List ℕ

-- the state after a step
abbrev pub next : Machine → Step → Machine
next m (Begin commit) = record m { in_flight = Some commit }
next m Append = record m { commits = m.commits ++ commits_in_flight m.in_flight; in_flight = None }
next m Show = record m { shown = length m.commits; lanes = slice_set m.lanes 0 (length m.commits) }
next m (See lane) = record m { lanes = slice_set m.lanes lane m.shown }
next m Meet = record m { lanes = replicate (length m.lanes) m.shown }
next m (Reply lane request text) = m
next m (Crash kept) = record m { up = false }
next m Reopen = record m { up = true }

-- ---- phases

-- a phase ends at a barrier of all lanes
abbrev pub phase_after : ℕ → Step → ℕ
phase_after phase (Begin commit) = phase
phase_after phase Append = phase
phase_after phase Show = phase
phase_after phase (See lane) = phase
phase_after phase Meet = phase + 1
phase_after phase (Reply lane request text) = phase
phase_after phase (Crash kept) = phase
phase_after phase Reopen = phase

-- how many phases have ended with these steps
abbrev pub phases_met : List Step → ℕ
phases_met steps = fold phase_after 0 steps

-- ---- what lanes do

-- In a phase a lane reads, and sees this revision; or it replies at it.
pub record LaneStep : Type 0 where
  pub phase : ℕ
  pub lane : ℕ
  pub revision : ℕ
  pub said : Option (Request × List ℕ)

-- it reads
abbrev pub lane_read_in : ℕ → ℕ → ℕ → LaneStep
lane_read_in number who seen = record { phase = number; lane = who; revision = seen; said = None }

-- or it replies
abbrev pub reply_in : ℕ → Replied → LaneStep
reply_in number replied = record { phase = number; lane = replied.lane; revision = replied.revision; said = Some (replied.request, replied.text) }

-- what a step is of it, taken in this phase
abbrev pub lane_steps_by : ℕ → Machine → Step → List LaneStep
lane_steps_by phase m (Begin commit) = []
lane_steps_by phase m Append = []
lane_steps_by phase m Show = []
lane_steps_by phase m (See lane) = lane_read_in phase lane (m.opening.revision + m.shown) ∷ []
lane_steps_by phase m Meet = []
lane_steps_by phase m (Reply lane request text) =
    reply_in phase (record { lane = lane; revision = m.opening.revision + slice_index m.lanes lane; request = request; text = text }) ∷ []
lane_steps_by phase m (Crash kept) = []
lane_steps_by phase m Reopen = []

-- along steps from this phase and state on
abbrev pub lane_steps_from : ℕ → Machine → List Step → List LaneStep
lane_steps_from phase m [] = []
lane_steps_from phase m (step ∷ steps) = lane_steps_by phase m step ++ lane_steps_from (phase_after phase step) (next m step) steps

-- ---- what lines ask for

-- what is replied to a request
abbrev pub replied_to : ParsedLine → ℕ → ℕ → List ℕ → List Replied
replied_to (asked.Request request) lane revision text = record { lane = lane; revision = revision; request = request; text = text } ∷ []
replied_to (asked.Usage word kind) lane revision text = []

-- a line is replied to where it went well
abbrev pub replied_where : Outcome → ParsedLine → ℕ → ℕ → List ℕ → List Replied
replied_where outcomes.Ok line lane revision text = replied_to line lane revision text
replied_where (outcomes.Usage word kind) line lane revision text = []
replied_where (outcomes.BadQuery at kind) line lane revision text = []
replied_where (outcomes.BadDate at) line lane revision text = []
replied_where (outcomes.BadLine bad kind) line lane revision text = []
replied_where (outcomes.NotOne found) line lane revision text = []
replied_where (outcomes.Gone path) line lane revision text = []
replied_where outcomes.MailFault line lane revision text = []
replied_where outcomes.DiskFault line lane revision text = []
replied_where (outcomes.Closed fault) line lane revision text = []
replied_where (outcomes.Limit limit) line lane revision text = []
replied_where outcomes.NoMemory line lane revision text = []

-- the reply to a line of the script, by its log
abbrev pub reply_to : RunLine → List Replied
reply_to ran = replied_where ran.1.outcome (parse_line ran.0) ran.1.lane ran.1.revision ran.1.text

-- every line of another lane than 0 has a read
abbrev pub lane_read_of : RunLine → List LaneStep
lane_read_of ran = if is_in_lane_zero ran then [] else lane_read_in ran.1.phase ran.1.lane ran.1.revision ∷ []

-- what its lane does for a line
abbrev pub lane_steps_of : RunLine → List LaneStep
lane_steps_of ran = lane_read_of ran ++ map (reply_in ran.1.phase) (reply_to ran)

-- those of one lane
abbrev pub is_of_lane : ℕ → LaneStep → Bool
is_of_lane lane step = step.lane == lane

abbrev pub is_in_lane : ℕ → RunLine → Bool
is_in_lane lane ran = ran.1.lane == lane

-- ---- in which phase a commit is made

-- the phase of a step that begins, acknowledges or shows a commit
abbrev pub commit_phase_by : ℕ → Step → List ℕ
commit_phase_by phase (Begin commit) = phase ∷ []
commit_phase_by phase Append = phase ∷ []
commit_phase_by phase Show = phase ∷ []
commit_phase_by phase (See lane) = []
commit_phase_by phase Meet = []
commit_phase_by phase (Reply lane request text) = []
commit_phase_by phase (Crash kept) = []
commit_phase_by phase Reopen = []

-- along steps from this phase on
abbrev pub commit_phases_from : ℕ → List Step → List ℕ
commit_phases_from phase [] = []
commit_phases_from phase (step ∷ steps) = commit_phase_by phase step ++ commit_phases_from (phase_after phase step) steps

-- a line of lane 0 has three such steps for each commit that it made, and one for a commit in which the disk failed
abbrev pub commit_steps_in : Before → RunLine → ℕ
commit_steps_in before ran = 3 * (ran.1.revision - before.revision) + (if ran.1.disk_failed then 1 else 0)

-- all of them in the phase of the line
abbrev pub commit_phases_of : Before → List RunLine → List ℕ
commit_phases_of before [] = []
commit_phases_of before (ran ∷ more) = replicate (commit_steps_in before ran) ran.1.phase ++ commit_phases_of (after_line before ran) more

-- the program crashes, or is there again
abbrev pub is_stop : Step → Bool
is_stop (Begin commit) = false
is_stop Append = false
is_stop Show = false
is_stop (See lane) = false
is_stop Meet = false
is_stop (Reply lane request text) = false
is_stop (Crash kept) = true
is_stop Reopen = true

-- the program runs from the first step to the last
abbrev pub NeverStops : List Step → Type 0
NeverStops steps = AllByRecursion (λ step. is_stop step ≡ false) steps

-- All commits that were acknowledged are shown, and lane 0 sees them.
pub record IsAtRest (opening : Base) (acknowledged : List Commit) (m : Machine) : Type 0 where
  pub opening_is : m.opening ≡ opening
  pub commits : m.commits ≡ acknowledged
  pub shown : length m.commits ≡ m.shown
  pub lanes : length m.lanes ≡ lane_count
  pub sees : slice_index m.lanes 0 ≡ length m.commits
  pub up : m.up ≡ true

-- The steps are a run of the machine from the opening index, without a crash, and n phases have ended. Each lane reads and replies for its
-- lines in their order, in the phase of each and at its revision; each commit is in the phase of its line. In the end all that was
-- acknowledged is shown, and the revision of the last line of lane 0 counts it.
pub record MachineRun (opening : Base) (moment : ℤ) (first : Before) (steps : List Step) (lines : List RunLine) (acknowledged : List Commit) (ended : ℕ) : Type 0 where
  pub last : Machine
  pub run : machine.Runs moment (machine.start opening lane_count) steps last
  pub never_stops : NeverStops steps
  pub phases : phases_met steps ≡ ended
  pub lane_steps : (lane : ℕ) → filter (is_of_lane lane) (lane_steps_from 0 (machine.start opening lane_count) steps) ≡ flat_map lane_steps_of (filter (is_in_lane lane) lines)
  pub commit_phases : commit_phases_from 0 steps ≡ commit_phases_of first (lane_zero_lines lines)
  pub begun_are : begun steps ≡ acknowledged ++ commits_in_flight last.in_flight
  pub rest : IsAtRest opening acknowledged last
  pub revision : (after_lines first (lane_zero_lines lines)).revision ≡ opening.revision + length acknowledged
