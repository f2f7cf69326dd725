-- How the steps of a session are kept: a mark for each commit that a line made, or left on its way, for each read and reply of a lane, and for the
-- end of each phase, in their order; the commits themselves are the writer's.
-- Cited by `machine_steps`, `reserved_log`, `trace`, `nm_phase` and `nm_session`.
use Rattle.std.specs.Prelude.{◌≡◌, ℕ, ◌+◌, ◌≤◌, ◌==◌, Bool, true, false, not, List, [], ◌∷◌, ◌++◌, drop, length, map, replicate, if◌then◌else◌}
use Rattle.std.specs.List.{AllByRecursion}
use Rattle.nm_commit.specs.declared.change.Commit.{Commit}
use Rattle.nm_history.specs.LineResult.{commit_steps, said_of}
use Rattle.nm_history.specs.MachineRun.{Replied}
use Rattle.nm_log.specs.declared.log.Said.{Said}
use Rattle.nm_model_machine.specs.declared.step.Step.{Step}
use Rattle.nm_model_machine.specs.declared.step.Step.TheVariants as steps
use Rattle.nm_trace.specs.declared.trace.Mark.{Mark}
use Rattle.nm_trace.specs.declared.trace.Mark.TheVariants as marks

-- the steps of the first commit
abbrev pub steps_of_first : List Commit → List Step
steps_of_first [] = []
steps_of_first (commit ∷ commits) = commit_steps commit

-- its begin alone
abbrev pub begin_of_first : List Commit → List Step
begin_of_first [] = []
begin_of_first (commit ∷ commits) = steps.Begin commit ∷ []

-- the commits after the first
abbrev pub after_first_commit : List Commit → List Commit
after_first_commit [] = []
after_first_commit (commit ∷ commits) = commits

-- the steps that a mark represents, where these commits come next
abbrev pub steps_by : Mark → List Commit → List Step
steps_by marks.Made commits = steps_of_first commits
steps_by marks.Begun commits = begin_of_first commits
steps_by (marks.LaneRead lane) commits = steps.See lane ∷ []
steps_by (marks.Reply lane said) commits = steps.Reply lane said.request said.text ∷ []
steps_by marks.Met commits = steps.Meet ∷ []

-- the commits that come next after it
abbrev pub left_by : Mark → List Commit → List Commit
left_by marks.Made commits = after_first_commit commits
left_by marks.Begun commits = after_first_commit commits
left_by (marks.LaneRead lane) commits = commits
left_by (marks.Reply lane said) commits = commits
left_by marks.Met commits = commits

-- the steps that the marks represent, with these commits
abbrev pub steps_of : List Mark → List Commit → List Step
steps_of [] commits = []
steps_of (mark ∷ more) commits = steps_by mark commits ++ steps_of more (left_by mark commits)

-- the commits after all of them
abbrev pub left_of : List Mark → List Commit → List Commit
left_of [] commits = commits
left_of (mark ∷ more) commits = left_of more (left_by mark commits)

abbrev pub made_mark : Commit → Mark
made_mark commit = marks.Made

abbrev pub begun_mark : Commit → Mark
begun_mark commit = marks.Begun

abbrev pub said_mark : ℕ → Said → Mark
said_mark lane said = marks.Reply lane said

abbrev pub reply_mark : Replied → Mark
reply_mark replied = said_mark replied.lane (said_of replied)

-- the marks of a line of lane 0 that made these commits, left this one on its way, and was replied to
abbrev pub line_marks : List Commit → List Commit → List Replied → List Mark
line_marks made in_flight replies = map made_mark made ++ (map begun_mark in_flight ++ map reply_mark replies)

-- the marks of a line of another lane
abbrev pub lane_read_marks : ℕ → List Replied → List Mark
lane_read_marks lane replies = marks.LaneRead lane ∷ map reply_mark replies

-- the marks of replies in a lane
abbrev pub said_marks : ℕ → List Said → List Mark
said_marks lane said = map (said_mark lane) said

-- the marks where n were made, one is on its way or none, and this lane said so
abbrev pub marks_for : ℕ → Bool → ℕ → List Said → List Mark
marks_for made in_flight lane said = replicate made marks.Made ++ ((if in_flight then marks.Begun ∷ [] else []) ++ said_marks lane said)

-- ---- where a read of a lane has its place

-- no phase ends with the mark, and it is none of this lane
abbrev pub is_of_others : ℕ → Mark → Bool
is_of_others lane marks.Made = true
is_of_others lane marks.Begun = true
is_of_others lane (marks.LaneRead other) = not (other == lane)
is_of_others lane (marks.Reply other said) = not (other == lane)
is_of_others lane marks.Met = false

abbrev pub AreOfOthers : ℕ → List Mark → Type 0
AreOfOthers lane marks = AllByRecursion (λ mark. is_of_others lane mark ≡ true) marks

-- how many commits were made and shown
abbrev pub made_by : Mark → ℕ
made_by marks.Made = 1
made_by marks.Begun = 0
made_by (marks.LaneRead other) = 0
made_by (marks.Reply other said) = 0
made_by marks.Met = 0

abbrev pub made_in : List Mark → ℕ
made_in [] = 0
made_in (mark ∷ more) = made_by mark + made_in more

-- a read of this lane has its place there, where all commits but the last n were shown: after it no phase ends, and the lane does nothing
pub record IsPlaceOf (lane behind : ℕ) (marks : List Mark) (at : ℕ) : Type 0 where
  pub within : at ≤ length marks
  pub others : AreOfOthers lane (drop at marks)
  pub made : made_in (drop at marks) ≡ behind
