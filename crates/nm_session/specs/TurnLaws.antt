-- The laws on which the turns of a session rest. Cited by `laws`.
use Rattle.std.specs.Prelude.{◌≡◌, ℕ, ℤ, ◌+◌, ◌≤◌, Bool, List, [], ◌∷◌, ◌++◌, Option, None, length}
use Rattle.nm_base.specs.Limits.{max_mail_bytes}
use Rattle.nm_commit.specs.declared.change.Commit.{Commit}
use Rattle.nm_history.specs.Call.{Devices}
use Rattle.nm_history.specs.CrashPrefix.{appends}
use Rattle.nm_history.specs.Given.{GivenAlong}
use Rattle.nm_history.specs.LineAnswers.{LaneAnswers, LineAnswers}
use Rattle.nm_history.specs.LineCommits.{LineCommits}
use Rattle.nm_history.specs.LineResult.{CommitNothing, IsLineResult, IsLaneReadResult, Place, StandsAt, lane_read_steps}
use Rattle.nm_history.specs.Lines.{Before, RunLine, at_first, lane_zero_lines}
use Rattle.nm_history.specs.MachineRun.{MachineRun, Replied, replied_where}
use Rattle.nm_model_index.specs.declared.base.Base.{Base}
use Rattle.nm_lanes.specs.declared.script.ScriptLine.{ScriptLine}
use Rattle.nm_line.specs.Line.{IsEven, IsLineAnswer}
use Rattle.nm_log.specs.declared.line_parser.ParsedLine.{ParsedLine}
use Rattle.nm_log.specs.declared.outcome.Outcome.{Outcome}
use Rattle.nm_model_machine.specs.declared.step.Step.{Step}
use Rattle.nm_model_machine.specs.declared.step.Step.TheVariants.{Meet}
use Rattle.nm_maildir.specs.Observed.{ObservedMail}
use Rattle.nm_maildir.specs.Tree.{Tree}
use Rattle.nm_maildir.specs.declared.given.Given.{Given}
use Rattle.nm_phase.specs.Taken.{AreTaken}
use Rattle.nm_phase.specs.Turns.{Planned}
use Rattle.nm_trace.specs.ReservedLog.{HasSpare}
use Rattle.nm_trace.specs.declared.reserved_log.ReservedLog.{ReservedLog}

-- Before the first line.
pub record FirstLaws : Type 0 where
  pub stands : (opening : Base) (entry : Devices) (place : Place) → place.writer.published.opening ≡ opening → place.writer.published.commits ≡ [] → place.writer.shown ≡ opening → place.writer.begun ≡ [] → place.writer.acked ≡ [] → place.writer.closed ≡ None → place.mail ≡ entry.mail
      → place.disk_faults ≡ entry.disk.faults → place.left ≡ max_mail_bytes → StandsAt opening entry [] [] [] place
  pub machine_run : (opening : Base) (moment : ℤ) (entry : Devices) → MachineRun opening moment (at_first opening entry) [] [] [] 0
  pub commits : (opening : Base) (moment : ℤ) (entry : Devices) → LineCommits opening moment entry.mail.tree [] [] []
  pub answers : (opening : Base) (moment : ℤ) (entry : Devices) → LineAnswers opening moment (at_first opening entry) [] []
  pub given : (opening : Base) (moment : ℤ) (entry : Devices) → GivenAlong opening moment [] (at_first opening entry) [] entry.mail entry.mail

-- Of one more line, of one more read, and of the end of a phase.
pub record TurnLaws : Type 0 where
  pub spare : (moment : ℤ) (left : ℕ) (turns : List Planned) (old new : Place) (before after : ReservedLog) → HasSpare (left + length turns) (length old.writer.begun) before → AreTaken moment turns old before after new
      → HasSpare left (length new.writer.begun) after
  pub even : (moment : ℤ) (old new : Place) (line : ScriptLine) (noted : List Given) (outcome : Outcome) (failed : Bool) → IsLineAnswer moment old line noted outcome failed new → IsEven old.writer → IsEven new.writer
  pub replies : (outcome : Outcome) (line : ParsedLine) (lane revision : ℕ) (text : List ℕ) → length (replied_where outcome line lane revision text) ≤ 1
  pub stands : (opening : Base) (moment : ℤ) (phase : ℕ) (entry : Devices) (steps taken : List Step) (lines : List RunLine) (acknowledged : List Commit) (old new : Place) (ran : RunLine) → StandsAt opening entry steps lines acknowledged old
      → (result : IsLineResult moment phase old ran taken new) → StandsAt opening entry (steps ++ taken) (lines ++ ran ∷ []) (acknowledged ++ result.made) new
  pub machine_run : (opening : Base) (moment : ℤ) (phase : ℕ) (entry : Devices) (steps taken : List Step) (lines : List RunLine) (acknowledged : List Commit) (old new : Place) (ran : RunLine)
      → StandsAt opening entry steps (lane_zero_lines lines) acknowledged old
      → (result : IsLineResult moment phase old ran taken new) → MachineRun opening moment (at_first opening entry) steps lines acknowledged phase
      → MachineRun opening moment (at_first opening entry) (steps ++ taken) (lines ++ ran ∷ []) (acknowledged ++ result.made) phase
  pub commits : (opening : Base) (moment : ℤ) (phase : ℕ) (entry : Devices) (steps taken : List Step) (lines : List RunLine) (acknowledged : List Commit) (old new : Place) (ran : RunLine) → StandsAt opening entry steps lines acknowledged old
      → (result : IsLineResult moment phase old ran taken new) → LineCommits opening moment entry.mail.tree steps lines acknowledged
      → LineCommits opening moment entry.mail.tree (steps ++ taken) (lines ++ ran ∷ []) (acknowledged ++ result.made)
  pub answers : (opening : Base) (moment : ℤ) (phase : ℕ) (entry : Devices) (steps taken : List Step) (lines : List RunLine) (acknowledged : List Commit) (old new : Place) (ran : RunLine) → StandsAt opening entry steps lines acknowledged old
      → IsLineResult moment phase old ran taken new → LineAnswers opening moment (at_first opening entry) steps lines → LineAnswers opening moment (at_first opening entry) (steps ++ taken) (lines ++ ran ∷ [])
  pub given : (opening : Base) (moment : ℤ) (phase : ℕ) (entry : Devices) (steps taken : List Step) (lines : List RunLine) (acknowledged : List Commit) (old new : Place) (ran : RunLine) → StandsAt opening entry steps lines acknowledged old
      → IsLineResult moment phase old ran taken new → GivenAlong opening moment steps (at_first opening entry) lines entry.mail old.mail
      → GivenAlong opening moment (steps ++ taken) (at_first opening entry) (lines ++ ran ∷ []) entry.mail new.mail
  pub clocks : (opening : Base) (moment : ℤ) (phase : ℕ) (entry : Devices) (steps taken : List Step) (lines : List RunLine) (acknowledged : List Commit) (old new : Place) (ran : RunLine) → StandsAt opening entry steps lines acknowledged old
      → IsLineResult moment phase old ran taken new → length old.writer.acked ≡ appends steps → length new.writer.acked ≡ appends (steps ++ taken)
  pub lane_read_run : (opening : Base) (moment : ℤ) (phase : ℕ) (first : Before) (front back taken : List Step) (lines : List RunLine) (acknowledged : List Commit) (index : Base) (ran : RunLine)
      → IsLaneReadResult moment phase opening acknowledged index ran taken back → MachineRun opening moment first (front ++ back) lines acknowledged phase
      → MachineRun opening moment first (front ++ (taken ++ back)) (lines ++ ran ∷ []) acknowledged phase
  pub lane_read_answers : (opening : Base) (moment : ℤ) (phase : ℕ) (entry : Devices) (front back taken : List Step) (lines others : List RunLine) (acknowledged : List Commit) (place : Place) (index : Base) (ran : RunLine)
      → StandsAt opening entry (front ++ back) lines acknowledged place → IsLaneReadResult moment phase opening acknowledged index ran taken back
      → LaneAnswers opening moment (front ++ back) others → LaneAnswers opening moment (front ++ (taken ++ back)) (others ++ ran ∷ [])
  pub lane_read_nothing : (lane : ℕ) (replies : List Replied) → CommitNothing (lane_read_steps lane replies)
  pub between_stands : (opening : Base) (entry : Devices) (front back taken : List Step) (lines : List RunLine) (acknowledged : List Commit) (place : Place)
      → CommitNothing taken → StandsAt opening entry (front ++ back) lines acknowledged place → StandsAt opening entry (front ++ (taken ++ back)) lines acknowledged place
  pub between_commits : (opening : Base) (moment : ℤ) (tree : Option Tree) (front back taken : List Step) (lines : List RunLine) (acknowledged : List Commit)
      → CommitNothing taken → LineCommits opening moment tree (front ++ back) lines acknowledged → LineCommits opening moment tree (front ++ (taken ++ back)) lines acknowledged
  pub between_acknowledged : (front back taken : List Step) → CommitNothing taken → appends (front ++ (taken ++ back)) ≡ appends (front ++ back)
  pub between_answers : (opening : Base) (moment : ℤ) (front back taken : List Step) (before : Before) (lines : List RunLine)
      → CommitNothing taken → LineAnswers opening moment before (front ++ back) lines → LineAnswers opening moment before (front ++ (taken ++ back)) lines
  pub between_given : (opening : Base) (moment : ℤ) (front back taken : List Step) (before : Before) (lines : List RunLine) (old new : ObservedMail)
      → CommitNothing taken → GivenAlong opening moment (front ++ back) before lines old new → GivenAlong opening moment (front ++ (taken ++ back)) before lines old new
  pub last_barrier : (opening : Base) (moment : ℤ) (phase : ℕ) (first : Before) (steps : List Step) (lines : List RunLine) (acknowledged : List Commit)
      → MachineRun opening moment first steps lines acknowledged phase → MachineRun opening moment first (steps ++ Meet ∷ []) lines acknowledged (phase + 1)
  pub still_stands : (opening : Base) (entry : Devices) (steps taken : List Step) (lines : List RunLine) (acknowledged : List Commit) (place : Place)
      → CommitNothing taken → StandsAt opening entry steps lines acknowledged place → StandsAt opening entry (steps ++ taken) lines acknowledged place
  pub still_commits : (opening : Base) (moment : ℤ) (tree : Option Tree) (steps taken : List Step) (lines : List RunLine) (acknowledged : List Commit)
      → CommitNothing taken → LineCommits opening moment tree steps lines acknowledged → LineCommits opening moment tree (steps ++ taken) lines acknowledged
  pub still_acknowledged : (steps taken : List Step) → CommitNothing taken → appends (steps ++ taken) ≡ appends steps
  pub still_answers : (opening : Base) (moment : ℤ) (steps taken : List Step) (before : Before) (lines : List RunLine) → LineAnswers opening moment before steps lines → LineAnswers opening moment before (steps ++ taken) lines
  pub still_lane_reads : (opening : Base) (moment : ℤ) (steps taken : List Step) (lines : List RunLine) → LaneAnswers opening moment steps lines → LaneAnswers opening moment (steps ++ taken) lines
  pub still_given : (opening : Base) (moment : ℤ) (steps taken : List Step) (before : Before) (lines : List RunLine) (old new : ObservedMail) → GivenAlong opening moment steps before lines old new
      → GivenAlong opening moment (steps ++ taken) before lines old new
