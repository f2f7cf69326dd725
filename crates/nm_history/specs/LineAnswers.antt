-- The outcome and the text of each line: those of the model at the revision before it and at its own.
-- Cited by `lane_zero_laws`, `nm_session` and `nm_top`.
use Rattle.std.specs.Prelude.{◌≡◌, ◌⊎◌, ℕ, ℤ, Bool, true, false, List, [], Option, None, Some}
use Rattle.std.specs.List.{AllByRecursion}
use Rattle.nm_model_answer.specs.Answer.{answer}
use Rattle.nm_faults.specs.Faults.{Counts, HasRisen}
use Rattle.nm_model_index.specs.declared.base.Base.{Base}
use Rattle.nm_log.specs.ParsedLine.{parse_line}
use Rattle.nm_log.specs.Replies.{refusal_line, status_of}
use Rattle.nm_log.specs.declared.line_parser.ParsedLine.{ParsedLine}
use Rattle.nm_log.specs.declared.line_parser.ParsedLine.TheVariants as asked
use Rattle.nm_log.specs.declared.outcome.Outcome.{Outcome}
use Rattle.nm_log.specs.declared.outcome.Outcome.TheVariants as outcomes
use Rattle.nm_model_machine.specs.declared.step.Step.{Step}
use Rattle.nm_maildir.specs.declared.given.Given.{Given}
use Rattle.nm_history.specs.Lines.{Along, Before, IsIndexAt, RunLine}
use Rattle.nm_history.specs.Requests.{asks_the_folder, asks_to_tag, asks_to_write, refused_reading, refused_text_of, refused_unasked}

-- the text of a line that went well
abbrev pub reply_text : ParsedLine → List ℕ → Base → Base → ℤ → List Given → List ℕ
reply_text (asked.Request request) input before index moment given = answer request input before index moment given
reply_text (asked.Usage word kind) input before index moment given = []

-- the text of a line: the answer, or the line of its refusal
abbrev pub line_text : Outcome → ParsedLine → List ℕ → Base → Base → ℤ → List Given → List ℕ
line_text outcomes.Ok line input before index moment given = reply_text line input before index moment given
line_text (outcomes.Usage word kind) line input before index moment given = refusal_line (outcomes.Usage word kind)
line_text (outcomes.BadQuery at kind) line input before index moment given = refusal_line (outcomes.BadQuery at kind)
line_text (outcomes.BadDate at) line input before index moment given = refusal_line (outcomes.BadDate at)
line_text (outcomes.BadLine bad kind) line input before index moment given = refusal_line (outcomes.BadLine bad kind)
line_text (outcomes.NotOne found) line input before index moment given = refusal_line (outcomes.NotOne found)
line_text (outcomes.Gone path) line input before index moment given = refusal_line (outcomes.Gone path)
line_text outcomes.MailFault line input before index moment given = refusal_line outcomes.MailFault
line_text outcomes.DiskFault line input before index moment given = refusal_line outcomes.DiskFault
line_text (outcomes.Closed fault) line input before index moment given = refusal_line (outcomes.Closed fault)
line_text (outcomes.Limit limit) line input before index moment given = refusal_line (outcomes.Limit limit)
line_text outcomes.NoMemory line input before index moment given = refusal_line outcomes.NoMemory

-- neither the mail folder failed, whose count is this, nor the disk
pub record NoneFailed (before mail : ℕ) (failed : Bool) : Type 0 where
  pub mail_same : mail ≡ before
  pub disk_well : failed ≡ false

-- nothing refuses the line before it asks a device
abbrev pub MayAsk : ParsedLine → List ℕ → Before → Type 0
MayAsk line input before = refused_unasked line input before.closed ≡ None

-- the line is refused so, before it asks a device
abbrev pub IsRefusedUnasked : Outcome → ParsedLine → List ℕ → Before → Type 0
IsRefusedUnasked outcome line input before = refused_unasked line input before.closed ≡ Some outcome

-- the line is refused so for what it found and read
abbrev pub IsRefusedReading : Outcome → ParsedLine → List ℕ → Before → Base → ℤ → List Given → Type 0
IsRefusedReading outcome line input before index moment given =
    MayAsk line input before × (refused_reading line index moment before.left given ≡ Some outcome)

-- Why a line ends so, on its index, by what the mail folder gave, with the folder's count of faults after the line, and whether the disk failed in it: the
-- device that it names failed, and no other, but that after a fault of the folder the disk may fail in what sets tags. Running out of memory is free.
abbrev pub HasCause : Outcome → ParsedLine → List ℕ → Before → Base → ℤ → List Given → ℕ → Bool → Type 0
HasCause outcomes.Ok line input before index moment given mail failed =
    MayAsk line input before × (refused_reading line index moment before.left given ≡ None) × NoneFailed before.mail_faults mail failed
HasCause (outcomes.Usage word kind) line input before index moment given mail failed =
    IsRefusedUnasked (outcomes.Usage word kind) line input before × NoneFailed before.mail_faults mail failed
HasCause (outcomes.BadQuery at kind) line input before index moment given mail failed =
    IsRefusedUnasked (outcomes.BadQuery at kind) line input before × NoneFailed before.mail_faults mail failed
HasCause (outcomes.BadDate at) line input before index moment given mail failed =
    IsRefusedUnasked (outcomes.BadDate at) line input before × NoneFailed before.mail_faults mail failed
HasCause (outcomes.BadLine bad kind) line input before index moment given mail failed =
    IsRefusedUnasked (outcomes.BadLine bad kind) line input before × NoneFailed before.mail_faults mail failed
HasCause (outcomes.NotOne found) line input before index moment given mail failed =
    IsRefusedReading (outcomes.NotOne found) line input before index moment given × NoneFailed before.mail_faults mail failed
HasCause (outcomes.Gone path) line input before index moment given mail failed =
    IsRefusedReading (outcomes.Gone path) line input before index moment given × NoneFailed before.mail_faults mail failed
HasCause outcomes.MailFault line input before index moment given mail failed =
    MayAsk line input before × (asks_the_folder line ≡ true) × HasRisen before.mail_faults mail × (failed ≡ true → asks_to_tag line ≡ true)
HasCause outcomes.DiskFault line input before index moment given mail failed =
    MayAsk line input before × (asks_to_write line ≡ true) × (mail ≡ before.mail_faults) × (failed ≡ true)
HasCause (outcomes.Closed fault) line input before index moment given mail failed =
    IsRefusedUnasked (outcomes.Closed fault) line input before × NoneFailed before.mail_faults mail failed
HasCause (outcomes.Limit limit) line input before index moment given mail failed =
    (IsRefusedUnasked (outcomes.Limit limit) line input before
    ⊎ (IsRefusedReading (outcomes.Limit limit) line input before index moment given ⊎ (MayAsk line input before × (asks_to_write line ≡ true))))
    × NoneFailed before.mail_faults mail failed
HasCause outcomes.NoMemory line input before index moment given mail failed = failed ≡ false

-- A line's outcome has its cause, the disk's count rose where the line says that the disk failed in it, its status is that of the outcome, and
-- its text is said on the index before it and the one that it leaves.
pub record HasAnswer (opening : Base) (moment : ℤ) (steps : List Step) (before : Before) (ran : RunLine) : Type 0 where
  pub index_before : Base
  pub index : Base
  pub at_before : IsIndexAt opening steps before.revision index_before
  pub at_after : IsIndexAt opening steps ran.1.revision index
  pub cause : HasCause ran.1.outcome (parse_line ran.0) ran.0.input before index_before moment ran.1.given ran.1.mail_faults ran.1.disk_failed
  pub disk : Counts ran.1.disk_failed before.disk_faults ran.1.disk_faults
  pub status : ran.1.status ≡ status_of ran.1.outcome
  pub text : ran.1.text ≡ line_text ran.1.outcome (parse_line ran.0) ran.0.input index_before index moment ran.1.given

-- Each line of lane 0 is answered so.
abbrev pub LineAnswers : Base → ℤ → Before → List Step → List RunLine → Type 0
LineAnswers opening moment first steps lines = Along (HasAnswer opening moment steps) first lines

-- ---- the other lanes, which ask no device

-- what a line of another lane is refused for: its words, a line of its input, or its query
abbrev pub refused_lane_read : ParsedLine → List ℕ → Option Outcome
refused_lane_read (asked.Usage word kind) input = Some (outcomes.Usage word kind)
refused_lane_read (asked.Request request) input = refused_text_of request input

-- how a line ends that may be refused so
abbrev pub ends_by : Option Outcome → Outcome
ends_by None = outcomes.Ok
ends_by (Some outcome) = outcome

-- A line of another lane ends as its texts say, or finds no memory; its status is that of the outcome, its text is said on the index at its
-- revision, and no device is asked.
pub record HasLaneRead (opening : Base) (moment : ℤ) (steps : List Step) (ran : RunLine) : Type 0 where
  pub index : Base
  pub at : IsIndexAt opening steps ran.1.revision index
  pub cause : (ran.1.outcome ≡ ends_by (refused_lane_read (parse_line ran.0) ran.0.input)) ⊎ (ran.1.outcome ≡ outcomes.NoMemory)
  pub status : ran.1.status ≡ status_of ran.1.outcome
  pub text : ran.1.text ≡ line_text ran.1.outcome (parse_line ran.0) ran.0.input index index moment []
  pub given : ran.1.given ≡ []
  pub mail : ran.1.mail_faults ≡ 0
  pub disk : ran.1.disk_faults ≡ 0
  pub well : ran.1.disk_failed ≡ false

-- So is each of them.
abbrev pub LaneAnswers : Base → ℤ → List Step → List RunLine → Type 0
LaneAnswers opening moment steps lines = AllByRecursion (HasLaneRead opening moment steps) lines
