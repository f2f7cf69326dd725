-- How one line of lane 0 ends: what it made, why, and what it says. Cited by `lane_zero`, the files of the commands, and `nm_session`.
use Rattle.std.specs.Prelude.{◌≡◌, ◌&&◌, ℕ, ℤ, Bool, ◌+◌, ◌≤◌, List, [], IsSome, is_some, length, map, not, None, Some, Result, Ok, Err}
use Rattle.std.specs.Option.{option_to_list}
use Rattle.nm_model_answer.specs.Answer.{answer}
use Rattle.nm_model_answer.specs.declared.request.Request.{Request}
use Rattle.nm_base.specs.declared.memory.NoMemory.{NoMemory}
use Rattle.nm_commit.specs.declared.change.Commit.{Commit}
use Rattle.nm_disk.specs.Observed.{ObservedDisk}
use Rattle.nm_faults.specs.Faults.{Counts}
use Rattle.nm_history.specs.Given.{AsksMail, AsksNothing}
use Rattle.nm_history.specs.LineAnswers.{HasCause, line_text}
use Rattle.nm_history.specs.LineCommits.{IsOnItsWay, Makes, RenamesComeAfterTags}
use Rattle.nm_history.specs.LineResult.{HasMade, Place, before_at, said_of}
use Rattle.nm_history.specs.Lines.{closed_after, tree_after_line}
use Rattle.nm_history.specs.MachineRun.{replied_where}
use Rattle.nm_history.specs.Requests.{refused_unasked}
use Rattle.nm_model_index.specs.declared.base.Base.{Base}
use Rattle.nm_lanes.specs.declared.script.ScriptLine.{ScriptLine}
use Rattle.nm_prepare.specs.Prepared.{IsReadingOf, reading_request}
use Rattle.nm_line.specs.declared.line_answer.LineAnswer.{LineAnswer}
use Rattle.nm_prepare.specs.declared.prepared.Reading.{Reading}
use Rattle.nm_log.specs.ParsedLine.{parse_line}
use Rattle.nm_log.specs.Replies.{refusal_line}
use Rattle.nm_log.specs.declared.outcome.Outcome.{Outcome}
use Rattle.nm_log.specs.declared.outcome.Outcome.TheVariants as outcomes
use Rattle.nm_maildir.specs.Observed.{ObservedMail}
use Rattle.nm_maildir.specs.declared.given.Given.{Given}
use Rattle.nm_scan.specs.Bodies.{left_after}
use Rattle.nm_writer.specs.Writer.{WriterState}

-- where a session is
abbrev pub place_at : WriterState → ObservedMail → ObservedDisk → ℕ → Place
place_at writer mail disk left = record { writer = writer; mail = mail; disk_faults = disk.faults; left = left }

-- the writer was closed in between
abbrev pub newly_closed : WriterState → WriterState → Bool
newly_closed old new = is_some new.closed && not (is_some old.closed)

-- an open writer has acknowledged all that it began
abbrev pub IsEven : WriterState → Type 0
IsEven writer = writer.closed ≡ None → length writer.begun ≡ length writer.acked

-- A line was run and ended so, and the disk failed in it or not: what it made and asked, and why it ended so.
pub record IsLineAnswer (moment : ℤ) (old : Place) (line : ScriptLine) (given : List Given) (outcome : Outcome) (failed : Bool) (new : Place) : Type 0 where
  pub made : List Commit
  pub in_flight : List Commit
  pub has_made : HasMade old.writer made in_flight new.writer
  pub makes : Makes outcome moment old.mail.tree old.writer.shown line given (length old.writer.acked + length made) made in_flight
  pub renames_after : RenamesComeAfterTags (parse_line line) line.input moment old.writer.shown given made
  pub on_its_way : IsOnItsWay failed in_flight
  pub closed : new.writer.closed ≡ closed_after old.writer.closed failed new.disk_faults
  pub asks : AsksMail outcome (parse_line line) old.writer.shown moment old.left old.mail new.mail given
  pub unasked : IsSome (refused_unasked (parse_line line) line.input old.writer.closed) → AsksNothing old.mail new.mail given
  pub tree : new.mail.tree ≡ tree_after_line (parse_line line) given old.mail.tree
  pub left : new.left ≡ left_after old.left given
  pub mail_never_falls : old.mail.faults ≤ new.mail.faults
  pub disk_never_falls : old.disk_faults ≤ new.disk_faults
  pub cause : HasCause outcome (parse_line line) line.input (before_at old) old.writer.shown moment given new.mail.faults failed
  pub disk : Counts failed old.disk_faults new.disk_faults

-- What it says, and what was replied where it went well.
pub record IsSaid (moment : ℤ) (old : Place) (line : ScriptLine) (given : List Given) (done : LineAnswer) (new : Place) : Type 0 where
  pub text : done.text ≡ line_text done.outcome (parse_line line) line.input old.writer.shown new.writer.shown moment given
  pub reply : (lane revision : ℕ) → option_to_list done.reply ≡ map said_of (replied_where done.outcome (parse_line line) lane revision done.text)

-- It was answered, or found no memory for it.
abbrev pub Ends : ℤ → Place → ScriptLine → List Given → Result LineAnswer NoMemory → Place → Type 0
Ends moment old line given (Ok done) new =
    IsLineAnswer moment old line given done.outcome (newly_closed old.writer new.writer) new × IsSaid moment old line given done new
Ends moment old line given (Err error) new = IsLineAnswer moment old line given outcomes.NoMemory (newly_closed old.writer new.writer) new

-- it went well, with this text
abbrev pub replied_with : Request → List ℕ → LineAnswer
replied_with request text = record { outcome = outcomes.Ok; text = text; reply = Some (record { request = request; text = text }) }

-- it is refused
abbrev pub refused_with : Outcome → LineAnswer
refused_with outcome = record { outcome = outcome; text = refusal_line outcome; reply = None }

-- what is answered on this index that asks no device
abbrev pub IsReadOff : ℤ → Base → Reading → LineAnswer → Type 0
IsReadOff moment index reading done =
    (input : List ℕ) → IsReadingOf input reading → done ≡ replied_with (reading_request reading) (answer (reading_request reading) input index index moment [])
