-- What one line does with the writer and the mail folder, and what its log says. The statements of a session go on by it.
-- Cited by `lane_zero_laws` and `nm_session`.
use Rattle.std.specs.Prelude.{◌≡◌, ◌⊎◌, ℕ, ℤ, ◌+◌, ◌==◌, ◌<◌, ◌≤◌, Bool, true, false, not, List, [], ◌∷◌, ◌++◌, filter, length, map, None, IsSome}
use Rattle.std.specs.List.{AllByRecursion, flat_map}
use Rattle.nm_commit.specs.declared.change.Commit.{Commit}
use Rattle.nm_faults.specs.Faults.{Counts}
use Rattle.nm_model_index.specs.Fits.{FitInTurn}
use Rattle.nm_model_index.specs.Index.{folded}
use Rattle.nm_model_index.specs.declared.base.Base.{Base}
use Rattle.nm_log.specs.ParsedLine.{parse_line}
use Rattle.nm_log.specs.Replies.{status_of}
use Rattle.nm_log.specs.declared.log.Said.{Said}
use Rattle.nm_log.specs.declared.outcome.Outcome.TheVariants as outcomes
use Rattle.nm_model_machine.specs.declared.step.Step.{Step}
use Rattle.nm_model_machine.specs.declared.step.Step.TheVariants.{Begin, Append, Show, See, Meet, Reply, Crash, Reopen}
use Rattle.nm_maildir.specs.Observed.{ObservedMail}
use Rattle.nm_scan.specs.Bodies.{left_after}
use Rattle.nm_writer.specs.Writer.{WriterState}
use Rattle.nm_writer.specs.AfterCommit.{AreWithin, with_commits}
use Rattle.nm_history.specs.Call.{Devices}
use Rattle.nm_history.specs.CrashPrefix.{appends}
use Rattle.nm_history.specs.Given.{AsksMail, AsksNothing}
use Rattle.nm_history.specs.LineAnswers.{HasCause, ends_by, line_text, refused_lane_read}
use Rattle.nm_history.specs.LineCommits.{IsOnItsWay, Makes, RenamesComeAfterTags}
use Rattle.nm_history.specs.Lines.{Before, RunLine, after_lines, at_first, begun, closed_after, tree_after, tree_after_all}
use Rattle.nm_history.specs.MachineRun.{Replied, lane_count, reply_to}
use Rattle.nm_history.specs.PrintedOut.{IsNumbered}
use Rattle.nm_history.specs.Requests.{refused_unasked}

-- the writer, what is observed of the mail folder, how often the disk has failed, and how many bytes may still be shown
pub record Place : Type 0 where
  pub writer : WriterState
  pub mail : ObservedMail
  pub disk_faults : ℕ
  pub left : ℕ

-- what comes before the next line
abbrev pub before_at : Place → Before
before_at place = record {
  revision = place.writer.shown.revision;
  mail_faults = place.mail.faults;
  disk_faults = place.disk_faults;
  closed = place.writer.closed;
  left = place.left;
}

-- a commit is begun, is there, and is shown
abbrev pub commit_steps : Commit → List Step
commit_steps commit = Begin commit ∷ Append ∷ Show ∷ []

-- a commit is begun
abbrev pub begin_step : Commit → Step
begin_step commit = Begin commit

abbrev pub reply_step : Replied → Step
reply_step replied = Reply replied.lane replied.request replied.text

-- what was replied, as it is kept until the steps are made
abbrev pub said_of : Replied → Said
said_of replied = record { request = replied.request; text = replied.text }

-- the commits of a line one after the other, the one that it leaves on its way, and its reply
abbrev pub line_steps : List Commit → List Commit → List Replied → List Step
line_steps made in_flight replies = flat_map commit_steps made ++ (map begin_step in_flight ++ map reply_step replies)

-- What the writer has made of a line: these commits are published, shown and acknowledged, and this one is on its way. None of them passes a limit.
pub record HasMade (old : WriterState) (made in_flight : List Commit) (new : WriterState) : Type 0 where
  pub fit : FitInTurn old.shown (made ++ in_flight)
  pub within : AreWithin (length old.acked) old.shown (made ++ in_flight)
  -- a closed writer makes nothing
  pub idle : IsSome old.closed → made ++ in_flight ≡ []
  pub published : new.published ≡ with_commits old.published made
  pub shown : new.shown ≡ folded old.shown made
  pub begun_are : new.begun ≡ old.begun ++ (made ++ in_flight)
  pub clocks : List ℕ
  pub acked : new.acked ≡ old.acked ++ clocks
  pub one_each : length clocks ≡ length made

-- A line of lane 0 was run in this phase: what it made, asked and said, and the steps that it took.
pub record IsLineResult (moment : ℤ) (phase : ℕ) (old : Place) (ran : RunLine) (taken : List Step) (new : Place) : Type 0 where
  pub first : ran.0.lane ≡ 0
  pub made : List Commit
  pub in_flight : List Commit
  pub has_made : HasMade old.writer made in_flight new.writer
  pub makes : Makes ran.1.outcome moment old.mail.tree old.writer.shown ran.0 ran.1.given (length old.writer.acked + length made) made in_flight
  pub renames_after : RenamesComeAfterTags (parse_line ran.0) ran.0.input moment old.writer.shown ran.1.given made
  pub on_its_way : IsOnItsWay ran.1.disk_failed in_flight
  pub closed : new.writer.closed ≡ closed_after old.writer.closed ran.1.disk_failed new.disk_faults
  pub asks : AsksMail ran.1.outcome (parse_line ran.0) old.writer.shown moment old.left old.mail new.mail ran.1.given
  pub unasked : IsSome (refused_unasked (parse_line ran.0) ran.0.input old.writer.closed) → AsksNothing old.mail new.mail ran.1.given
  pub tree : new.mail.tree ≡ tree_after old.mail.tree ran
  pub left : new.left ≡ left_after old.left ran.1.given
  pub mail_never_falls : old.mail.faults ≤ new.mail.faults
  pub disk_never_falls : old.disk_faults ≤ new.disk_faults
  pub numbers : IsNumbered (phase, ran.0) ran.1
  pub revision : ran.1.revision ≡ new.writer.shown.revision
  pub mail_faults : ran.1.mail_faults ≡ new.mail.faults
  pub disk_faults : ran.1.disk_faults ≡ new.disk_faults
  pub cause : HasCause ran.1.outcome (parse_line ran.0) ran.0.input (before_at old) old.writer.shown moment ran.1.given new.mail.faults ran.1.disk_failed
  pub disk : Counts ran.1.disk_failed old.disk_faults new.disk_faults
  pub status : ran.1.status ≡ status_of ran.1.outcome
  pub text : ran.1.text ≡ line_text ran.1.outcome (parse_line ran.0) ran.0.input old.writer.shown new.writer.shown moment ran.1.given
  pub steps : taken ≡ line_steps made in_flight (reply_to ran)

-- A line of another lane reads, and is replied to where it went well.
abbrev pub lane_read_steps : ℕ → List Replied → List Step
lane_read_steps lane replies = See lane ∷ map reply_step replies

-- a commit is shown
abbrev pub is_show : Step → Bool
is_show (Begin commit) = false
is_show Append = false
is_show Show = true
is_show (See lane) = false
is_show Meet = false
is_show (Reply lane request text) = false
is_show (Crash kept) = false
is_show Reopen = false

-- how many commits the steps show
abbrev pub shows : List Step → ℕ
shows steps = length (filter is_show steps)

-- a step that this lane has no part in, and that ends no phase
abbrev pub leaves_alone : ℕ → Step → Bool
leaves_alone lane (Begin commit) = true
leaves_alone lane Append = true
leaves_alone lane Show = true
leaves_alone lane (See other) = not (other == lane)
leaves_alone lane Meet = false
leaves_alone lane (Reply other request text) = not (other == lane)
leaves_alone lane (Crash kept) = false
leaves_alone lane Reopen = false

-- the lane has no part in the steps, and no phase ends in them
abbrev pub LeaveAlone : ℕ → List Step → Type 0
LeaveAlone lane steps = AllByRecursion (λ step. leaves_alone lane step ≡ true) steps

-- A line of another lane was run in this phase over an index that the writer has shown: what it saw and said, and the steps that it took. Since
-- then the steps `back` may have been taken, which show the later ones of the commits acknowledged: its own steps come before them.
pub record IsLaneReadResult (moment : ℤ) (phase : ℕ) (opening : Base) (acknowledged : List Commit) (index : Base) (ran : RunLine) (taken back : List Step) : Type 0 where
  pub another : 1 ≤ ran.0.lane
  pub exists : ran.0.lane < lane_count
  pub numbers : IsNumbered (phase, ran.0) ran.1
  pub alone : LeaveAlone ran.0.lane back
  pub seen : List Commit
  pub later : List Commit
  pub both : acknowledged ≡ seen ++ later
  pub shown : length later ≡ shows back
  pub index_is : index ≡ folded opening seen
  pub revision : ran.1.revision ≡ index.revision
  pub cause : (ran.1.outcome ≡ ends_by (refused_lane_read (parse_line ran.0) ran.0.input)) ⊎ (ran.1.outcome ≡ outcomes.NoMemory)
  pub status : ran.1.status ≡ status_of ran.1.outcome
  pub text : ran.1.text ≡ line_text ran.1.outcome (parse_line ran.0) ran.0.input index index moment []
  pub given : ran.1.given ≡ []
  pub mail : ran.1.mail_faults ≡ 0
  pub disk : ran.1.disk_faults ≡ 0
  pub well : ran.1.disk_failed ≡ false
  pub steps : taken ≡ lane_read_steps ran.0.lane (reply_to ran)

-- the steps begin, acknowledge and show nothing
abbrev pub CommitNothing : List Step → Type 0
CommitNothing steps = (begun steps ≡ []) × (appends steps ≡ 0)

-- Where a session is after some lines of lane 0, as the log tells it: these commits were acknowledged and published, and one may be on its
-- way after a fault of the disk.
pub record StandsAt (opening : Base) (entry : Devices) (steps : List Step) (lines : List RunLine) (acknowledged : List Commit) (place : Place) : Type 0 where
  pub in_flight : List Commit
  pub begun_are : begun steps ≡ acknowledged ++ in_flight
  pub begun_by_writer : place.writer.begun ≡ acknowledged ++ in_flight
  pub none_open : place.writer.closed ≡ None → in_flight ≡ []
  pub acked : length place.writer.acked ≡ length acknowledged
  pub opens : place.writer.published.opening ≡ opening
  pub published : place.writer.published.commits ≡ acknowledged
  pub shown : place.writer.shown ≡ folded opening acknowledged
  pub before : after_lines (at_first opening entry) lines ≡ before_at place
  pub tree : place.mail.tree ≡ tree_after_all entry.mail.tree lines
