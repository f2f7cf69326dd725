-- What the lines asked the mail folder and what it gave, one line after the other.
-- Cited by `lane_zero_laws`, `nm_session` and `nm_top`.
use Rattle.std.specs.Prelude.{◌≡◌, ◌⊎◌, ℕ, ℤ, ◌≤◌, List, [], ◌∷◌, IsSome}
use Rattle.nm_log.specs.Kind.{Kind, ReadsIndex, SetsTags, ShowsFiles, TakesMail, kind_of}
use Rattle.nm_disk.specs.Observed.{ObservedDisk}
use Rattle.nm_model_index.specs.declared.base.Base.{Base}
use Rattle.nm_log.specs.ParsedLine.{parse_line}
use Rattle.nm_log.specs.declared.line_parser.ParsedLine.{ParsedLine}
use Rattle.nm_log.specs.declared.line_parser.ParsedLine.TheVariants as asked
use Rattle.nm_log.specs.declared.outcome.Outcome.{Outcome}
use Rattle.nm_log.specs.declared.outcome.Outcome.TheVariants as outcomes
use Rattle.nm_model_machine.specs.declared.step.Step.{Step}
use Rattle.nm_maildir.specs.Observed.{ObservedMail}
use Rattle.nm_maildir.specs.declared.given.Given.{Given}
use Rattle.nm_scan.specs.Bodies.{HasReadBodies, StopsInBodies}
use Rattle.nm_scan.specs.Scan.{AsksNew}
use Rattle.nm_scan.specs.declared.bodies_error.BodiesError.{BodiesError}
use Rattle.nm_scan.specs.declared.bodies_error.BodiesError.TheVariants as stops
use Rattle.nm_sync.specs.Renamed.{AsksRenames}
use Rattle.nm_history.specs.Call.{Devices, Ending, Ran, Refused, Unasked}
use Rattle.nm_history.specs.Lines.{Before, IsIndexAt, RunLine, after_line, after_lines, tree_after}
use Rattle.nm_history.specs.Requests.{paths_to_show, refused_unasked}

-- nothing was asked, and nothing given
pub record AsksNothing (old new : ObservedMail) (given : List Given) : Type 0 where
  pub given_is : given ≡ []
  pub same : new ≡ old

-- What a show asks, by its outcome: where it went well, or the file that raw form asks for was missing, all files were read, each of at most
-- the bytes that were left; where it failed or passed the bytes, the first of them; where it was refused before, none.
abbrev pub AsksShow : Outcome → ObservedMail → ObservedMail → ℕ → List (List ℕ) → List Given → Type 0
AsksShow outcomes.Ok old new left paths given = HasReadBodies old new left [] given paths
AsksShow (outcomes.Usage word kind) old new left paths given = AsksNothing old new given
AsksShow (outcomes.BadQuery at kind) old new left paths given = AsksNothing old new given
AsksShow (outcomes.BadDate at) old new left paths given = AsksNothing old new given
AsksShow (outcomes.BadLine line kind) old new left paths given = AsksNothing old new given
AsksShow (outcomes.NotOne found) old new left paths given = AsksNothing old new given
AsksShow (outcomes.Gone path) old new left paths given = HasReadBodies old new left [] given paths
AsksShow outcomes.MailFault old new left paths given = StopsInBodies old new left [] given paths stops.MailFault
AsksShow outcomes.DiskFault old new left paths given = AsksNothing old new given
AsksShow (outcomes.Closed fault) old new left paths given = AsksNothing old new given
AsksShow (outcomes.Limit limit) old new left paths given = AsksNothing old new given ⊎ StopsInBodies old new left [] given paths stops.ShowBytes
AsksShow outcomes.NoMemory old new left paths given =
    AsksNothing old new given ⊎ (HasReadBodies old new left [] given paths ⊎ ((error : BodiesError) × StopsInBodies old new left [] given paths error))

-- What a request of this kind asks the folder, by the outcome of its line, the index before it, the moment, and how many bytes may still be
-- shown: what takes mail a listing and reads, a show reads, what sets tags renames.
abbrev pub AsksBy : Kind → Outcome → Base → ℤ → ℕ → ObservedMail → ObservedMail → List Given → Type 0
AsksBy TakesMail outcome index moment left old new given = AsksNew old new index.files given
AsksBy ReadsIndex outcome index moment left old new given = AsksNothing old new given
AsksBy (ShowsFiles ask) outcome index moment left old new given = AsksShow outcome old new left (paths_to_show ask index moment) given
AsksBy SetsTags outcome index moment left old new given = AsksRenames old new [] given

-- What a line asks it.
abbrev pub AsksMail : Outcome → ParsedLine → Base → ℤ → ℕ → ObservedMail → ObservedMail → List Given → Type 0
AsksMail outcome (asked.Request request) index moment left old new given = AsksBy (kind_of request) outcome index moment left old new given
AsksMail outcome (asked.Usage word kind) index moment left old new given = AsksNothing old new given

-- A line asks the folder for what it needs on the index before it, and for nothing where it is refused before it asks a device; the folder's
-- tree is as the renames leave it, and its faults are noted and never fall.
pub record Asks (opening : Base) (moment : ℤ) (steps : List Step) (before : Before) (ran : RunLine) (old new : ObservedMail) : Type 0 where
  pub index : Base
  pub at : IsIndexAt opening steps before.revision index
  pub asks : AsksMail ran.1.outcome (parse_line ran.0) index moment before.left old new ran.1.given
  pub unasked : IsSome (refused_unasked (parse_line ran.0) ran.0.input before.closed) → AsksNothing old new ran.1.given
  pub tree : new.tree ≡ tree_after old.tree ran
  pub noted : ran.1.mail_faults ≡ new.faults
  pub never_falls : old.faults ≤ new.faults
  pub disk_never_falls : before.disk_faults ≤ ran.1.disk_faults

-- The lines ask it one after the other.
abbrev pub GivenAlong : Base → ℤ → List Step → Before → List RunLine → ObservedMail → ObservedMail → Type 0
GivenAlong opening moment steps before [] old new = new ≡ old
GivenAlong opening moment steps before (ran ∷ more) old new =
    (mid : ObservedMail) × Asks opening moment steps before ran old mid × GivenAlong opening moment steps (after_line before ran) more mid new

-- where there is a line, the disk has failed as often at the return as after the last one
abbrev pub DiskAtReturn : Ending → Before → ObservedDisk → Type 0
DiskAtReturn Ran last after = last.disk_faults ≡ after.faults
DiskAtReturn (Unasked outcome) last after = last.disk_faults ≡ after.faults
DiskAtReturn (Refused refusal) last after = Unit {0}

-- What the lines asked the folder and what it gave, and the faults at the return.
pub record IsGiven (opening : Base) (moment : ℤ) (steps : List Step) (first : Before) (lines : List RunLine) (ending : Ending) (entry after : Devices) : Type 0 where
  pub along : GivenAlong opening moment steps first lines entry.mail after.mail
  pub disk : DiskAtReturn ending (after_lines first lines) after.disk
