-- The lines that were run, each with its log, and what comes before a line, all of it read off the log.
-- Cited by `lane_zero_laws`, `nm_session` and `nm_top`.
use Rattle.std.specs.Prelude.{◌≡◌, ℕ, ◌+◌, ◌==◌, Bool, not, List, [], ◌∷◌, ◌++◌, length, filter, map, fold, Option, None, Some, Ok, if◌then◌else◌}
use Rattle.std.specs.List.{flat_map, zip}
use Rattle.std.specs.Option.{option_map}
use Rattle.nm_log.specs.Kind.{Kind, ReadsIndex, SetsTags, ShowsFiles, TakesMail, kind_of}
use Rattle.nm_base.specs.Limits.{max_mail_bytes}
use Rattle.nm_commit.specs.declared.change.Commit.{Commit}
use Rattle.nm_model_index.specs.Index.{folded}
use Rattle.nm_model_index.specs.declared.base.Base.{Base}
use Rattle.nm_lanes.specs.declared.script.ScriptLine.{ScriptLine}
use Rattle.nm_log.specs.declared.log.LineLog.{LineLog}
use Rattle.nm_log.specs.ParsedLine.{parse_line}
use Rattle.nm_log.specs.declared.line_parser.ParsedLine.{ParsedLine}
use Rattle.nm_log.specs.declared.line_parser.ParsedLine.TheVariants as asked
use Rattle.nm_model_machine.specs.declared.step.Step.{Step}
use Rattle.nm_model_machine.specs.declared.step.Step.TheVariants.{Begin, Append, Show, See, Meet, Reply, Crash, Reopen}
use Rattle.nm_maildir.specs.Observed.{tree_with}
use Rattle.nm_maildir.specs.Tree.{Tree}
use Rattle.nm_maildir.specs.declared.answers.MailError.{MailError}
use Rattle.nm_maildir.specs.declared.given.Given.{Given}
use Rattle.nm_maildir.specs.declared.given.Given.TheVariants as givens
use Rattle.nm_scan.specs.Bodies.{left_after}
use Rattle.nm_history.specs.Call.{Call, Devices, PlacedLine, call_lines}

-- a line, and what was done with it
abbrev pub RunLine : Type 0
RunLine = ScriptLine × LineLog

-- the first of these lines, as many as there are logs
abbrev pub run_lines : List PlacedLine → List LineLog → List RunLine
run_lines placed logs = zip (map (λ line. line.1) placed) logs

-- those of the call, as many as the log has
abbrev pub lines_run : List ℕ → Call → List RunLine
lines_run input call = run_lines (call_lines call.words input) call.done.log.lines

-- lane 0 commits
abbrev pub is_in_lane_zero : RunLine → Bool
is_in_lane_zero ran = ran.0.lane == 0

-- the lines of lane 0
abbrev pub lane_zero_lines : List RunLine → List RunLine
lane_zero_lines lines = filter is_in_lane_zero lines

-- those of the other lanes
abbrev pub other_lane_lines : List RunLine → List RunLine
other_lane_lines lines = filter (λ ran. not (is_in_lane_zero ran)) lines

-- the commit that a step begins
abbrev pub begun_by : Step → List Commit
begun_by (Begin commit) = commit ∷ []
begun_by Append = []
begun_by Show = []
begun_by (See lane) = []
begun_by Meet = []
begun_by (Reply lane request text) = []
begun_by (Crash kept) = []
begun_by Reopen = []

-- the commits that the steps begin, in order
abbrev pub begun : List Step → List Commit
begun steps = flat_map begun_by steps

-- The index at a revision is the one after the commits up to it.
pub record IsIndexAt (opening : Base) (steps : List Step) (revision : ℕ) (index : Base) : Type 0 where
  pub front : List Commit
  pub more : List Commit
  pub begun_are : begun steps ≡ front ++ more
  pub revision_is : revision ≡ opening.revision + length front
  pub index_is : index ≡ folded opening front

-- What comes before a line of lane 0: the revision, how often the devices have failed, the faults of the disk when it failed in a line,
-- and how many bytes may still be shown
pub record Before : Type 0 where
  pub revision : ℕ
  pub mail_faults : ℕ
  pub disk_faults : ℕ
  pub closed : Option ℕ
  pub left : ℕ

-- before the first line
abbrev pub at_first : Base → Devices → Before
at_first opening entry = record {
  revision = opening.revision;
  mail_faults = entry.mail.faults;
  disk_faults = entry.disk.faults;
  closed = None;
  left = max_mail_bytes;
}

-- a fault of the disk in a line closes the index to all later lines
abbrev pub closed_after : Option ℕ → Bool → ℕ → Option ℕ
closed_after closed failed faults = if failed then Some faults else closed

-- after a line there is what its log says
abbrev pub after_line : Before → RunLine → Before
after_line before ran = record {
  revision = ran.1.revision;
  mail_faults = ran.1.mail_faults;
  disk_faults = ran.1.disk_faults;
  closed = closed_after before.closed ran.1.disk_failed ran.1.disk_faults;
  left = left_after before.left ran.1.given;
}

-- after all these lines
abbrev pub after_lines : Before → List RunLine → Before
after_lines before lines = fold after_line before lines

-- it is so of each line, with what comes before it
abbrev pub Along : (Before → RunLine → Type 0) → Before → List RunLine → Type 0
Along holds before [] = Unit {0}
Along holds before (ran ∷ more) = holds before ran × Along holds (after_line before ran) more

-- ---- the tree of the mail folder

-- a tree once this was given: a rename that moved a file changes it
abbrev pub given_in : Tree → Given → Tree
given_in tree (givens.Listed paths) = tree
given_in tree (givens.Read path answer) = tree
given_in tree (givens.Renamed from to answer) = tree_with {E = MailError} tree from to (Ok answer)

-- the tree, where it is known, after a request of this kind that was given this: what sets tags alone renames files
abbrev pub tree_by : Kind → List Given → Option Tree → Option Tree
tree_by TakesMail given tree = tree
tree_by ReadsIndex given tree = tree
tree_by (ShowsFiles ask) given tree = tree
tree_by SetsTags given tree = option_map (λ t. fold given_in t given) tree

-- after a line
abbrev pub tree_after_line : ParsedLine → List Given → Option Tree → Option Tree
tree_after_line (asked.Request request) given tree = tree_by (kind_of request) given tree
tree_after_line (asked.Usage word kind) given tree = tree

-- after a line that was run
abbrev pub tree_after : Option Tree → RunLine → Option Tree
tree_after tree ran = tree_after_line (parse_line ran.0) ran.1.given tree

-- after all these lines
abbrev pub tree_after_all : Option Tree → List RunLine → Option Tree
tree_after_all tree lines = fold tree_after tree lines
