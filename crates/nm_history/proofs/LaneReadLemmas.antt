-- What commits nothing leaves the rest as it is, where it comes last and where it is between; and the end of a phase goes on with the run of the
-- machine. For the proofs of `a_barrier_keeps_the_machine_run`, `what_stands_between_keeps_the_commits` and the others of `other_lane_laws`.
use Rattle.std.proofs.Common.{◌≡◌, ℕ, ℤ, ◌+◌, List, [], ◌∷◌, ◌++◌, Option, filter, length, replicate, slice_index, refl, sym, ap, ◌∙◌, subst, arith, append-nil, append_assoc}
use Rattle.std.proofs.lemmas.List.{length-replicate}
use Rattle.nm_commit.specs.declared.change.Commit.{Commit}
use Rattle.nm_model_index.specs.declared.base.Base.{Base}
use Rattle.nm_model_machine.specs.Machine as machine
use Rattle.nm_model_machine.specs.Machine.{Machine}
use Rattle.nm_model_machine.specs.declared.step.Step.{Step}
use Rattle.nm_model_machine.specs.declared.step.Step.TheVariants as steps
use Rattle.nm_maildir.specs.Observed.{ObservedMail}
use Rattle.nm_maildir.specs.Tree.{Tree}
use Rattle.nm_history.specs.Call.{Devices}
use Rattle.nm_history.specs.CrashPrefix.{appends}
use Rattle.nm_history.specs.Given.{GivenAlong}
use Rattle.nm_history.specs.LineAnswers.{HasLaneRead, LaneAnswers, LineAnswers}
use Rattle.nm_history.specs.LineCommits.{EachMakes, LineCommits}
use Rattle.nm_history.specs.LineResult.{CommitNothing, IsLaneReadResult, Place, StandsAt, lane_read_steps}
use Rattle.nm_history.specs.Lines.{Before, IsIndexAt, RunLine, after_line, begun}
use Rattle.nm_history.specs.MachineRun.{MachineRun, Replied, commit_phases_from, is_of_lane, lane_count, lane_steps_from, phase_after, reply_to}
use Rattle.nm_history.proofs.ClockLemmas.{appends-append, appends-replies}
use Rattle.nm_history.proofs.LineLemmas.{answer-kept, asks-kept, begun-append, begun-replies, fold-append, index-kept, revision-folded}
use Rattle.nm_history.proofs.MachineLemmas.{never-append, runs-append}
use Rattle.nm_history.proofs.PhaseLemmas.{lane-steps-append, phases-append}

-- ---- what commits nothing

pub lane_read-commits-nothing : (lane : ℕ) (replies : List Replied) → CommitNothing (lane_read_steps lane replies)
lane_read-commits-nothing lane replies = (begun-replies replies, appends-replies replies)

-- where steps begin the same commits

module _ (steps others : List Step) (same : begun others ≡ begun steps) where
  pub stands-same : (opening : Base) (entry : Devices) (lines : List RunLine) (acknowledged : List Commit) (place : Place) → StandsAt opening entry steps lines acknowledged place → StandsAt opening entry others lines acknowledged place
  stands-same opening entry lines acknowledged place at = record {
    in_flight = at.in_flight;
    begun_are = same ∙ at.begun_are;
    begun_by_writer = at.begun_by_writer;
    none_open = at.none_open;
    acked = at.acked;
    opens = at.opens;
    published = at.published;
    shown = at.shown;
    before = at.before;
    tree = at.tree;
  }

  pub commits-same : (opening : Base) (moment : ℤ) (tree : Option Tree) (lines : List RunLine) (acknowledged : List Commit) → LineCommits opening moment tree steps lines acknowledged → LineCommits opening moment tree others lines acknowledged
  commits-same opening moment tree lines acknowledged h = subst (λ (l : List Commit). EachMakes opening moment tree [] lines l acknowledged) (sym same) h

  pub none-more : begun others ≡ begun steps ++ []
  none-more = same ∙ sym (append-nil (begun steps))

-- where steps that commit nothing come last, or between others

pub begun-last : (steps taken : List Step) → CommitNothing taken → begun (steps ++ taken) ≡ begun steps
begun-last steps taken nothing = begun-append steps taken ∙ (ap (λ (l : List Commit). begun steps ++ l) nothing.0 ∙ append-nil (begun steps))

pub appends-last : (steps taken : List Step) → CommitNothing taken → appends (steps ++ taken) ≡ appends steps
appends-last steps taken nothing = omega (arith, appends-append steps taken, nothing.1)

pub begun-between : (front back taken : List Step) → CommitNothing taken → begun (front ++ (taken ++ back)) ≡ begun (front ++ back)
begun-between front back taken nothing =
    begun-append front (taken ++ back)
    ∙ (ap (λ (l : List Commit). begun front ++ l) (begun-append taken back ∙ ap (λ (l : List Commit). l ++ begun back) nothing.0) ∙ sym (begun-append front back))

pub appends-between : (front back taken : List Step) → CommitNothing taken → appends (front ++ (taken ++ back)) ≡ appends (front ++ back)
appends-between front back taken nothing = omega (arith, appends-append front (taken ++ back), appends-append taken back, appends-append front back, nothing.1)

-- ---- what was answered stays, where steps begin the same commits and perhaps more

module _ (opening : Base) (moment : ℤ) (steps others : List Step) (more : List Commit) (grown : begun others ≡ begun steps ++ more) where
  pub answers-kept : (before : Before) (lines : List RunLine) → LineAnswers opening moment before steps lines → LineAnswers opening moment before others lines
  answers-kept before [] h = tt
  answers-kept before (ran ∷ lines) h = (answer-kept opening moment steps others more grown before ran h.0, answers-kept (after_line before ran) lines h.1)

  pub given-kept : (before : Before) (lines : List RunLine) (old new : ObservedMail) → GivenAlong opening moment steps before lines old new → GivenAlong opening moment others before lines old new
  given-kept before [] old new h = h
  given-kept before (ran ∷ lines) old new h = (h.0, asks-kept opening moment steps others more grown before ran old h.0 h.1, given-kept (after_line before ran) lines h.0 new h.2)

  lane_read-kept : (ran : RunLine) → HasLaneRead opening moment steps ran → HasLaneRead opening moment others ran
  lane_read-kept ran h = record {
    index = h.index;
    at = index-kept opening steps others more grown _ _ h.at;
    cause = h.cause;
    status = h.status;
    text = h.text;
    given = h.given;
    mail = h.mail;
    disk = h.disk;
    well = h.well;
  }

  pub lane_reads-kept : (lines : List RunLine) → LaneAnswers opening moment steps lines → LaneAnswers opening moment others lines
  lane_reads-kept [] h = tt
  lane_reads-kept (ran ∷ lines) h = (lane_read-kept ran h.0, lane_reads-kept lines h.1)

  lane_reads-last : (lines : List RunLine) (ran : RunLine) → LaneAnswers opening moment steps lines → HasLaneRead opening moment others ran → LaneAnswers opening moment others (lines ++ ran ∷ [])
  lane_reads-last [] ran h lane_read = (lane_read, tt)
  lane_reads-last (first ∷ lines) ran h lane_read = (lane_read-kept first h.0, lane_reads-last lines ran h.1 lane_read)

-- ---- a line more of another lane

module _ (opening : Base) (moment : ℤ) (phase : ℕ) (entry : Devices) (front back taken : List Step) (lines others : List RunLine) (acknowledged : List Commit)
    (place : Place) (index : Base) (ran : RunLine) (at : StandsAt opening entry (front ++ back) lines acknowledged place) (lane_read : IsLaneReadResult moment phase opening acknowledged index ran taken back) where
  index-seen : IsIndexAt opening (front ++ back) ran.1.revision index
  index-seen = record {
    front = lane_read.seen;
    more = lane_read.later ++ at.in_flight;
    begun_are = at.begun_are ∙ (ap (λ (l : List Commit). l ++ at.in_flight) lane_read.both ∙ append_assoc lane_read.seen lane_read.later at.in_flight);
    revision_is = lane_read.revision ∙ (ap (λ (i : Base). i.revision) lane_read.index_is ∙ revision-folded opening lane_read.seen);
    index_is = lane_read.index_is;
  }

  pub lane_read-nothing : CommitNothing taken
  lane_read-nothing = subst CommitNothing (sym lane_read.steps) (lane_read-commits-nothing ran.0.lane (reply_to ran))

  pub none-grown : begun (front ++ (taken ++ back)) ≡ begun (front ++ back) ++ []
  none-grown = none-more (front ++ back) (front ++ (taken ++ back)) (begun-between front back taken lane_read-nothing)

  pub lane_reads-more : LaneAnswers opening moment (front ++ back) others → LaneAnswers opening moment (front ++ (taken ++ back)) (others ++ ran ∷ [])
  lane_reads-more h = lane_reads-last opening moment (front ++ back) (front ++ (taken ++ back)) [] none-grown others ran h (record {
    index = index;
    at = index-kept opening (front ++ back) (front ++ (taken ++ back)) [] none-grown _ _ index-seen;
    cause = lane_read.cause;
    status = lane_read.status;
    text = lane_read.text;
    given = lane_read.given;
    mail = lane_read.mail;
    disk = lane_read.disk;
    well = lane_read.well;
  })

-- ---- the end of a phase

pub run-barrier : (opening : Base) (moment : ℤ) (phase : ℕ) (first : Before) (before : List Step) (lines : List RunLine) (acknowledged : List Commit)
    → MachineRun opening moment first before lines acknowledged phase → MachineRun opening moment first (before ++ steps.Meet ∷ []) lines acknowledged (phase + 1)
run-barrier opening moment phase first before lines acknowledged h =
    let start : Machine = machine.start opening lane_count in
    let met : Machine = record h.last { lanes = replicate (length h.last.lanes) h.last.shown } in
    let sees : slice_index met.lanes 0 ≡ length h.last.commits = ap (λ (n : ℕ). slice_index (replicate n h.last.shown) 0) h.rest.lanes ∙ sym h.rest.shown in
    record {
      last = met;
      run = runs-append moment start h.last met before (steps.Meet ∷ []) h.run (met, record { allowed = (h.rest.up, h.rest.shown); after = refl }, refl);
      never_stops = never-append before (steps.Meet ∷ []) h.never_stops (refl, tt);
      phases = fold-append phase_after 0 before (steps.Meet ∷ []) ∙ ap (λ (n : ℕ). n + 1) h.phases;
      lane_steps = λ lane.
          ap (filter (is_of_lane lane)) (lane-steps-append 0 start before (steps.Meet ∷ []) ∙ append-nil (lane_steps_from 0 start before)) ∙ h.lane_steps lane;
      commit_phases = phases-append 0 before (steps.Meet ∷ []) ∙ (append-nil (commit_phases_from 0 before) ∙ h.commit_phases);
      begun_are = begun-last before (steps.Meet ∷ []) (refl, refl) ∙ h.begun_are;
      rest = record {
        opening_is = h.rest.opening_is;
        commits = h.rest.commits;
        shown = h.rest.shown;
        lanes = length-replicate {A = ℕ} (length h.last.lanes) h.last.shown ∙ h.rest.lanes;
        sees = sees;
        up = h.rest.up;
      };
      revision = h.revision;
    }
