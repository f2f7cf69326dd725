-- Before the first phase of a session, and after the last. For the proofs of `run_phases` and `run_all`.
use Rattle.std.proofs.Common.{◌≡◌, ℕ, ℤ, ◌≤◌, Bool, List, [], ◌∷◌, ◌++◌, None, length, take, refl, sym, ap, ◌∙◌, subst, arith}
use Rattle.nm_base.specs.Limits.{max_mail_bytes}
use Rattle.nm_commit.specs.declared.change.Commit.{Commit}
use Rattle.nm_disk.specs.Calls.{GoesOn}
use Rattle.nm_disk.specs.Observed.{ObservedDisk}
use Rattle.nm_history.specs.Call.{Devices, PlacedLine, lines_of_first, placed_from}
use Rattle.nm_io.specs.Observed.{ObservedSink}
use Rattle.nm_history.specs.CrashPrefix.{appends}
use Rattle.nm_history.specs.Given.{GivenAlong}
use Rattle.nm_history.specs.LineAnswers.{LaneAnswers, LineAnswers}
use Rattle.nm_history.specs.LineCommits.{LineCommits}
use Rattle.nm_history.specs.LineResult.{Place, StandsAt}
use Rattle.nm_history.specs.Lines.{Before, RunLine, after_lines, at_first, lane_zero_lines, other_lane_lines, run_lines}
use Rattle.nm_history.specs.MachineRun.{MachineRun}
use Rattle.nm_history.specs.PrintedOut.{AreLogsOf, GainsReplies}
use Rattle.nm_model_index.specs.declared.base.Base.{Base}
use Rattle.nm_lanes.specs.declared.script.Phase.{Phase}
use Rattle.nm_log.specs.declared.log.LineLog.{LineLog}
use Rattle.nm_log.specs.declared.log.SessionLog.{SessionLog}
use Rattle.nm_model_machine.specs.declared.step.Step.{Step}
use Rattle.nm_maildir.specs.Observed.{ObservedMail}
use Rattle.nm_session.specs.Loop.{HasNoted, HasRunSome, StandFor, lines_at, steps_at}
use Rattle.nm_trace.specs.Trace.{steps_of}
use Rattle.nm_session.specs.Phases.{HasRunPhases}
use Rattle.nm_trace.specs.ReservedLog.{HasRoom}
use Rattle.nm_session.specs.Run.{HasRun, IsKept}
use Rattle.nm_session.specs.TurnLaws.{FirstLaws}
use Rattle.nm_phase.specs.Turns.{Planned}
use Rattle.nm_session.specs.Turns.{ends_in, lines_in, planned_from}
use Rattle.nm_trace.specs.declared.trace.Mark.{Mark}
use Rattle.nm_trace.specs.declared.reserved_log.ReservedLog.{ReservedLog}
use Rattle.nm_session.proofs.TraceLemmas.{begun-are}
use Rattle.nm_session.proofs.TurnLemmas.{ends-planned, lines-planned, placed-cut, take-within}
use Rattle.nm_writer.specs.Durable.{IsDurable, KeptSince}

-- ---- no turn was taken yet

nothing-of : (commits : List Commit) (ms : List Mark) → ms ≡ [] → steps_of ms commits ≡ []
nothing-of commits ms none = ap (λ (l : List Mark). steps_of l commits) none

pub noted-none : (reserved : ReservedLog) (place : Place) (turns : ℕ) → HasRoom turns reserved → place.writer.begun ≡ [] → place.writer.acked ≡ [] → HasNoted [] reserved place
noted-none reserved place turns h begun_none acked_none = record {
  logs = subst (λ (l : List LineLog). AreLogsOf [] l) (sym h.logs) tt;
  stand = subst (λ (l : List Mark). StandFor l place.writer.begun) (sym h.marks) (subst (λ (l : List Commit). StandFor [] l) (sym begun_none) tt);
  few = omega (arith, ap length (nothing-of place.writer.begun reserved.marks.0 h.marks));
  within = omega (arith, ap length begun_none);
  even = λ alive. ap length begun_none ∙ sym (ap length acked_none);
}

pub some-none : FirstLaws → (moment : ℤ) (entry : Devices) (reserved : ReservedLog) (place : Place) (turns : ℕ) → HasRoom turns reserved
    → place.writer.published.opening ≡ place.writer.shown → place.writer.published.commits ≡ [] → place.writer.begun ≡ [] → place.writer.acked ≡ [] → place.writer.closed ≡ None
    → entry.mail ≡ place.mail → entry.disk.faults ≡ place.disk_faults → place.left ≡ max_mail_bytes → HasRunSome moment place.writer.shown entry [] reserved place
some-none laws moment entry reserved place turns h opens unpublished begun_none acked_none alive mail disk left =
    let opening : Base = place.writer.shown in
    let none : [] ≡ steps_at reserved place = sym (nothing-of place.writer.begun reserved.marks.0 h.marks) in
    record {
      acknowledged = [];
      at = subst (λ (l : List Step). StandsAt opening entry l [] [] place) none (laws.stands opening entry place opens unpublished refl begun_none acked_none alive (sym mail) (sym disk) left);
      machine_run = subst (λ (l : List Step). MachineRun opening moment (at_first opening entry) l [] [] 0) none (laws.machine_run opening moment entry);
      line_commits = subst (λ (l : List Step). LineCommits opening moment entry.mail.tree l [] []) none (laws.commits opening moment entry);
      line_answers = subst (λ (l : List Step). LineAnswers opening moment (at_first opening entry) l []) none (laws.answers opening moment entry);
      lane_answers = tt;
      given = subst (λ (l : List Step). GivenAlong opening moment l (at_first opening entry) [] entry.mail place.mail) none
          (subst (λ (m : ObservedMail). GivenAlong opening moment [] (at_first opening entry) [] entry.mail m) mail (laws.given opening moment entry));
      clocks = ap length acked_none ∙ ap appends none;
    }

-- ---- what the turns leave that were taken

run-front : (front back : List PlacedLine) (logs : List LineLog) → AreLogsOf front logs → run_lines (front ++ back) logs ≡ run_lines front logs
run-front [] [] [] h = refl
run-front [] (line ∷ back) [] h = refl
run-front [] back (log ∷ logs) h = absurd h
run-front (line ∷ front) back [] h = absurd h
run-front (line ∷ front) back (log ∷ logs) h = ap (λ (l : List RunLine). (line.1, log) ∷ l) (run-front front back logs h.1)

module _ (moment : ℤ) (session failed : Bool) (opening : Base) (entry : Devices) (phases : List Phase) (reserved : ReservedLog) (place : Place) (mail : ObservedMail) (disk_faults : ℕ) (old out : ObservedSink) (log : SessionLog)
    (h : HasRunPhases moment session failed opening mail disk_faults phases reserved place old out) (mail_is : entry.mail ≡ mail) (disk_is : entry.disk.faults ≡ disk_faults) (out_is : entry.out ≡ old)
    (is : log ≡ record { steps = steps_at reserved place; lines = reserved.logs.0; acked = place.writer.acked }) where
  abbrev taken : List Planned
  taken = planned_from 0 (take h.count phases)

  lines-are : lines_in taken ≡ lines_of_first h.count phases
  lines-are = lines-planned 0 (take h.count phases)

  runs-are : lines_at taken reserved ≡ run_lines (placed_from 0 phases) reserved.logs.0
  runs-are =
      let cut = placed-cut 0 h.count phases in
      ap (λ (l : List PlacedLine). run_lines l reserved.logs.0) lines-are
      ∙ sym (ap (λ (l : List PlacedLine). run_lines l reserved.logs.0) cut.1 ∙ run-front (lines_of_first h.count phases) cut.0 reserved.logs.0 (subst (λ (l : List PlacedLine). AreLogsOf l reserved.logs.0) lines-are h.noted.logs))

  some : HasRunSome moment opening entry taken reserved place
  some = h.ran entry mail_is disk_is

  ended-are : ends_in taken ≡ h.count
  ended-are = ends-planned 0 (take h.count phases) ∙ take-within h.count phases h.within

  pub has-run : HasRun moment opening entry phases session place.mail place.disk_faults out failed log
  has-run =
      subst (λ (l : SessionLog). HasRun moment opening entry phases session place.mail place.disk_faults out failed l) (sym is) (record {
        acknowledged = some.acknowledged;
        phases_run = h.count;
        logs = subst (λ (l : List PlacedLine). AreLogsOf l reserved.logs.0) lines-are h.noted.logs;
        machine_run = subst (λ (n : ℕ). MachineRun opening moment (at_first opening entry) (steps_at reserved place) (run_lines (placed_from 0 phases) reserved.logs.0) some.acknowledged n) ended-are
            (subst (λ (l : List RunLine). MachineRun opening moment (at_first opening entry) (steps_at reserved place) l some.acknowledged (ends_in taken)) runs-are some.machine_run);
        line_commits = subst (λ (l : List RunLine). LineCommits opening moment entry.mail.tree (steps_at reserved place) (lane_zero_lines l) some.acknowledged) runs-are some.line_commits;
        line_answers = subst (λ (l : List RunLine). LineAnswers opening moment (at_first opening entry) (steps_at reserved place) (lane_zero_lines l)) runs-are some.line_answers;
        lane_answers = subst (λ (l : List RunLine). LaneAnswers opening moment (steps_at reserved place) (other_lane_lines l)) runs-are some.lane_answers;
        given = subst (λ (l : List RunLine). GivenAlong opening moment (steps_at reserved place) (at_first opening entry) (lane_zero_lines l) entry.mail place.mail) runs-are some.given;
        faults = subst (λ (l : List RunLine). (after_lines (at_first opening entry) (lane_zero_lines l)).disk_faults ≡ place.disk_faults) runs-are (ap (λ (b : Before). b.disk_faults) some.at.before);
        clocks = some.clocks;
        printed = subst (λ (o : ObservedSink). GainsReplies failed session phases h.count reserved.logs.0 o out) (sym out_is) h.out;
      })

pub is-kept : (entry now : ObservedDisk) (opening : Base) (planned : List Planned) (reserved : ReservedLog) (place : Place) (log : SessionLog) → HasNoted planned reserved place → IsDurable entry opening now place.writer
    → log ≡ record { steps = steps_at reserved place; lines = reserved.logs.0; acked = place.writer.acked } → IsKept entry opening now log
is-kept entry now opening planned reserved place log noted durable is =
    subst (λ (l : SessionLog). IsKept entry opening now l) (sym is) (record {
      kept = subst (λ (l : List Commit). GoesOn (KeptSince opening l place.writer.acked) entry.told now.told) (sym (begun-are reserved.marks.0 place.writer.begun noted.stand)) durable.kept;
      clocks = durable.clocks;
    })

-- all steps have a place
pub steps-fit : (turns : ℕ) (planned : List Planned) (before after : ReservedLog) (place : Place) → length planned ≤ turns → HasRoom turns before → HasNoted planned after place → after.steps ≡ before.steps
    → (after.steps.0 ≡ []) × (length (steps_of after.marks.0 place.writer.begun) ≤ after.steps.1)
steps-fit turns planned before after place many h noted same =
    let list : after.steps.0 ≡ before.steps.0 = ap (λ (r : List Step × ℕ). r.0) same in
    let spare : after.steps.1 ≡ before.steps.1 = ap (λ (r : List Step × ℕ). r.1) same in
    (list ∙ h.steps, omega (arith, many, noted.few, noted.within, h.steps_spare, spare))
