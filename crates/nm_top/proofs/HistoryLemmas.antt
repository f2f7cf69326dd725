-- The whole statement of a session, from its parts.
-- For the proofs of `run`, `run_script` and `run_single`.
use Rattle.std.proofs.Common.{◌≡◌, inl, inr, ℕ, Bool, false, List, [], ◌∷◌, Option, None, Some, IfSome, Result, Ok, Err, IfOk, IfErr, refl, sym, ap, ◌∙◌, arith, subst}
use Rattle.nm_disk.specs.Calls.{GoesOn}
use Rattle.nm_disk.specs.CrashStates.{IsImage}
use Rattle.nm_disk.specs.Observed.{Moments, ObservedDisk}
use Rattle.nm_history.specs.Call.{Devices, PlacedLine, Ran, Refused, call_fault, call_lines, call_of, call_phases, call_reads, devices, input_fault, is_session}
use Rattle.nm_history.specs.CrashPrefix.{CrashPrefix, KeepsDisk}
use Rattle.nm_history.specs.Given.{GivenAlong}
use Rattle.nm_history.specs.History.{History}
use Rattle.nm_history.specs.LineAnswers.{LaneAnswers, LineAnswers}
use Rattle.nm_history.specs.LineCommits.{LineCommits}
use Rattle.nm_history.specs.Lines.{RunLine, at_first, lane_zero_lines, other_lane_lines, run_lines}
use Rattle.nm_history.specs.MachineRun.{MachineRun}
use Rattle.nm_history.specs.OpeningIndex.{IsUnwritten}
use Rattle.nm_history.specs.PrintedOut.{Prints, final_message}
use Rattle.nm_history.specs.Refusals.{IsRefusedFor, RefusesLine, TakesInput}
use Rattle.nm_history.specs.Status.{status_by}
use Rattle.nm_history.specs.UnaskedLine.{refused_done}
use Rattle.nm_model_index.specs.Index.{empty_index}
use Rattle.nm_journal.specs.Journal.{IfKnown}
use Rattle.nm_journal.specs.Moments.{SyncsOrFails}
use Rattle.nm_lanes.specs.declared.script.Phase.{Phase}
use Rattle.nm_log.specs.Refusals.{refused_line, refused_status}
use Rattle.nm_log.specs.declared.log.Done.{Done}
use Rattle.nm_log.specs.declared.log.LineLog.{LineLog}
use Rattle.nm_log.specs.declared.log.SessionLog.{SessionLog}
use Rattle.nm_log.specs.declared.log.Setting.{Setting}
use Rattle.nm_log.specs.declared.outcome.Outcome.{Outcome}
use Rattle.nm_log.specs.declared.refusal.Refusal.{Refusal}
use Rattle.nm_log.specs.declared.refusal.Refusal.TheVariants as refusals
use Rattle.nm_io.specs.Observed.{ObservedSink, ObservedStream}
use Rattle.nm_maildir.specs.Observed.{ObservedMail}
use Rattle.nm_session.specs.Run.{HasRun}
use Rattle.nm_session.specs.Session.{HasOpenCause, IsSession, IsUnopened}
use Rattle.nm_call.specs.PreparedCall.{HasPhases, RefusesFor, session_of}
use Rattle.nm_call.specs.declared.prepared_call.PreparedCall.{PreparedCall}
use Rattle.nm_top.specs.CallEnd.{EndsRun, Refuses, RefusesAlone, ended_with, refusal_of}
use Rattle.nm_top.specs.RefusalLaws.{RefusalLaws}
use Rattle.nm_replay.specs.declared.open_error.OpenError.{OpenError}
use Rattle.nm_replay.specs.declared.open_error.OpenError.TheVariants as errors

abbrev no_logs : List LineLog
no_logs = []

none-run : (placed : List PlacedLine) → run_lines placed no_logs ≡ []
none-run [] = refl
none-run (line ∷ placed) = refl

unasked-told : RefusalLaws → (told : Option Moments) → IfSome told (λ moments. IsImage moments.present moments.present.now) → IfKnown told told (KeepsDisk [] [])
unasked-told laws None image = tt
unasked-told laws (Some m) image = laws.stays m m image image (inl (inl refl))

-- a disk that was not asked was not written
unwritten-told : (told : Option Moments) → GoesOn SyncsOrFails told told
unwritten-told None = tt
unwritten-told (Some m) = inl (inl refl)

-- a disk that was not asked
pub unasked : RefusalLaws → (disk : ObservedDisk) → IfSome disk.told (λ moments. IsImage moments.present moments.present.now) → CrashPrefix disk disk [] []
unasked laws disk image = record { every_moment = unasked-told laws disk.told image; one_each = refl; clocks = omega arith }

module _ (laws : RefusalLaws) (refusal : Refusal) (input : List ℕ) (words : List (List ℕ)) (setting : Setting) (entry after : Devices)
    (cause : (done : Done) → IsRefusedFor refusal input (call_of words setting entry after done)) (kept : CrashPrefix entry.disk after.disk [] [])
    (unwritten : IsUnwritten entry.disk after.disk) (same_mail : after.mail ≡ entry.mail) (same_out : after.out ≡ entry.out) where
  given-none : GivenAlong empty_index setting.moment [] (at_first empty_index entry) (lane_zero_lines (run_lines (call_lines words input) no_logs)) entry.mail after.mail
  given-none = subst (λ (m : ObservedMail). GivenAlong empty_index setting.moment [] (at_first empty_index entry) (lane_zero_lines (run_lines (call_lines words input) no_logs)) entry.mail m) (sym same_mail)
      (subst (λ (l : List RunLine). GivenAlong empty_index setting.moment [] (at_first empty_index entry) (lane_zero_lines l) entry.mail entry.mail) (sym (none-run (call_lines words input))) (laws.given empty_index setting.moment entry))

  ended-history : Prints (Some (refused_line refusal)) entry.err after.err → History (call_of words setting entry after (ended_with (refused_status refusal)))
  ended-history says = (
    empty_index,
    input,
    record {
      ending = Refused refusal;
      phases_run = 0;
      out_failed = false;
      acknowledged = [];
      opening_index = unwritten;
      machine_run = subst (λ (l : List RunLine). MachineRun empty_index setting.moment (at_first empty_index entry) [] l [] 0) (sym (none-run (call_lines words input))) (laws.run empty_index setting.moment entry);
      line_commits = subst (λ (l : List RunLine). LineCommits empty_index setting.moment entry.mail.tree [] (lane_zero_lines l) []) (sym (none-run (call_lines words input))) (laws.commits empty_index setting.moment entry);
      line_answers = subst (λ (l : List RunLine). LineAnswers empty_index setting.moment (at_first empty_index entry) [] (lane_zero_lines l)) (sym (none-run (call_lines words input))) (laws.answers empty_index setting.moment entry);
      lane_answers = subst (λ (l : List RunLine). LaneAnswers empty_index setting.moment [] (other_lane_lines l)) (sym (none-run (call_lines words input))) tt;
      given = record { along = given-none; disk = tt };
      printed_out = (cause (ended_with (refused_status refusal)), record { lines = refl; steps = refl; acked = refl; mail = same_mail; out = same_out; says = says });
      crash_prefix = kept;
      status = refl;
    },
  )

  -- a call that is refused as a whole
  pub refused-history : (done : Done) → Refuses refusal entry.err after.err done → History (call_of words setting entry after done)
  refused-history done ends = subst (λ (d : Done). History (call_of words setting entry after d)) (sym ends.ended) (ended-history ends.says)

-- a call that is refused before another device than its input is asked
pub unasked-history : RefusalLaws → (refusal : Refusal) (input : List ℕ) (words : List (List ℕ)) (setting : Setting) (mail : ObservedMail) (disk : ObservedDisk) (old new : ObservedStream) (out err said : ObservedSink)
    → IfSome disk.told (λ moments. IsImage moments.present moments.present.now) → RefusesFor refusal input words old new
    → (done : Done) → Refuses refusal err said done → History (call_of words setting (devices mail disk old out err) (devices mail disk new out said) done)
unasked-history laws refusal input words setting mail disk old new out err said image cause done ends =
    refused-history laws refusal input words setting (devices mail disk old out err) (devices mail disk new out said) (λ d. cause setting mail disk out err said d) (unasked laws disk image) (unwritten-told disk.told) refl refl done ends

-- a single command that is refused before the mail folder and the disk are asked, which have failed so often
pub line-history : RefusalLaws → (why : Outcome) (input : List ℕ) (words : List (List ℕ)) (setting : Setting) (mail : ObservedMail) (disk : ObservedDisk) (old new : ObservedStream) (out err said : ObservedSink)
    → IfSome disk.told (λ moments. IsImage moments.present moments.present.now) → is_session words ≡ false → RefusesLine why input words old new
    → (mail_faults disk_faults : ℕ) → mail_faults ≡ mail.faults → disk_faults ≡ disk.faults
    → (done : Done) → RefusesAlone why mail_faults disk_faults err said done → History (call_of words setting (devices mail disk old out err) (devices mail disk new out said) done)
line-history laws why input words setting mail disk old new out err said image single cause mail_faults disk_faults mail_is disk_is done (inl line) =
    subst (λ (d : Done). History (call_of words setting (devices mail disk old out err) (devices mail disk new out said) d))
    (sym (line.ended ∙ (ap (λ (n : ℕ). refused_done why n disk_faults) mail_is ∙ ap (λ (n : ℕ). refused_done why mail.faults n) disk_is)))
    (laws.line why input words setting mail disk old new out err said single cause line.says image)
line-history laws why input words setting mail disk old new out err said image single cause mail_faults disk_faults mail_is disk_is done (inr none) =
    unasked-history laws refusals.NoMemory input words setting mail disk old new out err said image (λ _ _ _ _ _ _ _. tt) done none

-- the cause of a refusal for an error of opening
open-cause : (error : OpenError) (input : List ℕ) (words : List (List ℕ)) (setting : Setting) (entry after : Devices) (done : Done) → call_fault words ≡ None → TakesInput (call_reads words) (is_session words) input entry.input after.input
    → input_fault words input ≡ None → HasOpenCause entry.disk after.disk error → IsRefusedFor (refusal_of error) input (call_of words setting entry after done)
open-cause errors.DiskFault input words setting entry after done sound takes right cause = (record { words = sound; takes = takes; lines = right }, cause)
open-cause (errors.BadIndex file at) input words setting entry after done sound takes right cause = (record { words = sound; takes = takes; lines = right }, cause.0, cause.1)
open-cause (errors.Limit limit) input words setting entry after done sound takes right cause = inr (record { words = sound; takes = takes; lines = right }, cause)
open-cause errors.NoMemory input words setting entry after done sound takes right cause = tt

-- a call for which no index is opened
unopened-history : RefusalLaws → (error : OpenError) (call : PreparedCall) (words : List (List ℕ)) (setting : Setting) (mail new_mail : ObservedMail) (disk new_disk : ObservedDisk) (old new : ObservedStream) (out new_out err said : ObservedSink)
    → HasPhases words old new call → IsUnopened mail new_mail disk new_disk error → new_out ≡ out
    → (done : Done) → Refuses (refusal_of error) err said done → History (call_of words setting (devices mail disk old out err) (devices new_mail new_disk new new_out said) done)
unopened-history laws error call words setting mail new_mail disk new_disk old new out new_out err said read unopened still done ends =
    refused-history laws (refusal_of error) read.input words setting (devices mail disk old out err) (devices new_mail new_disk new new_out said)
    (λ d. open-cause error read.input words setting (devices mail disk old out err) (devices new_mail new_disk new new_out said) d read.sound read.takes read.right unopened.cause)
    unopened.crash_prefix unopened.unwritten unopened.mail still done ends

-- a call that runs its phases
ran-history : (call : PreparedCall) (words : List (List ℕ)) (setting : Setting) (entry after : Devices) (phases : List Phase) (log : SessionLog) (out_failed : Bool)
    → (read : HasPhases words entry.input after.input call) → phases ≡ call_phases words read.input
    → IsSession setting.moment entry phases (session_of call) after.mail after.disk after.out out_failed log → Prints (final_message (session_of call) log.lines out_failed) entry.err after.err
    → History (call_of words setting entry after (record { status = status_by (session_of call) log.lines out_failed; log = log }))
ran-history call words setting entry after phases log out_failed read same session says =
    let run : HasRun setting.moment session.opening entry (call_phases words read.input) (is_session words) after.mail after.disk.faults after.out out_failed log =
    subst (λ (b : Bool). HasRun setting.moment session.opening entry (call_phases words read.input) b after.mail after.disk.faults after.out out_failed log) read.session
    (subst (λ (ls : List Phase). HasRun setting.moment session.opening entry ls (session_of call) after.mail after.disk.faults after.out out_failed log) same session.run) in (
      session.opening,
      read.input,
      record {
        ending = Ran;
        phases_run = run.phases_run;
        out_failed = out_failed;
        acknowledged = run.acknowledged;
        opening_index = session.opening_index;
        machine_run = run.machine_run;
        line_commits = run.line_commits;
        line_answers = run.line_answers;
        lane_answers = run.lane_answers;
        given = record { along = run.given; disk = run.faults };
        printed_out = (
          record { words = read.sound; takes = read.takes; lines = read.right },
          record { lines = run.logs; out = run.printed; says = subst (λ (b : Bool). Prints (final_message b log.lines out_failed) entry.err after.err) read.session says },
        );
        crash_prefix = session.crash_prefix;
        status = ap (λ (b : Bool). status_by b log.lines out_failed) read.session;
      },
    )

-- a call that was read, whose lines are run or whose index is not opened
pub run-history : RefusalLaws → (call : PreparedCall) (words : List (List ℕ)) (setting : Setting) (mail new_mail : ObservedMail) (disk new_disk : ObservedDisk) (old new : ObservedStream) (out new_out err said : ObservedSink)
    → (read : HasPhases words old new call) (phases : List Phase) (run : Result (SessionLog × Bool) OpenError) → phases ≡ call_phases words read.input
    → IfOk run (λ ran. (source : ObservedStream) (sink : ObservedSink) → IsSession setting.moment (devices mail disk source out sink) phases (session_of call) new_mail new_disk new_out ran.1 ran.0)
    → IfErr run (IsUnopened mail new_mail disk new_disk) → IfErr run (λ _. new_out ≡ out)
    → (done : Done) → EndsRun (session_of call) run err said done → History (call_of words setting (devices mail disk old out err) (devices new_mail new_disk new new_out said) done)
run-history laws call words setting mail new_mail disk new_disk old new out new_out err said read phases (Ok ran) same session unopened still done ends =
    subst (λ (d : Done). History (call_of words setting (devices mail disk old out err) (devices new_mail new_disk new new_out said) d)) (sym ends.0)
    (ran-history call words setting (devices mail disk old out err) (devices new_mail new_disk new new_out said) phases ran.0 ran.1 read same (session old err) ends.1)
run-history laws call words setting mail new_mail disk new_disk old new out new_out err said read phases (Err error) same session unopened still done ends =
    unopened-history laws error call words setting mail new_mail disk new_disk old new out new_out err said read unopened still done ends
