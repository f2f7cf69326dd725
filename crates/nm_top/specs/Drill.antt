-- The statement of a drill: a session of its own, over a store that is made by numbers, and a summary of its replies.
-- Cited by `drill` and `top_call`.
use Rattle.std.specs.Prelude.{◌≡◌, ℕ, ◌==◌, Bool, true, false, List, [], ◌∷◌, ◌++◌, length, replicate, Option, None, Some, Ok, Err, codes, if◌then◌else◌}
use Rattle.std.specs.Fmt.{decimal}
use Rattle.std.specs.List.{list_all}
use Rattle.nm_base.specs.declared.refusals.UsageKind.{UsageKind}
use Rattle.nm_command.specs.Requests.{request_of}
use Rattle.nm_command.specs.declared.command_error.CommandError.TheVariants.{Usage}
use Rattle.nm_command.specs.declared.request.Request.TheVariants as asked
use Rattle.nm_disk.specs.Memory.{fresh_disk, observed_mem}
use Rattle.nm_drill.specs.Drill.{drill_script, drill_tree}
use Rattle.nm_history.specs.Call.{Call, Devices, call_of, devices, is_first}
use Rattle.nm_history.specs.History.{History}
use Rattle.nm_history.specs.PrintedOut.{Prints}
use Rattle.nm_io.specs.Observed.{ObservedSink, ObservedStream, StreamAppends}
use Rattle.nm_log.specs.Replies.{is_well}
use Rattle.nm_log.specs.declared.log.Done.{Done}
use Rattle.nm_log.specs.declared.log.LineLog.{LineLog}
use Rattle.nm_log.specs.declared.log.SessionLog.{SessionLog}
use Rattle.nm_log.specs.declared.log.Setting.{Setting}
use Rattle.nm_log.specs.declared.refusal.Refusal.TheVariants as refusals
use Rattle.nm_maildir.specs.Still.{observed_still}
use Rattle.nm_top.specs.CallEnd.{Refuses}

-- the words ask for a drill: the first of them is `drill`
abbrev pub is_drill : List (List ℕ) → Bool
is_drill words = is_first (codes "drill") words

-- ---- its session

-- a source in memory that has not failed
abbrev pub in_memory : List ℕ → ObservedStream
in_memory held = record { bytes = Some held; faults = 0 }

-- a sink in memory that nothing was put into
abbrev pub empty_sink : ObservedSink
empty_sink = record { bytes = Some []; put = 0; handed = 0; faults = 0 }

-- the devices of its session: the store of n mails, a disk that holds nothing, the script, and two outputs
abbrev pub drill_devices : ℕ → Devices
drill_devices count =
    devices (observed_still (drill_tree count)) (observed_mem (fresh_disk (record { head = replicate 128 0; bank_a = []; bank_b = [] }))) (in_memory drill_script)
    empty_sink empty_sink

-- the session is a call of its own, of the word `session` alone
abbrev pub drill_session : ℕ → Setting → Devices → Done → Call
drill_session count setting after done = call_of (codes "session" ∷ []) setting (drill_devices count) after done

-- The log is that of the session of the drill, with whatever status it ended.
pub record IsLogOfDrill (count : ℕ) (setting : Setting) (log : SessionLog) : Type 0 where
  pub after : Devices
  pub status : ℕ
  pub history : History (drill_session count setting after (record { status = status; log = log }))

-- ---- its summary

-- the log of the line of this number
abbrev pub log_of_line : ℕ → List LineLog → Option LineLog
log_of_line number [] = None
log_of_line number (log ∷ more) = if log.line == number then Some log else log_of_line number more

-- its reply
abbrev pub reply_of_line : ℕ → List LineLog → List ℕ
reply_of_line number logs = elim (log_of_line number logs) [ Some log ↦ log.text | None ↦ [] ]

-- the revision at which it was answered
abbrev pub revision_of_line : ℕ → List LineLog → ℕ
revision_of_line number logs = elim (log_of_line number logs) [ Some log ↦ log.revision | None ↦ 0 ]

-- How many mails were made, how many there are, in how many threads, how many were read, the revision, and the newest thread: lines 4 to 7 of
-- the script ask for these, and each reply ends its line.
abbrev pub summary_of : ℕ → List LineLog → List ℕ
summary_of count logs =
    codes "drill "
    ++ decimal count
    ++ codes "\nmails "
    ++ reply_of_line 4 logs
    ++ codes "threads "
    ++ reply_of_line 5 logs
    ++ codes "read "
    ++ reply_of_line 6 logs
    ++ codes "revision "
    ++ decimal (revision_of_line 4 logs)
    ++ codes "\n"
    ++ reply_of_line 7 logs

-- ---- how it ends

-- each of the six lines of the script was answered
pub record AnswersAll (logs : List LineLog) : Type 0 where
  pub six : length logs ≡ 6
  pub well : list_all (λ log. is_well log.outcome) logs ≡ true

-- How a drill ends whose session was run: its summary was printed; the output failed in that; or memory ran out, in the session, in its
-- devices or for the summary, and nothing was printed.
pub data EndsAfterRun (count : ℕ) (logs : List LineLog) (status : ℕ) (out printed err said : ObservedSink) : Type 0 where
  well : status ≡ 0 → AnswersAll logs → StreamAppends false out printed (summary_of count logs) → said ≡ err → EndsAfterRun count logs status out printed err said
  unprinted : status ≡ 6 → AnswersAll logs → StreamAppends true out printed (summary_of count logs) →
      Prints (Some (codes "notmuch: write fault\n")) err said → EndsAfterRun count logs status out printed err said
  no_memory : status ≡ 7 → printed ≡ out → Prints (Some (codes "notmuch: no memory\n")) err said → EndsAfterRun count logs status out printed err said

-- How a drill ends: its words are wrong; there is no memory to begin with; or its session was run.
pub data DrillEnds (words : List (List ℕ)) (setting : Setting) (done : Done) (out printed err said : ObservedSink) : Type 0 where
  wrong_words : (word : List ℕ) (kind : UsageKind) → request_of words ≡ Err (Usage word kind) → printed ≡ out → Refuses (refusals.Usage word kind) err said done →
      DrillEnds words setting done out printed err said
  not_begun : printed ≡ out → Refuses refusals.NoMemory err said done → DrillEnds words setting done out printed err said
  run : (count : ℕ) → request_of words ≡ Ok (asked.Drill count) → IsLogOfDrill count setting done.log →
      EndsAfterRun count done.log.lines done.status out printed err said → DrillEnds words setting done out printed err said

-- A drill leaves the mail folder, the disk and the input as they are.
pub record IsDrill (call : Call) : Type 0 where
  pub mail : call.after.mail ≡ call.entry.mail
  pub disk : call.after.disk ≡ call.entry.disk
  pub input : call.after.input ≡ call.entry.input
  pub ends : DrillEnds call.words call.setting call.done call.entry.out call.after.out call.entry.err call.after.err

-- ---- the statement of every call

-- by whether it is a drill
abbrev pub HistoryBy : Bool → Call → Type 0
HistoryBy true call = IsDrill call
HistoryBy false call = History call

-- a drill has its own statement, every other call its history
abbrev pub CallHistory : Call → Type 0
CallHistory call = HistoryBy (is_drill call.words) call
