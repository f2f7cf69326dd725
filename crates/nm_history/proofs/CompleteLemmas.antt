-- A session in which nothing fails ends with status 0, or 7 out of memory.
-- For the proofs of `a_call_that_reads_nothing_is_not_refused_for_its_input` and `a_history_is_complete`.
use Rattle.std.proofs.Common.{◌≡◌, ◌≢◌, ℕ, ℤ, ◌<◌, ◌≤◌, ◌⊎◌, inl, inr, Bool, true, false, not, cond, List, [], ◌∷◌, ◌++◌, Option, None, Some, Result, Ok, Err, IfSome, if◌then◌else◌, length, map, refl, sym, ap, ◌∙◌, subst, append-nil, arith, suc}
use Rattle.std.specs.Io.KnownBytes.{Consumes, IsAtEnd}
use Rattle.std.specs.Str.Lines.{lines}
use Rattle.std.proofs.lemmas.List.{length-map, take_all}
use Rattle.std.proofs.lemmas.Slice.Zip.{seconds-zip}
use Rattle.nm_base.specs.Limits.{max_count, max_input_bytes, max_lines}
use Rattle.nm_base.specs.declared.limit.Limit.{Limit}
use Rattle.nm_base.specs.declared.limit.Limit.TheVariants as limits
use Rattle.nm_disk.specs.Observed.{Moments, bytes_now}
use Rattle.nm_disk.specs.declared.disk.FileNo.TheVariants.{Head}
use Rattle.nm_model_index.specs.declared.base.Base.{Base}
use Rattle.nm_io.specs.Observed.{ObservedSink}
use Rattle.nm_lanes.specs.declared.script.Phase.{Phase}
use Rattle.nm_log.specs.Kind.{DumpLines, NoQuery, OwnQuery, QueryLines, Source, TaggingLines, reads_lines, source_of}
use Rattle.nm_log.specs.ParsedLine.{parse_line, parse_single, reads_input}
use Rattle.nm_log.specs.declared.line_parser.ParsedLine.{ParsedLine}
use Rattle.nm_log.specs.declared.line_parser.ParsedLine.TheVariants as asked
use Rattle.nm_log.specs.declared.log.LineLog.{LineLog}
use Rattle.nm_log.specs.declared.outcome.Outcome.{Outcome}
use Rattle.nm_log.specs.declared.outcome.Outcome.TheVariants as outcomes
use Rattle.nm_log.specs.declared.refusal.Refusal.TheVariants as refusals
use Rattle.nm_model_machine.specs.declared.step.Step.{Step}
use Rattle.nm_maildir.specs.Observed.{ObservedMail}
use Rattle.nm_maildir.specs.declared.given.Given.{Given}
use Rattle.nm_faults.specs.Faults.{Counts}
use Rattle.nm_model_answer.specs.declared.request.Request.{Request}
use Rattle.nm_query.specs.Answers.{answer_of}
use Rattle.nm_query.specs.declared.query.Query.{Query}
use Rattle.nm_query.specs.declared.query_error.QueryError.{QueryError}
use Rattle.nm_query.specs.declared.query_error.QueryError.TheVariants as query_errors
use Rattle.nm_tags.specs.declared.line_error.LineKind.{LineKind}
use Rattle.nm_replay.specs.StoredIndex.{HoldsIndex, HoldsNoIndex, HoldsWithin, PassesLimit}
use Rattle.nm_history.specs.Call.{Call, Ending, PlacedLine, Ran, Refused, Unasked, call_fault, call_lines, call_phases, call_reads, command_reads, fault_of_input, input_fault, input_fault_by, is_session, lines_of_first, placed_from, reads_by}
use Rattle.nm_history.specs.Complete.{EndsWell, IsComplete, IsFinished, IsWithin, MayRead, NoFault, Opens}
use Rattle.nm_history.specs.Given.{GivenAlong, IsGiven}
use Rattle.nm_history.specs.History.{History}
use Rattle.nm_history.specs.LineAnswers.{HasAnswer, HasCause, LaneAnswers, LineAnswers, ends_by, refused_lane_read}
use Rattle.nm_history.specs.Lines.{Along, Before, RunLine, after_line, after_lines, at_first, is_in_lane_zero, lane_zero_lines, lines_run, other_lane_lines}
use Rattle.nm_history.specs.PrintedOut.{AreLogsOf, GainsReplies, PrintedOut}
use Rattle.nm_history.specs.Refusals.{IsInputPassed, IsRead, IsRefusedFor, PassesBefore, RefusesLine, TakesInput}
use Rattle.nm_history.specs.Requests.{bad_line_of, first_bad_line, first_refusal, own_query, refused_line, refused_query, refused_text}
use Rattle.nm_history.specs.Status.{Status, any_is_out_of_memory, fault_of, fault_or, first_fault, session_status, single_status, status_by, status_of_fault, write_fault}

-- each line has its log
logs-length : (script : List PlacedLine) (logs : List LineLog) → AreLogsOf script logs → length logs ≡ length script
logs-length [] [] h = refl
logs-length (line ∷ script) [] h = absurd h
logs-length [] (log ∷ logs) h = absurd h
logs-length (line ∷ script) (log ∷ logs) h = ap suc (logs-length script logs h.1)

-- the counts never fall along the lines

mail-grows : (opening : Base) (moment : ℤ) (steps : List Step) (before : Before) (done : List RunLine) (old new : ObservedMail) → GivenAlong opening moment steps before done old new → old.faults ≤ new.faults
mail-grows opening moment steps before [] old new h = omega (arith, ap (λ (m : ObservedMail). m.faults) h)
mail-grows opening moment steps before (ran ∷ done) old new h = omega (arith, h.1.never_falls, mail-grows opening moment steps (after_line before ran) done h.0 new h.2)

disk-grows : (opening : Base) (moment : ℤ) (steps : List Step) (before : Before) (done : List RunLine) (old new : ObservedMail) → GivenAlong opening moment steps before done old new
    → before.disk_faults ≤ (after_lines before done).disk_faults
disk-grows opening moment steps before [] old new h = omega arith
disk-grows opening moment steps before (ran ∷ done) old new h = omega (arith, h.1.disk_never_falls, disk-grows opening moment steps (after_line before ran) done h.0 new h.2)

-- where the disk's count is the same the disk did not fail
disk-well : (failed : Bool) (before now : ℕ) → Counts failed before now → now ≤ before → before < max_count → failed ≡ true → ⊥
disk-well true before now h stands room is = let rose = h.1 room in absurd (omega arith)
disk-well false before now h stands room is = absurd (cc)

-- where no count rises no device failed in the line
module _ (line : ParsedLine) (input : List ℕ) (before : Before) (index : Base) (moment : ℤ) (noted : List Given) (mail disk : ℕ) (failed : Bool)
    (m : mail ≤ before.mail_faults) (room : before.mail_faults < max_count) (well : failed ≡ true → ⊥) where
  quiet-line : (outcome : Outcome) → HasCause outcome line input before index moment noted mail failed → fault_of outcome ≡ None
  quiet-line outcomes.Ok h = refl
  quiet-line (outcomes.Usage word kind) h = refl
  quiet-line (outcomes.BadQuery at kind) h = refl
  quiet-line (outcomes.BadDate at) h = refl
  quiet-line (outcomes.BadLine bad kind) h = refl
  quiet-line (outcomes.NotOne found) h = refl
  quiet-line (outcomes.Gone path) h = refl
  quiet-line outcomes.MailFault h = let rose = h.2.1 room in absurd (omega (arith, m))
  quiet-line outcomes.DiskFault h = absurd (well h.3)
  quiet-line (outcomes.Closed fault) h = refl
  quiet-line (outcomes.Limit limit) h = refl
  quiet-line outcomes.NoMemory h = refl

abbrev logs-of : List RunLine → List LineLog
logs-of done = map (λ ran. ran.1) done

quiet-lines : (opening : Base) (moment : ℤ) (steps : List Step) (before : Before) (done : List RunLine) (old new : ObservedMail)
    → GivenAlong opening moment steps before done old new → Along (HasAnswer opening moment steps) before done → before.mail_faults ≡ old.faults
    → new.faults ≤ old.faults → old.faults < max_count → (after_lines before done).disk_faults ≤ before.disk_faults → before.disk_faults < max_count
    → first_fault (logs-of done) ≡ None
quiet-lines opening moment steps before [] old new h answers same m room d space = refl
quiet-lines opening moment steps before (ran ∷ done) old new h answers same m room d space =
    let mail = mail-grows opening moment steps (after_line before ran) done h.0 new h.2 in
    let disk = disk-grows opening moment steps (after_line before ran) done h.0 new h.2 in
    let noted = h.1.noted in
    let rises = h.1.never_falls in
    let disk_rises = h.1.disk_never_falls in
    let well : ran.1.disk_failed ≡ true → ⊥ = disk-well ran.1.disk_failed before.disk_faults ran.1.disk_faults answers.0.disk (omega arith) space in
    let first = quiet-line _ _ before _ moment ran.1.given ran.1.mail_faults ran.1.disk_faults ran.1.disk_failed (omega arith) (omega arith) well ran.1.outcome answers.0.cause in
    ap (λ (f : Option ℕ). fault_or f (first_fault (logs-of done))) first
    ∙ quiet-lines opening moment steps (after_line before ran) done h.0 new h.2 answers.1 noted (omega arith) (omega arith) (omega arith) (omega (arith, h.1.disk_never_falls))

-- ---- the lines of the other lanes ask no device

quiet-query : (answered : Result Query QueryError) → fault_of (ends_by (refused_text answered)) ≡ None
quiet-query (Ok query) = refl
quiet-query (Err (query_errors.BadQuery at kind)) = refl
quiet-query (Err (query_errors.BadDate at)) = refl
quiet-query (Err (query_errors.Limit limit)) = refl
quiet-query (Err query_errors.NoMemory) = refl

quiet-own : (own : Option (List ℕ)) → fault_of (ends_by (refused_query own)) ≡ None
quiet-own None = refl
quiet-own (Some text) = quiet-query (answer_of text)

quiet-text : (bad : Option (ℕ × LineKind)) (own : Option (List ℕ)) → fault_of (ends_by (first_refusal (refused_line bad) (refused_query own))) ≡ None
quiet-text None own = quiet-own own
quiet-text (Some bad) own = refl

quiet-end : (line : ParsedLine) (input : List ℕ) → fault_of (ends_by (refused_lane_read line input)) ≡ None
quiet-end (asked.Usage word kind) input = refl
quiet-end (asked.Request request) input = quiet-text (first_bad_line request input) (own_query request)

module _ (opening : Base) (moment : ℤ) (steps : List Step) where
  quiet-by : (ran : RunLine) → (ran.1.outcome ≡ ends_by (refused_lane_read (parse_line ran.0) ran.0.input)) ⊎ (ran.1.outcome ≡ outcomes.NoMemory) → fault_of ran.1.outcome ≡ None
  quiet-by ran (inl is) = ap fault_of is ∙ quiet-end (parse_line ran.0) ran.0.input
  quiet-by ran (inr is) = ap fault_of is

  or-none : (a b : Option ℕ) → fault_or a b ≡ None → (a ≡ None) × (b ≡ None)
  or-none None b e = (refl, e)
  or-none (Some status) b e = absurd (cc)

  -- a line of lane 0 or of another lane, before lines of both
  part : (zero : Bool) (ran : RunLine) (first others : List RunLine) → first_fault (logs-of (cond zero (ran ∷ first) first)) ≡ None
      → LaneAnswers opening moment steps (cond (not zero) (ran ∷ others) others)
      → (fault_of ran.1.outcome ≡ None) × (first_fault (logs-of first) ≡ None) × LaneAnswers opening moment steps others
  part true ran first others none lane_reads = let both = or-none (fault_of ran.1.outcome) (first_fault (logs-of first)) none in (both.0, both.1, lane_reads)
  part false ran first others none lane_reads = (quiet-by ran lane_reads.0.cause, none, lane_reads.1)

  -- where no line of lane 0 tells of a device, no line does
  quiet-all : (lines : List RunLine) → first_fault (logs-of (lane_zero_lines lines)) ≡ None → LaneAnswers opening moment steps (other_lane_lines lines) → first_fault (logs-of lines) ≡ None
  quiet-all [] none lane_reads = refl
  quiet-all (ran ∷ lines) none lane_reads =
      let parts = part (is_in_lane_zero ran) ran (lane_zero_lines lines) (other_lane_lines lines) none lane_reads in
      ap (λ (f : Option ℕ). fault_or f (first_fault (logs-of lines))) parts.0 ∙ quiet-all lines parts.1 parts.2

-- what was read to its end is what was known
read-is : (old new : Option (List ℕ)) (input read : List ℕ) → old ≡ Some input → Consumes old new read → IsAtEnd new → read ≡ input
read-is None new input read told h end = absurd (cc)
read-is (Some bytes) None input read told h end = absurd h
read-is (Some bytes) (Some rest) input read told h end =
    let same : bytes ≡ input = cc in
    sym (append-nil read) ∙ (ap (λ l. read ++ l) (sym end) ∙ (sym h ∙ same))

-- an output that did not fail, so that all phases were run
quiet-out : (failed session : Bool) (phases : List Phase) (ran : ℕ) (logs : List LineLog) (old new : ObservedSink) → new.faults ≡ old.faults → old.faults < max_count
    → GainsReplies failed session phases ran logs old new → (failed ≡ false) × (ran ≡ length phases)
quiet-out false session phases ran logs old new stands room h = (refl, h.0)
quiet-out true session phases ran logs old new stands room h = let rose = h.fault.1 room in absurd (omega arith)

-- the lines of all phases
all-lines : (phases : List Phase) (ran : ℕ) → ran ≡ length phases → lines_of_first ran phases ≡ placed_from 0 phases
all-lines phases ran is = ap (placed_from 0) (take_all ran phases (omega (arith, is)))

-- an input within its limits passed none
within-limits : (limit : Limit) (read input : List ℕ) (call : Call) → IsInputPassed limit read call → IsWithin input call → ⊥
within-limits limits.InputBytes read input call h within =
    let long : max_input_bytes < length input = subst (λ (o : Option (List ℕ)). IfSome o (λ bytes. max_input_bytes < length bytes)) within.told h.0 in
    let short = within.bytes in
    omega arith
within-limits limits.Lines read input call h within =
    let same = read-is call.entry.input.bytes call.after.input.bytes input read within.told h.1.bytes h.1.end in
    let many : max_lines < length (lines input) = subst (λ (l : List ℕ). max_lines < length (lines l)) same h.2 in
    let few = within.few h.0 in
    omega arith
within-limits limits.Files read input call h within = h
within-limits limits.Dirs read input call h within = h
within-limits limits.Depth read input call h within = h
within-limits limits.IndexBytes read input call h within = h
within-limits limits.CommitBytes read input call h within = h
within-limits limits.Commits read input call h within = h
within-limits limits.QueryBytes read input call h within = h
within-limits limits.QueryDepth read input call h within = h
within-limits limits.ShowBytes read input call h within = h
within-limits limits.Numbers read input call h within = h

clash-told : (told : Option Moments) (P Q : Moments → Type 0) → told ≢ None → IfSome told P → IfSome told Q → ((moments : Moments) → P moments → Q moments → ⊥) → ⊥
clash-told None P Q some p q apart = some refl
clash-told (Some moments) P Q some p q apart = apart moments p q

-- the statuses that are left
left-status : (out_of_memory : Bool) → (status_of_fault None out_of_memory ≡ 0) ⊎ (status_of_fault None out_of_memory ≡ 7)
left-status true = inr refl
left-status false = inl refl

quiet-status : (logs : List LineLog) (out_failed : Bool) → first_fault logs ≡ None → out_failed ≡ false → (session_status logs out_failed ≡ 0) ⊎ (session_status logs out_failed ≡ 7)
quiet-status logs out_failed none quiet =
    let is : session_status logs out_failed ≡ status_of_fault None (any_is_out_of_memory logs) =
    ap (λ (f : Option ℕ). status_of_fault (fault_or f (write_fault out_failed)) (any_is_out_of_memory logs)) none
    ∙ ap (λ (b : Bool). status_of_fault (write_fault b) (any_is_out_of_memory logs)) quiet in
    elim (left-status (any_is_out_of_memory logs)) [
      | inl zero ↦ inl (is ∙ zero)
      | inr seven ↦ inr (is ∙ seven)
    ]

-- the status of the lines of a call, where no device failed
ends-by : (session : Bool) (call : Call) (out_failed : Bool) → call.done.status ≡ status_by session call.done.log.lines out_failed → first_fault call.done.log.lines ≡ None → out_failed ≡ false
    → EndsWell session call ⊎ (call.done.status ≡ 7)
ends-by true call out_failed status none quiet = elim (quiet-status call.done.log.lines out_failed none quiet) [
  | inl zero ↦ inl (status ∙ zero)
  | inr seven ↦ inr (status ∙ seven)
]
ends-by false call out_failed status none quiet = inl (status ∙ ap (λ (b : Bool). single_status call.done.log.lines b) quiet, none)

-- the input that was read is the one that was known
same-input : (reads session : Bool) (read input : List ℕ) (call : Call) → TakesInput reads session read call.entry.input call.after.input → MayRead reads input call → read ≡ input
same-input true session read input call takes within = read-is call.entry.input.bytes call.after.input.bytes input read within.told takes.0.bytes takes.0.end
same-input false session read input call takes within = takes.1 ∙ sym within

-- a limit of the input was not passed
not-passed : (limit : Limit) (read input : List ℕ) (call : Call) → call_fault call.words ≡ None → MayRead (call_reads call.words) input call → PassesBefore limit read call → ⊥
not-passed limit read input call right within passed =
    within-limits limit read input call passed.2 (subst (λ (b : Bool). MayRead b input call) passed.1 within)

-- a call that reads no input is not refused for it
no-lines : (source : Source) (input : List ℕ) → reads_lines source ≡ false → bad_line_of source input ≡ None
no-lines NoQuery input reads = refl
no-lines (OwnQuery text) input reads = refl
no-lines QueryLines input reads = absurd (cc)
no-lines (TaggingLines clear) input reads = absurd (cc)
no-lines (DumpLines form) input reads = absurd (cc)

pub unread-lines : (request : Request) (input : List ℕ) → reads_input request ≡ false → first_bad_line request input ≡ None
unread-lines request input reads = no-lines (source_of request) input reads

unread-command : (parsed : ParsedLine) (input : List ℕ) → command_reads parsed ≡ false → fault_of_input parsed input ≡ None
unread-command (asked.Usage word kind) input reads = refl
unread-command (asked.Request request) input reads = ap refused_line (unread-lines request input reads)

unread-by : (session : Bool) (words : List (List ℕ)) (input : List ℕ) → reads_by session words ≡ false → input_fault_by session words input ≡ None
unread-by true words input reads = absurd (cc)
unread-by false words input reads = unread-command (parse_single words) input reads

pub unread-right : (words : List (List ℕ)) (input : List ℕ) → call_reads words ≡ false → input_fault words input ≡ None
unread-right words input reads = unread-by (is_session words) words input reads

-- no line of an input that is asked for was refused
not-refused : (why : Outcome) (read input : List ℕ) (call : Call) → MayRead true input call → IsRead read call.entry.input call.after.input → input_fault call.words read ≡ Some why → ⊥
not-refused why read input call within taken wrong =
    let same = read-is call.entry.input.bytes call.after.input.bytes input read within.told taken.bytes taken.end in
    let other : None ≡ Some why = sym within.lines_are ∙ (ap (input_fault call.words) (sym same) ∙ wrong) in absurd (cc)

-- neither the words nor a line of the input refused the line of a single command
not-unasked : (why : Outcome) (read input : List ℕ) (call : Call) → call_fault call.words ≡ None → MayRead (call_reads call.words) input call
    → RefusesLine why read call.words call.entry.input call.after.input → ⊥
not-unasked why read input call right within (inl words) = let other : None ≡ Some why = sym right ∙ words.0 in absurd (cc)
not-unasked why read input call right within (inr line) =
    not-refused why read input call (subst (λ (b : Bool). MayRead b input call) line.1 within) line.2 line.3

module _ (not_bad : (bytes : List ℕ) (index : Base) (at : ℕ) → HoldsIndex bytes index → HoldsNoIndex bytes at → ⊥) (not_passed : (bytes : List ℕ) (index : Base) (limit : Limit) → HoldsWithin bytes index → PassesLimit bytes limit → ⊥) where
  -- neither the input passes a limit nor the index on the disk
  no-limit : (limit : Limit) (read input : List ℕ) (call : Call) → call_fault call.words ≡ None → MayRead (call_reads call.words) input call → Opens call → IsRefusedFor (refusals.Limit limit) read call → ⊥
  no-limit limit read input call right within opens (inl passed) = not-passed limit read input call right within passed.0
  no-limit limit read input call right within opens (inr passed) =
      clash-told call.entry.disk.told _ _ opens.told opens.holds passed.1 (λ moments holds passes. not_passed (bytes_now moments Head) opens.index limit holds passes)

  by-ending : (ending : Ending) (opening : Base) (read : List ℕ) (ran : ℕ) (out_failed : Bool) (call : Call) (input : List ℕ)
      → call_fault call.words ≡ None → NoFault call → MayRead (call_reads call.words) input call → Opens call
      → PrintedOut ending read ran out_failed call → Status ending out_failed call
      → LineAnswers opening call.setting.moment (at_first opening call.entry) call.done.log.steps (lane_zero_lines (lines_run read call))
      → LaneAnswers opening call.setting.moment call.done.log.steps (other_lane_lines (lines_run read call))
      → IsGiven opening call.setting.moment call.done.log.steps (at_first opening call.entry) (lane_zero_lines (lines_run read call)) ending call.entry call.after
      → IsFinished input call ⊎ (call.done.status ≡ 7)
  by-ending (Refused (refusals.Usage word kind)) opening read ran out_failed call input right quiet within opens said status answers lane_reads given =
      let wrong = sym right ∙ said.0.1 in absurd (cc)
  by-ending (Refused refusals.ReadFault) opening read ran out_failed call input right quiet within opens said status answers lane_reads given =
      let rose = said.0.2.1 quiet.input.room in let same = quiet.input.same in absurd (omega arith)
  by-ending (Refused (refusals.Limit limit)) opening read ran out_failed call input right quiet within opens said status answers lane_reads given =
      absurd (no-limit limit read input call right within opens said.0)
  by-ending (Refused refusals.DiskFault) opening read ran out_failed call input right quiet within opens said status answers lane_reads given =
      let rose = said.0.1.1 quiet.disk.room in let same = quiet.disk.same in absurd (omega arith)
  by-ending (Refused (refusals.BadIndex file at)) opening read ran out_failed call input right quiet within opens said status answers lane_reads given =
      absurd (clash-told call.entry.disk.told _ _ opens.told opens.holds said.0.2 (λ moments holds bad. not_bad (bytes_now moments Head) opens.index at holds.held bad))
  by-ending (Refused refusals.NoMemory) opening read ran out_failed call input right quiet within opens said status answers lane_reads given = inr status
  by-ending (Unasked why) opening read ran out_failed call input right quiet within opens said status answers lane_reads given =
      absurd (not-unasked why read input call right within said.0.cause)
  by-ending Ran opening read ran out_failed call input right quiet within opens said status answers lane_reads given =
      let logs : List LineLog = call.done.log.lines in
      let script : List PlacedLine = call_lines call.words read in
      let phases : List Phase = call_phases call.words read in
      let gained = quiet-out out_failed (is_session call.words) phases ran logs call.entry.out call.after.out quiet.out.same quiet.out.room said.1.out in
      let no_out : out_failed ≡ false = gained.0 in
      let each : length logs ≡ length script = logs-length script logs (subst (λ (l : List PlacedLine). AreLogsOf l logs) (all-lines phases ran gained.1) said.1.lines) in
      let zero : first_fault (logs-of (lane_zero_lines (lines_run read call))) ≡ None =
      quiet-lines opening call.setting.moment call.done.log.steps (at_first opening call.entry) (lane_zero_lines (lines_run read call)) call.entry.mail call.after.mail given.along answers refl
      (omega (arith, quiet.mail.same)) quiet.mail.room (omega (arith, quiet.disk.same, given.disk)) quiet.disk.room in
      let none : first_fault logs ≡ None =
      subst (λ (l : List LineLog). first_fault l ≡ None) (seconds-zip (map (λ (line : PlacedLine). line.1) script) logs (each ∙ sym (length-map script (λ (line : PlacedLine). line.1))))
      (quiet-all opening call.setting.moment call.done.log.steps (lines_run read call) zero lane_reads) in
      let all : script ≡ call_lines call.words input =
      ap (call_lines call.words) (same-input (call_reads call.words) (is_session call.words) read input call said.0.takes within) in
      elim (ends-by (is_session call.words) call out_failed status none no_out) [
        | inl well ↦ inl (record { ends = well; each = each ∙ ap (λ (l : List PlacedLine). length l) all })
        | inr seven ↦ inr seven
      ]

  pub complete : (call : Call) → History call → IsComplete call
  complete call h input right quiet within opens =
      by-ending h.2.ending h.0 h.1 h.2.phases_run h.2.out_failed call input right quiet within opens h.2.printed_out h.2.status h.2.line_answers h.2.lane_answers h.2.given
