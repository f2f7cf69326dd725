-- A single command that is refused before the mail folder and the disk are asked: its one line goes on from no line as any does.
-- For the proof of `a_refused_line_is_a_history`.
use Rattle.std.proofs.Common.{◌≡◌, inl, inr, ℕ, ℤ, ◌||◌, ◌==◌, Bool, true, false, List, [], ◌∷◌, Option, None, Some, IfSome, if◌then◌else◌, codes, length, map, fold, Result, Ok, Err, refl, sym, ap, ◌∙◌, subst, arith}
use Rattle.std.specs.Option.{option_map}
use Rattle.nm_log.specs.Kind.{DumpLines, Kind, NoQuery, OwnQuery, QueryLines, ReadsIndex, SetsTags, ShowsFiles, Source, TaggingLines, TakesMail, kind_of, reads_lines, source_of}
use Rattle.nm_model_answer.specs.declared.request.Request.{Request}
use Rattle.nm_base.specs.Limits.{max_mail_bytes}
use Rattle.nm_base.specs.declared.refusals.UsageKind.TheVariants as kinds
use Rattle.nm_disk.specs.CrashStates.{IsImage}
use Rattle.nm_disk.specs.Observed.{Moments, ObservedDisk}
use Rattle.nm_disk.specs.declared.disk.FileNo.TheVariants.{Head}
use Rattle.nm_model_index.specs.Index.{empty_index}
use Rattle.nm_model_index.specs.declared.base.Base.{Base}
use Rattle.nm_io.specs.Observed.{ObservedSink, ObservedStream}
use Rattle.nm_journal.specs.Journal.{IfKnown}
use Rattle.nm_lanes.specs.Lines.{in_lane}
use Rattle.nm_lanes.specs.declared.script.ScriptLine.{ScriptLine}
use Rattle.nm_log.specs.ParsedLine.{fed, parse_line, parse_single, reads_input, refused}
use Rattle.nm_log.specs.Replies.{refusal_line}
use Rattle.nm_log.specs.declared.line_parser.ParsedLine.{ParsedLine}
use Rattle.nm_log.specs.declared.line_parser.ParsedLine.TheVariants as asked
use Rattle.nm_log.specs.declared.log.LineLog.{LineLog}
use Rattle.nm_log.specs.declared.log.Setting.{Setting}
use Rattle.nm_log.specs.declared.outcome.Outcome.{Outcome}
use Rattle.nm_log.specs.declared.outcome.Outcome.TheVariants as outcomes
use Rattle.nm_maildir.specs.Observed.{ObservedMail}
use Rattle.nm_maildir.specs.Tree.{Tree}
use Rattle.nm_query.specs.Answers.{answer_of}
use Rattle.nm_query.specs.declared.query.Query.{Query}
use Rattle.nm_query.specs.declared.query_error.QueryError.{QueryError}
use Rattle.nm_query.specs.declared.query_error.QueryError.TheVariants as errors
use Rattle.nm_tags.specs.declared.line_error.LineKind.{LineKind}
use Rattle.nm_history.specs.Call.{Devices, Unasked, call_lines, call_of, command_reads, devices, fault_by, fault_of_command, fault_of_input, input_fault_by, is_session, phases_by, placed_from, reads_by}
use Rattle.nm_history.specs.CrashPrefix.{KeepsDisk}
use Rattle.nm_history.specs.Given.{AsksBy, AsksMail, AsksNothing, AsksShow, GivenAlong}
use Rattle.nm_history.specs.History.{History}
use Rattle.nm_history.specs.LineAnswers.{HasCause, LaneAnswers, LineAnswers, line_text}
use Rattle.nm_history.specs.LineCommits.{LineCommits, Makes}
use Rattle.nm_history.specs.LineResult.{IsLineResult, Place, StandsAt, before_at, reply_step}
use Rattle.nm_history.specs.Lines.{RunLine, after_lines, at_first, given_in, lane_zero_lines, other_lane_lines, run_lines, tree_after_line, tree_by}
use Rattle.nm_history.specs.MachineRun.{MachineRun, Replied, replied_where}
use Rattle.nm_history.specs.PrintedOut.{AreLogsOf, Prints}
use Rattle.nm_history.specs.Refusals.{RefusesLine}
use Rattle.nm_history.specs.Requests.{first_bad_line, first_refusal, is_writing, own_query, query_in, refused_closed, refused_line, refused_query, refused_text, refused_unasked}
use Rattle.nm_history.specs.StillLaws.{no-renames, renames-none}
use Rattle.nm_history.specs.UnaskedLine.{refused_done, refused_log}
use Rattle.nm_history.proofs.BankLemmas.{refused-disk}
use Rattle.nm_history.proofs.CompleteLemmas.{unread-lines}
use Rattle.nm_history.proofs.LineLemmas.{commits-more, given-more, line-answers-more}
use Rattle.nm_history.proofs.MachineLemmas.{run-more, run-none}

-- ---- what refuses the words or the input refuses the line

or-true : (b : Bool) → (b || true) ≡ true
or-true true = refl
or-true false = refl

abbrev fed-by : Bool → Request → ParsedLine
fed-by fits request = if fits then asked.Request request else refused kinds.Input (codes "|")

fed-nothing : (request : Request) → fed [] (asked.Request request) ≡ asked.Request request
fed-nothing request = ap (λ (b : Bool). fed-by b request) (or-true (reads_input request))

fed-read : (request : Request) (input : List ℕ) → reads_input request ≡ true → fed input (asked.Request request) ≡ asked.Request request
fed-read request input reads = ap (λ (b : Bool). fed-by (b || length input == 0) request) reads

-- what has a query of its own reads no lines
own-lines : (source : Source) (why : Outcome) → refused_query (query_in source) ≡ Some why → reads_lines source ≡ false
own-lines NoQuery why e = refl
own-lines (OwnQuery text) why e = refl
own-lines QueryLines why e = absurd (cc)
own-lines (TaggingLines clear) why e = absurd (cc)
own-lines (DumpLines form) why e = absurd (cc)

own-unread : (request : Request) (why : Outcome) → refused_query (own_query request) ≡ Some why → reads_input request ≡ false
own-unread request why e = own-lines (source_of request) why e

-- how a request ends by the refusals of its lines, its query and its writing
abbrev ends-by : Option Outcome → Option Outcome → Option Outcome → Option Outcome
ends-by lines query closed = first_refusal (first_refusal lines query) closed

words-refuse : (line : ParsedLine) (why : Outcome) → fault_of_command line ≡ Some why → refused_unasked (fed [] line) [] None ≡ Some why
words-refuse (asked.Usage word kind) why e = e
words-refuse (asked.Request request) why e =
    let query : Option Outcome = refused_query (own_query request) in
    let closed : Option Outcome = refused_closed None (is_writing request) in
    ap (λ (line : ParsedLine). refused_unasked line [] None) (fed-nothing request)
    ∙ (ap (λ (bad : Option (ℕ × LineKind)). ends-by (refused_line bad) query closed) (unread-lines request [] (own-unread request why e))
    ∙ ap (λ (q : Option Outcome). first_refusal q closed) e)

lines-refuse : (line : ParsedLine) (input : List ℕ) (why : Outcome) → command_reads line ≡ true → fault_of_input line input ≡ Some why → refused_unasked (fed input line) input None ≡ Some why
lines-refuse (asked.Usage word kind) input why reads e = absurd (cc)
lines-refuse (asked.Request request) input why reads e =
    ap (λ (line : ParsedLine). refused_unasked line input None) (fed-read request input reads)
    ∙ ap (λ (bad : Option Outcome). ends-by bad (refused_query (own_query request)) (refused_closed None (is_writing request))) e

-- ---- a line may end so before the mail folder and the disk are asked

abbrev is_unasked : Outcome → Bool
is_unasked outcomes.Ok = false
is_unasked (outcomes.Usage word kind) = true
is_unasked (outcomes.BadQuery at kind) = true
is_unasked (outcomes.BadDate at) = true
is_unasked (outcomes.BadLine line kind) = true
is_unasked (outcomes.NotOne found) = false
is_unasked (outcomes.Gone path) = false
is_unasked outcomes.MailFault = false
is_unasked outcomes.DiskFault = false
is_unasked (outcomes.Closed fault) = false
is_unasked (outcomes.Limit limit) = true
is_unasked outcomes.NoMemory = true

same-kind : (one other : Outcome) → Some one ≡ Some other → is_unasked one ≡ true → is_unasked other ≡ true
same-kind one other e unasked = let same : one ≡ other = cc in subst (λ (o : Outcome). is_unasked o ≡ true) same unasked

none-is : (why : Outcome) → None ≡ Some why → is_unasked why ≡ true
none-is why e = absurd (cc)

of-text : (answered : Result Query QueryError) (why : Outcome) → refused_text answered ≡ Some why → is_unasked why ≡ true
of-text (Ok query) why e = none-is why e
of-text (Err (errors.BadQuery at kind)) why e = same-kind (outcomes.BadQuery at kind) why e refl
of-text (Err (errors.BadDate at)) why e = same-kind (outcomes.BadDate at) why e refl
of-text (Err (errors.Limit limit)) why e = same-kind (outcomes.Limit limit) why e refl
of-text (Err errors.NoMemory) why e = same-kind outcomes.NoMemory why e refl

of-query : (own : Option (List ℕ)) (why : Outcome) → refused_query own ≡ Some why → is_unasked why ≡ true
of-query None why e = none-is why e
of-query (Some text) why e = of-text (answer_of text) why e

of-command : (line : ParsedLine) (why : Outcome) → fault_of_command line ≡ Some why → is_unasked why ≡ true
of-command (asked.Usage word kind) why e = same-kind (outcomes.Usage word kind) why e refl
of-command (asked.Request request) why e = of-query (own_query request) why e

of-line : (bad : Option (ℕ × LineKind)) (why : Outcome) → refused_line bad ≡ Some why → is_unasked why ≡ true
of-line None why e = none-is why e
of-line (Some bad) why e = same-kind (outcomes.BadLine bad.0 bad.1) why e refl

of-input : (line : ParsedLine) (input : List ℕ) (why : Outcome) → fault_of_input line input ≡ Some why → is_unasked why ≡ true
of-input (asked.Usage word kind) input why e = none-is why e
of-input (asked.Request request) input why e = of-line (first_bad_line request input) why e

-- ---- what such a line makes, asks and says

module _ (line : ScriptLine) (index : Base) (moment : ℤ) (count : ℕ) (tree : Option Tree) where
  makes-nothing : (why : Outcome) → is_unasked why ≡ true → refused_unasked (parse_line line) line.input None ≡ Some why → Makes why moment tree index line [] count [] []
  makes-nothing outcomes.Ok unasked e = absurd (cc)
  makes-nothing (outcomes.Usage word kind) unasked e = record { made_are = refl; in_flight_is = refl }
  makes-nothing (outcomes.BadQuery at kind) unasked e = record { made_are = refl; in_flight_is = refl }
  makes-nothing (outcomes.BadDate at) unasked e = record { made_are = refl; in_flight_is = refl }
  makes-nothing (outcomes.BadLine bad kind) unasked e = record { made_are = refl; in_flight_is = refl }
  makes-nothing (outcomes.NotOne found) unasked e = absurd (cc)
  makes-nothing (outcomes.Gone path) unasked e = absurd (cc)
  makes-nothing outcomes.MailFault unasked e = absurd (cc)
  makes-nothing outcomes.DiskFault unasked e = absurd (cc)
  makes-nothing (outcomes.Closed fault) unasked e = absurd (cc)
  makes-nothing (outcomes.Limit limit) unasked e = (inl (refl, inl (refl, e)), refl)
  makes-nothing outcomes.NoMemory unasked e = (inl (refl, inl refl), refl)

module _ (line : ParsedLine) (input : List ℕ) (place : Place) (index : Base) (moment : ℤ) where
  has-cause : (why : Outcome) → is_unasked why ≡ true → refused_unasked line input place.writer.closed ≡ Some why
      → HasCause why line input (before_at place) index moment [] place.mail.faults false
  has-cause outcomes.Ok unasked e = absurd (cc)
  has-cause (outcomes.Usage word kind) unasked e = (e, record { mail_same = refl; disk_well = refl })
  has-cause (outcomes.BadQuery at kind) unasked e = (e, record { mail_same = refl; disk_well = refl })
  has-cause (outcomes.BadDate at) unasked e = (e, record { mail_same = refl; disk_well = refl })
  has-cause (outcomes.BadLine bad kind) unasked e = (e, record { mail_same = refl; disk_well = refl })
  has-cause (outcomes.NotOne found) unasked e = absurd (cc)
  has-cause (outcomes.Gone path) unasked e = absurd (cc)
  has-cause outcomes.MailFault unasked e = absurd (cc)
  has-cause outcomes.DiskFault unasked e = absurd (cc)
  has-cause (outcomes.Closed fault) unasked e = absurd (cc)
  has-cause (outcomes.Limit limit) unasked e = (inl e, record { mail_same = refl; disk_well = refl })
  has-cause outcomes.NoMemory unasked e = refl

  says-why : (why : Outcome) → is_unasked why ≡ true → refusal_line why ≡ line_text why line input index index moment []
  says-why outcomes.Ok unasked = absurd (cc)
  says-why (outcomes.Usage word kind) unasked = refl
  says-why (outcomes.BadQuery at kind) unasked = refl
  says-why (outcomes.BadDate at) unasked = refl
  says-why (outcomes.BadLine bad kind) unasked = refl
  says-why (outcomes.NotOne found) unasked = refl
  says-why (outcomes.Gone path) unasked = refl
  says-why outcomes.MailFault unasked = refl
  says-why outcomes.DiskFault unasked = refl
  says-why (outcomes.Closed fault) unasked = refl
  says-why (outcomes.Limit limit) unasked = refl
  says-why outcomes.NoMemory unasked = refl

no-reply : (why : Outcome) (line : ParsedLine) (lane revision : ℕ) (text : List ℕ) → is_unasked why ≡ true → replied_where why line lane revision text ≡ []
no-reply outcomes.Ok line lane revision text unasked = absurd (cc)
no-reply (outcomes.Usage word kind) line lane revision text unasked = refl
no-reply (outcomes.BadQuery at kind) line lane revision text unasked = refl
no-reply (outcomes.BadDate at) line lane revision text unasked = refl
no-reply (outcomes.BadLine bad kind) line lane revision text unasked = refl
no-reply (outcomes.NotOne found) line lane revision text unasked = refl
no-reply (outcomes.Gone path) line lane revision text unasked = refl
no-reply outcomes.MailFault line lane revision text unasked = refl
no-reply outcomes.DiskFault line lane revision text unasked = refl
no-reply (outcomes.Closed fault) line lane revision text unasked = refl
no-reply (outcomes.Limit limit) line lane revision text unasked = refl
no-reply outcomes.NoMemory line lane revision text unasked = refl

asks-nothing : (mail : ObservedMail) → AsksNothing mail mail []
asks-nothing mail = record { given_is = refl; same = refl }

shows-nothing : (why : Outcome) (mail : ObservedMail) (left : ℕ) (paths : List (List ℕ)) → is_unasked why ≡ true → AsksShow why mail mail left paths []
shows-nothing outcomes.Ok mail left paths unasked = absurd (cc)
shows-nothing (outcomes.Usage word kind) mail left paths unasked = asks-nothing mail
shows-nothing (outcomes.BadQuery at kind) mail left paths unasked = asks-nothing mail
shows-nothing (outcomes.BadDate at) mail left paths unasked = asks-nothing mail
shows-nothing (outcomes.BadLine bad kind) mail left paths unasked = asks-nothing mail
shows-nothing (outcomes.NotOne found) mail left paths unasked = absurd (cc)
shows-nothing (outcomes.Gone path) mail left paths unasked = absurd (cc)
shows-nothing outcomes.MailFault mail left paths unasked = absurd (cc)
shows-nothing outcomes.DiskFault mail left paths unasked = absurd (cc)
shows-nothing (outcomes.Closed fault) mail left paths unasked = absurd (cc)
shows-nothing (outcomes.Limit limit) mail left paths unasked = inl (asks-nothing mail)
shows-nothing outcomes.NoMemory mail left paths unasked = inl (asks-nothing mail)

asks-by : (kind : Kind) (why : Outcome) (index : Base) (moment : ℤ) (left : ℕ) (mail : ObservedMail) → is_unasked why ≡ true → AsksBy kind why index moment left mail mail []
asks-by TakesMail why index moment left mail unasked = inl (refl, refl)
asks-by ReadsIndex why index moment left mail unasked = asks-nothing mail
asks-by (ShowsFiles ask) why index moment left mail unasked = shows-nothing why mail left _ unasked
asks-by SetsTags why index moment left mail unasked = record { more = []; given_is = refl; tree = no-renames mail.tree; reads = refl }

asks-none : (why : Outcome) (line : ParsedLine) (index : Base) (moment : ℤ) (left : ℕ) (mail : ObservedMail) → is_unasked why ≡ true → AsksMail why line index moment left mail mail []
asks-none why (asked.Usage word kind) index moment left mail unasked = asks-nothing mail
asks-none why (asked.Request request) index moment left mail unasked = asks-by (kind_of request) why index moment left mail unasked

renamed-none : (tree : Option Tree) → tree ≡ option_map (λ t. fold given_in t []) tree
renamed-none None = refl
renamed-none (Some tree) = refl

tree-by : (kind : Kind) (tree : Option Tree) → tree ≡ tree_by kind [] tree
tree-by TakesMail tree = refl
tree-by ReadsIndex tree = refl
tree-by (ShowsFiles ask) tree = refl
tree-by SetsTags tree = renamed-none tree

tree-stays : (line : ParsedLine) (tree : Option Tree) → tree ≡ tree_after_line line [] tree
tree-stays (asked.Usage word kind) tree = refl
tree-stays (asked.Request request) tree = tree-by (kind_of request) tree

-- ---- the history of the call

-- a disk that was not asked
unasked-told : (told : Option Moments) → IfSome told (λ moments. IsImage moments.present moments.present.now) → IfKnown told told (KeepsDisk [] [])
unasked-told None image = tt
unasked-told (Some m) image = refused-disk m m image image (inl (inl refl)) (λ file. record { states = []; each = tt; are = refl })

module _ (why : Outcome) (input : List ℕ) (words : List (List ℕ)) (setting : Setting) (mail : ObservedMail) (disk : ObservedDisk) (old new : ObservedStream) (out err said : ObservedSink)
    (single : is_session words ≡ false) (unasked : is_unasked why ≡ true) (refuses : refused_unasked (fed input (parse_single words)) input None ≡ Some why) where
  abbrev entry : Devices
  entry = devices mail disk old out err

  abbrev after : Devices
  after = devices mail disk new out said

  abbrev line : ScriptLine
  line = in_lane 1 0 words input

  abbrev log : LineLog
  log = refused_log why mail.faults disk.faults

  -- a writer that made nothing, over no mail
  abbrev place : Place
  place = record {
    writer = record {
      journal = record { file = Head; start = 0; gate = 0; count = 0; failed = false };
      published = record { book = record { number = 0; log_name = 0; cells_name = 0 }; opening = empty_index; commits = [] };
      shown = empty_index;
      begun = [];
      acked = [];
      closed = None;
    };
    mail = mail;
    disk_faults = disk.faults;
    left = max_mail_bytes;
  }

  stands : StandsAt empty_index entry [] [] [] place
  stands = record {
    in_flight = [];
    begun_are = refl;
    begun_by_writer = refl;
    none_open = λ is_open. refl;
    acked = refl;
    opens = refl;
    published = refl;
    shown = refl;
    before = refl;
    tree = refl;
  }

  no-step : [] ≡ map reply_step (replied_where why (parse_line line) 0 0 (refusal_line why))
  no-step = sym (ap (λ (replies : List Replied). map reply_step replies) (no-reply why (parse_line line) 0 0 (refusal_line why) unasked))

  result : IsLineResult setting.moment 0 place (line, log) [] place
  result = record {
    first = refl;
    made = [];
    in_flight = [];
    has_made = record { fit = tt; within = tt; idle = λ closed. refl; published = refl; shown = refl; begun_are = refl; clocks = []; acked = refl; one_each = refl };
    makes = makes-nothing line empty_index setting.moment 0 mail.tree why unasked refuses;
    renames_after = renames-none (parse_line line) line.input setting.moment empty_index [];
    on_its_way = refl;
    closed = refl;
    asks = asks-none why (parse_line line) empty_index setting.moment max_mail_bytes mail unasked;
    unasked = λ refused. asks-nothing mail;
    tree = tree-stays (parse_line line) mail.tree;
    left = omega arith;
    mail_never_falls = omega arith;
    disk_never_falls = omega arith;
    numbers = record { phase = refl; lane = refl; number = refl };
    revision = refl;
    mail_faults = refl;
    disk_faults = refl;
    cause = has-cause (parse_line line) input place empty_index setting.moment why unasked refuses;
    disk = refl;
    status = refl;
    text = says-why (parse_line line) input place empty_index setting.moment why unasked;
    steps = no-step;
  }

  -- the lines of the call are this one
  runs : run_lines (call_lines words input) (log ∷ []) ≡ (line, log) ∷ []
  runs = ap (λ (b : Bool). run_lines (placed_from 0 (phases_by b words input)) (log ∷ [])) single

  logs : AreLogsOf (call_lines words input) (log ∷ [])
  logs = subst (λ (b : Bool). AreLogsOf (placed_from 0 (phases_by b words input)) (log ∷ [])) (sym single) (record { phase = refl; lane = refl; number = refl }, tt)

  machine-run : MachineRun empty_index setting.moment (at_first empty_index entry) [] ((line, log) ∷ []) [] 0
  unfolding result
  machine-run = run-more setting.moment empty_index 0 entry [] [] [] [] place place (line, log) stands result (run-none empty_index setting.moment entry)

  commits : LineCommits empty_index setting.moment mail.tree [] ((line, log) ∷ []) []
  unfolding result
  commits = commits-more empty_index setting.moment 0 entry [] [] [] [] place place (line, log) stands result (refl, refl)

  answers : LineAnswers empty_index setting.moment (at_first empty_index entry) [] ((line, log) ∷ [])
  answers = line-answers-more empty_index setting.moment 0 entry [] [] [] [] place place (line, log) stands result tt

  along : GivenAlong empty_index setting.moment [] (at_first empty_index entry) ((line, log) ∷ []) mail mail
  along = given-more empty_index setting.moment 0 entry [] [] [] [] place place (line, log) stands result refl

  refused-history : RefusesLine why input words old new → Prints (Some (refusal_line why)) err said → IfSome disk.told (λ moments. IsImage moments.present moments.present.now)
      → History (call_of words setting entry after (refused_done why mail.faults disk.faults))
  refused-history cause says image = (
    empty_index,
    input,
    record {
      ending = Unasked why;
      phases_run = 0;
      out_failed = false;
      acknowledged = [];
      opening_index = refl;
      machine_run = subst (λ (l : List RunLine). MachineRun empty_index setting.moment (at_first empty_index entry) [] l [] 0) (sym runs) machine-run;
      line_commits = subst (λ (l : List RunLine). LineCommits empty_index setting.moment mail.tree [] (lane_zero_lines l) []) (sym runs) commits;
      line_answers = subst (λ (l : List RunLine). LineAnswers empty_index setting.moment (at_first empty_index entry) [] (lane_zero_lines l)) (sym runs) answers;
      lane_answers = subst (λ (l : List RunLine). LaneAnswers empty_index setting.moment [] (other_lane_lines l)) (sym runs) tt;
      given = record {
        along = subst (λ (l : List RunLine). GivenAlong empty_index setting.moment [] (at_first empty_index entry) (lane_zero_lines l) mail mail) (sym runs) along;
        disk = subst (λ (l : List RunLine). (after_lines (at_first empty_index entry) (lane_zero_lines l)).disk_faults ≡ disk.faults) (sym runs) refl;
      };
      printed_out = (
        record { single = single; cause = cause; disk = refl },
        record { lines = logs; outcomes = refl; steps = refl; acked = refl; mail = refl; out = refl; says = says },
      );
      crash_prefix = record { every_moment = unasked-told disk.told image; one_each = refl; clocks = omega arith };
      status = refl;
    },
  )

-- what refuses a single command, as its line is refused for it
words-line : (input : List ℕ) (words : List (List ℕ)) (why : Outcome) → input ≡ [] → fault_of_command (parse_single words) ≡ Some why → refused_unasked (fed input (parse_single words)) input None ≡ Some why
words-line input words why none e =
    subst (λ (i : List ℕ). refused_unasked (fed i (parse_single words)) i None ≡ Some why) (sym none) (words-refuse (parse_single words) why e)

single-fault : (session : Bool) (words : List (List ℕ)) (fault : Option Outcome) → session ≡ false → fault_by session words ≡ fault → fault_of_command (parse_single words) ≡ fault
single-fault session words fault single e = sym (ap (λ (b : Bool). fault_by b words) single) ∙ e

single-reads : (session : Bool) (words : List (List ℕ)) → session ≡ false → reads_by session words ≡ true → command_reads (parse_single words) ≡ true
single-reads session words single e = sym (ap (λ (b : Bool). reads_by b words) single) ∙ e

single-input : (session : Bool) (words : List (List ℕ)) (input : List ℕ) (fault : Option Outcome) → session ≡ false → input_fault_by session words input ≡ fault → fault_of_input (parse_single words) input ≡ fault
single-input session words input fault single e = sym (ap (λ (b : Bool). input_fault_by b words input) single) ∙ e

pub line-history : (why : Outcome) (input : List ℕ) (words : List (List ℕ)) (setting : Setting) (mail : ObservedMail) (disk : ObservedDisk) (old new : ObservedStream) (out err said : ObservedSink)
    → is_session words ≡ false → RefusesLine why input words old new → Prints (Some (refusal_line why)) err said → IfSome disk.told (λ moments. IsImage moments.present moments.present.now)
    → History (call_of words setting (devices mail disk old out err) (devices mail disk new out said) (refused_done why mail.faults disk.faults))
line-history why input words setting mail disk old new out err said single (inl cause) says image =
    let fault = single-fault (is_session words) words (Some why) single cause.0 in
    refused-history why input words setting mail disk old new out err said single (of-command (parse_single words) why fault)
    (words-line input words why cause.1 fault) (inl cause) says image
line-history why input words setting mail disk old new out err said single (inr cause) says image =
    let reads = single-reads (is_session words) words single cause.1 in
    let fault = single-input (is_session words) words input (Some why) single cause.3 in
    refused-history why input words setting mail disk old new out err said single (of-input (parse_single words) input why fault)
    (lines-refuse (parse_single words) input why reads fault) (inr cause) says image
