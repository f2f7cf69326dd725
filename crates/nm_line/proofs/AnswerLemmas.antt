-- How a line ends that asks no device: it finds no memory, its words are outside the grammar, its texts are refused, or it only reads the index.
-- For the proofs of `answer`, `change_tags`, `run_restore` and others.
use Rattle.std.proofs.Common.{◌≡◌, ◌&&◌, inl, ℕ, ℤ, ◌+◌, Bool, true, false, not, List, [], Option, None, Some, IfOk, is_some, Result, Ok, Err, fold, length, map, refl, sym, ap, ◌∙◌, subst, append-nil, arith}
use Rattle.std.specs.Option.{option_map, option_to_list}
use Rattle.std.specs.Result.{IsErr}
use Rattle.nm_model_answer.specs.Answer.{answer}
use Rattle.nm_log.specs.Kind.{Kind, ReadsIndex, SetsTags, ShowsFiles, TakesMail, kind_of}
use Rattle.nm_model_answer.specs.declared.request.Request.{Request}
use Rattle.nm_model_answer.specs.declared.request.Request.TheVariants as requests
use Rattle.nm_base.specs.declared.memory.NoMemory.{NoMemory}
use Rattle.nm_base.specs.declared.refusals.UsageKind.{UsageKind}
use Rattle.nm_history.specs.Given.{AsksBy, AsksMail, AsksShow}
use Rattle.nm_history.specs.LineAnswers.{HasCause, NoneFailed, line_text, refused_lane_read}
use Rattle.nm_commit.specs.declared.change.Commit.{Commit}
use Rattle.nm_history.specs.LineCommits.{FindsBy, FindsFor, Makes}
use Rattle.nm_history.specs.LineResult.{HasMade, Place, before_at, said_of}
use Rattle.nm_history.specs.Lines.{given_in, tree_after_line, tree_by}
use Rattle.nm_history.specs.StillLaws.{no-renames, renames-none}
use Rattle.nm_history.specs.MachineRun.{replied_where}
use Rattle.nm_history.specs.Requests.{asks_folder, first_bad_line, first_refusal, is_asking, is_writing, own_query, paths_to_show, query_outcome, refused_closed, refused_found, refused_line, refused_query, refused_reading, refused_text, refused_text_of, refused_unasked, writes_index}
use Rattle.nm_model_index.specs.declared.base.Base.{Base}
use Rattle.nm_lanes.specs.declared.script.ScriptLine.{ScriptLine}
use Rattle.nm_log.specs.ParsedLine.{parse_line}
use Rattle.nm_log.specs.Replies.{is_well, refusal_line}
use Rattle.nm_log.specs.declared.line_parser.ParsedLine.{ParsedLine}
use Rattle.nm_log.specs.declared.line_parser.ParsedLine.TheVariants as asked
use Rattle.nm_log.specs.declared.outcome.Outcome.{Outcome}
use Rattle.nm_log.specs.declared.outcome.Outcome.TheVariants as outcomes
use Rattle.nm_maildir.specs.Observed.{ObservedMail}
use Rattle.nm_maildir.specs.Tree.{Tree}
use Rattle.nm_maildir.specs.declared.given.Given.{Given}
use Rattle.nm_model_plan.specs.Plan.{due_commits}
use Rattle.nm_query.specs.Answers.{answer_of}
use Rattle.nm_query.specs.declared.query.Query.{Query}
use Rattle.nm_query.specs.declared.query_error.QueryError.{QueryError}
use Rattle.nm_query.specs.declared.query_error.QueryError.TheVariants as query_errors
use Rattle.nm_scan.specs.Bodies.{left_after}
use Rattle.nm_line.specs.Line.{Ends, IsLineAnswer, IsReadOff, IsSaid, newly_closed, refused_with, replied_with}
use Rattle.nm_prepare.specs.Prepared.{IsPrepared, reading_request}
use Rattle.nm_line.specs.declared.line_answer.LineAnswer.{LineAnswer}
use Rattle.nm_prepare.specs.declared.prepared.Prepared.TheVariants as ready
use Rattle.nm_prepare.specs.declared.prepared.Reading.{Reading}
use Rattle.nm_prepare.specs.declared.prepared.Reading.TheVariants as readings
use Rattle.nm_log.specs.declared.log.Said.{Said}
use Rattle.nm_tags.specs.declared.line_error.LineKind.{LineKind}
use Rattle.nm_writer.specs.Writer.{WriterState}

-- where nothing was asked

-- the writer that stays as it is was not closed in between
not-closed : (closed : Option ℕ) → (is_some closed && not (is_some closed)) ≡ false
not-closed None = refl
not-closed (Some fault) = refl

pub still-writer : (writer : WriterState) → newly_closed writer writer ≡ false
still-writer writer = not-closed writer.closed

-- the tree stays where nothing was given
renamed-none : (tree : Option Tree) → tree ≡ option_map (λ t. fold given_in t []) tree
renamed-none None = refl
renamed-none (Some tree) = refl

tree-by : (kind : Kind) (tree : Option Tree) → tree ≡ tree_by kind [] tree
tree-by TakesMail tree = refl
tree-by ReadsIndex tree = refl
tree-by (ShowsFiles ask) tree = refl
tree-by SetsTags tree = renamed-none tree

pub tree-still : (line : ParsedLine) (tree : Option Tree) → tree ≡ tree_after_line line [] tree
tree-still (asked.Request request) tree = tree-by (kind_of request) tree
tree-still (asked.Usage word kind) tree = refl

-- what ends a line before it asks anything
abbrev pub is_early : Outcome → Bool
is_early outcomes.Ok = false
is_early (outcomes.Usage word kind) = true
is_early (outcomes.BadQuery at kind) = true
is_early (outcomes.BadDate at) = true
is_early (outcomes.BadLine bad kind) = true
is_early (outcomes.NotOne found) = true
is_early (outcomes.Gone path) = false
is_early outcomes.MailFault = false
is_early outcomes.DiskFault = false
is_early (outcomes.Closed fault) = true
is_early (outcomes.Limit limit) = true
is_early outcomes.NoMemory = true

-- such a line asks nothing
shows-early : (outcome : Outcome) (left : ℕ) (paths : List (List ℕ)) (mail : ObservedMail) → is_early outcome ≡ true → AsksShow outcome mail mail left paths []
shows-early outcomes.Ok left paths mail early = absurd (cc)
shows-early (outcomes.Usage word kind) left paths mail early = record { given_is = refl; same = refl }
shows-early (outcomes.BadQuery at kind) left paths mail early = record { given_is = refl; same = refl }
shows-early (outcomes.BadDate at) left paths mail early = record { given_is = refl; same = refl }
shows-early (outcomes.BadLine bad kind) left paths mail early = record { given_is = refl; same = refl }
shows-early (outcomes.NotOne found) left paths mail early = record { given_is = refl; same = refl }
shows-early (outcomes.Gone path) left paths mail early = absurd (cc)
shows-early outcomes.MailFault left paths mail early = absurd (cc)
shows-early outcomes.DiskFault left paths mail early = absurd (cc)
shows-early (outcomes.Closed fault) left paths mail early = record { given_is = refl; same = refl }
shows-early (outcomes.Limit limit) left paths mail early = inl (record { given_is = refl; same = refl })
shows-early outcomes.NoMemory left paths mail early = inl (record { given_is = refl; same = refl })

asks-by : (kind : Kind) (outcome : Outcome) (index : Base) (moment : ℤ) (left : ℕ) (mail : ObservedMail) → is_early outcome ≡ true → AsksBy kind outcome index moment left mail mail []
asks-by TakesMail outcome index moment left mail early = inl (refl, refl)
asks-by ReadsIndex outcome index moment left mail early = record { given_is = refl; same = refl }
asks-by (ShowsFiles ask) outcome index moment left mail early = shows-early outcome left (paths_to_show ask index moment) mail early
asks-by SetsTags outcome index moment left mail early = record { more = []; given_is = refl; tree = no-renames mail.tree; reads = refl }

pub asks-early : (outcome : Outcome) (line : ParsedLine) (index : Base) (moment : ℤ) (left : ℕ) (mail : ObservedMail) → is_early outcome ≡ true → AsksMail outcome line index moment left mail mail []
asks-early outcome (asked.Request request) index moment left mail early = asks-by (kind_of request) outcome index moment left mail early
asks-early outcome (asked.Usage word kind) index moment left mail early = record { given_is = refl; same = refl }

pub made-nothing : (writer : WriterState) → HasMade writer [] [] writer
made-nothing writer = record {
  fit = tt;
  within = tt;
  idle = λ _. refl;
  published = ap (λ (l : List Commit). record writer.published { commits = l }) (sym (append-nil writer.published.commits));
  shown = refl;
  begun_are = sym (append-nil writer.begun);
  clocks = [];
  acked = sym (append-nil writer.acked);
  one_each = refl;
}

-- the same place, after a line that was given this
abbrev pub stays-at : Place → List Given → Place
stays-at place noted = record { writer = place.writer; mail = place.mail; disk_faults = place.disk_faults; left = left_after place.left noted }

pub idle : (moment : ℤ) (place : Place) (line : ScriptLine) (outcome : Outcome)
    → Makes outcome moment place.mail.tree place.writer.shown line [] (length place.writer.acked + 0) [] []
    → AsksMail outcome (parse_line line) place.writer.shown moment place.left place.mail place.mail []
    → HasCause outcome (parse_line line) line.input (before_at place) place.writer.shown moment [] place.mail.faults false
    → IsLineAnswer moment place line [] outcome (newly_closed place.writer place.writer) (stays-at place [])
idle moment place line outcome makes asks cause =
    subst (λ (b : Bool). IsLineAnswer moment place line [] outcome b (stays-at place [])) (sym (still-writer place.writer)) (record {
      made = [];
      in_flight = [];
      has_made = made-nothing place.writer;
      makes = makes;
      renames_after = renames-none (parse_line line) line.input moment place.writer.shown [];
      on_its_way = refl;
      closed = refl;
      asks = asks;
      unasked = λ refused. record { given_is = refl; same = refl };
      tree = tree-still (parse_line line) place.mail.tree;
      left = refl;
      mail_never_falls = omega arith;
      disk_never_falls = omega arith;
      cause = cause;
      disk = refl;
    })

pub none-failed : (place : Place) → NoneFailed (before_at place).mail_faults place.mail.faults false
none-failed place = record { mail_same = refl; disk_well = refl }

-- a line that finds no memory

pub found-no-memory : (moment : ℤ) (place : Place) (line : ScriptLine) (noted : List Given) → noted ≡ [] → IsLineAnswer moment place line noted outcomes.NoMemory (newly_closed place.writer place.writer) (stays-at place noted)
found-no-memory moment place line noted none =
    subst (λ (l : List Given). IsLineAnswer moment place line l outcomes.NoMemory (newly_closed place.writer place.writer) (stays-at place l)) (sym none)
    (idle moment place line outcomes.NoMemory (inl (refl, inl refl), refl) (asks-early outcomes.NoMemory (parse_line line) place.writer.shown moment place.left place.mail refl) refl)

pub failed-ends : (moment : ℤ) (place : Place) (line : ScriptLine) (noted : List Given) (result : Result LineAnswer NoMemory) → IsErr result → noted ≡ [] → Ends moment place line noted result (stays-at place noted)
failed-ends moment place line noted (Ok done) failed none = absurd (cc)
failed-ends moment place line noted (Err error) failed none = found-no-memory moment place line noted none

-- what a refused line says

pub refusal-said : (outcome : Outcome) (line : ParsedLine) (input : List ℕ) (before index : Base) (moment : ℤ) (noted : List Given) → is_well outcome ≡ false → refusal_line outcome ≡ line_text outcome line input before index moment noted
refusal-said outcomes.Ok line input before index moment noted ill = absurd (cc)
refusal-said (outcomes.Usage word kind) line input before index moment noted ill = refl
refusal-said (outcomes.BadQuery at kind) line input before index moment noted ill = refl
refusal-said (outcomes.BadDate at) line input before index moment noted ill = refl
refusal-said (outcomes.BadLine bad kind) line input before index moment noted ill = refl
refusal-said (outcomes.NotOne found) line input before index moment noted ill = refl
refusal-said (outcomes.Gone path) line input before index moment noted ill = refl
refusal-said outcomes.MailFault line input before index moment noted ill = refl
refusal-said outcomes.DiskFault line input before index moment noted ill = refl
refusal-said (outcomes.Closed fault) line input before index moment noted ill = refl
refusal-said (outcomes.Limit limit) line input before index moment noted ill = refl
refusal-said outcomes.NoMemory line input before index moment noted ill = refl

pub refusal-unreplied : (outcome : Outcome) (line : ParsedLine) (lane revision : ℕ) (text : List ℕ) → is_well outcome ≡ false → [] ≡ map said_of (replied_where outcome line lane revision text)
refusal-unreplied outcomes.Ok line lane revision text ill = absurd (cc)
refusal-unreplied (outcomes.Usage word kind) line lane revision text ill = refl
refusal-unreplied (outcomes.BadQuery at kind) line lane revision text ill = refl
refusal-unreplied (outcomes.BadDate at) line lane revision text ill = refl
refusal-unreplied (outcomes.BadLine bad kind) line lane revision text ill = refl
refusal-unreplied (outcomes.NotOne found) line lane revision text ill = refl
refusal-unreplied (outcomes.Gone path) line lane revision text ill = refl
refusal-unreplied outcomes.MailFault line lane revision text ill = refl
refusal-unreplied outcomes.DiskFault line lane revision text ill = refl
refusal-unreplied (outcomes.Closed fault) line lane revision text ill = refl
refusal-unreplied (outcomes.Limit limit) line lane revision text ill = refl
refusal-unreplied outcomes.NoMemory line lane revision text ill = refl

pub refused-said : (moment : ℤ) (old new : Place) (line : ScriptLine) (noted : List Given) (outcome : Outcome) → is_well outcome ≡ false → IsSaid moment old line noted (refused_with outcome) new
refused-said moment old new line noted outcome ill = record {
  text = refusal-said outcome (parse_line line) line.input old.writer.shown new.writer.shown moment noted ill;
  reply = λ lane revision. refusal-unreplied outcome (parse_line line) lane revision (refusal_line outcome) ill;
}

-- and what one says that went well
pub replied-said : (moment : ℤ) (old new : Place) (line : ScriptLine) (noted : List Given) (request : Request) (text : List ℕ) → parse_line line ≡ asked.Request request
    → text ≡ answer request line.input old.writer.shown new.writer.shown moment noted → IsSaid moment old line noted (replied_with request text) new
replied-said moment old new line noted request text is said = record {
  text = subst (λ (p : ParsedLine). text ≡ line_text outcomes.Ok p line.input old.writer.shown new.writer.shown moment noted) (sym is) said;
  reply = λ lane revision. subst (λ (p : ParsedLine). option_to_list {X = Said} (Some (record { request = request; text = text })) ≡ map said_of (replied_where outcomes.Ok p lane revision text)) (sym is) refl;
}

-- words outside the grammar

usage-refused : (moment : ℤ) (place : Place) (line : ScriptLine) (word : List ℕ) (kind : UsageKind) → parse_line line ≡ asked.Usage word kind
    → Ends moment place line [] (Ok (refused_with (outcomes.Usage word kind))) (stays-at place [])
usage-refused moment place line word kind is =
    let outcome : Outcome = outcomes.Usage word kind in (
      idle moment place line outcome (record { made_are = refl; in_flight_is = refl }) (asks-early outcome (parse_line line) place.writer.shown moment place.left place.mail refl)
          (subst (λ (p : ParsedLine). HasCause outcome p line.input (before_at place) place.writer.shown moment [] place.mail.faults false) (sym is) (refl, none-failed place)),
      refused-said moment place (stays-at place []) line [] outcome refl,
    )

-- the texts of a request

-- what refuses the texts of a request
abbrev pub is_of_text : Outcome → Bool
is_of_text outcomes.Ok = false
is_of_text (outcomes.Usage word kind) = false
is_of_text (outcomes.BadQuery at kind) = true
is_of_text (outcomes.BadDate at) = true
is_of_text (outcomes.BadLine bad kind) = true
is_of_text (outcomes.NotOne found) = false
is_of_text (outcomes.Gone path) = false
is_of_text outcomes.MailFault = false
is_of_text outcomes.DiskFault = false
is_of_text (outcomes.Closed fault) = false
is_of_text (outcomes.Limit limit) = true
is_of_text outcomes.NoMemory = true

of-query : (refusal : QueryError) → is_of_text (query_outcome refusal) ≡ true
of-query (query_errors.BadQuery at kind) = refl
of-query (query_errors.BadDate at) = refl
of-query (query_errors.Limit limit) = refl
of-query query_errors.NoMemory = refl

same-outcome : (one other : Outcome) → Some one ≡ Some other → is_of_text one ≡ true → is_of_text other ≡ true
same-outcome one other e h = let same : one ≡ other = cc in ap is_of_text (sym same) ∙ h

of-answer : (answered : Result Query QueryError) (outcome : Outcome) → refused_text answered ≡ Some outcome → is_of_text outcome ≡ true
of-answer (Ok query) outcome e = absurd (cc)
of-answer (Err refusal) outcome e = same-outcome (query_outcome refusal) outcome e (of-query refusal)

of-own : (own : Option (List ℕ)) (outcome : Outcome) → refused_query own ≡ Some outcome → is_of_text outcome ≡ true
of-own None outcome e = absurd (cc)
of-own (Some text) outcome e = of-answer (answer_of text) outcome e

of-lines : (bad : Option (ℕ × LineKind)) (own : Option (List ℕ)) (outcome : Outcome) → first_refusal (refused_line bad) (refused_query own) ≡ Some outcome → is_of_text outcome ≡ true
of-lines None own outcome e = of-own own outcome e
of-lines (Some bad) own outcome e = same-outcome (outcomes.BadLine bad.0 bad.1) outcome e refl

text-refuses : (request : Request) (input : List ℕ) (outcome : Outcome) → refused_text_of request input ≡ Some outcome → is_of_text outcome ≡ true
text-refuses request input outcome e = of-lines (first_bad_line request input) (own_query request) outcome e

module _ (moment : ℤ) (place : Place) (line : ScriptLine) (request : Request) (is : parse_line line ≡ asked.Request request) where
  -- what refuses the line where its texts are refused
  refused-as : (outcome : Outcome) (closed : Option ℕ) → refused_text_of request line.input ≡ Some outcome → refused_unasked (parse_line line) line.input closed ≡ Some outcome
  refused-as outcome closed e =
      ap (λ (p : ParsedLine). refused_unasked p line.input closed) is
      ∙ ap (λ (r : Option Outcome). first_refusal r (refused_closed closed (is_writing request))) e

  -- it is refused before it asks a device
  early : (outcome : Outcome) → is_early outcome ≡ true → is_well outcome ≡ false
      → Makes outcome moment place.mail.tree place.writer.shown line [] (length place.writer.acked + 0) [] []
      → HasCause outcome (parse_line line) line.input (before_at place) place.writer.shown moment [] place.mail.faults false
      → Ends moment place line [] (Ok (refused_with outcome)) (stays-at place [])
  early outcome soon ill makes cause = (
    idle moment place line outcome makes (asks-early outcome (parse_line line) place.writer.shown moment place.left place.mail soon) cause,
    refused-said moment place (stays-at place []) line [] outcome ill,
  )

  text-refused : (outcome : Outcome) → is_of_text outcome ≡ true → refused_text_of request line.input ≡ Some outcome → Ends moment place line [] (Ok (refused_with outcome)) (stays-at place [])
  text-refused outcomes.Ok of e = absurd (cc)
  text-refused (outcomes.Usage word kind) of e = absurd (cc)
  text-refused (outcomes.BadQuery at kind) of e = early (outcomes.BadQuery at kind) refl refl (record { made_are = refl; in_flight_is = refl }) (refused-as _ place.writer.closed e, none-failed place)
  text-refused (outcomes.BadDate at) of e = early (outcomes.BadDate at) refl refl (record { made_are = refl; in_flight_is = refl }) (refused-as _ place.writer.closed e, none-failed place)
  text-refused (outcomes.BadLine bad kind) of e = early (outcomes.BadLine bad kind) refl refl (record { made_are = refl; in_flight_is = refl }) (refused-as _ place.writer.closed e, none-failed place)
  text-refused (outcomes.NotOne found) of e = absurd (cc)
  text-refused (outcomes.Gone path) of e = absurd (cc)
  text-refused outcomes.MailFault of e = absurd (cc)
  text-refused outcomes.DiskFault of e = absurd (cc)
  text-refused (outcomes.Closed fault) of e = absurd (cc)
  text-refused (outcomes.Limit limit) of e =
      early (outcomes.Limit limit) refl refl (inl (refl, inl (refl, refused-as _ None e)), refl) (inl (refused-as _ place.writer.closed e), none-failed place)
  text-refused outcomes.NoMemory of e = early outcomes.NoMemory refl refl (inl (refl, inl refl), refl) refl

  refused-ends : (outcome : Outcome) → refused_text_of request line.input ≡ Some outcome → Ends moment place line [] (Ok (refused_with outcome)) (stays-at place [])
  refused-ends outcome e = text-refused outcome (text-refuses request line.input outcome e) e

-- the words of a line are refused, or its texts
lane_read-refused : (moment : ℤ) (place : Place) (line : ScriptLine) (parsed : ParsedLine) (outcome : Outcome) → parse_line line ≡ parsed → refused_lane_read parsed line.input ≡ Some outcome
    → Ends moment place line [] (Ok (refused_with outcome)) (stays-at place [])
lane_read-refused moment place line (asked.Usage word kind) outcome is e =
    let same : outcomes.Usage word kind ≡ outcome = cc in
    subst (λ (o : Outcome). Ends moment place line [] (Ok (refused_with o)) (stays-at place [])) same (usage-refused moment place line word kind is)
lane_read-refused moment place line (asked.Request request) outcome is e = refused-ends moment place line request is outcome e

pub refused-ends-at : (moment : ℤ) (place : Place) (line : ScriptLine) (noted : List Given) (outcome : Outcome) (result : Result LineAnswer NoMemory) → noted ≡ []
    → refused_lane_read (parse_line line) line.input ≡ Some outcome → IfOk result (λ done. done ≡ refused_with outcome) → Ends moment place line noted result (stays-at place noted)
refused-ends-at moment place line noted outcome (Err error) none e said = found-no-memory moment place line noted none
refused-ends-at moment place line noted outcome (Ok done) none e said =
    subst (λ (l : List Given). Ends moment place line l (Ok done) (stays-at place l)) (sym none)
    (subst (λ (d : LineAnswer). Ends moment place line [] (Ok d) (stays-at place [])) (sym said) (lane_read-refused moment place line (parse_line line) outcome refl e))

-- a request that asks no device

closed-alive : (closed : Option ℕ) → refused_closed closed false ≡ None
closed-alive None = refl
closed-alive (Some fault) = refl

-- it is of one kind
quiet-kind : (kind : Kind) → asks_folder kind ≡ false → kind ≡ ReadsIndex
quiet-kind TakesMail quiet = absurd (cc)
quiet-kind ReadsIndex quiet = refl
quiet-kind (ShowsFiles ask) quiet = absurd (cc)
quiet-kind SetsTags quiet = absurd (cc)

-- what holds of the kind holds of the request
by-quiet : (holds : Kind → Type 0) (request : Request) → is_asking request ≡ false → holds ReadsIndex → holds (kind_of request)
by-quiet holds request quiet h = subst holds (sym (quiet-kind (kind_of request) quiet)) h

reading-only : (request : Request) → is_asking request ≡ false → is_writing request ≡ false
reading-only request quiet = by-quiet (λ kind. writes_index kind ≡ false) request quiet refl

-- it finds no mails, and no commits are due to it
finds-nothing : (request : Request) (input : List ℕ) (moment : ℤ) (tree : Option Tree) (index : Base) → is_asking request ≡ false → FindsFor request input moment tree index [] [] []
finds-nothing request input moment tree index quiet = by-quiet (λ kind. FindsBy kind request input moment tree index [] [] []) request quiet (refl, refl)

due-nothing : (request : Request) (input : List ℕ) (moment : ℤ) (index : Base) → is_asking request ≡ false → [] ≡ due_commits request input moment index [] [] []
due-nothing requests.New input moment index quiet = absurd (cc)
due-nothing (requests.Count ask) input moment index quiet = refl
due-nothing (requests.Search ask) input moment index quiet = refl
due-nothing (requests.Dump ask) input moment index quiet = refl
due-nothing (requests.Show ask) input moment index quiet = absurd (cc)
due-nothing (requests.Tag ask) input moment index quiet = absurd (cc)
due-nothing (requests.Restore ask) input moment index quiet = absurd (cc)

reads-nothing : (request : Request) (index : Base) (moment : ℤ) (left : ℕ) → is_asking request ≡ false → refused_reading (asked.Request request) index moment left [] ≡ None
reads-nothing request index moment left quiet = by-quiet (λ kind. refused_found kind index moment left [] ≡ None) request quiet refl

asks-nothing : (request : Request) (index : Base) (moment : ℤ) (left : ℕ) (mail : ObservedMail) → is_asking request ≡ false → AsksMail outcomes.Ok (asked.Request request) index moment left mail mail []
asks-nothing request index moment left mail quiet = by-quiet (λ kind. AsksBy kind outcomes.Ok index moment left mail mail []) request quiet (record { given_is = refl; same = refl })

module _ (moment : ℤ) (place : Place) (line : ScriptLine) (request : Request) (is : parse_line line ≡ asked.Request request) (quiet : is_asking request ≡ false) where
  may-ask : refused_text_of request line.input ≡ None → refused_unasked (asked.Request request) line.input place.writer.closed ≡ None
  may-ask e =
      ap (λ (r : Option Outcome). first_refusal r (refused_closed place.writer.closed (is_writing request))) e
      ∙ (ap (λ (b : Bool). refused_closed place.writer.closed b) (reading-only request quiet) ∙ closed-alive place.writer.closed)

  -- where no text refuses it, it is answered
  read-well : refused_text_of request line.input ≡ None → Ends moment place line [] (Ok (replied_with request (answer request line.input place.writer.shown place.writer.shown moment []))) (stays-at place [])
  read-well e = (
    idle moment place line outcomes.Ok (
      record {
        request = request;
        asked_for = is;
        batches = [];
        found = finds-nothing request line.input moment place.mail.tree place.writer.shown quiet;
        due_are = due-nothing request line.input moment place.writer.shown quiet;
      },
      refl,
    ) (subst (λ (p : ParsedLine). AsksMail outcomes.Ok p place.writer.shown moment place.left place.mail place.mail []) (sym is) (asks-nothing request place.writer.shown moment place.left place.mail quiet))
        (subst (λ (p : ParsedLine). HasCause outcomes.Ok p line.input (before_at place) place.writer.shown moment [] place.mail.faults false) (sym is)
        (may-ask e, reads-nothing request place.writer.shown moment place.left quiet, none-failed place)),
    replied-said moment place (stays-at place []) line [] request (answer request line.input place.writer.shown place.writer.shown moment []) is refl,
  )

-- what is read off the index is no request that asks a device
quiet-reading : (reading : Reading) → is_asking (reading_request reading) ≡ false
quiet-reading (readings.Count ask query) = refl
quiet-reading (readings.Counts ask texts) = refl
quiet-reading (readings.Search ask query) = refl
quiet-reading (readings.Dump ask query) = refl

pub reading-ends : (moment : ℤ) (place : Place) (line : ScriptLine) (noted : List Given) (reading : Reading) (shown : Base) (result : Result LineAnswer NoMemory) → noted ≡ []
    → IsPrepared (parse_line line) line.input (ready.Read reading) → shown ≡ place.writer.shown → IfOk result (IsReadOff moment shown reading) → Ends moment place line noted result (stays-at place noted)
reading-ends moment place line noted reading shown (Err error) none h same said = found-no-memory moment place line noted none
reading-ends moment place line noted reading shown (Ok done) none h same said =
    let read : IsReadOff moment place.writer.shown reading done = subst (λ (b : Base). IsReadOff moment b reading done) same said in
    subst (λ (l : List Given). Ends moment place line l (Ok done) (stays-at place l)) (sym none)
    (subst (λ (d : LineAnswer). Ends moment place line [] (Ok d) (stays-at place [])) (sym (read line.input h.made)) (
    read-well moment place line (reading_request reading) h.asks (quiet-reading reading) (subst (λ (p : ParsedLine). refused_lane_read p line.input ≡ None) h.asks h.sound)))
