-- What a line leaves: its log and its marks. For the proofs of `line_log` and `run_line`.
use Rattle.std.proofs.Common.{◌≡◌, ℕ, ℤ, ◌+◌, ◌-◌, ◌≤◌, Bool, true, false, List, [], ◌∷◌, ◌++◌, Option, None, MatchResult, Result, Ok, Err, length, map, replicate, codes, if◌then◌else◌, refl, sym, ap, ◌∙◌, subst, arith}
use Rattle.std.proofs.lemmas.List.{length-append}
use Rattle.std.specs.Option.{option_to_list}
use Rattle.nm_base.specs.Limits.{max_commits}
use Rattle.nm_base.specs.declared.memory.NoMemory.{NoMemory}
use Rattle.nm_commit.specs.declared.change.Commit.{Commit}
use Rattle.nm_history.specs.LineCommits.{IsOnItsWay}
use Rattle.nm_history.specs.LineResult.{Place}
use Rattle.nm_history.specs.Lines.{RunLine, closed_after}
use Rattle.nm_history.specs.MachineRun.{Replied, replied_where, reply_to}
use Rattle.nm_model_index.specs.declared.base.Base.{Base}
use Rattle.nm_lanes.specs.declared.script.ScriptLine.{ScriptLine}
use Rattle.nm_log.specs.ParsedLine.{parse_line}
use Rattle.nm_log.specs.Replies.{status_of}
use Rattle.nm_log.specs.declared.line_parser.ParsedLine.{ParsedLine}
use Rattle.nm_log.specs.declared.line_parser.ParsedLine.TheVariants as asked
use Rattle.nm_log.specs.declared.outcome.Outcome.{Outcome}
use Rattle.nm_log.specs.declared.outcome.Outcome.TheVariants as outcomes
use Rattle.nm_maildir.specs.declared.given.Given.{Given}
use Rattle.nm_line.specs.Line.{Ends, IsEven, IsLineAnswer, IsSaid, newly_closed}
use Rattle.nm_phase.specs.LineLog.{IsRun}
use Rattle.nm_trace.specs.Trace.{begun_mark, line_marks, made_mark, marks_for, reply_mark, said_marks}
use Rattle.nm_line.specs.declared.line_answer.LineAnswer.{LineAnswer}
use Rattle.nm_trace.specs.declared.trace.Mark.{Mark}
use Rattle.nm_trace.specs.declared.trace.Mark.TheVariants as marks
use Rattle.nm_log.specs.declared.log.Said.{Said}
use Rattle.nm_phase.proofs.MarkLemmas.{mapped, said-marks}

-- the answer, also where there was no memory for it

abbrev without_memory : List ℕ → LineAnswer
without_memory spare = record { outcome = outcomes.NoMemory; text = spare; reply = None }

done-by : (moment : ℤ) (old new : Place) (line : ScriptLine) (noted : List Given) (answered : Result LineAnswer NoMemory) (done : LineAnswer) (spare : List ℕ) → spare ≡ codes "notmuch: no memory\n"
    → MatchResult answered (λ got. done ≡ got) (λ error. done ≡ record { outcome = outcomes.NoMemory; text = spare; reply = None }) → Ends moment old line noted answered new
    → IsLineAnswer moment old line noted done.outcome (newly_closed old.writer new.writer) new × IsSaid moment old line noted done new
done-by moment old new line noted (Ok got) done spare text is h =
    subst (λ (d : LineAnswer). IsLineAnswer moment old line noted d.outcome (newly_closed old.writer new.writer) new × IsSaid moment old line noted d new) (sym is) h
done-by moment old new line noted (Err error) done spare text is h =
    subst (λ (d : LineAnswer). IsLineAnswer moment old line noted d.outcome (newly_closed old.writer new.writer) new × IsSaid moment old line noted d new) (sym (is ∙ ap without_memory text))
    (h, record { text = refl; reply = λ lane revision. refl })

pub is-run : (moment : ℤ) (phase : ℕ) (old new : Place) (line : ScriptLine) (noted : List Given) (answered : Result LineAnswer NoMemory) (done : LineAnswer) (spare : List ℕ) (shown : Base) (lane number revision status mail disk : ℕ) (failed : Bool)
    → lane ≡ line.lane → number ≡ line.number → spare ≡ codes "notmuch: no memory\n" → MatchResult answered (λ got. done ≡ got) (λ error. done ≡ record { outcome = outcomes.NoMemory; text = spare; reply = None })
    → Ends moment old line noted answered new → revision ≡ shown.revision → shown ≡ new.writer.shown → status ≡ status_of done.outcome → mail ≡ new.mail.faults → disk ≡ new.disk_faults
    → failed ≡ newly_closed old.writer new.writer
    → IsRun moment phase old (line, record { phase = phase; lane = lane; line = number; revision = revision; status = status; outcome = done.outcome; text = done.text; given = noted; mail_faults = mail; disk_faults = disk; disk_failed = failed }) done.reply new
is-run moment phase old new line noted answered done spare shown lane number revision status mail disk failed lane_is number_is text is ends at shown_is status_is mail_is disk_is failed_is =
    let h : IsLineAnswer moment old line noted done.outcome (newly_closed old.writer new.writer) new × IsSaid moment old line noted done new = done-by moment old new line noted answered done spare text is ends in
    record {
      answered = subst (λ (b : Bool). IsLineAnswer moment old line noted done.outcome b new) (sym failed_is) h.0;
      text = h.1.text;
      reply_is = h.1.reply lane revision;
      numbers = record { phase = refl; lane = lane_is; number = number_is };
      revision = at ∙ ap (λ (b : Base). b.revision) shown_is;
      mail_faults = mail_is;
      disk_faults = disk_is;
      status = status_is;
    }

-- the marks of a line are those of its commits and of its reply

made-marks : (made : List Commit) → replicate (length made) marks.Made ≡ map made_mark made
made-marks [] = refl
made-marks (commit ∷ made) = ap (λ (l : List Mark). marks.Made ∷ l) (made-marks made)

flight-marks : (failed : Bool) (in_flight : List Commit) → IsOnItsWay failed in_flight → (if failed then marks.Begun ∷ [] else []) ≡ map begun_mark in_flight
flight-marks true [] h = absurd (omega (arith, h))
flight-marks true (commit ∷ []) h = refl
flight-marks true (commit ∷ other ∷ more) h = absurd (omega (arith, h))
flight-marks false [] h = refl
flight-marks false (commit ∷ more) h = absurd (omega (arith, h))

count-made : (acked seen new clocks : List ℕ) (commits : List Commit) (made : ℕ) → made ≡ length new - length seen → seen ≡ acked → new ≡ acked ++ clocks → length clocks ≡ length commits → made ≡ length commits
count-made acked seen new clocks commits made is same added each =
    let more : length new ≡ length acked + length clocks = ap length added ∙ length-append acked clocks in
    let before : length seen ≡ length acked = ap length same in
    omega (arith, is, more, before, each)

pub marks-are : (moment : ℤ) (phase : ℕ) (old new : Place) (ran : RunLine) (reply : Option Said) (seen : List ℕ) (made : ℕ) (run : IsRun moment phase old ran reply new) → seen ≡ old.writer.acked → made ≡ length new.writer.acked - length seen
    → marks_for made ran.1.disk_failed ran.1.lane (option_to_list reply) ≡ line_marks run.answered.made run.answered.in_flight (reply_to ran)
marks-are moment phase old new ran reply seen made run same is =
    let h : IsLineAnswer moment old ran.0 ran.1.given ran.1.outcome ran.1.disk_failed new = run.answered in
    let count : made ≡ length h.made = count-made old.writer.acked seen new.writer.acked h.has_made.clocks h.made made is same h.has_made.acked h.has_made.one_each in
    let in_flight : (if ran.1.disk_failed then marks.Begun ∷ [] else []) ≡ map begun_mark h.in_flight =
    flight-marks ran.1.disk_failed h.in_flight h.on_its_way in
    ap (λ n. marks_for n ran.1.disk_failed ran.1.lane (option_to_list reply)) count
    ∙ (ap (λ (l : List Mark). l ++ ((if ran.1.disk_failed then marks.Begun ∷ [] else []) ++ said_marks ran.1.lane (option_to_list reply))) (made-marks h.made)
    ∙ (ap (λ (l : List Mark). map made_mark h.made ++ (l ++ said_marks ran.1.lane (option_to_list reply))) in_flight
    ∙ ap (λ (l : List Mark). map made_mark h.made ++ (map begun_mark h.in_flight ++ l)) (said-marks ran (option_to_list reply) run.reply_is)))

-- a line has one reply at most

asked-few : (line : ParsedLine) (lane revision : ℕ) (text : List ℕ) → length (replied_where outcomes.Ok line lane revision text) ≤ 1
asked-few (asked.Request request) lane revision text = omega arith
asked-few (asked.Usage word kind) lane revision text = omega arith

pub reply-few : (outcome : Outcome) (line : ParsedLine) (lane revision : ℕ) (text : List ℕ) → length (replied_where outcome line lane revision text) ≤ 1
reply-few outcomes.Ok line lane revision text = asked-few line lane revision text
reply-few (outcomes.Usage word kind) line lane revision text = omega arith
reply-few (outcomes.BadQuery at kind) line lane revision text = omega arith
reply-few (outcomes.BadDate at) line lane revision text = omega arith
reply-few (outcomes.BadLine bad kind) line lane revision text = omega arith
reply-few (outcomes.NotOne found) line lane revision text = omega arith
reply-few (outcomes.Gone path) line lane revision text = omega arith
reply-few outcomes.MailFault line lane revision text = omega arith
reply-few outcomes.DiskFault line lane revision text = omega arith
reply-few (outcomes.Closed fault) line lane revision text = omega arith
reply-few (outcomes.Limit limit) line lane revision text = omega arith
reply-few outcomes.NoMemory line lane revision text = omega arith

line-marks-length : (made in_flight : List Commit) (replies : List Replied) → length (line_marks made in_flight replies) ≡ length made + (length in_flight + length replies)
line-marks-length made in_flight replies =
    length-append (map made_mark made) (map begun_mark in_flight ++ map reply_mark replies)
    ∙ (ap (λ n. n + length (map begun_mark in_flight ++ map reply_mark replies)) (mapped made_mark made)
    ∙ ap (λ n. length made + n) (length-append (map begun_mark in_flight) (map reply_mark replies)
    ∙ (ap (λ n. n + length (map reply_mark replies)) (mapped begun_mark in_flight) ∙ ap (λ n. length in_flight + n) (mapped reply_mark replies))))

-- the marks of a line are those of the commits that it began, and at most one more
pub marks-few : (moment : ℤ) (phase : ℕ) (old new : Place) (ran : RunLine) (reply : Option Said) (seen : List ℕ) (made : ℕ) → IsRun moment phase old ran reply new → seen ≡ old.writer.acked → made ≡ length new.writer.acked - length seen
    → length (marks_for made ran.1.disk_failed ran.1.lane (option_to_list reply)) + length old.writer.begun ≤ length new.writer.begun + 1
marks-few moment phase old new ran reply seen made run same is =
    let h : IsLineAnswer moment old ran.0 ran.1.given ran.1.outcome ran.1.disk_failed new = run.answered in
    let begun : length new.writer.begun ≡ length old.writer.begun + length (h.made ++ h.in_flight) = ap length h.has_made.begun_are ∙ length-append old.writer.begun (h.made ++ h.in_flight) in
    omega (
      arith,
      ap length (marks-are moment phase old new ran reply seen made run same is),
      line-marks-length h.made h.in_flight (reply_to ran),
      reply-few ran.1.outcome (parse_line ran.0) ran.1.lane ran.1.revision ran.1.text,
      begun,
      length-append h.made h.in_flight,
    )

-- there is a place for each
pub marks-fit : (moment : ℤ) (phase : ℕ) (old new : Place) (ran : RunLine) (reply : Option Said) (seen : List ℕ) (made room : ℕ) → IsRun moment phase old ran reply new → seen ≡ old.writer.acked → made ≡ length new.writer.acked - length seen
    → 1 + max_commits ≤ room + length old.writer.begun → length new.writer.begun ≤ max_commits
    → length (marks_for made ran.1.disk_failed ran.1.lane (option_to_list reply)) ≤ room
marks-fit moment phase old new ran reply seen made room run same is spare within = omega (arith, marks-few moment phase old new ran reply seen made run same is, spare, within)

-- and no more places are taken
pub marks-left : (moment : ℤ) (phase : ℕ) (old new : Place) (ran : RunLine) (reply : Option Said) (seen : List ℕ) (made room left : ℕ) → IsRun moment phase old ran reply new → seen ≡ old.writer.acked → made ≡ length new.writer.acked - length seen
    → left + length (marks_for made ran.1.disk_failed ran.1.lane (option_to_list reply)) ≡ room → room + length old.writer.begun ≤ left + length new.writer.begun + 1
marks-left moment phase old new ran reply seen made room left run same is taken = omega (arith, marks-few moment phase old new ran reply seen made run same is, taken)

-- an open writer has acknowledged all that it began, still

still-alive : (failed : Bool) (closed : Option ℕ) (faults : ℕ) (in_flight : List Commit) → IsOnItsWay failed in_flight → closed_after closed failed faults ≡ None → (closed ≡ None) × (in_flight ≡ [])
still-alive false closed faults [] h e = (e, refl)
still-alive false closed faults (commit ∷ more) h e = absurd (omega (arith, h))
still-alive true closed faults in_flight h e = absurd (cc)

pub still-even : (moment : ℤ) (old new : Place) (line : ScriptLine) (noted : List Given) (outcome : Outcome) (failed : Bool) → IsLineAnswer moment old line noted outcome failed new → IsEven old.writer → IsEven new.writer
still-even moment old new line noted outcome failed h even = λ alive.
    let was : (old.writer.closed ≡ None) × (h.in_flight ≡ []) = still-alive failed old.writer.closed new.disk_faults h.in_flight h.on_its_way (sym h.closed ∙ alive) in
    let begun : length new.writer.begun ≡ length old.writer.begun + length (h.made ++ h.in_flight) = ap length h.has_made.begun_are ∙ length-append old.writer.begun (h.made ++ h.in_flight) in
    let acked : length new.writer.acked ≡ length old.writer.acked + length h.has_made.clocks = ap length h.has_made.acked ∙ length-append old.writer.acked h.has_made.clocks in
    let none : length h.in_flight ≡ 0 = ap length was.1 in
    omega (arith, begun, length-append h.made h.in_flight, none, acked, h.has_made.one_each, even was.0)
