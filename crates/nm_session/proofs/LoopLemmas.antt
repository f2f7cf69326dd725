-- A turn more keeps what is so of the turns before it. For `PhaseLemmas`.
use Rattle.std.proofs.Common.{◌≡◌, inl, inr, ℕ, ℤ, ◌+◌, ◌*◌, ◌==◌, ◌<◌, ◌≤◌, Bool, true, false, not, cond, List, [], ◌∷◌, ◌++◌, drop, length, take, refl, sym, ap, ◌∙◌, subst, arith, append-nil}
use Rattle.std.proofs.lemmas.Bool.Decides.{nat_tests}
use Rattle.std.proofs.lemmas.Grind.{flat_map-append}
use Rattle.std.proofs.lemmas.List.{length-append, take-append-drop}
use Rattle.std.proofs.lemmas.List.Elements.{filter-append}
use Rattle.nm_commit.specs.declared.change.Commit.{Commit}
use Rattle.nm_history.specs.Call.{Devices, PlacedLine}
use Rattle.nm_history.specs.CrashPrefix.{appends}
use Rattle.nm_history.specs.Given.{GivenAlong}
use Rattle.nm_history.specs.LineAnswers.{LaneAnswers, LineAnswers}
use Rattle.nm_history.specs.LineCommits.{LineCommits}
use Rattle.nm_history.specs.LineResult.{CommitNothing, IsLineResult, IsLaneReadResult, Place, StandsAt, line_steps, lane_read_steps, reply_step}
use Rattle.nm_history.specs.Lines.{RunLine, at_first, is_in_lane_zero, lane_zero_lines, other_lane_lines, run_lines}
use Rattle.nm_history.specs.MachineRun.{MachineRun, Replied, lane_count, reply_to}
use Rattle.nm_history.specs.PrintedOut.{AreLogsOf, IsNumbered}
use Rattle.nm_model_index.specs.Index.{folded}
use Rattle.nm_model_index.specs.declared.base.Base.{Base}
use Rattle.nm_lanes.specs.declared.script.ScriptLine.{ScriptLine}
use Rattle.nm_log.specs.ParsedLine.{parse_line}
use Rattle.nm_log.specs.declared.log.LineLog.{LineLog}
use Rattle.nm_model_machine.specs.declared.step.Step.{Step}
use Rattle.nm_model_machine.specs.declared.step.Step.TheVariants.{Meet}
use Rattle.nm_phase.specs.LineLog.{IsNoted}
use Rattle.nm_phase.specs.LaneLog.{IsLaneReadNoted}
use Rattle.nm_phase.specs.Taken.{IsBarrierNoted, IsTurn}
use Rattle.nm_session.specs.Loop.{HasNoted, HasRunSome, StandFor, lines_at, steps_at}
use Rattle.nm_trace.specs.Trace.{line_marks, lane_read_marks, steps_of}
use Rattle.nm_trace.specs.ReservedLog.{AreFallbacks, HasSpare}
use Rattle.nm_session.specs.TurnLaws.{TurnLaws}
use Rattle.nm_phase.specs.Turns.{Meets, Planned, Runs}
use Rattle.nm_session.specs.Turns.{ends_in, line_in, lines_in}
use Rattle.nm_trace.specs.declared.trace.Mark.{Mark}
use Rattle.nm_trace.specs.declared.trace.Mark.TheVariants as marks
use Rattle.nm_trace.specs.declared.reserved_log.ReservedLog.{ReservedLog}
use Rattle.nm_session.proofs.TraceLemmas.{line-length, line-stands, line-steps, lane_read-stands, lane_read-steps-are, mapped, stand-append, steps-append}
use Rattle.nm_session.proofs.PlaceLemmas.{IsCut, others-alone, shows-made, stand-between, stand-cut, steps-between, steps-cut}
use Rattle.nm_session.proofs.TurnLemmas.{IsNext}

-- ---- lines and logs

logs-more : (lines : List PlacedLine) (logs : List LineLog) (line : PlacedLine) (log : LineLog) → AreLogsOf lines logs → IsNumbered line log → AreLogsOf (lines ++ line ∷ []) (logs ++ log ∷ [])
logs-more [] [] line log h numbers = (numbers, tt)
logs-more [] (other ∷ logs) line log h numbers = absurd h
logs-more (first ∷ lines) [] line log h numbers = absurd h
logs-more (first ∷ lines) (other ∷ logs) line log h numbers = (h.0, logs-more lines logs line log h.1 numbers)

zip-more : (lines : List PlacedLine) (logs : List LineLog) (line : PlacedLine) (log : LineLog) → AreLogsOf lines logs → run_lines (lines ++ line ∷ []) (logs ++ log ∷ []) ≡ run_lines lines logs ++ (line.1, log) ∷ []
zip-more [] [] line log h = refl
zip-more [] (other ∷ logs) line log h = absurd h
zip-more (first ∷ lines) [] line log h = absurd h
zip-more (first ∷ lines) (other ∷ logs) line log h = ap (λ (l : List RunLine). (first.1, other) ∷ l) (zip-more lines logs line log h.1)

lines-more : (planned : List Planned) (phase : ℕ) (line : ScriptLine) → lines_in (planned ++ Runs phase line ∷ []) ≡ lines_in planned ++ (phase, line) ∷ []
lines-more planned phase line = flat_map-append line_in planned (Runs phase line ∷ [])

pub lines-same : (planned : List Planned) → lines_in (planned ++ Meets ∷ []) ≡ lines_in planned
lines-same planned = flat_map-append line_in planned (Meets ∷ []) ∙ append-nil (lines_in planned)

ends-line : (planned : List Planned) (phase : ℕ) (line : ScriptLine) → ends_in (planned ++ Runs phase line ∷ []) ≡ ends_in planned
ends-line [] phase line = refl
ends-line (Runs other first ∷ planned) phase line = ends-line planned phase line
ends-line (Meets ∷ planned) phase line = ap (λ n. n + 1) (ends-line planned phase line)

ends-meet : (planned : List Planned) → ends_in (planned ++ Meets ∷ []) ≡ ends_in planned + 1
ends-meet [] = refl
ends-meet (Runs other first ∷ planned) = ends-meet planned
ends-meet (Meets ∷ planned) = ap (λ n. n + 1) (ends-meet planned)

-- lines of lane 0 and of the others

zero-more : (lines : List RunLine) (ran : RunLine) → is_in_lane_zero ran ≡ true → lane_zero_lines (lines ++ ran ∷ []) ≡ lane_zero_lines lines ++ ran ∷ []
zero-more lines ran is = filter-append is_in_lane_zero lines (ran ∷ []) ∙ ap (λ (b : Bool). lane_zero_lines lines ++ cond b (ran ∷ []) []) is

zero-same : (lines : List RunLine) (ran : RunLine) → is_in_lane_zero ran ≡ false → lane_zero_lines (lines ++ ran ∷ []) ≡ lane_zero_lines lines
zero-same lines ran is = filter-append is_in_lane_zero lines (ran ∷ []) ∙ (ap (λ (b : Bool). lane_zero_lines lines ++ cond b (ran ∷ []) []) is ∙ append-nil (lane_zero_lines lines))

others-same : (lines : List RunLine) (ran : RunLine) → is_in_lane_zero ran ≡ true → other_lane_lines (lines ++ ran ∷ []) ≡ other_lane_lines lines
others-same lines ran is =
    filter-append (λ (r : RunLine). not (is_in_lane_zero r)) lines (ran ∷ []) ∙ (ap (λ (b : Bool). other_lane_lines lines ++ cond (not b) (ran ∷ []) []) is ∙ append-nil (other_lane_lines lines))

others-more : (lines : List RunLine) (ran : RunLine) → is_in_lane_zero ran ≡ false → other_lane_lines (lines ++ ran ∷ []) ≡ other_lane_lines lines ++ ran ∷ []
others-more lines ran is = filter-append (λ (r : RunLine). not (is_in_lane_zero r)) lines (ran ∷ []) ∙ ap (λ (b : Bool). other_lane_lines lines ++ cond (not b) (ran ∷ []) []) is

not-zero : (lane : ℕ) → 1 ≤ lane → (lane == 0) ≡ false
not-zero lane h = grind (arith, nat_tests)

-- ---- a line of lane 0

module _ (laws : TurnLaws) (moment : ℤ) (planned : List Planned) (phase : ℕ) (line : ScriptLine) (before after : ReservedLog) (old new : Place) (noted : HasNoted planned before old) (first : line.lane ≡ 0) (h : IsNoted moment phase old line before after new) where
  abbrev taken : List Step
  taken = line_steps h.run.answered.made h.run.answered.in_flight (reply_to (line, h.log))

  is-result : IsLineResult moment phase old (line, h.log) taken new
  is-result = record {
    first = first;
    made = h.run.answered.made;
    in_flight = h.run.answered.in_flight;
    has_made = h.run.answered.has_made;
    makes = h.run.answered.makes;
    renames_after = h.run.answered.renames_after;
    on_its_way = h.run.answered.on_its_way;
    closed = h.run.answered.closed;
    asks = h.run.answered.asks;
    unasked = h.run.answered.unasked;
    tree = h.run.answered.tree;
    left = h.run.answered.left;
    mail_never_falls = h.run.answered.mail_never_falls;
    disk_never_falls = h.run.answered.disk_never_falls;
    numbers = h.run.numbers;
    revision = h.run.revision;
    mail_faults = h.run.mail_faults;
    disk_faults = h.run.disk_faults;
    cause = h.run.answered.cause;
    disk = h.run.answered.disk;
    status = h.run.status;
    text = h.run.text;
    steps = refl;
  }

  steps-are : steps_at after new ≡ steps_at before old ++ taken
  steps-are =
      ap (λ (l : List Mark). steps_of l new.writer.begun) h.marks
      ∙ (ap (λ (l : List Commit). steps_of (before.marks.0 ++ line_marks h.run.answered.made h.run.answered.in_flight (reply_to (line, h.log))) l) h.run.answered.has_made.begun_are
      ∙ (steps-append before.marks.0 (line_marks h.run.answered.made h.run.answered.in_flight (reply_to (line, h.log))) old.writer.begun (h.run.answered.made ++ h.run.answered.in_flight) noted.stand
      ∙ ap (λ (l : List Step). steps_at before old ++ l) (line-steps h.run.answered.made h.run.answered.in_flight (reply_to (line, h.log)))))

  lines-are : lines_at (planned ++ Runs phase line ∷ []) after ≡ lines_at planned before ++ (line, h.log) ∷ []
  lines-are =
      ap (λ (l : List PlacedLine). run_lines l after.logs.0) (lines-more planned phase line)
      ∙ (ap (λ (l : List LineLog). run_lines (lines_in planned ++ (phase, line) ∷ []) l) h.logs ∙ zip-more (lines_in planned) before.logs.0 (phase, line) h.log noted.logs)

  few-taken : length taken ≤ 3 * length (h.run.answered.made ++ h.run.answered.in_flight) + 1
  few-taken = omega (
    arith,
    line-length h.run.answered.made h.run.answered.in_flight (reply_to (line, h.log)),
    length-append h.run.answered.made h.run.answered.in_flight,
    laws.replies h.log.outcome (parse_line line) h.log.lane h.log.revision h.log.text,
  )

  few-steps : length (steps_at after new) ≤ 2 * length (planned ++ Runs phase line ∷ []) + 3 * length new.writer.begun
  few-steps =
      let all : length (steps_at after new) ≡ length (steps_at before old) + length taken = ap length steps-are ∙ length-append (steps_at before old) taken in
      let longer : length (planned ++ Runs phase line ∷ []) ≡ length planned + 1 = length-append planned (Runs phase line ∷ []) in
      let more : length new.writer.begun ≡ length old.writer.begun + length (h.run.answered.made ++ h.run.answered.in_flight) =
      ap length h.run.answered.has_made.begun_are ∙ length-append old.writer.begun (h.run.answered.made ++ h.run.answered.in_flight) in
      omega (arith, all, longer, more, noted.few, few-taken)

  line-noted : HasNoted (planned ++ Runs phase line ∷ []) after new
  line-noted = record {
    logs = subst (λ (l : List PlacedLine). AreLogsOf l after.logs.0) (sym (lines-more planned phase line))
        (subst (λ (l : List LineLog). AreLogsOf (lines_in planned ++ (phase, line) ∷ []) l) (sym h.logs) (logs-more (lines_in planned) before.logs.0 (phase, line) h.log noted.logs h.run.numbers));
    stand = subst (λ (l : List Mark). StandFor l new.writer.begun) (sym h.marks)
        (subst (λ (l : List Commit). StandFor (before.marks.0 ++ line_marks h.run.answered.made h.run.answered.in_flight (reply_to (line, h.log))) l) (sym h.run.answered.has_made.begun_are)
        (stand-append before.marks.0 (line_marks h.run.answered.made h.run.answered.in_flight (reply_to (line, h.log))) old.writer.begun (h.run.answered.made ++ h.run.answered.in_flight) noted.stand
        (line-stands h.run.answered.made h.run.answered.in_flight (reply_to (line, h.log)))));
    few = few-steps;
    within = h.within;
    even = laws.even moment old new line h.log.given h.log.outcome h.log.disk_failed h.run.answered noted.even;
  }

  both : (P : List Step → List RunLine → Type 0) → P (steps_at before old ++ taken) (lines_at planned before ++ (line, h.log) ∷ []) → P (steps_at after new) (lines_at (planned ++ Runs phase line ∷ []) after)
  both P p = subst (λ (l : List Step). P l (lines_at (planned ++ Runs phase line ∷ []) after)) (sym steps-are) (subst (λ (l : List RunLine). P (steps_at before old ++ taken) l) (sym lines-are) p)

  module _ (opening : Base) (entry : Devices) (some : HasRunSome moment opening entry planned before old) (place_is : phase ≡ ends_in planned) where
    abbrev lines : List RunLine
    lines = lines_at planned before

    abbrev zeros : List RunLine
    zeros = lane_zero_lines lines

    zero-is : is_in_lane_zero (line, h.log) ≡ true
    zero-is = ap (λ (n : ℕ). n == 0) first

    zeros-are : lane_zero_lines (lines ++ (line, h.log) ∷ []) ≡ zeros ++ (line, h.log) ∷ []
    zeros-are = zero-more lines (line, h.log) zero-is

    line-some : HasRunSome moment opening entry (planned ++ Runs phase line ∷ []) after new
    unfolding is-result
    line-some = record {
      acknowledged = some.acknowledged ++ h.run.answered.made;
      at = both (λ steps ran. StandsAt opening entry steps (lane_zero_lines ran) (some.acknowledged ++ h.run.answered.made) new)
          (subst (λ (l : List RunLine). StandsAt opening entry (steps_at before old ++ taken) l (some.acknowledged ++ h.run.answered.made) new) (sym zeros-are)
          (laws.stands opening moment phase entry (steps_at before old) taken zeros some.acknowledged old new (line, h.log) some.at is-result));
      machine_run = both (λ steps ran. MachineRun opening moment (at_first opening entry) steps ran (some.acknowledged ++ h.run.answered.made) (ends_in (planned ++ Runs phase line ∷ [])))
          (subst (λ (n : ℕ). MachineRun opening moment (at_first opening entry) (steps_at before old ++ taken) (lines ++ (line, h.log) ∷ []) (some.acknowledged ++ h.run.answered.made) n) (place_is ∙ sym (ends-line planned phase line))
          (laws.machine_run opening moment phase entry (steps_at before old) taken lines some.acknowledged old new (line, h.log) some.at is-result
          (subst (λ (n : ℕ). MachineRun opening moment (at_first opening entry) (steps_at before old) lines some.acknowledged n) (sym place_is) some.machine_run)));
      line_commits = both (λ steps ran. LineCommits opening moment entry.mail.tree steps (lane_zero_lines ran) (some.acknowledged ++ h.run.answered.made))
          (subst (λ (l : List RunLine). LineCommits opening moment entry.mail.tree (steps_at before old ++ taken) l (some.acknowledged ++ h.run.answered.made)) (sym zeros-are)
          (laws.commits opening moment phase entry (steps_at before old) taken zeros some.acknowledged old new (line, h.log) some.at is-result some.line_commits));
      line_answers = both (λ steps ran. LineAnswers opening moment (at_first opening entry) steps (lane_zero_lines ran))
          (subst (λ (l : List RunLine). LineAnswers opening moment (at_first opening entry) (steps_at before old ++ taken) l) (sym zeros-are)
          (laws.answers opening moment phase entry (steps_at before old) taken zeros some.acknowledged old new (line, h.log) some.at is-result some.line_answers));
      lane_answers = both (λ steps ran. LaneAnswers opening moment steps (other_lane_lines ran))
          (subst (λ (l : List RunLine). LaneAnswers opening moment (steps_at before old ++ taken) l) (sym (others-same lines (line, h.log) zero-is))
          (laws.still_lane_reads opening moment (steps_at before old) taken (other_lane_lines lines) some.lane_answers));
      given = both (λ steps ran. GivenAlong opening moment steps (at_first opening entry) (lane_zero_lines ran) entry.mail new.mail)
          (subst (λ (l : List RunLine). GivenAlong opening moment (steps_at before old ++ taken) (at_first opening entry) l entry.mail new.mail) (sym zeros-are)
          (laws.given opening moment phase entry (steps_at before old) taken zeros some.acknowledged old new (line, h.log) some.at is-result some.given));
      clocks = both (λ steps ran. length new.writer.acked ≡ appends steps)
          (laws.clocks opening moment phase entry (steps_at before old) taken zeros some.acknowledged old new (line, h.log) some.at is-result some.clocks);
    }

-- ---- a line of another lane

module _ (laws : TurnLaws) (moment : ℤ) (planned : List Planned) (phase : ℕ) (line : ScriptLine) (before after : ReservedLog) (place : Place) (noted : HasNoted planned before place) (another : 1 ≤ line.lane)
    (h : IsLaneReadNoted moment phase place.writer line before after) where
  abbrev log : LineLog
  log = h.noted.log

  abbrev replies : List Replied
  replies = reply_to (line, log)

  abbrev looking : List Step
  looking = lane_read_steps line.lane replies

  abbrev ms : List Mark
  ms = take h.at before.marks.0

  abbrev ns : List Mark
  ns = drop h.at before.marks.0

  cut : IsCut ms ns place.writer.begun
  cut = stand-cut ms ns place.writer.begun (subst (λ (l : List Mark). StandFor l place.writer.begun) (sym (take-append-drop h.at before.marks.0)) noted.stand)

  abbrev front : List Step
  front = steps_of ms cut.first

  abbrev back : List Step
  back = steps_of ns cut.second

  steps-before : steps_at before place ≡ front ++ back
  steps-before =
      ap (λ (l : List Mark). steps_of l place.writer.begun) (sym (take-append-drop h.at before.marks.0)) ∙ steps-cut ms (lane_read_marks line.lane replies) ns place.writer.begun cut (lane_read-stands line.lane replies)

  steps-lane_answer : steps_at after place ≡ front ++ (looking ++ back)
  steps-lane_answer =
      ap (λ (l : List Mark). steps_of l place.writer.begun) h.noted.marks
      ∙ (steps-between ms (lane_read_marks line.lane replies) ns place.writer.begun cut (lane_read-stands line.lane replies) ∙ ap (λ (l : List Step). front ++ (l ++ back)) (lane_read-steps-are line.lane replies))

  lines-lane_answer : lines_at (planned ++ Runs phase line ∷ []) after ≡ lines_at planned before ++ (line, log) ∷ []
  lines-lane_answer =
      ap (λ (l : List PlacedLine). run_lines l after.logs.0) (lines-more planned phase line)
      ∙ (ap (λ (l : List LineLog). run_lines (lines_in planned ++ (phase, line) ∷ []) l) h.noted.logs ∙ zip-more (lines_in planned) before.logs.0 (phase, line) log noted.logs)

  few-lane_answer : length (steps_at after place) ≤ 2 * length (planned ++ Runs phase line ∷ []) + 3 * length place.writer.begun
  few-lane_answer = omega (
    arith,
    ap length steps-lane_answer ∙ length-append front (looking ++ back),
    length-append looking back,
    ap length steps-before ∙ length-append front back,
    length-append planned (Runs phase line ∷ []),
    mapped reply_step replies,
    laws.replies log.outcome (parse_line line) log.lane log.revision log.text,
    noted.few,
  )

  lane_read-noted : HasNoted (planned ++ Runs phase line ∷ []) after place
  lane_read-noted = record {
    logs = subst (λ (l : List PlacedLine). AreLogsOf l after.logs.0) (sym (lines-more planned phase line))
        (subst (λ (l : List LineLog). AreLogsOf (lines_in planned ++ (phase, line) ∷ []) l) (sym h.noted.logs) (logs-more (lines_in planned) before.logs.0 (phase, line) log noted.logs h.noted.lane_read.numbers));
    stand = subst (λ (l : List Mark). StandFor l place.writer.begun) (sym h.noted.marks) (stand-between ms (lane_read_marks line.lane replies) ns place.writer.begun cut (lane_read-stands line.lane replies));
    few = few-lane_answer;
    within = noted.within;
    even = noted.even;
  }

  both-lane_answer : (P : List Step → List RunLine → Type 0) → P (front ++ (looking ++ back)) (lines_at planned before ++ (line, log) ∷ []) → P (steps_at after place) (lines_at (planned ++ Runs phase line ∷ []) after)
  both-lane_answer P p = subst (λ (l : List Step). P l (lines_at (planned ++ Runs phase line ∷ []) after)) (sym steps-lane_answer) (subst (λ (l : List RunLine). P (front ++ (looking ++ back)) l) (sym lines-lane_answer) p)

  module _ (opening : Base) (entry : Devices) (some : HasRunSome moment opening entry planned before place) (place_is : phase ≡ ends_in planned) (exists : line.lane < lane_count) where
    abbrev lines-before : List RunLine
    lines-before = lines_at planned before

    lane_read-result : IsLaneReadResult moment phase opening some.acknowledged h.index (line, log) looking back
    lane_read-result = record {
      another = another;
      exists = exists;
      numbers = h.noted.lane_read.numbers;
      alone = others-alone line.lane ns cut.second cut.back h.place.others;
      seen = h.seen;
      later = h.later;
      both = sym some.at.published ∙ h.both;
      shown = sym h.place.made ∙ sym (shows-made ns cut.second cut.back);
      index_is = h.index_is ∙ ap (λ (b : Base). folded b h.seen) some.at.opens;
      revision = h.noted.lane_read.revision;
      cause = h.noted.lane_read.cause;
      status = h.noted.lane_read.status;
      text = h.noted.lane_read.text;
      given = h.noted.lane_read.given;
      mail = h.noted.lane_read.mail;
      disk = h.noted.lane_read.disk;
      well = h.noted.lane_read.well;
      steps = refl;
    }

    other-is : is_in_lane_zero (line, log) ≡ false
    other-is = not-zero line.lane another

    nothing : CommitNothing looking
    nothing = laws.lane_read_nothing line.lane replies

    zeros-same : lane_zero_lines (lines-before ++ (line, log) ∷ []) ≡ lane_zero_lines lines-before
    zeros-same = zero-same lines-before (line, log) other-is

    stood : StandsAt opening entry (front ++ back) (lane_zero_lines lines-before) some.acknowledged place
    stood = subst (λ (l : List Step). StandsAt opening entry l (lane_zero_lines lines-before) some.acknowledged place) steps-before some.at

    lane_read-some : HasRunSome moment opening entry (planned ++ Runs phase line ∷ []) after place
    lane_read-some = record {
      acknowledged = some.acknowledged;
      at = both-lane_answer (λ steps ran. StandsAt opening entry steps (lane_zero_lines ran) some.acknowledged place)
          (subst (λ (l : List RunLine). StandsAt opening entry (front ++ (looking ++ back)) l some.acknowledged place) (sym zeros-same)
          (laws.between_stands opening entry front back looking (lane_zero_lines lines-before) some.acknowledged place nothing stood));
      machine_run = both-lane_answer (λ steps ran. MachineRun opening moment (at_first opening entry) steps ran some.acknowledged (ends_in (planned ++ Runs phase line ∷ [])))
          (subst (λ (n : ℕ). MachineRun opening moment (at_first opening entry) (front ++ (looking ++ back)) (lines-before ++ (line, log) ∷ []) some.acknowledged n) (place_is ∙ sym (ends-line planned phase line))
          (laws.lane_read_run opening moment phase (at_first opening entry) front back looking lines-before some.acknowledged h.index (line, log) lane_read-result
          (subst (λ (n : ℕ). MachineRun opening moment (at_first opening entry) (front ++ back) lines-before some.acknowledged n) (sym place_is)
          (subst (λ (l : List Step). MachineRun opening moment (at_first opening entry) l lines-before some.acknowledged (ends_in planned)) steps-before some.machine_run))));
      line_commits = both-lane_answer (λ steps ran. LineCommits opening moment entry.mail.tree steps (lane_zero_lines ran) some.acknowledged)
          (subst (λ (l : List RunLine). LineCommits opening moment entry.mail.tree (front ++ (looking ++ back)) l some.acknowledged) (sym zeros-same)
          (laws.between_commits opening moment entry.mail.tree front back looking (lane_zero_lines lines-before) some.acknowledged nothing
          (subst (λ (l : List Step). LineCommits opening moment entry.mail.tree l (lane_zero_lines lines-before) some.acknowledged) steps-before some.line_commits)));
      line_answers = both-lane_answer (λ steps ran. LineAnswers opening moment (at_first opening entry) steps (lane_zero_lines ran))
          (subst (λ (l : List RunLine). LineAnswers opening moment (at_first opening entry) (front ++ (looking ++ back)) l) (sym zeros-same)
          (laws.between_answers opening moment front back looking (at_first opening entry) (lane_zero_lines lines-before) nothing
          (subst (λ (l : List Step). LineAnswers opening moment (at_first opening entry) l (lane_zero_lines lines-before)) steps-before some.line_answers)));
      lane_answers = both-lane_answer (λ steps ran. LaneAnswers opening moment steps (other_lane_lines ran))
          (subst (λ (l : List RunLine). LaneAnswers opening moment (front ++ (looking ++ back)) l) (sym (others-more lines-before (line, log) other-is))
          (laws.lane_read_answers opening moment phase entry front back looking (lane_zero_lines lines-before) (other_lane_lines lines-before) some.acknowledged place h.index (line, log) stood lane_read-result
          (subst (λ (l : List Step). LaneAnswers opening moment l (other_lane_lines lines-before)) steps-before some.lane_answers)));
      given = both-lane_answer (λ steps ran. GivenAlong opening moment steps (at_first opening entry) (lane_zero_lines ran) entry.mail place.mail)
          (subst (λ (l : List RunLine). GivenAlong opening moment (front ++ (looking ++ back)) (at_first opening entry) l entry.mail place.mail) (sym zeros-same)
          (laws.between_given opening moment front back looking (at_first opening entry) (lane_zero_lines lines-before) entry.mail place.mail nothing
          (subst (λ (l : List Step). GivenAlong opening moment l (at_first opening entry) (lane_zero_lines lines-before) entry.mail place.mail) steps-before some.given)));
      clocks = both-lane_answer (λ steps ran. length place.writer.acked ≡ appends steps) (some.clocks ∙ (ap appends steps-before ∙ sym (laws.between_acknowledged front back looking nothing)));
    }

-- ---- the end of a phase

module _ (moment : ℤ) (planned : List Planned) (before after : ReservedLog) (place : Place) (noted : HasNoted planned before place) (h : IsBarrierNoted before after) where
  logs-are : after.logs.0 ≡ before.logs.0
  logs-are = ap (λ (l : List LineLog × ℕ). l.0) h.logs

  steps-met : steps_at after place ≡ steps_at before place ++ Meet ∷ []
  steps-met =
      ap (λ (l : List Mark). steps_of l place.writer.begun) h.marks
      ∙ (ap (λ (l : List Commit). steps_of (before.marks.0 ++ marks.Met ∷ []) l) (sym (append-nil place.writer.begun)) ∙ steps-append before.marks.0 (marks.Met ∷ []) place.writer.begun [] noted.stand)

  lines-met : lines_at (planned ++ Meets ∷ []) after ≡ lines_at planned before
  lines-met = ap (λ (l : List PlacedLine). run_lines l after.logs.0) (lines-same planned) ∙ ap (λ (l : List LineLog). run_lines (lines_in planned) l) logs-are

  meet-noted : HasNoted (planned ++ Meets ∷ []) after place
  meet-noted = record {
    logs = subst (λ (l : List PlacedLine). AreLogsOf l after.logs.0) (sym (lines-same planned)) (subst (λ (l : List LineLog). AreLogsOf (lines_in planned) l) (sym logs-are) noted.logs);
    stand = subst (λ (l : List Mark). StandFor l place.writer.begun) (sym h.marks)
        (subst (λ (l : List Commit). StandFor (before.marks.0 ++ marks.Met ∷ []) l) (append-nil place.writer.begun) (stand-append before.marks.0 (marks.Met ∷ []) place.writer.begun [] noted.stand tt));
    few = omega (arith, ap length steps-met ∙ length-append (steps_at before place) (Meet ∷ []), length-append planned (Meets ∷ []), noted.few);
    within = noted.within;
    even = noted.even;
  }

  both-met : (P : List Step → List RunLine → Type 0) → P (steps_at before place ++ Meet ∷ []) (lines_at planned before) → P (steps_at after place) (lines_at (planned ++ Meets ∷ []) after)
  both-met P p = subst (λ (l : List Step). P l (lines_at (planned ++ Meets ∷ []) after)) (sym steps-met) (subst (λ (l : List RunLine). P (steps_at before place ++ Meet ∷ []) l) (sym lines-met) p)

  module _ (laws : TurnLaws) (opening : Base) (entry : Devices) (some : HasRunSome moment opening entry planned before place) where
    meet-some : HasRunSome moment opening entry (planned ++ Meets ∷ []) after place
    meet-some = record {
      acknowledged = some.acknowledged;
      at = both-met (λ steps ran. StandsAt opening entry steps (lane_zero_lines ran) some.acknowledged place)
          (laws.still_stands opening entry (steps_at before place) (Meet ∷ []) (lane_zero_lines (lines_at planned before)) some.acknowledged place (refl, refl) some.at);
      machine_run = both-met (λ steps ran. MachineRun opening moment (at_first opening entry) steps ran some.acknowledged (ends_in (planned ++ Meets ∷ [])))
          (subst (λ (n : ℕ). MachineRun opening moment (at_first opening entry) (steps_at before place ++ Meet ∷ []) (lines_at planned before) some.acknowledged n) (sym (ends-meet planned))
          (laws.last_barrier opening moment (ends_in planned) (at_first opening entry) (steps_at before place) (lines_at planned before) some.acknowledged some.machine_run));
      line_commits = both-met (λ steps ran. LineCommits opening moment entry.mail.tree steps (lane_zero_lines ran) some.acknowledged)
          (laws.still_commits opening moment entry.mail.tree (steps_at before place) (Meet ∷ []) (lane_zero_lines (lines_at planned before)) some.acknowledged (refl, refl) some.line_commits);
      line_answers = both-met (λ steps ran. LineAnswers opening moment (at_first opening entry) steps (lane_zero_lines ran))
          (laws.still_answers opening moment (steps_at before place) (Meet ∷ []) (at_first opening entry) (lane_zero_lines (lines_at planned before)) some.line_answers);
      lane_answers = both-met (λ steps ran. LaneAnswers opening moment steps (other_lane_lines ran))
          (laws.still_lane_reads opening moment (steps_at before place) (Meet ∷ []) (other_lane_lines (lines_at planned before)) some.lane_answers);
      given = both-met (λ steps ran. GivenAlong opening moment steps (at_first opening entry) (lane_zero_lines ran) entry.mail place.mail)
          (laws.still_given opening moment (steps_at before place) (Meet ∷ []) (at_first opening entry) (lane_zero_lines (lines_at planned before)) entry.mail place.mail some.given);
      clocks = both-met (λ steps ran. length place.writer.acked ≡ appends steps) (some.clocks ∙ sym (laws.still_acknowledged (steps_at before place) (Meet ∷ []) (refl, refl)));
    }

-- ---- any turn

pub noted-more : (laws : TurnLaws) (moment : ℤ) (planned : List Planned) (turn : Planned) (before after : ReservedLog) (old new : Place) → HasNoted planned before old → IsTurn moment turn old before after new → HasNoted (planned ++ turn ∷ []) after new
noted-more laws moment planned (Runs phase line) before after old new noted (inl h) = line-noted laws moment planned phase line before after old new noted h.0 h.1
noted-more laws moment planned (Runs phase line) before after old new noted (inr h) =
    subst (λ (place : Place). HasNoted (planned ++ Runs phase line ∷ []) after place) (sym h.2) (lane_read-noted laws moment planned phase line before after old noted h.0 h.1)
noted-more laws moment planned Meets before after old new noted h = subst (λ (place : Place). HasNoted (planned ++ Meets ∷ []) after place) (sym h.1) (meet-noted moment planned before after old noted h.0)

pub some-more : (laws : TurnLaws) (moment : ℤ) (opening : Base) (entry : Devices) (planned : List Planned) (turn : Planned) (before after : ReservedLog) (old new : Place) → HasNoted planned before old → IsTurn moment turn old before after new
    → IsNext 0 planned turn → HasRunSome moment opening entry planned before old → HasRunSome moment opening entry (planned ++ turn ∷ []) after new
some-more laws moment opening entry planned (Runs phase line) before after old new noted (inl h) next some =
    let here : phase ≡ ends_in planned = omega (arith, next.0) in
    line-some laws moment planned phase line before after old new noted h.0 h.1 opening entry some here
some-more laws moment opening entry planned (Runs phase line) before after old new noted (inr h) next some =
    let here : phase ≡ ends_in planned = omega (arith, next.0) in
    subst (λ (place : Place). HasRunSome moment opening entry (planned ++ Runs phase line ∷ []) after place) (sym h.2)
    (lane_read-some laws moment planned phase line before after old noted h.0 h.1 opening entry some here next.1)
some-more laws moment opening entry planned Meets before after old new noted h next some =
    subst (λ (place : Place). HasRunSome moment opening entry (planned ++ Meets ∷ []) after place) (sym h.1) (meet-some moment planned before after old noted h.0 laws opening entry some)

-- the steps that were made so far
pub steps-same : (moment : ℤ) (turn : Planned) (before after : ReservedLog) (old new : Place) → IsTurn moment turn old before after new → after.steps ≡ before.steps
steps-same moment (Runs phase line) before after old new (inl turn) = turn.1.steps
steps-same moment (Runs phase line) before after old new (inr turn) = turn.1.noted.steps
steps-same moment Meets before after old new turn = turn.0.steps
