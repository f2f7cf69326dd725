-- A read and its reply go on with the run of the machine where they come before steps in which their lane has no part.
-- For the proof of `a_lane_read_keeps_the_machine_run`.
use Rattle.std.proofs.Common.{◌≡◌, ◌≢◌, ◌⊎◌, ℕ, ℤ, ◌+◌, ◌<◌, ◌≤◌, ◌==◌, true, false, List, [], ◌∷◌, ◌++◌, Option, None, Some, Result, Ok, Err, filter, length, map, fold, slice_index, take, refl, sym, ap, ◌∙◌, subst, arith, inl, inr}
use Rattle.std.specs.List.{flat_map}
use Rattle.std.proofs.lemmas.Bool.Decides.{nat_tests}
use Rattle.std.proofs.lemmas.List.{length-append, take_all, take-append-le, get_or-set_other, get_or-set_same, length-set}
use Rattle.nm_model_answer.specs.declared.request.Request.{Request}
use Rattle.nm_model_answer.specs.Answer.{is_reply}
use Rattle.nm_commit.specs.declared.change.Commit.{Commit}
use Rattle.nm_model_index.specs.Index.{folded}
use Rattle.nm_model_index.specs.declared.base.Base.{Base}
use Rattle.nm_log.specs.ParsedLine.{parse_line}
use Rattle.nm_log.specs.declared.line_parser.ParsedLine.{ParsedLine}
use Rattle.nm_log.specs.declared.line_parser.ParsedLine.TheVariants as asked
use Rattle.nm_log.specs.declared.outcome.Outcome.{Outcome}
use Rattle.nm_log.specs.declared.outcome.Outcome.TheVariants as outcomes
use Rattle.nm_model_machine.specs.Machine as machine
use Rattle.nm_model_machine.specs.Machine.{Machine, index_after}
use Rattle.nm_model_machine.specs.declared.step.Step.{Step}
use Rattle.nm_model_machine.specs.declared.step.Step.TheVariants as steps
use Rattle.nm_query.specs.Answers.{answer_of}
use Rattle.nm_query.specs.declared.query.Query.{Query}
use Rattle.nm_query.specs.declared.query_error.QueryError.{QueryError}
use Rattle.nm_query.specs.declared.query_error.QueryError.TheVariants as query_errors
use Rattle.nm_tags.specs.declared.line_error.LineKind.{LineKind}
use Rattle.nm_history.specs.LineAnswers.{ends_by, line_text, refused_lane_read}
use Rattle.nm_history.specs.LineResult.{CommitNothing, IsLaneReadResult, LeaveAlone, lane_read_steps, shows}
use Rattle.nm_history.specs.Lines.{Before, RunLine, after_lines, is_in_lane_zero}
use Rattle.nm_history.specs.MachineRun.{IsAtRest, LaneStep, MachineRun, NeverStops, commit_phases_from, commit_phases_of, is_in_lane, is_of_lane, lane_count, lane_steps_from, lane_steps_of, lane_read_in, next, phase_after, replied_where, reply_in, reply_to}
use Rattle.nm_history.specs.Requests.{first_bad_line, first_refusal, own_query, refused_line, refused_query, refused_text, refused_text_of}
use Rattle.nm_history.proofs.AloneLemmas.{Cut, Grows, IsKnown, all-lane_answer, grows-all, idle-in, known-last, lane_answer, never-cut, phase-stays, runs-cut, runs-lane_answer, swapped-behind}
use Rattle.nm_history.proofs.LineLemmas.{fold-append, revision-folded}
use Rattle.nm_history.proofs.LaneReadLemmas.{begun-between, lane_read-commits-nothing}
use Rattle.nm_history.proofs.MachineLemmas.{fold-is, never-append, right-reply, runs-append}
use Rattle.nm_history.proofs.PhaseLemmas.{lane-more, lane-steps-append, of-line, other-steps, phases-append, phases-replies, zero-same}

-- ---- an Ok is no refusal

well-query : (answered : Result Query QueryError) → outcomes.Ok ≡ ends_by (refused_text answered) → refused_text answered ≡ None
well-query (Ok query) e = refl
well-query (Err (query_errors.BadQuery at kind)) e = absurd (cc)
well-query (Err (query_errors.BadDate at)) e = absurd (cc)
well-query (Err (query_errors.Limit limit)) e = absurd (cc)
well-query (Err query_errors.NoMemory) e = absurd (cc)

well-own : (own : Option (List ℕ)) → outcomes.Ok ≡ ends_by (refused_query own) → refused_query own ≡ None
well-own None e = refl
well-own (Some text) e = well-query (answer_of text) e

well-text : (bad : Option (ℕ × LineKind)) (own : Option (List ℕ)) → outcomes.Ok ≡ ends_by (first_refusal (refused_line bad) (refused_query own)) → first_refusal (refused_line bad) (refused_query own) ≡ None
well-text None own e = well-own own e
well-text (Some bad) own e = absurd (cc)

well-request : (request : Request) (input : List ℕ) → (outcomes.Ok ≡ ends_by (refused_text_of request input)) ⊎ (outcomes.Ok ≡ outcomes.NoMemory) → refused_text_of request input ≡ None
well-request request input (inl e) = well-text (first_bad_line request input) (own_query request) e
well-request request input (inr e) = absurd (cc)

-- ---- a read, and the reply after it

-- they leave the lane seeing what is shown
record LaneReads (moment : ℤ) (phase : ℕ) (m : Machine) (lane : ℕ) (taken : List Step) (done : List LaneStep) : Type 0 where
  pub run : machine.Runs moment m taken (lane_answer lane m.shown m)
  pub never : NeverStops taken
  pub within : fold phase_after phase taken ≡ phase
  pub done_are : lane_steps_from phase m taken ≡ done

module _ (moment : ℤ) (phase : ℕ) (m : Machine) (lane : ℕ) (another : 1 ≤ lane) (within : lane < length m.lanes) (up : m.up ≡ true)
    (index : Base) (sees : index_after m m.shown ≡ index) (revision : ℕ) (at : m.opening.revision + m.shown ≡ revision) where
  abbrev seen : Machine
  seen = lane_answer lane m.shown m

  lane_reads : LaneReads moment phase m lane (steps.See lane ∷ []) (lane_read_in phase lane revision ∷ [])
  lane_reads = record {
    run = (seen, record { allowed = (up, another, within); after = refl }, refl);
    never = (refl, tt);
    within = refl;
    done_are = ap (λ (n : ℕ). lane_read_in phase lane n ∷ []) at;
  }

  replies : (request : Request) (text : List ℕ) → is_reply index moment request text ≡ true
      → LaneReads moment phase m lane (steps.See lane ∷ steps.Reply lane request text ∷ [])
      (lane_read_in phase lane revision ∷ reply_in phase (record { lane = lane; revision = revision; request = request; text = text }) ∷ [])
  replies request text right =
      let saw : slice_index seen.lanes lane ≡ m.shown = get_or-set_same m.lanes lane m.shown 0 within in
      let all : index_after seen (slice_index seen.lanes lane) ≡ index = ap (index_after m) saw ∙ sees in
      record {
        run = (
          seen,
          record { allowed = (up, another, within); after = refl },
          (
            seen,
            record {
              allowed = (up, omega (arith, within, length-set m.lanes lane m.shown), ap (λ (i : Base). is_reply i moment request text) all ∙ right);
              after = refl;
            },
            refl,
          ),
        );
        never = (refl, (refl, tt));
        within = refl;
        done_are =
            ap (λ (n : ℕ). lane_read_in phase lane n ∷ reply_in phase (record { lane = lane; revision = m.opening.revision + slice_index seen.lanes lane; request = request; text = text }) ∷ []) at
            ∙ ap (λ (n : ℕ). lane_read_in phase lane revision ∷ reply_in phase (record { lane = lane; revision = n; request = request; text = text }) ∷ [])
            (ap (λ (n : ℕ). m.opening.revision + n) saw ∙ at);
      }

  -- by its outcome
  answers : (outcome : Outcome) (line : ParsedLine) (input text : List ℕ) → (outcome ≡ ends_by (refused_lane_read line input)) ⊎ (outcome ≡ outcomes.NoMemory) → text ≡ line_text outcome line input index index moment []
      → LaneReads moment phase m lane (lane_read_steps lane (replied_where outcome line lane revision text)) (lane_read_in phase lane revision ∷ map (reply_in phase) (replied_where outcome line lane revision text))
  answers outcomes.Ok (asked.Request request) input text cause is =
      let none : first_refusal (refused_text_of request input) None ≡ None = ap (λ (r : Option Outcome). first_refusal r None) (well-request request input cause) in
      replies request text (right-reply moment request input None index index [] text none is)
  answers outcomes.Ok (asked.Usage word kind) input text cause is = lane_reads
  answers (outcomes.Usage word kind) line input text cause is = lane_reads
  answers (outcomes.BadQuery place kind) line input text cause is = lane_reads
  answers (outcomes.BadDate place) line input text cause is = lane_reads
  answers (outcomes.BadLine bad kind) line input text cause is = lane_reads
  answers (outcomes.NotOne found) line input text cause is = lane_reads
  answers (outcomes.Gone path) line input text cause is = lane_reads
  answers outcomes.MailFault line input text cause is = lane_reads
  answers outcomes.DiskFault line input text cause is = lane_reads
  answers (outcomes.Closed fault) line input text cause is = lane_reads
  answers (outcomes.Limit limit) line input text cause is = lane_reads
  answers outcomes.NoMemory line input text cause is = lane_reads

not-zero : (lane : ℕ) → 1 ≤ lane → (lane == 0) ≡ false
not-zero lane h = grind (arith, nat_tests)

-- ---- a line more of another lane

module _ (opening : Base) (moment : ℤ) (phase : ℕ) (first : Before) (front back taken : List Step) (lines : List RunLine) (acknowledged : List Commit) (index : Base) (ran : RunLine)
    (lane_read : IsLaneReadResult moment phase opening acknowledged index ran taken back) (h : MachineRun opening moment first (front ++ back) lines acknowledged phase) where
  abbrev start : Machine
  start = machine.start opening lane_count

  abbrev who : ℕ
  who = ran.1.lane

  another : 1 ≤ who
  another = subst (λ (n : ℕ). 1 ≤ n) (sym lane_read.numbers.lane) lane_read.another

  alone : LeaveAlone who back
  alone = subst (λ (n : ℕ). LeaveAlone n back) (sym lane_read.numbers.lane) lane_read.alone

  nevers : NeverStops front × NeverStops back
  nevers = never-cut front back h.never_stops

  cut : Cut moment start front back h.last
  cut = runs-cut moment start front back h.last h.run

  grown : Grows cut.mid (shows back) h.last
  grown = grows-all moment who cut.mid back h.last alone cut.behind

  -- what it saw is what the machine shows there
  shown-is : cut.mid.shown ≡ length lane_read.seen
  shown-is = omega (arith, grown.shown, h.rest.shown, ap length h.rest.commits, ap length lane_read.both, length-append lane_read.seen lane_read.later, lane_read.shown)

  known : IsKnown cut.mid
  known = known-last moment start front cut.mid nevers.0 cut.before (omega arith)

  first-are : take cut.mid.shown cut.mid.commits ≡ lane_read.seen
  first-are =
      sym (take-append-le cut.mid.shown cut.mid.commits grown.more known)
      ∙ (ap (take cut.mid.shown) (sym grown.commits ∙ (h.rest.commits ∙ lane_read.both))
      ∙ (take-append-le cut.mid.shown lane_read.seen lane_read.later (omega (arith, shown-is)) ∙ take_all cut.mid.shown lane_read.seen (omega (arith, shown-is))))

  opening-is : cut.mid.opening ≡ opening
  opening-is = sym grown.opening ∙ h.rest.opening_is

  index-seen : index_after cut.mid cut.mid.shown ≡ index
  index-seen = ap (λ (i : Base). folded i (take cut.mid.shown cut.mid.commits)) opening-is ∙ (ap (folded opening) first-are ∙ sym lane_read.index_is)

  revision-seen : cut.mid.opening.revision + cut.mid.shown ≡ ran.1.revision
  revision-seen =
      ap (λ (i : Base). i.revision + cut.mid.shown) opening-is
      ∙ (ap (λ (n : ℕ). opening.revision + n) shown-is ∙ sym (lane_read.revision ∙ (ap (λ (i : Base). i.revision) lane_read.index_is ∙ revision-folded opening lane_read.seen)))

  within : who < length cut.mid.lanes
  within = omega (arith, lane_read.exists, lane_read.numbers.lane, h.rest.lanes, grown.lanes)

  other : is_in_lane_zero ran ≡ false
  other = not-zero ran.0.lane lane_read.another

  goes : LaneReads moment phase cut.mid who taken (lane_steps_of ran)
  goes =
      let same : lane_read_steps who (reply_to ran) ≡ taken = ap (λ (n : ℕ). lane_read_steps n (reply_to ran)) lane_read.numbers.lane ∙ sym lane_read.steps in
      subst (LaneReads moment phase cut.mid who taken) (other-steps ran phase who ran.1.revision other lane_read.numbers.phase refl refl)
      (subst (λ (l : List Step). LaneReads moment phase cut.mid who l (lane_read_in phase who ran.1.revision ∷ map (reply_in phase) (reply_to ran))) same
      (answers moment phase cut.mid who another within (sym grown.up ∙ h.rest.up) index index-seen ran.1.revision revision-seen ran.1.outcome (parse_line ran.0) ran.0.input ran.1.text lane_read.cause lane_read.text))

  -- the phase is the last one
  phase-front : fold phase_after 0 front ≡ phase
  phase-front = sym (phase-stays who (fold phase_after 0 front) back alone) ∙ (sym (fold-append phase_after 0 front back) ∙ h.phases)

  phases-are : fold phase_after 0 (front ++ (taken ++ back)) ≡ phase
  phases-are =
      fold-append phase_after 0 front (taken ++ back)
      ∙ (ap (λ (n : ℕ). fold phase_after n (taken ++ back)) phase-front
      ∙ (fold-append phase_after phase taken back ∙ (ap (λ (n : ℕ). fold phase_after n back) goes.within ∙ phase-stays who phase back alone)))

  -- what lanes do

  lanes-from : (more : List Step) → lane_steps_from 0 start (front ++ more) ≡ lane_steps_from 0 start front ++ lane_steps_from phase cut.mid more
  lanes-from more =
      lane-steps-append 0 start front more
      ∙ ap (λ (l : List LaneStep). lane_steps_from 0 start front ++ l)
      (ap (λ (n : ℕ). lane_steps_from n (fold next start front) more) phase-front
      ∙ ap (λ (x : Machine). lane_steps_from phase x more) (fold-is moment start front cut.mid nevers.0 cut.before))

  lanes-behind : lane_steps_from phase cut.mid (taken ++ back) ≡ lane_steps_of ran ++ lane_steps_from phase cut.mid back
  lanes-behind =
      lane-steps-append phase cut.mid taken back
      ∙ (ap (λ (l : List LaneStep). l ++ lane_steps_from (fold phase_after phase taken) (fold next cut.mid taken) back) goes.done_are
      ∙ ap (λ (l : List LaneStep). lane_steps_of ran ++ l)
      (ap (λ (n : ℕ). lane_steps_from n (fold next cut.mid taken) back) goes.within
      ∙ (ap (λ (x : Machine). lane_steps_from phase x back) (fold-is moment cut.mid taken (lane_answer who cut.mid.shown cut.mid) goes.never goes.run)
      ∙ all-lane_answer who cut.mid.shown another phase cut.mid back alone)))

  lane-steps-are : (lane : ℕ) → filter (is_of_lane lane) (lane_steps_from 0 start (front ++ (taken ++ back))) ≡ flat_map lane_steps_of (filter (is_in_lane lane) (lines ++ ran ∷ []))
  lane-steps-are lane =
      ap (filter (is_of_lane lane)) (lanes-from (taken ++ back) ∙ ap (λ (l : List LaneStep). lane_steps_from 0 start front ++ l) lanes-behind)
      ∙ (swapped-behind lane who (lane_steps_from 0 start front) (lane_steps_of ran) (lane_steps_from phase cut.mid back) (of-line ran) (idle-in who phase cut.mid back alone)
      ∙ lane-more lane (lane_steps_from 0 start front ++ lane_steps_from phase cut.mid back) lines ran (ap (filter (is_of_lane lane)) (sym (lanes-from back)) ∙ h.lane_steps lane))

  -- the phases of commits

  phases-from : (more : List Step) → commit_phases_from 0 (front ++ more) ≡ commit_phases_from 0 front ++ commit_phases_from phase more
  phases-from more = phases-append 0 front more ∙ ap (λ (n : ℕ). commit_phases_from 0 front ++ commit_phases_from n more) phase-front

  phases-behind : commit_phases_from phase (taken ++ back) ≡ commit_phases_from phase back
  phases-behind =
      phases-append phase taken back
      ∙ (ap (λ (l : List ℕ). l ++ commit_phases_from (fold phase_after phase taken) back) (ap (commit_phases_from phase) lane_read.steps ∙ phases-replies phase (reply_to ran))
      ∙ ap (λ (n : ℕ). commit_phases_from n back) goes.within)

  phases-kept : commit_phases_from 0 (front ++ (taken ++ back)) ≡ commit_phases_from 0 (front ++ back)
  phases-kept = phases-from (taken ++ back) ∙ (ap (λ (l : List ℕ). commit_phases_from 0 front ++ l) phases-behind ∙ sym (phases-from back))

  -- the run

  abbrev end : Machine
  end = lane_answer who cut.mid.shown h.last

  run-is : machine.Runs moment start (front ++ (taken ++ back)) end
  run-is =
      runs-append moment start cut.mid end front (taken ++ back) cut.before
      (runs-append moment cut.mid (lane_answer who cut.mid.shown cut.mid) end taken back goes.run (runs-lane_answer who cut.mid.shown another moment cut.mid back h.last alone cut.behind))

  apart : 0 ≢ who
  apart e = omega (arith, e, another)

  rest-is : IsAtRest opening acknowledged end
  rest-is = record {
    opening_is = h.rest.opening_is;
    commits = h.rest.commits;
    shown = h.rest.shown;
    lanes = length-set h.last.lanes who cut.mid.shown ∙ h.rest.lanes;
    sees = get_or-set_other h.last.lanes who 0 cut.mid.shown 0 apart ∙ h.rest.sees;
    up = h.rest.up;
  }

  pub run-lane_read : MachineRun opening moment first (front ++ (taken ++ back)) (lines ++ ran ∷ []) acknowledged phase
  run-lane_read = record {
    last = end;
    run = run-is;
    never_stops = never-append front (taken ++ back) nevers.0 (never-append taken back goes.never nevers.1);
    phases = phases-are;
    lane_steps = lane-steps-are;
    commit_phases = phases-kept ∙ (h.commit_phases ∙ ap (commit_phases_of first) (sym (zero-same lines ran other)));
    begun_are = begun-between front back taken (subst CommitNothing (sym lane_read.steps) (lane_read-commits-nothing ran.0.lane (reply_to ran))) ∙ h.begun_are;
    rest = rest-is;
    revision = ap (λ (l : List RunLine). (after_lines first l).revision) (zero-same lines ran other) ∙ h.revision;
  }
