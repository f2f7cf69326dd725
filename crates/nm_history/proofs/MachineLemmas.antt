-- The steps of a line go on with the run of the machine.
-- For the proofs of `a_line_more_keeps_the_machine_run` and `no_step_is_a_run_of_the_machine`.
use Rattle.std.proofs.Common.{◌≡◌, ◌⊎◌, ℕ, ℤ, ◌+◌, ◌*◌, ◌==◌, Bool, true, false, ◌&&◌, ◌||◌, not, List, [], ◌∷◌, ◌++◌, Option, None, Some, Result, Ok, Err, is_ok, if◌then◌else◌, filter, length, map, fold, replicate, slice_index, slice_set, refl, sym, ap, ◌∙◌, subst, arith, inl, inr, append-nil, append_assoc}
use Rattle.std.specs.List.{flat_map}
use Rattle.std.specs.Cmp.Lexicographic.{nat_list_eq_equiv}
use Rattle.std.proofs.lemmas.List.{length-append, length-replicate, take_all, get_or-set_same, length-set}
use Rattle.nm_base.specs.Order.{same_text}
use Rattle.nm_model_answer.specs.declared.request.Request.{Request}
use Rattle.nm_model_answer.specs.declared.request.Request.TheVariants as requests
use Rattle.nm_model_answer.specs.Answer.{answer, is_reply}
use Rattle.nm_model_answer.specs.Count.{batch_answer, words_answer}
use Rattle.nm_model_answer.specs.Dump.{dump_answer}
use Rattle.nm_model_answer.specs.Found.{search_answer}
use Rattle.nm_commit.specs.Files.{Fits}
use Rattle.nm_commit.specs.declared.change.Commit.{Commit}
use Rattle.nm_model_index.specs.Fits.{FitInTurn}
use Rattle.nm_model_index.specs.Index.{committed, folded}
use Rattle.nm_model_index.specs.declared.base.Base.{Base}
use Rattle.nm_model_machine.specs.Machine as machine
use Rattle.nm_model_machine.specs.Machine.{Machine, commits_in_flight, index_after}
use Rattle.nm_model_machine.specs.declared.step.Step.{Step}
use Rattle.nm_model_machine.specs.declared.step.Step.TheVariants as steps
use Rattle.nm_maildir.specs.declared.given.Given.{Given}
use Rattle.nm_log.specs.ParsedLine.{parse_line}
use Rattle.nm_log.specs.declared.line_parser.ParsedLine.{ParsedLine}
use Rattle.nm_log.specs.declared.line_parser.ParsedLine.TheVariants as asked
use Rattle.nm_log.specs.declared.outcome.Outcome.{Outcome}
use Rattle.nm_log.specs.declared.outcome.Outcome.TheVariants as outcomes
use Rattle.nm_history.specs.Call.{Devices}
use Rattle.nm_history.specs.LineAnswers.{HasCause, line_text}
use Rattle.nm_history.specs.LineResult.{IsLineResult, Place, StandsAt, before_at, begin_step, commit_steps, line_steps, reply_step}
use Rattle.nm_history.specs.Lines.{Before, RunLine, after_lines, at_first, is_in_lane_zero, lane_zero_lines}
use Rattle.nm_history.specs.MachineRun.{IsAtRest, LaneStep, MachineRun, NeverStops, Replied, commit_phases_from, commit_phases_of, commit_steps_in, is_of_lane, is_stop, lane_count, lane_steps_from, next, phase_after, replied_where, reply_in, reply_to}
use Rattle.nm_log.specs.Kind.{OwnQuery, QueryLines}
use Rattle.nm_history.specs.Requests.{bad_line_of, first_refusal, query_in, refused_closed, refused_line, refused_query, refused_text, refused_unasked}
use Rattle.nm_query.specs.Answers.{answer_of}
use Rattle.nm_query.specs.declared.query.Query.{Query}
use Rattle.nm_query.specs.declared.query_error.QueryError.{QueryError}
use Rattle.nm_history.proofs.LineLemmas.{apart, before-next, begun-all, fold-append, one-on-way, revision-after, shown-all}
use Rattle.nm_history.proofs.PhaseLemmas.{lane-more, lane-steps-append, phases-append, phases-line, phases-of-more, steps-in, zero-more, zero-steps}

-- commits that fit one after the other, cut in two
fit-append : (index : Base) (commits more : List Commit) → FitInTurn index (commits ++ more) → FitInTurn index commits × FitInTurn (folded index commits) more
fit-append index [] more h = (tt, h)
fit-append index (commit ∷ commits) more h = let rest = fit-append (committed index commit) commits more h.1 in ((h.0, rest.0), rest.1)

none-on-way : (in_flight : Option Commit) → commits_in_flight in_flight ≡ [] → in_flight ≡ None
none-on-way None e = refl
none-on-way (Some commit) e = absurd (cc)

-- steps, cut in two

pub never-append : (taken more : List Step) → NeverStops taken → NeverStops more → NeverStops (taken ++ more)
never-append [] more h k = k
never-append (step ∷ taken) more h k = (h.0, never-append taken more h.1 k)

module _ (moment : ℤ) where
  pub runs-append : (m mid last : Machine) (taken more : List Step) → machine.Runs moment m taken mid → machine.Runs moment mid more last → machine.Runs moment m (taken ++ more) last
  runs-append m mid last [] more h k = subst (λ (x : Machine). machine.Runs moment x more last) h k
  runs-append m mid last (step ∷ taken) more h k = (h.0, h.1, runs-append h.0 mid last taken more h.2 k)

  -- the commit on its way is there
  abbrev landed : Machine → List Commit → Machine
  landed m arrived = record m { commits = m.commits ++ arrived; in_flight = None }

  -- a step that is no crash leaves the next state
  pub next-is : (m : Machine) (step : Step) (new : Machine) → is_stop step ≡ false → machine.Takes moment m step new → new ≡ next m step
  next-is m (steps.Begin commit) new e t = t.after
  next-is m steps.Append new e t =
      t.after.2 ∙ ap (λ (f : Option Commit). landed m (commits_in_flight f)) (sym t.after.1)
  next-is m steps.Show new e t = t.after
  next-is m (steps.See lane) new e t = t.after
  next-is m steps.Meet new e t = t.after
  next-is m (steps.Reply lane request text) new e t = t.after
  next-is m (steps.Crash kept) new e t = absurd (cc)
  next-is m steps.Reopen new e t = absurd (cc)

  pub fold-is : (m : Machine) (taken : List Step) (last : Machine) → NeverStops taken → machine.Runs moment m taken last → fold next m taken ≡ last
  fold-is m [] last never h = sym h
  fold-is m (step ∷ taken) last never h =
      ap (λ (x : Machine). fold next x taken) (sym (next-is m step h.0 never.0 h.1)) ∙ fold-is h.0 taken last never.1 h.2

  -- some steps of a phase from a state at rest, what is then acknowledged and on its way, and what lanes do
  pub record Goes (opening : Base) (phase : ℕ) (m : Machine) (taken : List Step) (acknowledged way : List Commit) (done : List LaneStep) : Type 0 where
    pub last : Machine
    pub run : machine.Runs moment m taken last
    pub rest : IsAtRest opening acknowledged last
    pub on_way : commits_in_flight last.in_flight ≡ way
    pub never : NeverStops taken
    pub within : fold phase_after phase taken ≡ phase
    pub done_are : lane_steps_from phase m taken ≡ done

  abbrev replied-with : ℕ → Request → List ℕ → Replied
  replied-with revision request text = record { lane = 0; revision = revision; request = request; text = text }

  module _ (opening : Base) (phase : ℕ) where
    pub stays : (m : Machine) (acknowledged way : List Commit) → IsAtRest opening acknowledged m → commits_in_flight m.in_flight ≡ way → Goes opening phase m [] acknowledged way []
    stays m acknowledged way rest on = record { last = m; run = refl; rest = rest; on_way = on; never = tt; within = refl; done_are = refl }

    goes-on : (m : Machine) (taken more : List Step) (mid mid_way acknowledged way : List Commit) (first_done done : List LaneStep)
        → (first : Goes opening phase m taken mid mid_way first_done) → Goes opening phase first.last more acknowledged way done
        → Goes opening phase m (taken ++ more) acknowledged way (first_done ++ done)
    goes-on m taken more mid mid_way acknowledged way first_done done first second = record {
      last = second.last;
      run = runs-append m first.last second.last taken more first.run second.run;
      rest = second.rest;
      on_way = second.on_way;
      never = never-append taken more first.never second.never;
      within = fold-append phase_after phase taken more ∙ (ap (λ (n : ℕ). fold phase_after n more) first.within ∙ second.within);
      done_are =
          lane-steps-append phase m taken more
          ∙ ap (λ (l : List LaneStep). l ++ lane_steps_from (fold phase_after phase taken) (fold next m taken) more) first.done_are
          ∙ ap (λ (l : List LaneStep). first_done ++ l)
          (ap (λ (n : ℕ). lane_steps_from n (fold next m taken) more) first.within
          ∙ (ap (λ (x : Machine). lane_steps_from phase x more) (fold-is m taken first.last first.never first.run) ∙ second.done_are));
    }

    pub index-is : (m : Machine) (acknowledged : List Commit) → IsAtRest opening acknowledged m → folded m.opening m.commits ≡ folded opening acknowledged
    index-is m acknowledged rest =
        ap (λ (i : Base). folded i m.commits) rest.opening_is ∙ ap (folded opening) rest.commits

    -- a commit that fits is begun
    begins : (m : Machine) (acknowledged : List Commit) (commit : Commit) → IsAtRest opening acknowledged m → commits_in_flight m.in_flight ≡ []
        → Fits (folded opening acknowledged).files commit → Goes opening phase m (begin_step commit ∷ []) acknowledged (commit ∷ []) []
    begins m acknowledged commit rest none fits = record {
      last = record m { in_flight = Some commit };
      run = (
        record m { in_flight = Some commit },
        record {
          allowed = (rest.up, rest.shown, none-on-way m.in_flight none, subst (λ (i : Base). Fits i.files commit) (sym (index-is m acknowledged rest)) fits);
          after = refl;
        },
        refl,
      );
      rest = record { opening_is = rest.opening_is; commits = rest.commits; shown = rest.shown; lanes = rest.lanes; sees = rest.sees; up = rest.up };
      on_way = refl;
      never = (refl, tt);
      within = refl;
      done_are = refl;
    }

    -- it is there, and is shown
    lands : (m : Machine) (acknowledged : List Commit) (commit : Commit) → IsAtRest opening acknowledged m → commits_in_flight m.in_flight ≡ []
        → Fits (folded opening acknowledged).files commit → Goes opening phase m (commit_steps commit) (acknowledged ++ commit ∷ []) [] []
    lands m acknowledged commit rest none fits =
        let started : Machine = record m { in_flight = Some commit } in
        let there : Machine = record started { commits = m.commits ++ commit ∷ []; in_flight = None } in
        let shown : Machine = record there { shown = length there.commits; lanes = slice_set m.lanes 0 (length there.commits) } in
        let longer : length there.commits ≡ length m.commits + 1 = length-append m.commits (commit ∷ []) in
        record {
          last = shown;
          run = (
            started,
            record {
              allowed = (rest.up, rest.shown, none-on-way m.in_flight none, subst (λ (i : Base). Fits i.files commit) (sym (index-is m acknowledged rest)) fits);
              after = refl;
            },
            (there, record { allowed = (rest.up, cc); after = (commit, refl, refl) }, (shown, record { allowed = (rest.up, longer ∙ ap (λ n. n + 1) rest.shown); after = refl }, refl)),
          );
          rest = record {
            opening_is = rest.opening_is;
            commits = ap (λ (l : List Commit). l ++ commit ∷ []) rest.commits;
            shown = refl;
            lanes = length-set m.lanes 0 (length there.commits) ∙ rest.lanes;
            sees = get_or-set_same m.lanes 0 (length there.commits) 0 (omega (arith, rest.lanes));
            up = rest.up;
          };
          on_way = refl;
          never = (refl, (refl, (refl, tt)));
          within = refl;
          done_are = refl;
        }

    -- commits that fit, one after the other
    commits-go : (m : Machine) (acknowledged made : List Commit) → IsAtRest opening acknowledged m → commits_in_flight m.in_flight ≡ []
        → FitInTurn (folded opening acknowledged) made → Goes opening phase m (flat_map commit_steps made) (acknowledged ++ made) [] []
    commits-go m acknowledged [] rest none fit =
        subst (λ (l : List Commit). Goes opening phase m [] l [] []) (sym (append-nil acknowledged)) (stays m acknowledged [] rest none)
    commits-go m acknowledged (commit ∷ made) rest none fit =
        let first = lands m acknowledged commit rest none fit.0 in
        let further =
        commits-go first.last (acknowledged ++ commit ∷ []) made first.rest first.on_way
        (subst (λ (i : Base). FitInTurn i made) (sym (fold-append committed opening acknowledged (commit ∷ []))) fit.1) in
        subst (λ (l : List Commit). Goes opening phase m (flat_map commit_steps (commit ∷ made)) l [] []) (append_assoc acknowledged (commit ∷ []) made)
        (goes-on m (commit_steps commit) (flat_map commit_steps made) (acknowledged ++ commit ∷ []) [] ((acknowledged ++ commit ∷ []) ++ made) [] [] [] first further)

    -- the one that a line leaves on its way
    flight-goes : (m : Machine) (acknowledged in_flight : List Commit) → IsAtRest opening acknowledged m → commits_in_flight m.in_flight ≡ []
        → FitInTurn (folded opening acknowledged) in_flight → (in_flight ≡ []) ⊎ ((commit : Commit) × (in_flight ≡ commit ∷ []))
        → Goes opening phase m (map begin_step in_flight) acknowledged in_flight []
    flight-goes m acknowledged in_flight rest none fit (inl is) =
        subst (λ (l : List Commit). Goes opening phase m (map begin_step l) acknowledged l []) (sym is) (stays m acknowledged [] rest none)
    flight-goes m acknowledged in_flight rest none fit (inr one) =
        subst (λ (l : List Commit). Goes opening phase m (map begin_step l) acknowledged l []) (sym one.1)
        (begins m acknowledged one.0 rest none (subst (λ (l : List Commit). FitInTurn (folded opening acknowledged) l) one.1 fit).0)

    -- what a line commits: nothing, or with nothing on its way before
    writes-go : (m : Machine) (acknowledged way made in_flight : List Commit) → IsAtRest opening acknowledged m → commits_in_flight m.in_flight ≡ way
        → FitInTurn (folded opening acknowledged) (made ++ in_flight) → (in_flight ≡ []) ⊎ ((commit : Commit) × (in_flight ≡ commit ∷ []))
        → (way ≡ []) ⊎ ((made ≡ []) × (in_flight ≡ []))
        → Goes opening phase m (flat_map commit_steps made ++ map begin_step in_flight) (acknowledged ++ made) (way ++ in_flight) []
    writes-go m acknowledged way made in_flight rest on fit one (inl none) =
        let fits = fit-append (folded opening acknowledged) made in_flight fit in
        let first = commits-go m acknowledged made rest (on ∙ none) fits.0 in
        let second =
        flight-goes first.last (acknowledged ++ made) in_flight first.rest first.on_way
        (subst (λ (i : Base). FitInTurn i in_flight) (sym (fold-append committed opening acknowledged made)) fits.1) one in
        subst (λ (l : List Commit). Goes opening phase m (flat_map commit_steps made ++ map begin_step in_flight) (acknowledged ++ made) (l ++ in_flight) []) (sym none)
        (goes-on m (flat_map commit_steps made) (map begin_step in_flight) (acknowledged ++ made) [] (acknowledged ++ made) in_flight [] [] first second)
    writes-go m acknowledged way made in_flight rest on fit one (inr none) =
        subst (λ (l : List Commit). Goes opening phase m (flat_map commit_steps l ++ map begin_step in_flight) (acknowledged ++ l) (way ++ in_flight) []) (sym none.0)
        (subst (λ (l : List Commit). Goes opening phase m (map begin_step l) (acknowledged ++ []) (way ++ l) []) (sym none.1)
        (subst (λ (l : List Commit). Goes opening phase m [] l (way ++ []) []) (sym (append-nil acknowledged))
        (subst (λ (l : List Commit). Goes opening phase m [] acknowledged l []) (sym (append-nil way)) (stays m acknowledged way rest on))))

    -- a reply of the first lane, on all commits
    reply-goes : (m : Machine) (acknowledged way : List Commit) (revision : ℕ) (request : Request) (text : List ℕ) → IsAtRest opening acknowledged m → commits_in_flight m.in_flight ≡ way
        → revision ≡ opening.revision + length acknowledged → is_reply (folded opening acknowledged) moment request text ≡ true
        → Goes opening phase m (steps.Reply 0 request text ∷ []) acknowledged way (reply_in phase (replied-with revision request text) ∷ [])
    reply-goes m acknowledged way revision request text rest on at right =
        let all : index_after m (slice_index m.lanes 0) ≡ folded opening acknowledged =
        ap (index_after m) rest.sees ∙ (ap (folded m.opening) (take_all (length m.commits) m.commits (omega arith)) ∙ index-is m acknowledged rest) in
        record {
          last = m;
          run = (m, record { allowed = (rest.up, omega (arith, rest.lanes), ap (λ (i : Base). is_reply i moment request text) all ∙ right); after = refl }, refl);
          rest = rest;
          on_way = on;
          never = (refl, tt);
          within = refl;
          done_are =
              ap (λ n. reply_in phase (replied-with n request text) ∷ [])
              (ap (λ (i : Base). i.revision + slice_index m.lanes 0) rest.opening_is
              ∙ ap (λ n. opening.revision + n) (rest.sees ∙ ap length rest.commits) ∙ sym at);
        }

  -- a query that is not refused has a tree
  read-well : (answered : Result Query QueryError) (other : Option Outcome) (text said : List ℕ) → first_refusal (refused_text answered) other ≡ None → text ≡ said
      → (is_ok answered && same_text text said) ≡ true
  read-well (Ok query) other text said e is = ap (λ (t : List ℕ). same_text t said) is ∙ nat_list_eq_equiv.refl said
  read-well (Err refusal) other text said e is = absurd (cc)

  -- and where it is read from an input, the machine takes any text
  own-well : (batch : Bool) (query input : List ℕ) (other : Option Outcome) (text many said none : List ℕ)
      → first_refusal (first_refusal (refused_line (bad_line_of (if batch then QueryLines else OwnQuery query) input)) (refused_query (query_in (if batch then QueryLines else OwnQuery query)))) other ≡ None
      → text ≡ (if batch then many else said) → (not (not batch) || (is_ok (answer_of query) && same_text text (if batch then none else said))) ≡ true
  own-well true query input other text many said none e is = refl
  own-well false query input other text many said none e is = read-well (answer_of query) other text said e is

  -- the answer to a line is a reply that the machine takes
  pub right-reply : (request : Request) (input : List ℕ) (closed : Option ℕ) (before index : Base) (noted : List Given) (text : List ℕ) → refused_unasked (asked.Request request) input closed ≡ None
      → text ≡ answer request input before index moment noted → is_reply index moment request text ≡ true
  right-reply requests.New input closed before index noted text e is = refl
  right-reply (requests.Count ask) input closed before index noted text e is =
      own-well ask.batch ask.query input (refused_closed closed false) text (batch_answer ask input index moment) (words_answer ask index moment) (batch_answer ask [] index moment) e is
  right-reply (requests.Search ask) input closed before index noted text e is = read-well (answer_of ask.query) (refused_closed closed false) text (search_answer ask index moment) e is
  right-reply (requests.Dump ask) input closed before index noted text e is = read-well (answer_of ask.query) (refused_closed closed false) text (dump_answer ask index moment) e is
  right-reply (requests.Show ask) input closed before index noted text e is = refl
  right-reply (requests.Tag ask) input closed before index noted text e is = refl
  right-reply (requests.Restore ask) input closed before index noted text e is = refl

  -- the reply to a line, by its outcome
  answer-goes : (opening : Base) (phase : ℕ) (m : Machine) (acknowledged way : List Commit) (outcome : Outcome) (parsed : ParsedLine) (input : List ℕ) (first : Before) (revision : ℕ) (text : List ℕ) (before : Base) (noted : List Given)
      → (mail : ℕ) (failed : Bool) → HasCause outcome parsed input first before moment noted mail failed → IsAtRest opening acknowledged m → commits_in_flight m.in_flight ≡ way → revision ≡ opening.revision + length acknowledged
      → text ≡ line_text outcome parsed input before (folded opening acknowledged) moment noted
      → Goes opening phase m (map reply_step (replied_where outcome parsed 0 revision text)) acknowledged way (map (reply_in phase) (replied_where outcome parsed 0 revision text))
  answer-goes opening phase m acknowledged way outcomes.Ok (asked.Request request) input first revision text before noted mail failed cause rest on at is =
      reply-goes opening phase m acknowledged way revision request text rest on at (right-reply request input first.closed before (folded opening acknowledged) noted text cause.0 is)
  answer-goes opening phase m acknowledged way outcomes.Ok (asked.Usage word kind) input first revision text before noted mail failed cause rest on at is = stays opening phase m acknowledged way rest on
  answer-goes opening phase m acknowledged way (outcomes.Usage word kind) parsed input first revision text before noted mail failed cause rest on at is = stays opening phase m acknowledged way rest on
  answer-goes opening phase m acknowledged way (outcomes.BadQuery place kind) parsed input first revision text before noted mail failed cause rest on at is = stays opening phase m acknowledged way rest on
  answer-goes opening phase m acknowledged way (outcomes.BadDate place) parsed input first revision text before noted mail failed cause rest on at is = stays opening phase m acknowledged way rest on
  answer-goes opening phase m acknowledged way (outcomes.BadLine bad kind) parsed input first revision text before noted mail failed cause rest on at is = stays opening phase m acknowledged way rest on
  answer-goes opening phase m acknowledged way (outcomes.NotOne found) parsed input first revision text before noted mail failed cause rest on at is = stays opening phase m acknowledged way rest on
  answer-goes opening phase m acknowledged way (outcomes.Gone path) parsed input first revision text before noted mail failed cause rest on at is = stays opening phase m acknowledged way rest on
  answer-goes opening phase m acknowledged way outcomes.MailFault parsed input first revision text before noted mail failed cause rest on at is = stays opening phase m acknowledged way rest on
  answer-goes opening phase m acknowledged way outcomes.DiskFault parsed input first revision text before noted mail failed cause rest on at is = stays opening phase m acknowledged way rest on
  answer-goes opening phase m acknowledged way (outcomes.Closed fault) parsed input first revision text before noted mail failed cause rest on at is = stays opening phase m acknowledged way rest on
  answer-goes opening phase m acknowledged way (outcomes.Limit limit) parsed input first revision text before noted mail failed cause rest on at is = stays opening phase m acknowledged way rest on
  answer-goes opening phase m acknowledged way outcomes.NoMemory parsed input first revision text before noted mail failed cause rest on at is = stays opening phase m acknowledged way rest on

  cancel : (xs ys zs : List Commit) → xs ++ ys ≡ xs ++ zs → ys ≡ zs
  cancel [] ys zs e = e
  cancel (x ∷ xs) ys zs e = cancel xs ys zs (cc)

  both-nil : (made in_flight : List Commit) → made ++ in_flight ≡ [] → (made ≡ []) × (in_flight ≡ [])
  both-nil [] in_flight e = (refl, e)
  both-nil (commit ∷ made) in_flight e = absurd (cc)

  apart-both : (way made in_flight : List Commit) → (way ≡ []) ⊎ (made ++ in_flight ≡ []) → (way ≡ []) ⊎ ((made ≡ []) × (in_flight ≡ []))
  apart-both way made in_flight (inl none) = inl none
  apart-both way made in_flight (inr none) = inr (both-nil made in_flight none)

  module _ (opening : Base) (phase : ℕ) (entry : Devices) (before taken : List Step) (lines : List RunLine) (acknowledged : List Commit)
      (old new : Place) (ran : RunLine) (at : StandsAt opening entry before (lane_zero_lines lines) acknowledged old) (result : IsLineResult moment phase old ran taken new) where
    pub way-is : (h : MachineRun opening moment (at_first opening entry) before lines acknowledged phase) → commits_in_flight h.last.in_flight ≡ at.in_flight
    way-is h = cancel acknowledged (commits_in_flight h.last.in_flight) at.in_flight (sym h.begun_are ∙ at.begun_are)

    zero : is_in_lane_zero ran ≡ true
    zero = ap (λ (n : ℕ). n == 0) result.first

    at-zero : ran.1.lane ≡ 0
    at-zero = result.numbers.lane ∙ result.first

    line-goes : (h : MachineRun opening moment (at_first opening entry) before lines acknowledged phase)
        → Goes opening phase h.last taken (acknowledged ++ result.made) (at.in_flight ++ result.in_flight) (map (reply_in phase) (reply_to ran))
    line-goes h =
        let writes =
        writes-go opening phase h.last acknowledged at.in_flight result.made result.in_flight h.rest (way-is h)
        (subst (λ (i : Base). FitInTurn i (result.made ++ result.in_flight)) at.shown result.has_made.fit)
        (one-on-way ran.1.disk_failed result.in_flight result.on_its_way)
        (apart-both at.in_flight result.made result.in_flight (apart opening moment phase entry before taken (lane_zero_lines lines) acknowledged old new ran at result)) in
        let shown : new.writer.shown ≡ folded opening (acknowledged ++ result.made) = shown-all opening moment phase entry before taken (lane_zero_lines lines) acknowledged old new ran at result in
        let said : ran.1.text ≡ line_text ran.1.outcome (parse_line ran.0) ran.0.input old.writer.shown (folded opening (acknowledged ++ result.made)) moment ran.1.given =
        subst (λ (i : Base). ran.1.text ≡ line_text ran.1.outcome (parse_line ran.0) ran.0.input old.writer.shown i moment ran.1.given) shown result.text in
        let answers =
        answer-goes opening phase writes.last (acknowledged ++ result.made) (at.in_flight ++ result.in_flight) ran.1.outcome (parse_line ran.0) ran.0.input (before_at old) ran.1.revision ran.1.text old.writer.shown ran.1.given
        new.mail.faults ran.1.disk_failed result.cause writes.rest writes.on_way (revision-after opening moment phase entry before taken (lane_zero_lines lines) acknowledged old new ran at result) said in
        let replies : List Replied = replied_where ran.1.outcome (parse_line ran.0) 0 ran.1.revision ran.1.text in
        let all =
        goes-on opening phase h.last (flat_map commit_steps result.made ++ map begin_step result.in_flight) (map reply_step replies) (acknowledged ++ result.made) (at.in_flight ++ result.in_flight)
        (acknowledged ++ result.made) (at.in_flight ++ result.in_flight) [] (map (reply_in phase) replies) writes answers in
        let joined : (flat_map commit_steps result.made ++ map begin_step result.in_flight) ++ map reply_step replies ≡ line_steps result.made result.in_flight replies =
        append_assoc (flat_map commit_steps result.made) (map begin_step result.in_flight) (map reply_step replies) in
        subst (λ (l : List Step). Goes opening phase h.last l (acknowledged ++ result.made) (at.in_flight ++ result.in_flight) (map (reply_in phase) (reply_to ran))) (sym result.steps)
        (subst (λ n. Goes opening phase h.last (line_steps result.made result.in_flight (replied_where ran.1.outcome (parse_line ran.0) n ran.1.revision ran.1.text))
        (acknowledged ++ result.made) (at.in_flight ++ result.in_flight) (map (reply_in phase) (replied_where ran.1.outcome (parse_line ran.0) n ran.1.revision ran.1.text))) (sym at-zero)
        (subst (λ (l : List Step). Goes opening phase h.last l (acknowledged ++ result.made) (at.in_flight ++ result.in_flight) (map (reply_in phase) replies)) joined all))

    -- the phases of its commits
    phases-more : (h : MachineRun opening moment (at_first opening entry) before lines acknowledged phase)
        → commit_phases_from 0 (before ++ taken) ≡ commit_phases_of (at_first opening entry) (lane_zero_lines (lines ++ ran ∷ []))
    phases-more h =
        let count : 3 * length result.made + length result.in_flight ≡ commit_steps_in (after_lines (at_first opening entry) (lane_zero_lines lines)) ran =
        steps-in (after_lines (at_first opening entry) (lane_zero_lines lines)) ran (length result.made) (length result.in_flight) (length acknowledged) opening.revision h.revision
        (revision-after opening moment phase entry before taken (lane_zero_lines lines) acknowledged old new ran at result ∙ ap (λ (n : ℕ). opening.revision + n) (length-append acknowledged result.made)) result.on_its_way in
        phases-append 0 before taken
        ∙ (ap (λ (n : ℕ). commit_phases_from 0 before ++ commit_phases_from n taken) h.phases
        ∙ (ap (λ (l : List ℕ). l ++ commit_phases_from phase taken) h.commit_phases
        ∙ (ap (λ (l : List ℕ). commit_phases_of (at_first opening entry) (lane_zero_lines lines) ++ l)
        (ap (commit_phases_from phase) result.steps ∙ (phases-line phase result.made result.in_flight (reply_to ran)
        ∙ (ap (λ (n : ℕ). replicate n phase) count
        ∙ ap (λ (n : ℕ). replicate (commit_steps_in (after_lines (at_first opening entry) (lane_zero_lines lines)) ran) n) (sym result.numbers.phase))))
        ∙ (sym (phases-of-more (at_first opening entry) (lane_zero_lines lines) ran) ∙ ap (commit_phases_of (at_first opening entry)) (sym (zero-more lines ran zero))))))

    pub run-more : MachineRun opening moment (at_first opening entry) before lines acknowledged phase
        → MachineRun opening moment (at_first opening entry) (before ++ taken) (lines ++ ran ∷ []) (acknowledged ++ result.made) phase
    run-more h =
        let goes = line-goes h in
        let start : Machine = machine.start opening lane_count in
        record {
          last = goes.last;
          run = runs-append start h.last goes.last before taken h.run goes.run;
          never_stops = never-append before taken h.never_stops goes.never;
          phases = fold-append phase_after 0 before taken ∙ (ap (λ (n : ℕ). fold phase_after n taken) h.phases ∙ goes.within);
          lane_steps = λ lane.
              ap (filter (is_of_lane lane))
              (lane-steps-append 0 start before taken
              ∙ ap (λ (l : List LaneStep). lane_steps_from 0 start before ++ l)
              (ap (λ (n : ℕ). lane_steps_from n (fold next start before) taken) h.phases
              ∙ (ap (λ (x : Machine). lane_steps_from phase x taken) (fold-is start before h.last h.never_stops h.run)
              ∙ (goes.done_are ∙ zero-steps ran phase zero result.numbers.phase))))
              ∙ lane-more lane (lane_steps_from 0 start before) lines ran (h.lane_steps lane);
          commit_phases = phases-more h;
          begun_are =
              begun-all opening moment phase entry before taken (lane_zero_lines lines) acknowledged old new ran at result
              ∙ ap (λ (l : List Commit). (acknowledged ++ result.made) ++ l) (sym goes.on_way);
          rest = goes.rest;
          revision =
              ap (λ (l : List RunLine). (after_lines (at_first opening entry) l).revision) (zero-more lines ran zero)
              ∙ (ap (λ (b : Before). b.revision) (before-next opening moment phase entry before taken (lane_zero_lines lines) acknowledged old new ran at result)
              ∙ sym result.revision ∙ revision-after opening moment phase entry before taken (lane_zero_lines lines) acknowledged old new ran at result);
        }

-- the machine at the start
pub run-none : (opening : Base) (moment : ℤ) (entry : Devices) → MachineRun opening moment (at_first opening entry) [] [] [] 0
run-none opening moment entry = record {
  last = machine.start opening lane_count;
  run = refl;
  never_stops = tt;
  phases = refl;
  lane_steps = λ lane. refl;
  commit_phases = refl;
  begun_are = refl;
  rest = record { opening_is = refl; commits = refl; shown = refl; lanes = length-replicate {A = ℕ} lane_count 0; sees = refl; up = refl };
  revision = omega arith;
}
