-- How a show ends, from what it found and what the mail folder gave. For the proof of `run_show`.
use Rattle.std.proofs.Common.{◌≡◌, ◌||◌, inl, inr, ℕ, ℤ, ◌+◌, ◌-◌, ◌<◌, ◌≤◌, Bool, true, false, List, [], ◌∷◌, ◌++◌, Option, None, Some, IsSome, IfOk, Result, Ok, Err, if◌then◌else◌, length, nat_lt, refl, sym, ap, ◌∙◌, subst, arith}
use Rattle.std.proofs.lemmas.Bool.Decides.{nat_tests}
use Rattle.nm_model_answer.specs.Show.{gone_path, is_not_one, lead_paths, show_answer, show_text, shown_ids}
use Rattle.nm_model_answer.specs.declared.request.Request.TheVariants as requests
use Rattle.nm_base.specs.Limits.{max_mail_bytes}
use Rattle.nm_base.specs.declared.asks.ShowAsk.{ShowAsk}
use Rattle.nm_base.specs.declared.limit.Limit.TheVariants.{ShowBytes}
use Rattle.nm_base.specs.declared.memory.NoMemory.{NoMemory}
use Rattle.nm_faults.specs.Faults.{HasCauseOf}
use Rattle.nm_history.specs.Given.{AsksMail, AsksNothing, AsksShow}
use Rattle.nm_history.specs.LineAnswers.{HasCause, NoneFailed}
use Rattle.nm_history.specs.LineCommits.{Makes, RenamesComeAfterTags}
use Rattle.nm_history.specs.LineResult.{Place, before_at}
use Rattle.nm_history.specs.Lines.{tree_after_line}
use Rattle.nm_history.specs.Requests.{asks_to_tag, asks_to_write, first_refusal, found_to_show, passes_bytes, paths_to_show, refused_bytes, refused_closed, refused_gone, refused_number, refused_reading, refused_text, refused_unasked}
use Rattle.nm_lanes.specs.declared.script.ScriptLine.{ScriptLine}
use Rattle.nm_log.specs.ParsedLine.{parse_line}
use Rattle.nm_log.specs.Replies.{is_well}
use Rattle.nm_log.specs.declared.line_parser.ParsedLine.{ParsedLine}
use Rattle.nm_log.specs.declared.line_parser.ParsedLine.TheVariants as asked
use Rattle.nm_log.specs.declared.outcome.Outcome.{Outcome}
use Rattle.nm_log.specs.declared.outcome.Outcome.TheVariants as outcomes
use Rattle.nm_maildir.specs.Observed.{ObservedMail}
use Rattle.nm_maildir.specs.Tree.{Tree}
use Rattle.nm_maildir.specs.declared.given.Given.{Given}
use Rattle.nm_maildir.specs.declared.given.Given.TheVariants as given
use Rattle.nm_maildir.specs.declared.given.ReadAnswer.TheVariants as answers
use Rattle.nm_query.specs.Answers.{answer_of}
use Rattle.nm_query.specs.declared.query.Query.{Query}
use Rattle.nm_query.specs.declared.query_error.QueryError.{QueryError}
use Rattle.nm_scan.specs.Bodies.{AreBodies, HasReadBodies, StopsInBodies, body_len, bytes_given, left_after}
use Rattle.nm_scan.specs.declared.bodies_error.BodiesError.{BodiesError}
use Rattle.nm_scan.specs.declared.bodies_error.BodiesError.TheVariants as stops
use Rattle.nm_line.specs.Line.{Ends, IsLineAnswer, newly_closed, refused_with, replied_with}
use Rattle.nm_line.specs.ShowAnswer.{AsksSome, IsAfterShow, is_folder_fault, show_outcome}
use Rattle.nm_line.specs.declared.line_answer.LineAnswer.{LineAnswer}
use Rattle.nm_line.specs.declared.show.ShowFault.{ShowFault}
use Rattle.nm_line.specs.declared.show.ShowFault.TheVariants as faults
use Rattle.nm_line.proofs.AnswerLemmas.{made-nothing, refused-said, replied-said, still-writer}
use Rattle.nm_writer.specs.Writer.{WriterState}

-- what a line asks for that sets no tags, or writes nothing
abbrev asks-no-tag : ParsedLine → Type 0
asks-no-tag line = asks_to_tag line ≡ false

abbrev asks-no-write : ParsedLine → Type 0
asks-no-write line = asks_to_write line ≡ false

-- what is refused is not nothing
none-some : (refused : Option Outcome) (P : Type 0) → refused ≡ None → IsSome refused → P
none-some None P none some = absurd (cc)
none-some (Some outcome) P none some = absurd (cc)

-- the bytes of a show

-- files that were all read passed no bytes
passes-none : (tree : Option Tree) (left : ℕ) (noted : List Given) (paths : List (List ℕ)) → AreBodies tree left noted paths → passes_bytes left noted ≡ false
passes-none tree left noted [] h = ap (passes_bytes left) h
passes-none tree left noted (path ∷ paths) h =
    ap (passes_bytes left) h.2
    ∙ (ap (λ (b : Bool). b || passes_bytes (left - body_len h.0) h.1) h.3.within ∙ passes-none tree (left - body_len h.0) h.1 paths h.4)

-- the one that stopped the reading passed them
passes-some : (tree : Option Tree) (left : ℕ) (noted : List Given) (paths : List (List ℕ)) (path : List ℕ) → AreBodies tree left noted paths → left_after left noted < max_mail_bytes
    → passes_bytes left (noted ++ given.Read path answers.TooLong ∷ []) ≡ true
passes-some tree left noted [] path h few =
    let less : left < max_mail_bytes = omega (arith, few, ap bytes_given h) in
    let over : nat_lt left max_mail_bytes ≡ true = grind (arith, nat_tests) in
    ap (λ (l : List Given). passes_bytes left (l ++ given.Read path answers.TooLong ∷ [])) h ∙ ap (λ (b : Bool). b || false) over
passes-some tree left noted (first ∷ paths) path h few =
    let less : left_after (left - body_len h.0) h.1 < max_mail_bytes = omega (arith, few, ap bytes_given h.2) in
    ap (λ (l : List Given). passes_bytes left (l ++ given.Read path answers.TooLong ∷ [])) h.2
    ∙ (ap (λ (b : Bool). b || passes_bytes (left - body_len h.0) (h.1 ++ given.Read path answers.TooLong ∷ [])) h.3.within
    ∙ passes-some tree (left - body_len h.0) h.1 paths path h.4 less)

-- the folder's tree stays

read-tree : (old new : ObservedMail) (left : ℕ) (noted : List Given) (paths : List (List ℕ)) → HasReadBodies old new left [] noted paths → new.tree ≡ old.tree
read-tree old new left noted paths h = ap (λ (m : ObservedMail). m.tree) h.mail

stop-tree : (old new : ObservedMail) (left : ℕ) (noted : List Given) (paths : List (List ℕ)) (error : BodiesError) → StopsInBodies old new left [] noted paths error → new.tree ≡ old.tree
stop-tree old new left noted paths error h = h.stop.tree ∙ ap (λ (m : ObservedMail). m.tree) h.first.mail

some-tree : (old new : ObservedMail) (left : ℕ) (paths : List (List ℕ)) (noted : List Given) → AsksSome old new left paths noted → new.tree ≡ old.tree
some-tree old new left paths noted (inl h) = ap (λ (m : ObservedMail). m.tree) h.same
some-tree old new left paths noted (inr (inl h)) = read-tree old new left noted paths h
some-tree old new left paths noted (inr (inr h)) = stop-tree old new left noted paths h.0 h.1

-- what a reading passed

read-passes : (old new : ObservedMail) (left : ℕ) (noted : List Given) (paths : List (List ℕ)) → HasReadBodies old new left [] noted paths → passes_bytes left noted ≡ false
read-passes old new left noted paths h = ap (passes_bytes left) h.given_is ∙ passes-none old.tree left h.given paths h.bodies

stop-passes : (old new : ObservedMail) (left : ℕ) (noted : List Given) (paths : List (List ℕ)) → StopsInBodies old new left [] noted paths stops.ShowBytes → passes_bytes left noted ≡ true
stop-passes old new left noted paths h =
    ap (passes_bytes left) (h.stop.given_is ∙ (ap (λ (l : List Given). l ++ h.stop.given) h.first.given_is ∙ ap (λ (l : List Given). h.first.given ++ l) h.stop.why.1))
    ∙ passes-some old.tree left h.first.given h.before h.path h.first.bodies h.stop.why.2

module _ (moment : ℤ) (writer : WriterState) (old_mail new_mail : ObservedMail) (disk left : ℕ) (line : ScriptLine) (noted : List Given) (ask : ShowAsk) (query : Query)
    (is : parse_line line ≡ asked.Request (requests.Show ask)) (read : answer_of ask.query ≡ Ok query) where
  abbrev ids : List (List ℕ)
  ids = shown_ids ask writer.shown moment query

  abbrev old : Place
  old = record { writer = writer; mail = old_mail; disk_faults = disk; left = left }

  abbrev new : Place
  new = record { writer = writer; mail = new_mail; disk_faults = disk; left = left_after left noted }

  found-is : found_to_show ask writer.shown moment ≡ ids
  found-is = ap (λ (r : Result Query QueryError). elim r [ Ok query ↦ shown_ids ask writer.shown moment query | Err refusal ↦ [] ]) read

  paths-are : lead_paths writer.shown ids ≡ paths_to_show ask writer.shown moment
  paths-are = ap (lead_paths writer.shown) (sym found-is)

  answer-is : show_text ask writer.shown ids noted ≡ show_answer ask writer.shown moment noted
  answer-is = sym (ap (λ (r : Result Query QueryError). elim r [ Ok query ↦ show_text ask writer.shown (shown_ids ask writer.shown moment query) noted | Err refusal ↦ [] ]) read)

  alive : (closed : Option ℕ) → refused_closed closed false ≡ None
  alive None = refl
  alive (Some fault) = refl

  may-ask : refused_unasked (asked.Request (requests.Show ask)) line.input writer.closed ≡ None
  may-ask = ap (λ (r : Result Query QueryError). first_refusal (refused_text r) (refused_closed writer.closed false)) read ∙ alive writer.closed

  -- what it is refused for
  reads-as : (one passes : Bool) (away : Option (List ℕ)) → is_not_one ask ids ≡ one → passes_bytes left noted ≡ passes → gone_path ask noted ≡ away
      → refused_reading (asked.Request (requests.Show ask)) writer.shown moment left noted
      ≡ first_refusal (if one then Some (outcomes.NotOne (length ids)) else None) (first_refusal (if passes then Some (outcomes.Limit ShowBytes) else None) (refused_gone away))
  reads-as one passes away number bytes lost =
      ap (λ (l : List (List ℕ)). first_refusal (refused_number ask l) (first_refusal (refused_bytes left noted) (refused_gone (gone_path ask noted)))) found-is
      ∙ (ap (λ (b : Bool). first_refusal (if b then Some (outcomes.NotOne (length ids)) else None) (first_refusal (refused_bytes left noted) (refused_gone (gone_path ask noted)))) number
      ∙ (ap (λ (b : Bool). first_refusal (if one then Some (outcomes.NotOne (length ids)) else None) (first_refusal (if b then Some (outcomes.Limit ShowBytes) else None) (refused_gone (gone_path ask noted)))) bytes
      ∙ ap (λ (g : Option (List ℕ)). first_refusal (if one then Some (outcomes.NotOne (length ids)) else None) (first_refusal (if passes then Some (outcomes.Limit ShowBytes) else None) (refused_gone g))) lost))

  none-fails : new_mail.faults ≡ old_mail.faults → NoneFailed (before_at old).mail_faults new_mail.faults false
  none-fails same = record { mail_same = same; disk_well = refl }

  answered : (outcome : Outcome) → Makes outcome moment old_mail.tree writer.shown line noted (length writer.acked + 0) [] []
      → AsksShow outcome old_mail new_mail left (lead_paths writer.shown ids) noted → new_mail.tree ≡ old_mail.tree → old_mail.faults ≤ new_mail.faults
      → HasCause outcome (asked.Request (requests.Show ask)) line.input (before_at old) writer.shown moment noted new_mail.faults false
      → IsLineAnswer moment old line noted outcome (newly_closed writer writer) new
  answered outcome makes asks tree grows cause =
      subst (λ (b : Bool). IsLineAnswer moment old line noted outcome b new) (sym (still-writer writer)) (record {
        made = [];
        in_flight = [];
        has_made = made-nothing writer;
        makes = makes;
        renames_after = subst (λ (p : ParsedLine). RenamesComeAfterTags p line.input moment writer.shown noted []) (sym is) tt;
        on_its_way = refl;
        closed = refl;
        asks = subst (λ (p : ParsedLine). AsksMail outcome p writer.shown moment left old_mail new_mail noted) (sym is)
            (subst (λ (l : List (List ℕ)). AsksShow outcome old_mail new_mail left l noted) paths-are asks);
        unasked = λ refused. none-some (refused_unasked (parse_line line) line.input writer.closed) (AsksNothing old_mail new_mail noted) (ap (λ (p : ParsedLine). refused_unasked p line.input writer.closed) is ∙ may-ask) refused;
        tree = subst (λ (p : ParsedLine). new_mail.tree ≡ tree_after_line p noted old_mail.tree) (sym is) tree;
        left = refl;
        mail_never_falls = grows;
        disk_never_falls = omega arith;
        cause = subst (λ (p : ParsedLine). HasCause outcome p line.input (before_at old) writer.shown moment noted new_mail.faults false) (sym is) cause;
        disk = refl;
      })

  refused : (outcome : Outcome) → is_well outcome ≡ false → Makes outcome moment old_mail.tree writer.shown line noted (length writer.acked + 0) [] []
      → AsksShow outcome old_mail new_mail left (lead_paths writer.shown ids) noted → new_mail.tree ≡ old_mail.tree → old_mail.faults ≤ new_mail.faults
      → HasCause outcome (asked.Request (requests.Show ask)) line.input (before_at old) writer.shown moment noted new_mail.faults false
      → Ends moment old line noted (Ok (refused_with outcome)) new
  refused outcome ill makes asks tree grows cause = (answered outcome makes asks tree grows cause, refused-said moment old new line noted outcome ill)

  -- a line that found no memory, wherever
  wanted : AsksSome old_mail new_mail left (lead_paths writer.shown ids) noted → old_mail.faults ≤ new_mail.faults → IsLineAnswer moment old line noted outcomes.NoMemory (newly_closed writer writer) new
  wanted asks grows = answered outcomes.NoMemory (inl (refl, inr (ap asks_to_tag is)), refl) asks (some-tree old_mail new_mail left (lead_paths writer.shown ids) noted asks) grows refl

  show-well : (text : List ℕ) → IsAfterShow ask writer.shown moment query left old_mail new_mail noted (Ok text) → new_mail.faults ≡ old_mail.faults
      → Ends moment old line noted (Ok (replied_with (requests.Show ask) text)) new
  show-well text h same = (
    answered outcomes.Ok (
      record { request = requests.Show ask; asked_for = is; batches = []; found = (refl, refl); due_are = refl },
      refl,
    ) h.reads.0 (read-tree old_mail new_mail left noted (lead_paths writer.shown ids) h.reads.0) (omega (arith, same))
        (may-ask, reads-as false false None (sym (h.one refl)) (read-passes old_mail new_mail left noted (lead_paths writer.shown ids) h.reads.0) h.reads.1, none-fails same),
    replied-said moment old new line noted (requests.Show ask) text is (h.reads.2 ∙ answer-is),
  )

  show-refused : (fault : ShowFault) → IsAfterShow ask writer.shown moment query left old_mail new_mail noted (Err fault)
      → HasCauseOf {T = List ℕ} is_folder_fault old_mail.faults new_mail.faults (Err fault) → (fault ≡ faults.NoMemory → ⊥)
      → Ends moment old line noted (Ok (refused_with (show_outcome fault))) new
  show-refused (faults.NotOne found) h same some =
      let gone : refused_reading (asked.Request (requests.Show ask)) writer.shown moment left noted ≡ Some (outcomes.NotOne (length ids)) =
      reads-as true (passes_bytes left noted) (gone_path ask noted) h.reads.1 refl refl in
      refused (outcomes.NotOne found) refl (record { made_are = refl; in_flight_is = refl }) h.reads.0 (ap (λ (m : ObservedMail). m.tree) h.reads.0.same) (omega (arith, same))
      ((may-ask, gone ∙ ap (λ n. Some (outcomes.NotOne n)) (sym h.reads.2)), none-fails same)
  show-refused (faults.Gone path) h same some =
      let paths = lead_paths writer.shown ids in
      refused (outcomes.Gone path) refl (record { made_are = refl; in_flight_is = refl }) h.reads.0 (read-tree old_mail new_mail left noted paths h.reads.0) (omega (arith, same))
      ((may-ask, reads-as false false (Some path) (sym (h.one refl)) (read-passes old_mail new_mail left noted paths h.reads.0) h.reads.1), none-fails same)
  show-refused faults.MailFault h rose some =
      refused outcomes.MailFault refl
      (inl (subst (λ (p : ParsedLine). asks-no-tag p) (sym is) refl, inr (subst (λ (p : ParsedLine). asks-no-write p) (sym is) refl), record { made_are = refl; in_flight_is = refl }))
      h.reads (stop-tree old_mail new_mail left noted (lead_paths writer.shown ids) stops.MailFault h.reads) rose.0 (may-ask, refl, rose, λ (failed : false ≡ true). absurd (cc))
  show-refused faults.ShowBytes h same some =
      let paths = lead_paths writer.shown ids in
      let passed : refused_reading (asked.Request (requests.Show ask)) writer.shown moment left noted ≡ Some (outcomes.Limit ShowBytes) =
      reads-as false true (gone_path ask noted) (sym (h.one refl)) (stop-passes old_mail new_mail left noted paths h.reads) refl in
      refused (outcomes.Limit ShowBytes) refl (inl (refl, inr (inr (subst (λ (p : ParsedLine). asks-no-write p) (sym is) refl, refl))), refl) (inr h.reads)
      (stop-tree old_mail new_mail left noted paths stops.ShowBytes h.reads) (omega (arith, same)) (inr (inl (may-ask, passed)), none-fails same)
  show-refused faults.NoMemory h same some = absurd (some refl)

  -- whatever it ends with, the folder's count never falls, and memory may run out for its text
  grows-by : (result : Result (List ℕ) ShowFault) → HasCauseOf is_folder_fault old_mail.faults new_mail.faults result → old_mail.faults ≤ new_mail.faults
  grows-by (Ok text) same = omega (arith, same)
  grows-by (Err (faults.NotOne found)) same = omega (arith, same)
  grows-by (Err (faults.Gone path)) same = omega (arith, same)
  grows-by (Err faults.MailFault) rose = rose.0
  grows-by (Err faults.ShowBytes) same = omega (arith, same)
  grows-by (Err faults.NoMemory) same = omega (arith, same)

  some-by : (result : Result (List ℕ) ShowFault) → IsAfterShow ask writer.shown moment query left old_mail new_mail noted result → AsksSome old_mail new_mail left (lead_paths writer.shown ids) noted
  some-by (Ok text) h = inr (inl h.reads.0)
  some-by (Err (faults.NotOne found)) h = inl h.reads.0
  some-by (Err (faults.Gone path)) h = inr (inl h.reads.0)
  some-by (Err faults.MailFault) h = inr (inr (stops.MailFault, h.reads))
  some-by (Err faults.ShowBytes) h = inr (inr (stops.ShowBytes, h.reads))
  some-by (Err faults.NoMemory) h = h.reads

  pub shown-ends : (text : List ℕ) (result : Result LineAnswer NoMemory) → IsAfterShow ask writer.shown moment query left old_mail new_mail noted (Ok text) → new_mail.faults ≡ old_mail.faults
      → IfOk result (λ done. done ≡ replied_with (requests.Show ask) text) → Ends moment old line noted result new
  shown-ends text (Ok done) h same said = subst (λ (d : LineAnswer). Ends moment old line noted (Ok d) new) (sym said) (show-well text h same)
  shown-ends text (Err error) h same said = wanted (some-by (Ok text) h) (omega (arith, same))

  pub unshown-ends : (fault : ShowFault) (result : Result LineAnswer NoMemory) → IsAfterShow ask writer.shown moment query left old_mail new_mail noted (Err fault)
      → HasCauseOf {T = List ℕ} is_folder_fault old_mail.faults new_mail.faults (Err fault) → IfOk result (λ _. fault ≡ faults.NoMemory → ⊥) → IfOk result (λ done. done ≡ refused_with (show_outcome fault))
      → Ends moment old line noted result new
  unshown-ends fault (Ok done) h cause some said = subst (λ (d : LineAnswer). Ends moment old line noted (Ok d) new) (sym said) (show-refused fault h cause some)
  unshown-ends fault (Err error) h cause some said = wanted (some-by (Err fault) h) (grows-by (Err fault) cause)
