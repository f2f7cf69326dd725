-- How a `new` ends, from what the writer did. For the proof of `run_new`.
use Rattle.std.proofs.Common.{◌≡◌, inl, inr, ℕ, ℤ, true, false, List, [], ◌∷◌, Option, None, Some, IfOk, IfSome, IsSome, Result, Ok, Err, refl, sym, ap, subst, arith}
use Rattle.nm_model_answer.specs.NewText.{new_text, report_of}
use Rattle.nm_model_answer.specs.declared.report.NewReport.{NewReport}
use Rattle.nm_model_answer.specs.declared.request.Request.TheVariants as requests
use Rattle.nm_base.specs.declared.memory.NoMemory.{NoMemory}
use Rattle.nm_commit.specs.declared.change.Commit.{Commit}
use Rattle.nm_faults.specs.Faults.{HasCauseOf}
use Rattle.nm_history.specs.Given.{AsksMail, AsksNothing}
use Rattle.nm_history.specs.LineAnswers.{NoneFailed}
use Rattle.nm_history.specs.LineCommits.{AreDue}
use Rattle.nm_history.specs.LineResult.{Place, before_at}
use Rattle.nm_history.specs.Requests.{asks_to_tag, refused_closed, refused_unasked}
use Rattle.nm_model_index.specs.Fits.{FitInTurn}
use Rattle.nm_lanes.specs.declared.script.ScriptLine.{ScriptLine}
use Rattle.nm_log.specs.ParsedLine.{parse_line}
use Rattle.nm_log.specs.declared.line_parser.ParsedLine.{ParsedLine}
use Rattle.nm_log.specs.declared.line_parser.ParsedLine.TheVariants as asked
use Rattle.nm_log.specs.declared.outcome.Outcome.{Outcome}
use Rattle.nm_log.specs.declared.outcome.Outcome.TheVariants as outcomes
use Rattle.nm_maildir.specs.Observed.{ObservedMail}
use Rattle.nm_maildir.specs.Tree.{Tree}
use Rattle.nm_maildir.specs.declared.given.Given.{Given}
use Rattle.nm_scan.specs.Bodies.{left_after}
use Rattle.nm_scan.specs.Scan.{AsksNew}
use Rattle.nm_line.specs.Line.{Ends, IsEven, IsLineAnswer, newly_closed, replied_with}
use Rattle.nm_line.specs.Outcomes.{outcome_of}
use Rattle.nm_line.specs.declared.line_answer.LineAnswer.{LineAnswer}
use Rattle.nm_line.proofs.AnswerLemmas.{replied-said}
use Rattle.nm_line.proofs.ChangeLemmas.{alive-asks, alive-by, answered-with, fit-front, gets-closed, made-failing, made-none, made-some, passed-by, stays-open, write-no-memory}
use Rattle.nm_writer.specs.New.{AreNewCommits, IsAfterNew}
use Rattle.nm_writer.specs.Writer.{WriterState}
use Rattle.nm_writer.specs.AfterCommit.{FailsWithin, PassesWithin, StopsWithin, is_read_fault, is_write_fault}
use Rattle.nm_writer.specs.declared.write_error.WriteError.{WriteError}
use Rattle.nm_writer.specs.declared.write_error.WriteError.TheVariants as errors

-- a `new` on a closed index asks nothing
pub new-unasked : (Q : Type 0) (closed : Option ℕ) (tree : Option Tree) (noted : List Given) (old new : WriterState) (faults : ℕ) (result : Result NewReport WriteError) (text : List ℕ) (old_mail new_mail : ObservedMail)
    → IsAfterNew tree noted old faults result new → IfSome closed (λ fault. (result ≡ Err (errors.Closed fault)) × (new_mail ≡ old_mail) × Q) → IsSome (refused_unasked (asked.Request requests.New) text closed) → AsksNothing old_mail new_mail noted
new-unasked Q None tree noted old new faults result text old_mail new_mail after shut refused = absurd (cc)
new-unasked Q (Some fault) tree noted old new faults result text old_mail new_mail after shut refused =
    let ended = subst (λ (r : Result NewReport WriteError). IsAfterNew tree noted old faults r new) shut.0 after in
    record { given_is = ended.1; same = shut.1 }

-- how a `new` ended
abbrev pub outcome_by : Result NewReport WriteError → Outcome
outcome_by (Ok report) = outcomes.Ok
outcome_by (Err error) = outcome_of error

module _ (moment : ℤ) (old new : Place) (line : ScriptLine) (noted : List Given) (is : parse_line line ≡ asked.Request requests.New) (left : new.left ≡ left_after old.left noted)
    (asks : AsksNew old.mail new.mail old.writer.shown.files noted) (tree : new.mail.tree ≡ old.mail.tree)
    (unasked : IsSome (refused_unasked (asked.Request requests.New) line.input old.writer.closed) → AsksNothing old.mail new.mail noted) where
  abbrev are-due : (rest : List (List ℕ)) (due : List Commit) → AreNewCommits old.mail.tree old.writer.shown noted rest due → AreDue moment old.mail.tree old.writer.shown line noted rest due
  are-due rest due h = record { request = requests.New; asked_for = is; batches = h.batches; found = h.found; due_are = h.due_are }

  pub asks-as : (outcome : Outcome) → AsksMail outcome (parse_line line) old.writer.shown moment old.left old.mail new.mail noted
  asks-as outcome = subst (λ (p : ParsedLine). AsksMail outcome p old.writer.shown moment old.left old.mail new.mail noted) (sym is) asks

  no-tag : asks_to_tag (parse_line line) ≡ false
  no-tag = ap asks_to_tag is

  none-failed : new.mail.faults ≡ old.mail.faults → NoneFailed (before_at old).mail_faults new.mail.faults false
  none-failed same = record { mail_same = same; disk_well = refl }

  still : (same : new.writer.closed ≡ old.writer.closed) → newly_closed old.writer new.writer ≡ false
  still same = stays-open old.writer new.writer same

  pub new-answered : (P Q : Type 0) (result : Result NewReport WriteError) → IsAfterNew old.mail.tree noted old.writer new.disk_faults result new.writer
      → IfSome old.writer.closed (λ fault. (result ≡ Err (errors.Closed fault)) × P × Q)
      → HasCauseOf is_read_fault old.mail.faults new.mail.faults result → HasCauseOf is_write_fault old.disk_faults new.disk_faults result → IsEven old.writer
      → IsLineAnswer moment old line noted (outcome_by result) (newly_closed old.writer new.writer) new
  new-answered P Q (Ok report) after shut mail disk even =
      let alive : old.writer.closed ≡ None = alive-by old.writer.closed (Ok report) P Q shut refl in
      answered-with moment old new line noted requests.New is left (λ outcome. asks) tree unasked (λ made published. tt) outcomes.Ok after.0.0 [] false (still after.0.2.closed)
      (made-some old.writer new.writer after.0.0 after.0.2 alive even after.0.1.fit) (are-due [] after.0.0 after.0.1, refl) refl after.0.2.closed (omega (arith, mail)) disk
      (alive-asks old.writer.closed alive, refl, none-failed mail)
  new-answered P Q (Err errors.MailFault) (inl (none, same)) shut mail disk even =
      let alive : old.writer.closed ≡ None = alive-by {T = NewReport} old.writer.closed (Err errors.MailFault) P Q shut refl in
      answered-with moment old new line noted requests.New is left (λ outcome. asks) tree unasked (λ made published. tt) outcomes.MailFault [] [] false (still (ap (λ (w : WriterState). w.closed) same))
      (made-none old.writer new.writer same) (inl (no-tag, inl none, record { made_are = refl; in_flight_is = refl })) refl (ap (λ (w : WriterState). w.closed) same) mail.0 disk
      (alive-asks old.writer.closed alive, refl, mail, λ (failed : false ≡ true). absurd (cc))
  new-answered P Q (Err errors.MailFault) (inr (path, rest, due, are, made)) shut mail disk even =
      let alive : old.writer.closed ≡ None = alive-by {T = NewReport} old.writer.closed (Err errors.MailFault) P Q shut refl in
      answered-with moment old new line noted requests.New is left (λ outcome. asks) tree unasked (λ made published. tt) outcomes.MailFault due [] false (still made.closed)
      (made-some old.writer new.writer due made alive even are.fit)
      (inr (record { left = path ∷ rest; due = due; are_due = are-due (path ∷ rest) due are; may_fail = (path, rest, refl); makes = (refl, refl) })) refl made.closed mail.0 disk
      (alive-asks old.writer.closed alive, refl, mail, λ (failed : false ≡ true). absurd (cc))
  new-answered P Q (Err errors.DiskFault) after shut mail disk even =
      let alive : old.writer.closed ≡ None = alive-by {T = NewReport} old.writer.closed (Err errors.DiskFault) P Q shut refl in
      let fails : FailsWithin old.writer after.1 new.disk_faults new.writer = after.3 in
      answered-with moment old new line noted requests.New is left (λ outcome. asks) tree unasked (λ made published. tt) outcomes.DiskFault fails.done (fails.commit ∷ []) true (gets-closed old.writer new.writer new.disk_faults alive fails.closed)
      (made-failing old.writer new.writer after.1 new.disk_faults fails alive even after.2.fit)
      (fails.commit, record { left = after.0; due = after.1; are_due = are-due after.0 after.1 after.2; more = fails.more; order = fails.due_are }, refl) refl fails.closed (omega (arith, mail)) disk
      (alive-asks old.writer.closed alive, refl, mail, refl)
  new-answered P Q (Err (errors.Closed fault)) after shut mail disk even =
      answered-with moment old new line noted requests.New is left (λ outcome. asks) tree unasked (λ made published. tt) (outcomes.Closed fault) [] [] false (still (ap (λ (w : WriterState). w.closed) after.2))
      (made-none old.writer new.writer after.2) (record { made_are = refl; in_flight_is = refl }) refl (ap (λ (w : WriterState). w.closed) after.2) (omega (arith, mail)) disk
      (ap (λ (c : Option ℕ). refused_closed c true) after.0, none-failed mail)
  new-answered P Q (Err (errors.Limit limit)) (inl (none, passes, same)) shut mail disk even =
      let alive : old.writer.closed ≡ None = alive-by {T = NewReport} old.writer.closed (Err (errors.Limit limit)) P Q shut refl in
      answered-with moment old new line noted requests.New is left (λ outcome. asks) tree unasked (λ made published. tt) (outcomes.Limit limit) [] [] false (still (ap (λ (w : WriterState). w.closed) same))
      (made-none old.writer new.writer same) (inl (refl, inr (inl (none, is, passes))), refl) refl (ap (λ (w : WriterState). w.closed) same) (omega (arith, mail)) disk
      (inr (inr (alive-asks old.writer.closed alive, refl)), none-failed mail)
  new-answered P Q (Err (errors.Limit limit)) (inr after) shut mail disk even =
      let alive : old.writer.closed ≡ None = alive-by {T = NewReport} old.writer.closed (Err (errors.Limit limit)) P Q shut refl in
      let passes : PassesWithin old.writer after.1 limit new.writer = after.3 in
      answered-with moment old new line noted requests.New is left (λ outcome. asks) tree unasked (λ made published. tt) (outcomes.Limit limit) passes.done [] false (still passes.made.closed)
      (made-some old.writer new.writer passes.done passes.made alive even (fit-front old.writer.shown passes.done (passes.commit ∷ passes.more) (subst (FitInTurn old.writer.shown) passes.due_are after.2.fit))) (
        inr (
          passes.commit,
          record { left = after.0; due = after.1; are_due = are-due after.0 after.1 after.2; more = passes.more; order = passes.due_are },
          passed-by old.writer new.writer passes.done passes.commit limit passes.made alive even passes.passed,
        ),
        refl,
      )
      refl passes.made.closed (omega (arith, mail)) disk (inr (inr (alive-asks old.writer.closed alive, refl)), none-failed mail)
  new-answered P Q (Err errors.NoMemory) (inl same) shut mail disk even =
      answered-with moment old new line noted requests.New is left (λ outcome. asks) tree unasked (λ made published. tt) outcomes.NoMemory [] [] false (still (ap (λ (w : WriterState). w.closed) same))
      (made-none old.writer new.writer same) (inl (refl, inr no-tag), refl) refl (ap (λ (w : WriterState). w.closed) same) (omega (arith, mail)) disk refl
  new-answered P Q (Err errors.NoMemory) (inr after) shut mail disk even =
      let alive : old.writer.closed ≡ None = alive-by {T = NewReport} old.writer.closed (Err errors.NoMemory) P Q shut refl in
      let stops : StopsWithin old.writer after.1 new.writer = after.3 in
      answered-with moment old new line noted requests.New is left (λ outcome. asks) tree unasked (λ made published. tt) outcomes.NoMemory stops.done [] false (still stops.made.closed)
      (made-some old.writer new.writer stops.done stops.made alive even (fit-front old.writer.shown stops.done stops.more (subst (FitInTurn old.writer.shown) stops.due_are after.2.fit)))
      (inr (after.0, after.1, stops.more, are-due after.0 after.1 after.2, stops.due_are), refl) refl stops.made.closed (omega (arith, mail)) disk refl

  -- what a `new` says that went well
  pub new-ends : (report : NewReport) (result : Result LineAnswer NoMemory) → IsLineAnswer moment old line noted outcomes.Ok (newly_closed old.writer new.writer) new
      → report ≡ report_of old.writer.shown.files new.writer.shown.files noted → IfOk result (λ done. done ≡ replied_with requests.New (new_text report))
      → Ends moment old line noted result new
  new-ends report (Err error) h reported said = write-no-memory moment old new line noted h (asks-as outcomes.NoMemory)
  new-ends report (Ok done) h reported said =
      subst (λ (d : LineAnswer). Ends moment old line noted (Ok d) new) (sym said)
      (h, replied-said moment old new line noted requests.New (new_text report) is (ap new_text reported))
