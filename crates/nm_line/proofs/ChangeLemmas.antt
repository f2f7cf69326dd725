-- How a line ends that changes the index, from what the writer did: what both a `new` and a `tag` need.
-- For the proofs of `change_tags` and `run_new`.
use Rattle.std.proofs.Common.{◌≡◌, ◌&&◌, ◌⊎◌, inl, inr, ℕ, ℤ, ◌+◌, ◌≤◌, Bool, true, false, not, List, [], ◌∷◌, ◌++◌, Option, None, Some, IfSome, IsSome, MatchResult, is_some, Result, Ok, Err, length, refl, sym, ap, ◌∙◌, subst, append-nil, append_assoc, arith}
use Rattle.std.proofs.lemmas.List.{length-append}
use Rattle.nm_log.specs.Kind.{Kind, ReadsIndex, SetsTags, ShowsFiles, TakesMail, kind_of}
use Rattle.nm_model_answer.specs.declared.request.Request.{Request}
use Rattle.nm_base.specs.declared.limit.Limit.{Limit}
use Rattle.nm_base.specs.declared.memory.NoMemory.{NoMemory}
use Rattle.nm_commit.specs.declared.change.Commit.{Commit}
use Rattle.nm_faults.specs.Faults.{Counts}
use Rattle.nm_history.specs.Given.{AsksMail, AsksNothing}
use Rattle.nm_history.specs.LineAnswers.{HasCause}
use Rattle.nm_history.specs.LineCommits.{IsOnItsWay, Makes, PassesUnmade, RenamesComeAfterTags}
use Rattle.nm_history.specs.LineResult.{HasMade, Place, before_at}
use Rattle.nm_history.specs.Lines.{closed_after, tree_after_line}
use Rattle.nm_history.specs.Requests.{asks_to_tag, asks_to_write, refused_closed, refused_unasked, sets_tags, writes_index}
use Rattle.nm_model_index.specs.Fits.{FitInTurn}
use Rattle.nm_model_index.specs.Index.{committed, folded}
use Rattle.nm_model_index.specs.declared.base.Base.{Base}
use Rattle.nm_lanes.specs.declared.script.ScriptLine.{ScriptLine}
use Rattle.nm_log.specs.ParsedLine.{parse_line}
use Rattle.nm_log.specs.Replies.{is_well}
use Rattle.nm_log.specs.declared.line_parser.ParsedLine.{ParsedLine}
use Rattle.nm_log.specs.declared.line_parser.ParsedLine.TheVariants as asked
use Rattle.nm_log.specs.declared.outcome.Outcome.{Outcome}
use Rattle.nm_log.specs.declared.outcome.Outcome.TheVariants as outcomes
use Rattle.nm_maildir.specs.Observed.{ObservedMail}
use Rattle.nm_maildir.specs.Tree.{Tree}
use Rattle.nm_maildir.specs.declared.given.Given.{Given}
use Rattle.nm_scan.specs.Bodies.{left_after}
use Rattle.nm_line.specs.Line.{Ends, IsEven, IsLineAnswer, newly_closed, refused_with}
use Rattle.nm_line.specs.Outcomes.{is_fault, outcome_of}
use Rattle.nm_line.specs.declared.line_answer.LineAnswer.{LineAnswer}
use Rattle.nm_line.proofs.AnswerLemmas.{made-nothing, refused-said}
use Rattle.nm_writer.specs.Writer.{WriterState}
use Rattle.nm_writer.specs.AfterCommit.{AreWithin, FailsWithin, HasCommitted, IsPassed, with_commits}
use Rattle.nm_writer.specs.declared.write_error.WriteError.{WriteError}
use Rattle.nm_writer.specs.declared.write_error.WriteError.TheVariants as errors

-- what is due fits, and so do the first of it

pub fit-front : (index : Base) (xs ys : List Commit) → FitInTurn index (xs ++ ys) → FitInTurn index xs
fit-front index [] ys h = tt
fit-front index (x ∷ xs) ys h = (h.0, fit-front (committed index x) xs ys h.1)

pub folded-append : (index : Base) (xs ys : List Commit) → folded index (xs ++ ys) ≡ folded (folded index xs) ys
folded-append index [] ys = refl
folded-append index (x ∷ xs) ys = folded-append (committed index x) xs ys

-- whether the writer was closed in between

pub some-none : (closed : Option ℕ) (P : Type 0) → closed ≡ None → IsSome closed → P
some-none None P none some = absurd (cc)
some-none (Some fault) P none some = absurd (cc)

still-closed : (closed : Option ℕ) → (is_some closed && not (is_some closed)) ≡ false
still-closed None = refl
still-closed (Some fault) = refl

-- a writer that is closed as before was not
pub stays-open : (old new : WriterState) → new.closed ≡ old.closed → newly_closed old new ≡ false
stays-open old new same = ap (λ (c : Option ℕ). is_some c && not (is_some old.closed)) same ∙ still-closed old.closed

-- one that was open and is closed now was
pub gets-closed : (old new : WriterState) (faults : ℕ) → old.closed ≡ None → new.closed ≡ Some faults → newly_closed old new ≡ true
gets-closed old new faults alive closed = ap (λ (c : Option ℕ). is_some c && not (is_some old.closed)) closed ∙ ap (λ (c : Option ℕ). not (is_some c)) alive

-- the error says that the writer is closed
abbrev pub is_closed_error : {T : Type 0} → Result T WriteError → Bool
is_closed_error (Ok report) = false
is_closed_error (Err errors.MailFault) = false
is_closed_error (Err errors.DiskFault) = false
is_closed_error (Err (errors.Closed fault)) = true
is_closed_error (Err (errors.Limit limit)) = false
is_closed_error (Err errors.NoMemory) = false

false-true : (P : Type 0) (b : Bool) → b ≡ true → b ≡ false → P
false-true P true e f = absurd cc
false-true P false e f = absurd cc

-- where it does not, the writer was open
pub alive-by : {T : Type 0} (closed : Option ℕ) (result : Result T WriteError) (P Q : Type 0) → IfSome closed (λ fault. (result ≡ Err (errors.Closed fault)) × P × Q) → is_closed_error result ≡ false → closed ≡ None
alive-by None result P Q h sound = refl
alive-by {T = T} (Some fault) result P Q h sound = false-true (Some fault ≡ None) (is_closed_error result) (ap (λ (r : Result T WriteError). is_closed_error r) h.0) sound

-- what is so of a closed writer
pub closed-by : {T : Type 0} (closed : Option ℕ) (fault : ℕ) (result : Result T WriteError) (P Q : Type 0) → closed ≡ Some fault → IfSome closed (λ fault. (result ≡ Err (errors.Closed fault)) × P × Q) → Q
closed-by None fault result P Q shut h = absurd (cc)
closed-by (Some other) fault result P Q shut h = h.2

-- what was made

-- an open writer has as many clocks as it has begun commits
within-even : (old : WriterState) (commits : List Commit) → old.closed ≡ None → IsEven old → AreWithin (length old.begun) old.shown commits → AreWithin (length old.acked) old.shown commits
within-even old commits alive even h = subst (λ n. AreWithin n old.shown commits) (even alive) h

pub made-some : (old new : WriterState) (done : List Commit) → HasCommitted old done new → old.closed ≡ None → IsEven old → FitInTurn old.shown done → HasMade old done [] new
made-some old new done h alive even fit = record {
  within = subst (AreWithin (length old.acked) old.shown) (sym (append-nil done)) (within-even old done alive even h.within);
  fit = subst (FitInTurn old.shown) (sym (append-nil done)) fit;
  idle = λ some. some-none old.closed (done ++ [] ≡ []) alive some;
  published = h.published;
  shown = h.shown;
  begun_are = h.begun ∙ ap (λ (l : List Commit). old.begun ++ l) (sym (append-nil done));
  clocks = h.clocks;
  acked = h.acked;
  one_each = h.each;
}

pub made-none : (old new : WriterState) → new ≡ old → HasMade old [] [] new
made-none old new same = subst (λ (w : WriterState). HasMade old [] [] w) (sym same) (made-nothing old)

-- a commit is left on its way
pub made-failing : (old new : WriterState) (due : List Commit) (faults : ℕ) (h : FailsWithin old due faults new) → old.closed ≡ None → IsEven old → FitInTurn old.shown due → HasMade old h.done (h.commit ∷ []) new
made-failing old new due faults h alive even fit =
    let all : FitInTurn old.shown ((h.done ++ h.commit ∷ []) ++ h.more) = subst (FitInTurn old.shown) (h.due_are ∙ sym (append_assoc h.done (h.commit ∷ []) h.more)) fit in
    record {
      fit = fit-front old.shown (h.done ++ h.commit ∷ []) h.more all;
      within = within-even old (h.done ++ h.commit ∷ []) alive even h.within;
      idle = λ some. some-none old.closed (h.done ++ h.commit ∷ [] ≡ []) alive some;
      published = h.published;
      shown = h.shown;
      begun_are = h.begun;
      clocks = h.clocks;
      acked = h.acked;
      one_each = h.each;
    }

pub passed-by : (old new : WriterState) (done : List Commit) (commit : Commit) (limit : Limit) → HasCommitted old done new → old.closed ≡ None → IsEven old → IsPassed (length new.begun) new.shown commit limit
    → IsPassed (length old.acked + length done) (folded old.shown done) commit limit
passed-by old new done commit limit h alive even passed =
    let count : length new.begun ≡ length old.acked + length done =
    ap length h.begun ∙ (length-append old.begun done ∙ ap (λ n. n + length done) (even alive)) in
    subst (λ n. IsPassed n (folded old.shown done) commit limit) count
    (subst (λ (b : Base). IsPassed (length new.begun) b commit limit) h.shown passed)

pub alive-asks : (closed : Option ℕ) → closed ≡ None → refused_closed closed true ≡ None
alive-asks closed alive = ap (λ (c : Option ℕ). refused_closed c true) alive

-- where the disk's count is the same it did not fall, and it did not where it rose
pub counts-grow : (failed : Bool) (before now : ℕ) → Counts failed before now → before ≤ now
counts-grow true before now h = h.0
counts-grow false before now h = omega (arith, h)

-- a line ends so

module _ (moment : ℤ) (old new : Place) (line : ScriptLine) (noted : List Given) (request : Request) (is : parse_line line ≡ asked.Request request) (left : new.left ≡ left_after old.left noted)
    (asks : (outcome : Outcome) → AsksMail outcome (asked.Request request) old.writer.shown moment old.left old.mail new.mail noted)
    (tree : new.mail.tree ≡ tree_after_line (asked.Request request) noted old.mail.tree)
    (unasked : IsSome (refused_unasked (asked.Request request) line.input old.writer.closed) → AsksNothing old.mail new.mail noted)
    (renames : (made : List Commit) → new.writer.published ≡ with_commits old.writer.published made → RenamesComeAfterTags (asked.Request request) line.input moment old.writer.shown noted made) where
  pub answered-with : (outcome : Outcome) (made in_flight : List Commit) (failed : Bool) → newly_closed old.writer new.writer ≡ failed → HasMade old.writer made in_flight new.writer
      → Makes outcome moment old.mail.tree old.writer.shown line noted (length old.writer.acked + length made) made in_flight → IsOnItsWay failed in_flight
      → new.writer.closed ≡ closed_after old.writer.closed failed new.disk_faults → old.mail.faults ≤ new.mail.faults → Counts failed old.disk_faults new.disk_faults
      → HasCause outcome (asked.Request request) line.input (before_at old) old.writer.shown moment noted new.mail.faults failed
      → IsLineAnswer moment old line noted outcome (newly_closed old.writer new.writer) new
  answered-with outcome made in_flight failed is_failed has_made makes way closed mail disk cause =
      subst (λ (b : Bool). IsLineAnswer moment old line noted outcome b new) (sym is_failed) (record {
        made = made;
        in_flight = in_flight;
        has_made = has_made;
        makes = makes;
        renames_after = subst (λ (p : ParsedLine). RenamesComeAfterTags p line.input moment old.writer.shown noted made) (sym is) (renames made has_made.published);
        on_its_way = way;
        closed = closed;
        asks = subst (λ (p : ParsedLine). AsksMail outcome p old.writer.shown moment old.left old.mail new.mail noted) (sym is) (asks outcome);
        unasked = subst (λ (p : ParsedLine). IsSome (refused_unasked p line.input old.writer.closed) → AsksNothing old.mail new.mail noted) (sym is) unasked;
        tree = subst (λ (p : ParsedLine). new.mail.tree ≡ tree_after_line p noted old.mail.tree) (sym is) tree;
        left = left;
        mail_never_falls = mail;
        disk_never_falls = counts-grow failed old.disk_faults new.disk_faults disk;
        cause = subst (λ (p : ParsedLine). HasCause outcome p line.input (before_at old) old.writer.shown moment noted new.mail.faults failed) (sym is) cause;
        disk = disk;
      })

-- a line that finds no memory for its text

-- what writes nothing sets no tags
sets-by : (kind : Kind) → writes_index kind ≡ false → sets_tags kind ≡ false
sets-by TakesMail writes = refl
sets-by ReadsIndex writes = refl
sets-by (ShowsFiles ask) writes = refl
sets-by SetsTags writes = absurd (cc)

sets-none : (line : ParsedLine) → asks_to_write line ≡ false → asks_to_tag line ≡ false
sets-none (asked.Request request) writes = sets-by (kind_of request) writes
sets-none (asked.Usage word kind) writes = refl

-- a limit that is passed outside a commit is reported before a rename is asked
unmade-limit : (tree : Option Tree) (line : ScriptLine) (noted : List Given) (limit : Limit) → PassesUnmade tree line noted limit → (noted ≡ []) ⊎ (asks_to_tag (parse_line line) ≡ false)
unmade-limit tree line noted limit (inl query) = inl query.0
unmade-limit tree line noted limit (inr (inl listing)) = inl listing.0
unmade-limit tree line noted limit (inr (inr show)) = inr (sets-none (parse_line line) show.0)

-- a closed writer asks nothing
closed-asks : (error : WriteError) (line : ParsedLine) (input : List ℕ) (place : Place) (moment : ℤ) (old new : ObservedMail) (noted : List Given) (mail : ℕ) (failed : Bool)
    → HasCause (outcome_of error) line input (before_at place) place.writer.shown moment noted mail failed → (IsSome (refused_unasked line input place.writer.closed) → AsksNothing old new noted)
    → (fault : ℕ) → error ≡ errors.Closed fault → noted ≡ []
closed-asks error line input place moment old new noted mail failed cause unasked fault is =
    let why : refused_unasked line input place.writer.closed ≡ Some (outcomes.Closed fault) =
    (subst (λ (e : WriteError). HasCause (outcome_of e) line input (before_at place) place.writer.shown moment noted mail failed) is cause).0 in
    (unasked (subst (λ (r : Option Outcome). IsSome r) (sym why) refl)).given_is

makes-first : (error : WriteError) (moment : ℤ) (tree : Option Tree) (index : Base) (line : ScriptLine) (noted : List Given) (count : ℕ) (made in_flight : List Commit) → is_fault error ≡ false → ((fault : ℕ) → error ≡ errors.Closed fault → noted ≡ [])
    → Makes (outcome_of error) moment tree index line noted count made in_flight → Makes outcomes.NoMemory moment tree index line noted count made in_flight
makes-first errors.MailFault moment tree index line noted count made in_flight sound shut h = absurd (cc)
makes-first errors.DiskFault moment tree index line noted count made in_flight sound shut h = absurd (cc)
makes-first (errors.Closed fault) moment tree index line noted count made in_flight sound shut h = (inl (h.made_are, inl (shut fault refl)), h.in_flight_is)
makes-first (errors.Limit limit) moment tree index line noted count made in_flight sound shut (inl passes, h) = (inl (passes.0, unmade-limit tree line noted limit passes.1), h)
makes-first (errors.Limit limit) moment tree index line noted count made in_flight sound shut (inr (commit, stops, passed), h) = (inr (stops.left, stops.due, commit ∷ stops.more, stops.are_due, stops.order), h)
makes-first errors.NoMemory moment tree index line noted count made in_flight sound shut h = h

well-then-none : (moment : ℤ) (tree : Option Tree) (index : Base) (line : ScriptLine) (noted : List Given) (count : ℕ) (made in_flight : List Commit)
    → Makes outcomes.Ok moment tree index line noted count made in_flight → Makes outcomes.NoMemory moment tree index line noted count made in_flight
well-then-none moment tree index line noted count made in_flight h = (inr ([], made, [], h.0, sym (append-nil made)), h.1)

cause-well : (error : WriteError) (line : ParsedLine) (input : List ℕ) (place : Place) (moment : ℤ) (noted : List Given) (mail : ℕ) (failed : Bool) → is_fault error ≡ false
    → HasCause (outcome_of error) line input (before_at place) place.writer.shown moment noted mail failed → failed ≡ false
cause-well errors.MailFault line input place moment noted mail failed sound h = absurd (cc)
cause-well errors.DiskFault line input place moment noted mail failed sound h = absurd (cc)
cause-well (errors.Closed fault) line input place moment noted mail failed sound h = h.1.disk_well
cause-well (errors.Limit limit) line input place moment noted mail failed sound h = h.1.disk_well
cause-well errors.NoMemory line input place moment noted mail failed sound h = h

without : (moment : ℤ) (old new : Place) (line : ScriptLine) (noted : List Given) (outcome : Outcome) (failed : Bool) (h : IsLineAnswer moment old line noted outcome failed new)
    → Makes outcomes.NoMemory moment old.mail.tree old.writer.shown line noted (length old.writer.acked + length h.made) h.made h.in_flight → failed ≡ false
    → AsksMail outcomes.NoMemory (parse_line line) old.writer.shown moment old.left old.mail new.mail noted → IsLineAnswer moment old line noted outcomes.NoMemory failed new
without moment old new line noted outcome failed h makes well asks = record {
  made = h.made;
  in_flight = h.in_flight;
  has_made = h.has_made;
  makes = makes;
  renames_after = h.renames_after;
  on_its_way = h.on_its_way;
  closed = h.closed;
  asks = asks;
  unasked = h.unasked;
  tree = h.tree;
  left = h.left;
  mail_never_falls = h.mail_never_falls;
  disk_never_falls = h.disk_never_falls;
  cause = well;
  disk = h.disk;
}

error-ill : (error : WriteError) → is_well (outcome_of error) ≡ false
error-ill errors.MailFault = refl
error-ill errors.DiskFault = refl
error-ill (errors.Closed fault) = refl
error-ill (errors.Limit limit) = refl
error-ill errors.NoMemory = refl

-- a line that a writer refused
pub write-refused : (moment : ℤ) (old new : Place) (line : ScriptLine) (noted : List Given) (error : WriteError) (result : Result LineAnswer NoMemory)
    → IsLineAnswer moment old line noted (outcome_of error) (newly_closed old.writer new.writer) new
    → AsksMail outcomes.NoMemory (parse_line line) old.writer.shown moment old.left old.mail new.mail noted
    → MatchResult result (λ done. done ≡ refused_with (outcome_of error)) (λ _. is_fault error ≡ false)
    → Ends moment old line noted result new
write-refused moment old new line noted error (Err wanted) h asks said =
    without moment old new line noted (outcome_of error) (newly_closed old.writer new.writer) h
    (makes-first error moment old.mail.tree old.writer.shown line noted (length old.writer.acked + length h.made) h.made h.in_flight said
    (closed-asks error (parse_line line) line.input old moment old.mail new.mail noted new.mail.faults (newly_closed old.writer new.writer) h.cause h.unasked) h.makes)
    (cause-well error (parse_line line) line.input old moment noted new.mail.faults (newly_closed old.writer new.writer) said h.cause) asks
write-refused moment old new line noted error (Ok done) h asks said =
    subst (λ (d : LineAnswer). Ends moment old line noted (Ok d) new) (sym said) (h, refused-said moment old new line noted (outcome_of error) (error-ill error))

-- one that went well, and found no memory for its text
pub write-no-memory : (moment : ℤ) (old new : Place) (line : ScriptLine) (noted : List Given) → IsLineAnswer moment old line noted outcomes.Ok (newly_closed old.writer new.writer) new
    → AsksMail outcomes.NoMemory (parse_line line) old.writer.shown moment old.left old.mail new.mail noted → IsLineAnswer moment old line noted outcomes.NoMemory (newly_closed old.writer new.writer) new
write-no-memory moment old new line noted h asks =
    without moment old new line noted outcomes.Ok (newly_closed old.writer new.writer) h
    (well-then-none moment old.mail.tree old.writer.shown line noted (length old.writer.acked + length h.made) h.made h.in_flight h.makes) h.cause.2.disk_well asks
