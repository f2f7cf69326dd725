-- How a line ends that sets tags, from what the writer did. For the proof of `change_tags`.
use Rattle.std.proofs.Common.{◌≡◌, ◌⊎◌, inl, inr, ℕ, ℤ, ◌+◌, true, false, List, [], ◌∷◌, ◌++◌, Option, None, Some, IfOk, IfSome, IsSome, is_some, Result, Ok, Err, drop, fold, length, map, refl, sym, ap, ◌∙◌, subst, append-nil, append_assoc, arith}
use Rattle.std.proofs.lemmas.List.{append_cancel_left, drop_all, length-append}
use Rattle.std.specs.Option.{option_map}
use Rattle.nm_model_answer.specs.Answer.{answer}
use Rattle.nm_model_answer.specs.Changes.{change_answer, strangers_for, wanted_for}
use Rattle.nm_log.specs.Kind.{Kind, ReadsIndex, SetsTags, ShowsFiles, TakesMail, kind_of}
use Rattle.nm_model_answer.specs.RenameOutcomes.{renames_for, sync_report, sync_text}
use Rattle.nm_model_answer.specs.Restore.{strangers_text}
use Rattle.nm_model_answer.specs.declared.request.Request.{Request}
use Rattle.nm_model_answer.specs.declared.request.Request.TheVariants as requests
use Rattle.nm_model_answer.specs.declared.sync_report.SyncReport.{SyncReport}
use Rattle.nm_base.specs.declared.memory.NoMemory.{NoMemory}
use Rattle.nm_commit.specs.declared.change.Commit.{Commit}
use Rattle.nm_faults.specs.Faults.{Counts, HasCauseOf}
use Rattle.nm_history.specs.Given.{AsksBy, AsksMail, AsksNothing}
use Rattle.nm_history.specs.LineAnswers.{NoneFailed}
use Rattle.nm_history.specs.LineCommits.{AreDue, FindsBy, FindsFor, FindsRenames, MakesBefore, MakesBy, MakesTags, MayFailBy, MayFailWith, RenamesAfterBy, RenamesComeAfterTags, renames_left}
use Rattle.nm_history.specs.LineResult.{Place, before_at}
use Rattle.nm_history.specs.Lines.{given_in, tree_after_line, tree_by}
use Rattle.nm_history.specs.Requests.{asks_folder, first_refusal, is_asking, is_tagging, is_writing, refused_closed, refused_found, refused_reading, refused_text_of, refused_unasked, sets_tags, writes_index}
use Rattle.nm_model_index.specs.Fits.{FitInTurn}
use Rattle.nm_model_index.specs.Index.{committed, folded}
use Rattle.nm_model_index.specs.declared.base.Base.{Base}
use Rattle.nm_lanes.specs.declared.script.ScriptLine.{ScriptLine}
use Rattle.nm_log.specs.ParsedLine.{parse_line}
use Rattle.nm_log.specs.declared.line_parser.ParsedLine.{ParsedLine}
use Rattle.nm_log.specs.declared.line_parser.ParsedLine.TheVariants as asked
use Rattle.nm_log.specs.declared.outcome.Outcome.{Outcome}
use Rattle.nm_log.specs.declared.outcome.Outcome.TheVariants as outcomes
use Rattle.nm_maildir.specs.Observed.{ObservedMail}
use Rattle.nm_maildir.specs.Tree.{Tree}
use Rattle.nm_maildir.specs.declared.given.Given.{Given}
use Rattle.nm_maildir.specs.declared.given.Given.TheVariants as given
use Rattle.nm_model_plan.specs.Moves.{HasDoneAll, HasTried, move_commit, tag_commits}
use Rattle.nm_model_plan.specs.Plan.{due_commits}
use Rattle.nm_model_plan.specs.TagCommit.{tag_commit}
use Rattle.nm_publish.specs.Published.{Published}
use Rattle.nm_scan.specs.Bodies.{left_after}
use Rattle.nm_line.specs.Line.{Ends, IsEven, IsLineAnswer, newly_closed, replied_with}
use Rattle.nm_line.specs.Outcomes.{outcome_of}
use Rattle.nm_line.specs.declared.line_answer.LineAnswer.{LineAnswer}
use Rattle.nm_line.proofs.AnswerLemmas.{replied-said}
use Rattle.nm_line.proofs.ChangeLemmas.{alive-asks, alive-by, answered-with, closed-by, fit-front, folded-append, gets-closed, made-failing, made-none, made-some, passed-by, stays-open, write-no-memory}
use Rattle.nm_sync.specs.Renamed.{AnswersAlong, AsksRenames, TreesAlong}
use Rattle.nm_writer.specs.Tagged.{IsAfterTags, SetsTagsFirst}
use Rattle.nm_writer.specs.Writer.{WriterState}
use Rattle.nm_writer.specs.AfterCommit.{AreWithin, FailsWithin, HasCommitted, IsAfterCommits, PassesWithin, StopsWithin, is_read_fault, with_commits}
use Rattle.nm_writer.specs.declared.write_error.WriteError.{WriteError}
use Rattle.nm_writer.specs.declared.write_error.WriteError.TheVariants as errors

-- the tree after renames

along : (tree after : Tree) (noted : List Given) → AnswersAlong tree noted after → after ≡ fold given_in tree noted
along tree after [] h = h
along tree after (given.Listed paths ∷ noted) h = absurd h
along tree after (given.Read path answer ∷ noted) h = absurd h
along tree after (given.Renamed from to answer ∷ noted) h = along (given_in tree (given.Renamed from to answer)) after noted h.1

trees-along : (old new : Option Tree) (noted : List Given) → TreesAlong old noted new → new ≡ option_map (λ t. fold given_in t noted) old
trees-along None new noted h = h
trees-along (Some tree) new noted h = h.1 ∙ ap (λ (t : Tree). Some t) (along tree h.0 noted h.2)

tree-is : (old new : Option Tree) (more noted : List Given) → noted ≡ [] ++ more → TreesAlong old more new → new ≡ option_map (λ t. fold given_in t noted) old
tree-is old new more noted same h = subst (λ (l : List Given). new ≡ option_map (λ t. fold given_in t l) old) (sym same) (trees-along old new more h)

-- the renames that are left

none-left : (index wanted : Base) (noted : List Given) → HasDoneAll index wanted noted → [] ≡ renames_left index wanted noted
none-left index wanted noted all =
    sym (ap (λ n. map (λ rename. rename.from) (drop n (renames_for index wanted))) all
    ∙ ap (map (λ rename. rename.from)) (drop_all (length (renames_for index wanted)) (renames_for index wanted) (omega arith)))

-- commits after others

within-then : (made : ℕ) (index : Base) (first more : List Commit) → AreWithin made index first → AreWithin (made + length first) (folded index first) more → AreWithin made index (first ++ more)
within-then made index [] more h k = let none : made + 0 ≡ made = omega arith in subst (λ n. AreWithin n index more) none k
within-then made index (commit ∷ first) more h k =
    let one : made + length (commit ∷ first) ≡ (made + 1) + length first = omega arith in
    (h.0, within-then (made + 1) (committed index commit) first more h.1 (subst (λ n. AreWithin n (folded (committed index commit) first) more) one k))

published-then : (old mid new : Published) (first more : List Commit) → mid ≡ with_commits old first → new ≡ with_commits mid more → new ≡ with_commits old (first ++ more)
published-then old mid new first more h k =
    k ∙ (ap (λ (p : Published). with_commits p more) h ∙ ap (λ (l : List Commit). record old { commits = l }) (append_assoc old.commits first more))

within-after : (old mid : WriterState) (first more : List Commit) → HasCommitted old first mid → AreWithin (length mid.begun) mid.shown more → AreWithin (length old.begun) old.shown (first ++ more)
within-after old mid first more h k =
    let count : length mid.begun ≡ length old.begun + length first = ap (λ (l : List Commit). length l) h.begun ∙ length-append old.begun first in
    within-then (length old.begun) old.shown first more h.within
    (subst (λ n. AreWithin n (folded old.shown first) more) count (subst (λ (b : Base). AreWithin (length mid.begun) b more) h.shown k))

committed-then : (old mid new : WriterState) (first more : List Commit) → HasCommitted old first mid → HasCommitted mid more new → HasCommitted old (first ++ more) new
committed-then old mid new first more h k = record {
  within = within-after old mid first more h k.within;
  published = published-then old.published mid.published new.published first more h.published k.published;
  shown = k.shown ∙ (ap (λ (i : Base). folded i more) h.shown ∙ sym (folded-append old.shown first more));
  begun = k.begun ∙ (ap (λ (l : List Commit). l ++ more) h.begun ∙ append_assoc old.begun first more);
  clocks = h.clocks ++ k.clocks;
  acked = k.acked ∙ (ap (λ (l : List ℕ). l ++ k.clocks) h.acked ∙ append_assoc old.acked h.clocks k.clocks);
  each = length-append h.clocks k.clocks ∙ (ap (λ n. n + length k.clocks) h.each ∙ (ap (λ n. length first + n) k.each ∙ sym (length-append first more)));
  closed = k.closed ∙ h.closed;
}

abbrev failing-then : (old mid new : WriterState) (first more : List Commit) (faults : ℕ) → HasCommitted old first mid → FailsWithin mid more faults new → FailsWithin old (first ++ more) faults new
failing-then old mid new first more faults h k = record {
  within = subst (AreWithin (length old.begun) old.shown) (sym (append_assoc first k.done (k.commit ∷ []))) (within-after old mid first (k.done ++ k.commit ∷ []) h k.within);
  published = published-then old.published mid.published new.published first k.done h.published k.published;
  done = first ++ k.done;
  commit = k.commit;
  more = k.more;
  due_are = ap (λ (l : List Commit). first ++ l) k.due_are ∙ sym (append_assoc first k.done (k.commit ∷ k.more));
  shown = k.shown ∙ (ap (λ (i : Base). folded i k.done) h.shown ∙ sym (folded-append old.shown first k.done));
  begun = k.begun ∙ (ap (λ (l : List Commit). l ++ (k.done ++ k.commit ∷ [])) h.begun ∙ (append_assoc old.begun first (k.done ++ k.commit ∷ [])
      ∙ ap (λ (l : List Commit). old.begun ++ l) (sym (append_assoc first k.done (k.commit ∷ [])))));
  clocks = h.clocks ++ k.clocks;
  acked = k.acked ∙ (ap (λ (l : List ℕ). l ++ k.clocks) h.acked ∙ append_assoc old.acked h.clocks k.clocks);
  each = length-append h.clocks k.clocks ∙ (ap (λ n. n + length k.clocks) h.each ∙ (ap (λ n. length first + n) k.each ∙ sym (length-append first k.done)));
  closed = k.closed;
}

-- what sets tags, whichever request does

-- it is of one kind
pub tags-kind : (kind : Kind) → sets_tags kind ≡ true → kind ≡ SetsTags
tags-kind TakesMail tags = absurd (cc)
tags-kind ReadsIndex tags = absurd (cc)
tags-kind (ShowsFiles ask) tags = absurd (cc)
tags-kind SetsTags tags = refl

-- what holds of the kind holds of the request
by-kind : (holds : Kind → Type 0) (request : Request) → is_tagging request ≡ true → holds SetsTags → holds (kind_of request)
by-kind holds request tags h = subst holds (sym (tags-kind (kind_of request) tags)) h

-- it finds the renames that were tried, and those that are left
finds-in : (request : Request) → is_tagging request ≡ true → (input : List ℕ) (moment : ℤ) (tree : Option Tree) (index : Base) (noted : List Given) (left : List (List ℕ))
    → FindsRenames index (wanted_for request input moment index) noted left → FindsFor request input moment tree index noted [] left
finds-in request tags input moment tree index noted left h = by-kind (λ kind. FindsBy kind request input moment tree index noted [] left) request tags (refl, h)

-- the commit of the tags is due to it, and that of the moves
due-in : (request : Request) → is_tagging request ≡ true → (input : List ℕ) (moment : ℤ) (index : Base) (noted : List Given) (left : List (List ℕ)) → tag_commits index (wanted_for request input moment index) noted ≡ due_commits request input moment index noted [] left
due-in requests.New tags input moment index noted left = absurd (cc)
due-in (requests.Count ask) tags input moment index noted left = absurd (cc)
due-in (requests.Search ask) tags input moment index noted left = absurd (cc)
due-in (requests.Dump ask) tags input moment index noted left = absurd (cc)
due-in (requests.Show ask) tags input moment index noted left = absurd (cc)
due-in (requests.Tag ask) tags input moment index noted left = refl
due-in (requests.Restore ask) tags input moment index noted left = refl

-- what it makes before the folder fails
makes-in : (request : Request) → is_tagging request ≡ true → (input : List ℕ) (moment : ℤ) (index : Base) (noted : List Given) (due made in_flight : List Commit)
    → MakesTags index (wanted_for request input moment index) noted made in_flight → MakesBefore request input moment index noted due made in_flight
makes-in request tags input moment index noted due made in_flight h = by-kind (λ kind. MakesBy kind request input moment index noted due made in_flight) request tags h

-- the folder may fail in it with any paths left
may-fail-in : (request : Request) → is_tagging request ≡ true → (left : List (List ℕ)) → MayFailWith request left
may-fail-in request tags left = by-kind (λ kind. MayFailBy kind left) request tags tt

-- it asks the folder for renames
asks-in : (request : Request) → is_tagging request ≡ true → (outcome : Outcome) (index : Base) (moment : ℤ) (left : ℕ) (old new : ObservedMail) (noted : List Given)
    → AsksRenames old new [] noted → AsksMail outcome (asked.Request request) index moment left old new noted
asks-in request tags outcome index moment left old new noted h = by-kind (λ kind. AsksBy kind outcome index moment left old new noted) request tags h

-- its renames come after the commit of its tags: what was made is what was published since
renames-by : (wanted : Base) (noted : List Given) (made : List Commit) (old new : WriterState) → SetsTagsFirst wanted noted old new → new.published ≡ with_commits old.published made
    → (noted ≡ []) ⊎ ((moves : List Commit) × (made ≡ tag_commit old.shown wanted ++ moves))
renames-by wanted noted made old new (inl none) published = inl none
renames-by wanted noted made old new (inr (moves, first)) published =
    inr (moves, append_cancel_left old.published.commits made (tag_commit old.shown wanted ++ moves) (ap (λ (p : Published). p.commits) (sym published ∙ first)))

renames-in : (request : Request) → is_tagging request ≡ true → (input : List ℕ) (moment : ℤ) (noted : List Given) (made : List Commit) (old new : WriterState)
    → SetsTagsFirst (wanted_for request input moment old.shown) noted old new → new.published ≡ with_commits old.published made → RenamesComeAfterTags (asked.Request request) input moment old.shown noted made
renames-in request tags input moment noted made old new h published =
    by-kind (λ kind. RenamesAfterBy kind request input moment old.shown noted made) request tags (renames-by (wanted_for request input moment old.shown) noted made old new h published)

-- the tree after it is the one that the renames leave
after-in : (request : Request) → is_tagging request ≡ true → (noted : List Given) (tree : Option Tree) → option_map (λ t. fold given_in t noted) tree ≡ tree_after_line (asked.Request request) noted tree
after-in request tags noted tree = by-kind (λ kind. option_map (λ t. fold given_in t noted) tree ≡ tree_by kind noted tree) request tags refl

-- it may ask the folder, and change the index
asking-in : (request : Request) → is_tagging request ≡ true → is_asking request ≡ true
asking-in request tags = by-kind (λ kind. asks_folder kind ≡ true) request tags refl

writing-in : (request : Request) → is_tagging request ≡ true → is_writing request ≡ true
writing-in request tags = by-kind (λ kind. writes_index kind ≡ true) request tags refl

-- nothing that it reads refuses it
reads-in : (request : Request) → is_tagging request ≡ true → (index : Base) (moment : ℤ) (left : ℕ) (noted : List Given) → refused_reading (asked.Request request) index moment left noted ≡ None
reads-in request tags index moment left noted = by-kind (λ kind. refused_found kind index moment left noted ≡ None) request tags refl

-- its answer tells what is no message, and what keeps its name
answers-in : (request : Request) → is_tagging request ≡ true → (input : List ℕ) (before index : Base) (moment : ℤ) (noted : List Given) → change_answer request input before moment noted ≡ answer request input before index moment noted
answers-in requests.New tags input before index moment noted = absurd (cc)
answers-in (requests.Count ask) tags input before index moment noted = absurd (cc)
answers-in (requests.Search ask) tags input before index moment noted = absurd (cc)
answers-in (requests.Dump ask) tags input before index moment noted = absurd (cc)
answers-in (requests.Show ask) tags input before index moment noted = absurd (cc)
answers-in (requests.Tag ask) tags input before index moment noted = refl
answers-in (requests.Restore ask) tags input before index moment noted = refl

-- on a closed index it asks nothing
closed-only : (request : Request) → is_tagging request ≡ true → (input : List ℕ) (closed : Option ℕ) → refused_text_of request input ≡ None → refused_unasked (asked.Request request) input closed ≡ refused_closed closed true
closed-only request tags input closed right = ap (λ (r : Option Outcome). first_refusal r (refused_closed closed (is_writing request))) right ∙ ap (refused_closed closed) (writing-in request tags)

unasked-by : (Q : Type 0) (closed : Option ℕ) (wanted : Base) (noted : List Given) (old new : WriterState) (faults : ℕ) (result : Result SyncReport WriteError) (old_mail new_mail : ObservedMail)
    → IsAfterTags wanted noted old faults result new → IfSome closed (λ fault. (result ≡ Err (errors.Closed fault)) × (new_mail ≡ old_mail) × Q) → IsSome (refused_closed closed true) → AsksNothing old_mail new_mail noted
unasked-by Q None wanted noted old new faults result old_mail new_mail after shut refused = absurd (cc)
unasked-by Q (Some fault) wanted noted old new faults result old_mail new_mail after shut refused =
    let ended = subst (λ (r : Result SyncReport WriteError). IsAfterTags wanted noted old faults r new) shut.0 after in
    record { given_is = ended.1; same = shut.1 }

pub tag-unasked : (Q : Type 0) (request : Request) → is_tagging request ≡ true → (input : List ℕ) (closed : Option ℕ) (wanted : Base) (noted : List Given) (old new : WriterState) (faults : ℕ) (result : Result SyncReport WriteError) (old_mail new_mail : ObservedMail)
    → refused_text_of request input ≡ None → IsAfterTags wanted noted old faults result new → IfSome closed (λ fault. (result ≡ Err (errors.Closed fault)) × (new_mail ≡ old_mail) × Q)
    → IsSome (refused_unasked (asked.Request request) input closed) → AsksNothing old_mail new_mail noted
tag-unasked Q request tags input closed wanted noted old new faults result old_mail new_mail right after shut refused =
    unasked-by Q closed wanted noted old new faults result old_mail new_mail after shut (subst (λ (r : Option Outcome). IsSome r) (closed-only request tags input closed right) refused)

module _ (moment : ℤ) (old new : Place) (line : ScriptLine) (noted : List Given) (request : Request) (kind : is_tagging request ≡ true) (is : parse_line line ≡ asked.Request request) (left : new.left ≡ left_after old.left noted)
    (right : refused_text_of request line.input ≡ None) (asks : AsksRenames old.mail new.mail [] noted)
    (unasked : IsSome (refused_unasked (asked.Request request) line.input old.writer.closed) → AsksNothing old.mail new.mail noted)
    (renames : SetsTagsFirst (wanted_for request line.input moment old.writer.shown) noted old.writer new.writer)
    (fits : HasTried old.writer.shown (wanted_for request line.input moment old.writer.shown) noted → FitInTurn old.writer.shown (tag_commits old.writer.shown (wanted_for request line.input moment old.writer.shown) noted)) where
  abbrev index : Base
  index = old.writer.shown

  abbrev wanted : Base
  wanted = wanted_for request line.input moment old.writer.shown

  abbrev due : List Commit
  due = tag_commits old.writer.shown (wanted_for request line.input moment old.writer.shown) noted

  abbrev are-due : (rest : List (List ℕ)) → HasTried index wanted noted → rest ≡ renames_left index wanted noted → AreDue moment old.mail.tree index line noted rest due
  are-due rest tried are =
      record {
        request = request;
        asked_for = is;
        batches = [];
        found = finds-in request kind line.input moment old.mail.tree index noted rest (record { tried = tried; left_are = are });
        due_are = due-in request kind line.input moment index noted rest;
      }

  tree : new.mail.tree ≡ tree_after_line (asked.Request request) noted old.mail.tree
  tree = tree-is old.mail.tree new.mail.tree asks.more noted asks.given_is asks.tree ∙ after-in request kind noted old.mail.tree

  asks-so : (outcome : Outcome) → AsksMail outcome (asked.Request request) index moment old.left old.mail new.mail noted
  asks-so outcome = asks-in request kind outcome index moment old.left old.mail new.mail noted asks

  renames-so : (made : List Commit) → new.writer.published ≡ with_commits old.writer.published made → RenamesComeAfterTags (asked.Request request) line.input moment index noted made
  renames-so made published = renames-in request kind line.input moment noted made old.writer new.writer renames published

  pub asks-as : (outcome : Outcome) → AsksMail outcome (parse_line line) index moment old.left old.mail new.mail noted
  asks-as outcome = subst (λ (p : ParsedLine). AsksMail outcome p index moment old.left old.mail new.mail noted) (sym is) (asks-so outcome)

  may-ask : (closed : Option ℕ) → refused_closed closed true ≡ None → refused_unasked (asked.Request request) line.input closed ≡ None
  may-ask closed alive =
      ap (λ (r : Option Outcome). first_refusal r (refused_closed closed (is_writing request))) right
      ∙ (ap (refused_closed closed) (writing-in request kind) ∙ alive)

  none-failed : new.mail.faults ≡ old.mail.faults → NoneFailed (before_at old).mail_faults new.mail.faults false
  none-failed same = record { mail_same = same; disk_well = refl }

  still : (same : new.writer.closed ≡ old.writer.closed) → newly_closed old.writer new.writer ≡ false
  still same = stays-open old.writer new.writer same

  -- the disk's count is the same where the writer is still open
  stands-by : (closed : Option ℕ) → closed ≡ None → Counts (is_some closed) old.disk_faults new.disk_faults → new.disk_faults ≡ old.disk_faults
  stands-by None alive h = h
  stands-by (Some fault) alive h = absurd (cc)

  rises-by : (closed : Option ℕ) (faults : ℕ) → closed ≡ Some faults → Counts (is_some closed) old.disk_faults new.disk_faults → Counts true old.disk_faults new.disk_faults
  rises-by None faults shut h = absurd (cc)
  rises-by (Some fault) faults shut h = h

  -- after a fault of the folder, by what became of the commit of the moves
  module _ (alive : old.writer.closed ≡ None) (even : IsEven old.writer) (tried : HasTried index wanted noted)
      (mid : WriterState) (tags : HasCommitted old.writer (tag_commit index wanted) mid) (mail : Counts true old.mail.faults new.mail.faults) (disk : Counts (is_some new.writer.closed) old.disk_faults new.disk_faults) where
    faulted : (moves more : List Commit) → move_commit noted ≡ moves ++ more → HasCommitted mid moves new.writer → IsLineAnswer moment old line noted outcomes.MailFault (newly_closed old.writer new.writer) new
    faulted moves more order made =
        let all : HasCommitted old.writer (tag_commit index wanted ++ moves) new.writer = committed-then old.writer mid new.writer (tag_commit index wanted) moves tags made in
        let whole : due ≡ (tag_commit index wanted ++ moves) ++ more = ap (λ (l : List Commit). tag_commit index wanted ++ l) order ∙ sym (append_assoc (tag_commit index wanted) moves more) in
        answered-with moment old new line noted request is left asks-so tree unasked renames-so outcomes.MailFault (tag_commit index wanted ++ moves) [] false (still all.closed)
        (made-some old.writer new.writer (tag_commit index wanted ++ moves) all alive even (fit-front index (tag_commit index wanted ++ moves) more (subst (FitInTurn index) whole (fits tried))))
        (inr (record {
          left = renames_left index wanted noted;
          due = due;
          are_due = are-due (renames_left index wanted noted) tried refl;
          may_fail = may-fail-in request kind (renames_left index wanted noted);
          makes = makes-in request kind line.input moment index noted due (tag_commit index wanted ++ moves) [] (record { moves = moves; more = more; made_are = refl; order = sym order });
        })) refl all.closed mail.0 (stands-by new.writer.closed (all.closed ∙ alive) disk)
        (may-ask old.writer.closed (alive-asks old.writer.closed alive), asking-in request kind, mail, λ (failed : false ≡ true). absurd (cc))

    failed-moves : FailsWithin mid (move_commit noted) new.disk_faults new.writer → IsLineAnswer moment old line noted outcomes.MailFault (newly_closed old.writer new.writer) new
    failed-moves h =
        let all : FailsWithin old.writer due new.disk_faults new.writer = failing-then old.writer mid new.writer (tag_commit index wanted) (move_commit noted) new.disk_faults tags h in
        answered-with moment old new line noted request is left asks-so tree unasked renames-so outcomes.MailFault all.done (all.commit ∷ []) true (gets-closed old.writer new.writer new.disk_faults alive all.closed)
        (made-failing old.writer new.writer due new.disk_faults all alive even (fits tried))
        (inr (record {
          left = renames_left index wanted noted;
          due = due;
          are_due = are-due (renames_left index wanted noted) tried refl;
          may_fail = may-fail-in request kind (renames_left index wanted noted);
          makes = makes-in request kind line.input moment index noted due all.done (all.commit ∷ []) (record { moves = h.done; more = h.more; made_are = refl; order = sym h.due_are });
        })) refl all.closed mail.0 (rises-by new.writer.closed new.disk_faults all.closed disk)
        (may-ask old.writer.closed (alive-asks old.writer.closed alive), asking-in request kind, mail, λ (failed : true ≡ true). kind)

    by-moves : (outcome : Result (Unit {0}) WriteError) → IsAfterCommits mid (move_commit noted) new.disk_faults outcome new.writer → IsLineAnswer moment old line noted outcomes.MailFault (newly_closed old.writer new.writer) new
    by-moves (Ok done) h = faulted (move_commit noted) [] (sym (append-nil (move_commit noted))) h
    by-moves (Err errors.MailFault) h = absurd h
    by-moves (Err errors.DiskFault) h = failed-moves h
    by-moves (Err (errors.Closed fault)) h = absurd h
    by-moves (Err (errors.Limit limit)) h = faulted h.done (h.commit ∷ h.more) h.due_are h.made
    by-moves (Err errors.NoMemory) h = faulted h.done h.more h.due_are h.made

  -- how it ended
  abbrev pub outcome_by : Result SyncReport WriteError → Outcome
  outcome_by (Ok report) = outcomes.Ok
  outcome_by (Err error) = outcome_of error

  pub tag-answered : (P Q : Type 0) (result : Result SyncReport WriteError) → IsAfterTags wanted noted old.writer new.disk_faults result new.writer
      → IfSome old.writer.closed (λ fault. (result ≡ Err (errors.Closed fault)) × P × Q)
      → HasCauseOf is_read_fault old.mail.faults new.mail.faults result → (old.writer.closed ≡ None → Counts (is_some new.writer.closed) old.disk_faults new.disk_faults)
      → (Q → new.disk_faults ≡ old.disk_faults) → IsEven old.writer
      → IsLineAnswer moment old line noted (outcome_by result) (newly_closed old.writer new.writer) new
  tag-answered P Q (Ok report) after shut mail disk idle even =
      let alive : old.writer.closed ≡ None = alive-by old.writer.closed (Ok report) P Q shut refl in
      answered-with moment old new line noted request is left asks-so tree unasked renames-so outcomes.Ok due [] false (still after.2.closed)
      (made-some old.writer new.writer due after.2 alive even (fits after.0)) (are-due [] after.0 (none-left index wanted noted after.1), refl) refl after.2.closed (omega (arith, mail))
      (stands-by new.writer.closed (after.2.closed ∙ alive) (disk alive))
      (may-ask old.writer.closed (alive-asks old.writer.closed alive), reads-in request kind index moment old.left noted, none-failed mail)
  tag-answered P Q (Err errors.MailFault) after shut mail disk idle even =
      let alive : old.writer.closed ≡ None = alive-by {T = SyncReport} old.writer.closed (Err errors.MailFault) P Q shut refl in
      by-moves alive even after.0 after.1.0 after.1.1 mail (disk alive) after.1.2.outcome after.1.2.after
  tag-answered P Q (Err errors.DiskFault) after shut mail disk idle even =
      let alive : old.writer.closed ≡ None = alive-by {T = SyncReport} old.writer.closed (Err errors.DiskFault) P Q shut refl in
      let fails : FailsWithin old.writer due new.disk_faults new.writer = after.1 in
      answered-with moment old new line noted request is left asks-so tree unasked renames-so outcomes.DiskFault fails.done (fails.commit ∷ []) true (gets-closed old.writer new.writer new.disk_faults alive fails.closed)
      (made-failing old.writer new.writer due new.disk_faults fails alive even (fits after.0))
      (fails.commit, record { left = renames_left index wanted noted; due = due; are_due = are-due (renames_left index wanted noted) after.0 refl; more = fails.more; order = fails.due_are }, refl)
      refl fails.closed (omega (arith, mail)) (rises-by new.writer.closed new.disk_faults fails.closed (disk alive))
      (may-ask old.writer.closed (alive-asks old.writer.closed alive), writing-in request kind, mail, refl)
  tag-answered P Q (Err (errors.Closed fault)) after shut mail disk idle even =
      answered-with moment old new line noted request is left asks-so tree unasked renames-so (outcomes.Closed fault) [] [] false (still (ap (λ (w : WriterState). w.closed) after.2))
      (made-none old.writer new.writer after.2) (record { made_are = refl; in_flight_is = refl }) refl (ap (λ (w : WriterState). w.closed) after.2) (omega (arith, mail)) (idle (closed-by {T = SyncReport} old.writer.closed fault (Err (errors.Closed fault)) P Q after.0 shut)) (
        ap (λ (r : Option Outcome). first_refusal r (refused_closed old.writer.closed (is_writing request))) right
            ∙ (ap (refused_closed old.writer.closed) (writing-in request kind) ∙ ap (λ (c : Option ℕ). refused_closed c true) after.0),
        none-failed mail,
      )
  tag-answered P Q (Err (errors.Limit limit)) after shut mail disk idle even =
      let alive : old.writer.closed ≡ None = alive-by {T = SyncReport} old.writer.closed (Err (errors.Limit limit)) P Q shut refl in
      let passes : PassesWithin old.writer due limit new.writer = after.1 in
      answered-with moment old new line noted request is left asks-so tree unasked renames-so (outcomes.Limit limit) passes.done [] false (still passes.made.closed)
      (made-some old.writer new.writer passes.done passes.made alive even (fit-front index passes.done (passes.commit ∷ passes.more) (subst (FitInTurn index) passes.due_are (fits after.0)))) (
        inr (
          passes.commit,
          record { left = renames_left index wanted noted; due = due; are_due = are-due (renames_left index wanted noted) after.0 refl; more = passes.more; order = passes.due_are },
          passed-by old.writer new.writer passes.done passes.commit limit passes.made alive even passes.passed,
        ),
        refl,
      )
      refl passes.made.closed (omega (arith, mail)) (stands-by new.writer.closed (passes.made.closed ∙ alive) (disk alive))
      (inr (inr (may-ask old.writer.closed (alive-asks old.writer.closed alive), writing-in request kind)), none-failed mail)
  tag-answered P Q (Err errors.NoMemory) after shut mail disk idle even =
      let alive : old.writer.closed ≡ None = alive-by {T = SyncReport} old.writer.closed (Err errors.NoMemory) P Q shut refl in
      let stops : StopsWithin old.writer due new.writer = after.1 in
      answered-with moment old new line noted request is left asks-so tree unasked renames-so outcomes.NoMemory stops.done [] false (still stops.made.closed)
      (made-some old.writer new.writer stops.done stops.made alive even (fit-front index stops.done stops.more (subst (FitInTurn index) stops.due_are (fits after.0))))
      (inr (renames_left index wanted noted, due, stops.more, are-due (renames_left index wanted noted) after.0 refl, stops.due_are), refl)
      refl stops.made.closed (omega (arith, mail)) (stands-by new.writer.closed (stops.made.closed ∙ alive) (disk alive)) refl

  -- what is said that went well
  pub tag-ends : (report : SyncReport) (named : List (List ℕ)) (result : Result LineAnswer NoMemory) → IsLineAnswer moment old line noted outcomes.Ok (newly_closed old.writer new.writer) new
      → report ≡ sync_report index wanted noted → named ≡ strangers_for request line.input index → IfOk result (λ done. done ≡ replied_with request (strangers_text named ++ sync_text report)) → Ends moment old line noted result new
  tag-ends report named (Err error) h reported strange said = write-no-memory moment old new line noted h (asks-as outcomes.NoMemory)
  tag-ends report named (Ok done) h reported strange said =
      let text = ap (λ (r : SyncReport). strangers_text named ++ sync_text r) reported ∙ ap (λ (l : List (List ℕ)). strangers_text l ++ sync_text (sync_report index wanted noted)) strange in
      subst (λ (d : LineAnswer). Ends moment old line noted (Ok d) new) (sym said)
      (h, replied-said moment old new line noted request (strangers_text named ++ sync_text report) is (text ∙ answers-in request kind line.input index new.writer.shown moment noted))
