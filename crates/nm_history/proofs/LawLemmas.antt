-- The laws of single lines and of the status.
-- For the proofs of `a_disk_fault_is_the_status`, `a_mail_fault_is_the_status`, `an_index_at_a_revision_is_one` and others.
use Rattle.std.proofs.Common.{◌≡◌, ◌⊎◌, ℕ, ℤ, Bool, true, false, List, [], ◌∷◌, ◌++◌, Option, None, Some, Result, Ok, Err, length, refl, sym, ap, ◌∙◌, arith, inl, inr}
use Rattle.nm_commit.specs.declared.change.Commit.{Commit}
use Rattle.nm_model_index.specs.Index.{folded}
use Rattle.nm_model_index.specs.declared.base.Base.{Base}
use Rattle.nm_log.specs.declared.line_parser.ParsedLine.{ParsedLine}
use Rattle.nm_log.specs.declared.line_parser.ParsedLine.TheVariants as asked
use Rattle.nm_log.specs.declared.log.LineLog.{LineLog}
use Rattle.nm_log.specs.declared.outcome.Outcome.{Outcome}
use Rattle.nm_log.specs.declared.outcome.Outcome.TheVariants as outcomes
use Rattle.nm_model_machine.specs.declared.step.Step.{Step}
use Rattle.nm_maildir.specs.declared.given.Given.{Given}
use Rattle.nm_tags.specs.declared.line_error.LineKind.{LineKind}
use Rattle.nm_history.specs.LineAnswers.{HasCause}
use Rattle.nm_history.specs.Lines.{Before, IsIndexAt}
use Rattle.nm_history.specs.Requests.{asks_to_write, first_bad_line, first_refusal, is_writing, own_query, refused_closed, refused_line, refused_query, refused_text, refused_text_in, refused_text_of, refused_unasked}
use Rattle.nm_query.specs.Answers.{answer_of}
use Rattle.nm_query.specs.declared.query.Query.{Query}
use Rattle.nm_query.specs.declared.query_error.QueryError.{QueryError}
use Rattle.nm_query.specs.declared.query_error.QueryError.TheVariants as query_errors
use Rattle.nm_history.specs.Status.{any_is_out_of_memory, fault_of, fault_or, first_fault, session_status, status_of_fault, write_fault}

-- beginnings of one list with one length are one
same-front : (xs ys more others : List Commit) → xs ++ more ≡ ys ++ others → length xs ≡ length ys → xs ≡ ys
same-front [] [] more others e n = refl
same-front [] (y ∷ ys) more others e n = absurd (omega arith)
same-front (x ∷ xs) [] more others e n = absurd (omega arith)
same-front (x ∷ xs) (y ∷ ys) more others e n =
    let rest : xs ≡ ys = same-front xs ys more others (cc) (omega arith) in
    let first : x ≡ y = cc in
    ap (λ (c : Commit). c ∷ xs) first ∙ ap (λ (l : List Commit). y ∷ l) rest

pub one-index : (opening : Base) (steps : List Step) (revision : ℕ) (one other : Base) → IsIndexAt opening steps revision one → IsIndexAt opening steps revision other → one ≡ other
one-index opening steps revision one other h k =
    h.index_is
    ∙ ap (folded opening) (same-front h.front k.front h.more k.more (sym h.begun_are ∙ k.begun_are) (omega (arith, h.revision_is, k.revision_is)))
    ∙ sym k.index_is

-- what is refused after a fault of the disk
closed-when : (refused : Option Outcome) (writing : Bool) (fault : ℕ) → refused ≡ None → writing ≡ true → first_refusal refused (refused_closed (Some fault) writing) ≡ Some (outcomes.Closed fault)
closed-when None true fault none writes = refl
closed-when None false fault none writes = absurd (cc)
closed-when (Some outcome) writing fault none writes = absurd (cc)

closed-to : (line : ParsedLine) (input : List ℕ) (fault : ℕ) → asks_to_write line ≡ true → refused_text_in line input ≡ None → refused_unasked line input (Some fault) ≡ Some (outcomes.Closed fault)
closed-to (asked.Request request) input fault writes right = closed-when (refused_text_of request input) (is_writing request) fault right writes
closed-to (asked.Usage word kind) input fault writes right = absurd (cc)

refused-is : (line : ParsedLine) (input : List ℕ) (closed : Option ℕ) (fault : ℕ) → closed ≡ Some fault → asks_to_write line ≡ true → refused_text_in line input ≡ None
    → refused_unasked line input closed ≡ Some (outcomes.Closed fault)
refused-is line input closed fault e writes right = ap (refused_unasked line input) e ∙ closed-to line input fault writes right

clash : (outcome : Outcome) (refused : Option Outcome) → refused ≡ None → refused ≡ Some outcome → ⊥
clash outcome refused none some = absurd (cc)

-- another refusal than that of a closed index
other-refusal : (refused : Option Outcome) (outcome : Outcome) (fault : ℕ) → refused ≡ Some (outcomes.Closed fault) → refused ≡ Some outcome → outcome ≡ outcomes.Closed fault
other-refusal refused outcome fault closed is = let same : Some outcome ≡ Some (outcomes.Closed fault) = sym is ∙ closed in cc

module _ (line : ParsedLine) (input : List ℕ) (before : Before) (index : Base) (moment : ℤ) (noted : List Given) (mail : ℕ) (failed : Bool) (fault : ℕ)
    (e : before.closed ≡ Some fault) (writes : asks_to_write line ≡ true) (right : refused_text_in line input ≡ None) where
  is-closed : refused_unasked line input before.closed ≡ Some (outcomes.Closed fault)
  is-closed = refused-is line input before.closed fault e writes right

  may-not : refused_unasked line input before.closed ≡ None → ⊥
  may-not none = clash _ _ none is-closed

  closed-by : (outcome : Outcome) → HasCause outcome line input before index moment noted mail failed → (outcome ≡ outcomes.Closed fault) ⊎ (outcome ≡ outcomes.NoMemory)
  closed-by outcomes.Ok h = absurd (may-not h.0)
  closed-by (outcomes.Usage word kind) h = inl (other-refusal _ (outcomes.Usage word kind) fault is-closed h.0)
  closed-by (outcomes.BadQuery at kind) h = inl (other-refusal _ (outcomes.BadQuery at kind) fault is-closed h.0)
  closed-by (outcomes.BadDate at) h = inl (other-refusal _ (outcomes.BadDate at) fault is-closed h.0)
  closed-by (outcomes.BadLine bad kind) h = inl (other-refusal _ (outcomes.BadLine bad kind) fault is-closed h.0)
  closed-by (outcomes.NotOne found) h = absurd (may-not h.0.0)
  closed-by (outcomes.Gone path) h = absurd (may-not h.0.0)
  closed-by outcomes.MailFault h = absurd (may-not h.0)
  closed-by outcomes.DiskFault h = absurd (may-not h.0)
  closed-by (outcomes.Closed other) h = inl (other-refusal _ (outcomes.Closed other) fault is-closed h.0)
  closed-by (outcomes.Limit limit) (inl refused, h) = inl (other-refusal _ (outcomes.Limit limit) fault is-closed refused)
  closed-by (outcomes.Limit limit) (inr (inl read), h) = absurd (may-not read.0)
  closed-by (outcomes.Limit limit) (inr (inr may), h) = absurd (may-not may.0)
  closed-by outcomes.NoMemory h = inr refl

pub closed-after : (outcome : Outcome) (line : ParsedLine) (input : List ℕ) (before : Before) (index : Base) (moment : ℤ) (noted : List Given) (mail : ℕ) (failed : Bool) (fault : ℕ)
    → before.closed ≡ Some fault → asks_to_write line ≡ true → refused_text_in line input ≡ None
    → HasCause outcome line input before index moment noted mail failed → (outcome ≡ outcomes.Closed fault) ⊎ (outcome ≡ outcomes.NoMemory)
closed-after outcome line input before index moment noted mail failed fault e writes right h = closed-by line input before index moment noted mail failed fault e writes right outcome h

-- neither a line of an input nor a query is refused as closed
text-not-closed : (answered : Result Query QueryError) (fault : ℕ) → first_refusal (refused_text answered) None ≡ Some (outcomes.Closed fault) → ⊥
text-not-closed (Ok query) fault e = absurd (cc)
text-not-closed (Err (query_errors.BadQuery at kind)) fault e = absurd (cc)
text-not-closed (Err (query_errors.BadDate at)) fault e = absurd (cc)
text-not-closed (Err (query_errors.Limit limit)) fault e = absurd (cc)
text-not-closed (Err query_errors.NoMemory) fault e = absurd (cc)

query-not-closed : (own : Option (List ℕ)) (fault : ℕ) → first_refusal (refused_query own) None ≡ Some (outcomes.Closed fault) → ⊥
query-not-closed None fault e = absurd (cc)
query-not-closed (Some text) fault e = text-not-closed (answer_of text) fault e

lines-not-closed : (bad : Option (ℕ × LineKind)) (own : Option (List ℕ)) (fault : ℕ) → first_refusal (first_refusal (refused_line bad) (refused_query own)) None ≡ Some (outcomes.Closed fault) → ⊥
lines-not-closed None own fault e = query-not-closed own fault e
lines-not-closed (Some bad) own fault e = absurd (cc)

never-closed : (line : ParsedLine) (input : List ℕ) (fault : ℕ) → refused_unasked line input None ≡ Some (outcomes.Closed fault) → ⊥
never-closed (asked.Request request) input fault e = lines-not-closed (first_bad_line request input) (own_query request) fault e
never-closed (asked.Usage word kind) input fault e = absurd (cc)

pub open-not-closed : (line : ParsedLine) (input : List ℕ) (before : Before) (index : Base) (moment : ℤ) (noted : List Given) (mail : ℕ) (failed : Bool) (fault : ℕ)
    → before.closed ≡ None → HasCause (outcomes.Closed fault) line input before index moment noted mail failed → ⊥
open-not-closed line input before index moment noted mail failed fault e h = never-closed line input fault (sym (ap (refused_unasked line input) e) ∙ h.0)

-- the first fault decides

fault-assoc : (a b c d : Option ℕ) → d ≡ fault_or b c → fault_or a d ≡ fault_or (fault_or a b) c
fault-assoc None b c d e = e
fault-assoc (Some status) b c d e = refl

pub first-append : (front more : List LineLog) → first_fault (front ++ more) ≡ fault_or (first_fault front) (first_fault more)
first-append [] more = refl
first-append (log ∷ front) more = fault-assoc (fault_of log.outcome) (first_fault front) (first_fault more) (first_fault (front ++ more)) (first-append front more)

status-is : (front back : List LineLog) (log : LineLog) (out_failed : Bool) (status : ℕ) → first_fault front ≡ None → fault_of log.outcome ≡ Some status
    → session_status (front ++ log ∷ back) out_failed ≡ status
status-is front back log out_failed status none is =
    let first : first_fault (front ++ log ∷ back) ≡ Some status =
    first-append front (log ∷ back) ∙ ap (λ (f : Option ℕ). fault_or f (fault_or (fault_of log.outcome) (first_fault back))) none
    ∙ ap (λ (f : Option ℕ). fault_or f (first_fault back)) is in
    ap (λ (f : Option ℕ). status_of_fault (fault_or f (write_fault out_failed)) (any_is_out_of_memory (front ++ log ∷ back))) first

pub disk-status : (front back : List LineLog) (log : LineLog) (out_failed : Bool) → first_fault front ≡ None → log.outcome ≡ outcomes.DiskFault
    → session_status (front ++ log ∷ back) out_failed ≡ 4
disk-status front back log out_failed none is = status-is front back log out_failed 4 none (ap fault_of is)

pub mail-status : (front back : List LineLog) (log : LineLog) (out_failed : Bool) → first_fault front ≡ None → log.outcome ≡ outcomes.MailFault
    → session_status (front ++ log ∷ back) out_failed ≡ 3
mail-status front back log out_failed none is = status-is front back log out_failed 3 none (ap fault_of is)
