-- What a line of another lane is answered, and what that says. For the proofs of `lane_read` and of the law of its answers.
use Rattle.std.proofs.Common.{◌≡◌, inl, ℕ, ℤ, List, [], Option, None, Some, Result, Ok, Err, IfOk, false, refl, sym, ap, ◌∙◌, subst}
use Rattle.nm_model_answer.specs.Answer.{answer}
use Rattle.nm_model_answer.specs.declared.request.Request.{Request}
use Rattle.nm_base.specs.declared.memory.NoMemory.{NoMemory}
use Rattle.nm_history.specs.LineAnswers.{ends_by, refused_lane_read}
use Rattle.nm_history.specs.Requests.{first_bad_line, first_refusal, own_query, refused_line, refused_query, refused_text, refused_text_of}
use Rattle.nm_model_index.specs.declared.base.Base.{Base}
use Rattle.nm_lanes.specs.declared.script.ScriptLine.{ScriptLine}
use Rattle.nm_line.specs.Line.{IsReadOff, refused_with}
use Rattle.nm_line.specs.LaneRead.{IsAnswerOn, IsSaidOn, lane_answer, refused_or}
use Rattle.nm_prepare.specs.Prepared.{IsPrepared, reading_request}
use Rattle.nm_line.specs.declared.line_answer.LineAnswer.{LineAnswer}
use Rattle.nm_prepare.specs.declared.prepared.Prepared.TheVariants as ready
use Rattle.nm_prepare.specs.declared.prepared.Reading.{Reading}
use Rattle.nm_line.proofs.AnswerLemmas.{refusal-said, refusal-unreplied}
use Rattle.nm_log.specs.ParsedLine.{parse_line}
use Rattle.nm_log.specs.Replies.{is_well, refusal_line}
use Rattle.nm_log.specs.declared.line_parser.ParsedLine.{ParsedLine}
use Rattle.nm_log.specs.declared.line_parser.ParsedLine.TheVariants as asked
use Rattle.nm_log.specs.declared.outcome.Outcome.{Outcome}
use Rattle.nm_log.specs.declared.outcome.Outcome.TheVariants as outcomes
use Rattle.nm_query.specs.Answers.{answer_of}
use Rattle.nm_query.specs.declared.query.Query.{Query}
use Rattle.nm_query.specs.declared.query_error.QueryError.{QueryError}
use Rattle.nm_query.specs.declared.query_error.QueryError.TheVariants as query_errors
use Rattle.nm_tags.specs.declared.line_error.LineKind.{LineKind}

-- what texts are refused for does not go well

ill-query : (answered : Result Query QueryError) (why : Outcome) → refused_text answered ≡ Some why → is_well why ≡ false
ill-query (Ok query) why e = absurd (cc)
ill-query (Err (query_errors.BadQuery at kind)) why e = let same : outcomes.BadQuery at kind ≡ why = cc in sym (ap is_well same)
ill-query (Err (query_errors.BadDate at)) why e = let same : outcomes.BadDate at ≡ why = cc in sym (ap is_well same)
ill-query (Err (query_errors.Limit limit)) why e = let same : outcomes.Limit limit ≡ why = cc in sym (ap is_well same)
ill-query (Err query_errors.NoMemory) why e = let same : outcomes.NoMemory ≡ why = cc in sym (ap is_well same)

ill-own : (own : Option (List ℕ)) (why : Outcome) → refused_query own ≡ Some why → is_well why ≡ false
ill-own None why e = absurd (cc)
ill-own (Some text) why e = ill-query (answer_of text) why e

ill-text : (bad : Option (ℕ × LineKind)) (own : Option (List ℕ)) (why : Outcome) → first_refusal (refused_line bad) (refused_query own) ≡ Some why → is_well why ≡ false
ill-text None own why e = ill-own own why e
ill-text (Some bad) own why e = let same : outcomes.BadLine bad.0 bad.1 ≡ why = cc in sym (ap is_well same)

-- what is said of a line, by its outcome

said-or : (moment : ℤ) (index : Base) (request : Request) (input : List ℕ) (refused : Option Outcome) → refused_text_of request input ≡ refused
    → IsSaidOn moment index (asked.Request request) input (refused_or request (answer request input index index moment []) refused)
said-or moment index request input None is = record { cause = inl (sym (ap ends_by is)); text = refl; reply = λ lane revision. refl }
said-or moment index request input (Some why) is =
    let ill = ill-text (first_bad_line request input) (own_query request) why is in
    record {
      cause = inl (sym (ap ends_by is));
      text = refusal-said why (asked.Request request) input index index moment [] ill;
      reply = λ lane revision. refusal-unreplied why (asked.Request request) lane revision (refusal_line why) ill;
    }

pub said-lane_answer : (moment : ℤ) (index : Base) (line : ParsedLine) (input : List ℕ) → IsSaidOn moment index line input (lane_answer moment index line input)
said-lane_answer moment index (asked.Usage word kind) input = record { cause = inl refl; text = refl; reply = λ lane revision. refl }
said-lane_answer moment index (asked.Request request) input = said-or moment index request input (refused_text_of request input) refl

-- a line that is refused, or read off the index

by-refusal : (moment : ℤ) (index : Base) (parsed : ParsedLine) (input : List ℕ) (outcome : Outcome) → refused_lane_read parsed input ≡ Some outcome → refused_with outcome ≡ lane_answer moment index parsed input
by-refusal moment index (asked.Usage word kind) input outcome e = let same : outcomes.Usage word kind ≡ outcome = cc in ap refused_with (sym same)
by-refusal moment index (asked.Request request) input outcome e = ap (refused_or request (answer request input index index moment [])) (sym e)

pub refused-lane_answer : (moment : ℤ) (index : Base) (line : ScriptLine) (outcome : Outcome) (result : Result LineAnswer NoMemory) → refused_lane_read (parse_line line) line.input ≡ Some outcome
    → IfOk result (λ done. done ≡ refused_with outcome) → IsAnswerOn moment index line result
refused-lane_answer moment index line outcome (Ok done) e said = said ∙ by-refusal moment index (parse_line line) line.input outcome e
refused-lane_answer moment index line outcome (Err error) e said = tt

pub reading-lane_answer : (moment : ℤ) (index : Base) (line : ScriptLine) (reading : Reading) (result : Result LineAnswer NoMemory) → IsPrepared (parse_line line) line.input (ready.Read reading)
    → IfOk result (IsReadOff moment index reading) → IsAnswerOn moment index line result
reading-lane_answer moment index line reading (Err error) h read = tt
reading-lane_answer moment index line reading (Ok done) h read =
    let request = reading_request reading in
    let sound : refused_text_of request line.input ≡ None = subst (λ (p : ParsedLine). refused_lane_read p line.input ≡ None) h.asks h.sound in
    subst (λ (p : ParsedLine). done ≡ lane_answer moment index p line.input) (sym h.asks)
    (read line.input h.made ∙ ap (refused_or request (answer request line.input index index moment [])) (sym sound))
