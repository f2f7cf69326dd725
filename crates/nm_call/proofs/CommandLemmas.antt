-- A single command whose request is prepared over its input, or refused. For the proofs of `read_command` and `read_request`.
use Rattle.std.proofs.Common.{◌≡◌, ◌⊎◌, inl, inr, ℕ, ◌==◌, ◌||◌, Bool, true, false, List, [], Option, None, Some, codes, if◌then◌else◌, length, refl, sym, ap, ◌∙◌, subst}
use Rattle.nm_model_answer.specs.declared.request.Request.{Request}
use Rattle.nm_base.specs.declared.refusals.UsageKind.{UsageKind}
use Rattle.nm_base.specs.declared.refusals.UsageKind.TheVariants as kinds
use Rattle.nm_history.specs.Call.{call_fault, call_reads, command_reads, fault_by, fault_of_command, fault_of_input, input_fault, input_fault_by, is_session, reads_by}
use Rattle.nm_history.specs.Refusals.{TakesInput}
use Rattle.nm_history.specs.Requests.{first_bad_line, first_refusal, own_query, query_in, refused_line, refused_query, refused_text_of}
use Rattle.nm_io.specs.Observed.{ObservedStream}
use Rattle.nm_lanes.specs.Lines.{in_lane}
use Rattle.nm_prepare.specs.Prepared.{IsPrepared}
use Rattle.nm_prepare.specs.declared.prepared.Prepared.{Prepared}
use Rattle.nm_log.specs.Kind.{DumpLines, NoQuery, OwnQuery, QueryLines, Source, TaggingLines, reads_lines, source_of}
use Rattle.nm_log.specs.ParsedLine.{fed, parse_line, parse_single, reads_input, refused}
use Rattle.nm_log.specs.declared.line_parser.ParsedLine.{ParsedLine}
use Rattle.nm_log.specs.declared.line_parser.ParsedLine.TheVariants as asked
use Rattle.nm_log.specs.declared.outcome.Outcome.{Outcome}
use Rattle.nm_log.specs.declared.outcome.Outcome.TheVariants as outcomes
use Rattle.nm_tags.specs.declared.line_error.LineKind.{LineKind}
use Rattle.nm_call.specs.PreparedCall.{HasError, HasPhases}
use Rattle.nm_call.specs.declared.prepared_call.CallError.TheVariants.{Unasked}
use Rattle.nm_call.specs.declared.prepared_call.PreparedCall.TheVariants.{Command}

-- ---- a request

-- what reads lines has no query of its own
lines-no-query : (source : Source) → reads_lines source ≡ true → query_in source ≡ None
lines-no-query NoQuery reads = refl
lines-no-query (OwnQuery text) reads = absurd (cc)
lines-no-query QueryLines reads = refl
lines-no-query (TaggingLines clear) reads = refl
lines-no-query (DumpLines form) reads = refl

reads-no-query : (request : Request) → reads_input request ≡ true → own_query request ≡ None
reads-no-query request reads = lines-no-query (source_of request) reads

-- neither its lines nor its query is refused, or one is
both-none : (bad : Option (ℕ × LineKind)) (own : Option (List ℕ)) → first_refusal (refused_line bad) (refused_query own) ≡ None → (refused_line bad ≡ None) × (refused_query own ≡ None)
both-none None own e = (refl, e)
both-none (Some bad) own e = let none : Some (outcomes.BadLine bad.0 bad.1) ≡ None = e in absurd (cc)

line-refused : (bad : Option (ℕ × LineKind)) (own : Option (List ℕ)) (outcome : Outcome) → own ≡ None → first_refusal (refused_line bad) (refused_query own) ≡ Some outcome → refused_line bad ≡ Some outcome
line-refused None own outcome none e = let same : None ≡ Some outcome = sym (ap refused_query none) ∙ e in absurd (cc)
line-refused (Some bad) own outcome none e = e

query-refused : (bad : Option (ℕ × LineKind)) (own : Option (List ℕ)) (outcome : Outcome) → refused_line bad ≡ None → first_refusal (refused_line bad) (refused_query own) ≡ Some outcome → refused_query own ≡ Some outcome
query-refused None own outcome none e = e
query-refused (Some bad) own outcome none e = let same : Some (outcomes.BadLine bad.0 bad.1) ≡ None = none in absurd (cc)

-- a request that reads no lines has none
or-true : (b : Bool) → (b || true) ≡ true
or-true true = refl
or-true false = refl

abbrev fed-if : Request → Bool → ParsedLine
fed-if request sound = if sound then asked.Request request else refused kinds.Input (codes "|")

fed-same : (request : Request) (input : List ℕ) → (reads_input request ≡ true) ⊎ (input ≡ []) → fed input (asked.Request request) ≡ asked.Request request
fed-same request input (inl reads) = ap (λ (b : Bool). fed-if request (b || length input == 0)) reads
fed-same request input (inr none) =
    subst (λ (l : List ℕ). fed l (asked.Request request) ≡ asked.Request request) (sym none) (ap (fed-if request) (or-true (reads_input request)))

-- ---- a single command

module _ (words : List (List ℕ)) (request : Request) (single : is_session words ≡ false) (is : parse_single words ≡ asked.Request request) (old new : ObservedStream) (input : List ℕ) where
  fault-is : call_fault words ≡ refused_query (own_query request)
  fault-is = ap (λ (b : Bool). fault_by b words) single ∙ ap fault_of_command is

  reads-is : call_reads words ≡ reads_input request
  reads-is = ap (λ (b : Bool). reads_by b words) single ∙ ap command_reads is

  input-is : input_fault words input ≡ refused_line (first_bad_line request input)
  input-is = ap (λ (b : Bool). input_fault_by b words input) single ∙ ap (λ (p : ParsedLine). fault_of_input p input) is

  -- the words of what reads lines are right
  pub reading-sound : reads_input request ≡ true → call_fault words ≡ None
  reading-sound reads = fault-is ∙ ap refused_query (reads-no-query request reads)

  fits : (reads : Bool) → reads_input request ≡ reads → TakesInput reads false input old new → (reads_input request ≡ true) ⊎ (input ≡ [])
  fits true so takes = inl so
  fits false so takes = inr takes.1

  line-is : (reads_input request ≡ true) ⊎ (input ≡ []) → parse_line (in_lane 1 0 words input) ≡ asked.Request request
  line-is so = ap (fed input) is ∙ fed-same request input so

  -- its request is prepared over what it takes of the input
  pub is-read : (reads : Bool) → reads_input request ≡ reads → TakesInput reads false input old new → (prepared : Prepared) → IsPrepared (asked.Request request) input prepared → HasPhases words old new (Command prepared)
  is-read reads so takes prepared h =
      let none = both-none (first_bad_line request input) (own_query request) h.sound in
      record {
        input = input;
        session = sym single;
        sound = fault-is ∙ none.1;
        takes = subst (λ (r : Bool). TakesInput r (is_session words) input old new) (sym (reads-is ∙ so)) (subst (λ (s : Bool). TakesInput reads s input old new) (sym single) takes);
        right = input-is ∙ none.0;
        asks = subst (λ (p : ParsedLine). IsPrepared p input prepared) (sym (line-is (fits reads so takes))) h;
      }

  -- or it is refused
  pub is-refused : ((words : List (List ℕ)) (input : List ℕ) → call_reads words ≡ false → input_fault words input ≡ None)
      → (reads : Bool) → reads_input request ≡ reads → TakesInput reads false input old new → (outcome : Outcome) → refused_text_of request input ≡ Some outcome → HasError words old new (Unasked outcome)
  is-refused law true so takes outcome e =
      (single, (input, inr (reading-sound so, reads-is ∙ so, takes.0, input-is ∙ line-refused (first_bad_line request input) (own_query request) outcome (reads-no-query request so) e)))
  is-refused law false so takes outcome e =
      let sound : refused_line (first_bad_line request input) ≡ None = sym input-is ∙ law words input (reads-is ∙ so) in
      (single, (input, inl (fault-is ∙ query-refused (first_bad_line request input) (own_query request) outcome sound e, takes.1, takes.0)))

-- words outside the grammar
pub usage-refuses : (words : List (List ℕ)) (word : List ℕ) (kind : UsageKind) (old : ObservedStream) → is_session words ≡ false → parse_single words ≡ asked.Usage word kind → HasError words old old (Unasked (outcomes.Usage word kind))
usage-refuses words word kind old single is = (single, ([], inl (ap (λ (b : Bool). fault_by b words) single ∙ ap fault_of_command is, refl, refl)))
