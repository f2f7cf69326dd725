-- Lines ask for what the grammar says, and else the word is at fault that it says.
-- For the proofs of `lines_are_read_as_the_grammar_says` and `single_commands_are_read_as_the_grammar_says`.
use Rattle.std.proofs.Common.{◌≡◌, ◌⊎◌, ◌↔◌, ◌≤◌, inl, inr, ℕ, ◌==◌, ◌||◌, Bool, true, false, List, [], ◌∷◌, length, Option, None, Some, Result, Ok, Err, if◌then◌else◌, codes, refl, sym, ap, subst, ◌∙◌, arith}
use Rattle.std.proofs.lemmas.Bool.Decides.{nat_tests}
use Rattle.nm_base.specs.declared.refusals.UsageKind.{UsageKind}
use Rattle.nm_base.specs.declared.refusals.UsageKind.TheVariants as kinds
use Rattle.nm_model_answer.specs.declared.request.Request.{Request}
use Rattle.nm_model_answer.specs.declared.request.Request.TheVariants as requests
use Rattle.nm_command.specs.Grammar.{IsRefused, IsRequest, a_batch_count, a_batch_tag, a_count, a_drill, a_dump, a_new, a_restore, a_search, a_session, a_show, a_tag}
use Rattle.nm_command.specs.Requests.{request_of}
use Rattle.nm_command.specs.Table.{commands, meaning_of}
use Rattle.nm_command.specs.declared.command_error.CommandError.{CommandError}
use Rattle.nm_command.specs.declared.command_error.CommandError.TheVariants as errors
use Rattle.nm_command.specs.declared.request.Request as asks
use Rattle.nm_command.specs.declared.request.Request.TheVariants as asked
use Rattle.nm_command.specs.declared.table.CommandName.{CommandName}
use Rattle.nm_command.specs.declared.table.CommandName.TheVariants as names
use Rattle.nm_lanes.specs.declared.script.ScriptLine.{ScriptLine}
use Rattle.nm_log.specs.LineGrammar.{AsksFor, IsFaulty, MayRun, a_fault, a_flaw, another_lanes, command_of}
use Rattle.nm_log.specs.ParsedLine.{asked_by, asked_unless, command_fault, fault_of_named, fed, is_of_every_lane, name_fault, parse_answer, parse_command, parse_line, parse_single, reads_input, refused}
use Rattle.nm_log.specs.declared.line_parser.ParsedLine.{ParsedLine}
use Rattle.nm_log.specs.declared.line_parser.ParsedLine.TheVariants as parsed

-- ---- which command a request names, and which lane may run it

abbrev name_of : asks.Request → CommandName
name_of asked.New = names.New
name_of (asked.Search ask) = names.Search
name_of (asked.Count ask) = names.Count
name_of (asked.Show ask) = names.Show
name_of (asked.Dump ask) = names.Dump
name_of (asked.Tag ask) = names.Tag
name_of (asked.Restore ask) = names.Restore
name_of (asked.Drill count) = names.Drill
name_of asked.Session = names.Session

-- lane 0 may run it, or each other lane
abbrev may_run : Bool → asks.Request → Bool
may_run first asked.New = first
may_run first (asked.Search ask) = true
may_run first (asked.Count ask) = true
may_run first (asked.Show ask) = first
may_run first (asked.Dump ask) = true
may_run first (asked.Tag ask) = first
may_run first (asked.Restore ask) = first
may_run first (asked.Drill count) = false
may_run first asked.Session = false

fault-is : (first : Bool) (request : asks.Request) → command_fault first (name_of request) ≡ (if may_run first request then None else Some kinds.Lane)
fault-is true asked.New = refl
fault-is true (asked.Search ask) = refl
fault-is true (asked.Count ask) = refl
fault-is true (asked.Show ask) = refl
fault-is true (asked.Dump ask) = refl
fault-is true (asked.Tag ask) = refl
fault-is true (asked.Restore ask) = refl
fault-is true (asked.Drill count) = refl
fault-is true asked.Session = refl
fault-is false asked.New = refl
fault-is false (asked.Search ask) = refl
fault-is false (asked.Count ask) = refl
fault-is false (asked.Show ask) = refl
fault-is false (asked.Dump ask) = refl
fault-is false (asked.Tag ask) = refl
fault-is false (asked.Restore ask) = refl
fault-is false (asked.Drill count) = refl
fault-is false asked.Session = refl

-- the words of a request begin with its name
pub record BeginsWith (words : List (List ℕ)) (command : CommandName) : Type 0 where
  pub name : List ℕ
  pub more : List (List ℕ)
  pub are : words ≡ name ∷ more
  pub means : meaning_of name commands ≡ Some command

begins-with : (words : List (List ℕ)) (request : asks.Request) → IsRequest words request → BeginsWith words (name_of request)
begins-with words request (a_new name more settings found has) = record { name = name; more = more; are = refl; means = found }
begins-with words request (a_search name word more query settings found has) = record { name = name; more = _; are = refl; means = found }
begins-with words request (a_count name more query settings found has single) = record { name = name; more = more; are = refl; means = found }
begins-with words request (a_batch_count name more settings found has batch) = record { name = name; more = more; are = refl; means = found }
begins-with words request (a_show name word more query settings found has) = record { name = name; more = _; are = refl; means = found }
begins-with words request (a_drill name digits more settings count found has says) = record { name = name; more = _; are = refl; means = found }
begins-with words request (a_session name more settings found has) = record { name = name; more = more; are = refl; means = found }
begins-with words request (a_dump name more query settings found has) = record { name = name; more = more; are = refl; means = found }
begins-with words request (a_tag name word more rest query settings ops found has single changes some) = record { name = name; more = _; are = refl; means = found }
begins-with words request (a_batch_tag name more rest settings found has batch changes) = record { name = name; more = more; are = refl; means = found }
begins-with words request (a_restore name more settings found has) = record { name = name; more = more; are = refl; means = found }

-- the fault of a request's name in a lane
named-fault : (lane : ℕ) (words : List (List ℕ)) (request : asks.Request) (begins : BeginsWith words (name_of request))
    → name_fault lane begins.name ≡ (if may_run (lane == 0) request then None else Some kinds.Lane)
named-fault lane words request begins = ap (fault_of_named (lane == 0)) begins.means ∙ fault-is (lane == 0) request

runs-where : (lane : ℕ) (words : List (List ℕ)) (request : asks.Request) → may_run (lane == 0) request ≡ true → IsRequest words request → MayRun lane words
runs-where lane words request may is =
    let begins = begins-with words request is in
    subst (MayRun lane) (sym begins.are) (named-fault lane words request begins ∙ ap (λ (b : Bool). if b then None else Some kinds.Lane) may)

fault-clash : (fault : Option UsageKind) (kind : UsageKind) → fault ≡ Some kind → fault ≡ None → ⊥
fault-clash fault kind some none = let same = sym some ∙ none in absurd (cc)

runs-not : (lane : ℕ) (words : List (List ℕ)) (request : asks.Request) → may_run (lane == 0) request ≡ false → IsRequest words request → MayRun lane words → ⊥
runs-not lane words request may is runs =
    let begins = begins-with words request is in
    fault-clash (name_fault lane begins.name) kinds.Lane (named-fault lane words request begins ∙ ap (λ (b : Bool). if b then None else Some kinds.Lane) may)
    (subst (MayRun lane) begins.are runs)

-- every request of a line may be run by lane 0
first-runs : (request : Request) → may_run true (command_of request) ≡ true
first-runs requests.New = refl
first-runs (requests.Count ask) = refl
first-runs (requests.Search ask) = refl
first-runs (requests.Dump ask) = refl
first-runs (requests.Show ask) = refl
first-runs (requests.Tag ask) = refl
first-runs (requests.Restore ask) = refl

-- ---- what words ask for

answer-is : (name : List ℕ) (request : Request) → parse_answer name (Ok (command_of request)) ≡ parsed.Request request
answer-is name requests.New = refl
answer-is name (requests.Count ask) = refl
answer-is name (requests.Search ask) = refl
answer-is name (requests.Dump ask) = refl
answer-is name (requests.Show ask) = refl
answer-is name (requests.Tag ask) = refl
answer-is name (requests.Restore ask) = refl

-- what a command is, where its name may be in a line
abbrev named : List ℕ → List (List ℕ) → Option UsageKind → ParsedLine
named name words fault = elim fault [ Some kind ↦ refused kind name | None ↦ parse_answer name (request_of (name ∷ words)) ]

-- what a line is parsed to, by the grammar
abbrev IsParsed : ScriptLine → ParsedLine → Type 0
IsParsed line (parsed.Request request) = AsksFor line request
IsParsed line (parsed.Usage word kind) = IsFaulty line word kind

-- a line asks for what every lane may
abbrev IsOfEvery : ParsedLine → Type 0
IsOfEvery (parsed.Request request) = is_of_every_lane request ≡ true
IsOfEvery (parsed.Usage word kind) = Unit {0}

every-fed : (input : List ℕ) (asks : ParsedLine) → IsOfEvery asks → IsOfEvery (fed input asks)
every-fed input (parsed.Usage word kind) h = tt
every-fed input (parsed.Request request) h =
    elim (reads_input request || length input == 0) as (λ b. IsOfEvery (if b then parsed.Request request else refused kinds.Input (codes "|"))) [
      | true ↦ h
      | false ↦ tt
    ]

not-first : (lane : ℕ) → 1 ≤ lane → (lane == 0) ≡ false
not-first lane h = grind (arith, nat_tests)

module _ (requests_are : (words : List (List ℕ)) → (request : asks.Request) → (request_of words ≡ Ok request) ↔ IsRequest words request) where
  -- no other request is read in another lane
  every-answer : (lane : ℕ) (name : List ℕ) (words : List (List ℕ)) → (lane == 0) ≡ false → name_fault lane name ≡ None
      → (answer : Result asks.Request CommandError) → request_of (name ∷ words) ≡ answer → IsOfEvery (parse_answer name answer)
  every-answer lane name words other may (Ok asked.New) e = absurd (runs-not lane (name ∷ words) asked.New other ((requests_are (name ∷ words) asked.New).0 e) may)
  every-answer lane name words other may (Ok (asked.Search ask)) e = refl
  every-answer lane name words other may (Ok (asked.Count ask)) e = refl
  every-answer lane name words other may (Ok (asked.Dump ask)) e = refl
  every-answer lane name words other may (Ok (asked.Show ask)) e = absurd (runs-not lane (name ∷ words) (asked.Show ask) other ((requests_are (name ∷ words) (asked.Show ask)).0 e) may)
  every-answer lane name words other may (Ok (asked.Tag ask)) e = absurd (runs-not lane (name ∷ words) (asked.Tag ask) other ((requests_are (name ∷ words) (asked.Tag ask)).0 e) may)
  every-answer lane name words other may (Ok (asked.Restore ask)) e = absurd (runs-not lane (name ∷ words) (asked.Restore ask) other ((requests_are (name ∷ words) (asked.Restore ask)).0 e) may)
  every-answer lane name words other may (Ok (asked.Drill count)) e = tt
  every-answer lane name words other may (Ok asked.Session) e = tt
  every-answer lane name words other may (Err (errors.Usage word kind)) e = tt
  every-answer lane name words other may (Err errors.NoMemory) e = tt

  every-command : (lane : ℕ) (words : List (List ℕ)) → (lane == 0) ≡ false → IsOfEvery (parse_command lane words)
  every-command lane [] other = tt
  every-command lane (name ∷ words) other =
      elim (name_fault lane name) as (λ fault. name_fault lane name ≡ fault → IsOfEvery (named name words fault)) [
        | Some kind ↦ λ e. tt
        | None ↦ λ e. every-answer lane name words other e (request_of (name ∷ words)) refl
      ] refl

  every-asked : (flaw : Option UsageKind) (lane : ℕ) (words : List (List ℕ)) → (lane == 0) ≡ false → IsOfEvery (asked_unless flaw lane words)
  every-asked (Some kind) lane words other = tt
  every-asked None lane words other = every-command lane words other

  pub every-line : (line : ScriptLine) (request : Request) → 1 ≤ line.lane → parse_line line ≡ parsed.Request request → is_of_every_lane request ≡ true
  every-line line request other e = subst IsOfEvery e (every-fed line.input (asked_by line) (every-asked line.flaw line.lane line.words (not-first line.lane other)))

module _ (requests_are : (words : List (List ℕ)) → (request : asks.Request) → (request_of words ≡ Ok request) ↔ IsRequest words request)
    (refusals_are : (words : List (List ℕ)) → (word : List ℕ) → (kind : UsageKind) → (request_of words ≡ Err (errors.Usage word kind)) ↔ IsRefused words word kind)
    (one : (words : List (List ℕ)) → ((request : asks.Request) × IsRequest words request) ⊎ ((word : List ℕ) × (kind : UsageKind) × IsRefused words word kind)) where
  command-asks : (lane : ℕ) (words : List (List ℕ)) (request : Request) → MayRun lane words → IsRequest words (command_of request) → parse_command lane words ≡ parsed.Request request
  command-asks lane [] request may is = let read = (requests_are [] (command_of request)).1 is in absurd (cc)
  command-asks lane (name ∷ words) request may is =
      ap (named name words) may ∙ (ap (parse_answer name) ((requests_are (name ∷ words) (command_of request)).1 is) ∙ answer-is name request)

  pub single-asks : (words : List (List ℕ)) (request : Request) → IsRequest words (command_of request) → parse_single words ≡ parsed.Request request
  single-asks words request is = command-asks 0 words request (runs-where 0 words (command_of request) (first-runs request) is) is

  pub line-asks : (line : ScriptLine) (request : Request) → AsksFor line request → asked_by line ≡ parsed.Request request
  line-asks line request h = ap (λ (flaw : Option UsageKind). asked_unless flaw line.lane line.words) h.flawless ∙ command-asks line.lane line.words request h.may h.asks

  command-faulty : (lane : ℕ) (words : List (List ℕ)) (word : List ℕ) (kind : UsageKind) → MayRun lane words → IsRefused words word kind → parse_command lane words ≡ parsed.Usage word kind
  command-faulty lane [] word kind may is = ap (parse_answer []) ((refusals_are [] word kind).1 is)
  command-faulty lane (name ∷ words) word kind may is = ap (named name words) may ∙ ap (parse_answer name) ((refusals_are (name ∷ words) word kind).1 is)

  pub line-faulty : (line : ScriptLine) (word : List ℕ) (kind : UsageKind) → IsFaulty line word kind → asked_by line ≡ parsed.Usage word kind
  line-faulty line word kind (a_flaw _ _ flaw) = ap (λ (f : Option UsageKind). asked_unless f line.lane line.words) flaw
  line-faulty line word kind (another_lanes _ _ words _ flawless are fault) =
      ap (λ (f : Option UsageKind). asked_unless f line.lane line.words) flawless ∙ (ap (parse_command line.lane) are ∙ ap (named word words) fault)
  line-faulty line word kind (a_fault _ _ _ flawless may is) =
      ap (λ (f : Option UsageKind). asked_unless f line.lane line.words) flawless ∙ command-faulty line.lane line.words word kind may is

  no-memory : (words : List (List ℕ)) → request_of words ≡ Err errors.NoMemory → ⊥
  no-memory words e = by-one (one words)
    where
      by-one : ((request : asks.Request) × IsRequest words request) ⊎ ((word : List ℕ) × (kind : UsageKind) × IsRefused words word kind) → ⊥
      by-one (inl is) = let read = sym e ∙ (requests_are words is.0).1 is.1 in absurd (cc)
      by-one (inr is) = let read = sym e ∙ (refusals_are words is.0 is.1).1 is.2 in absurd (cc)

  module _ (line : ScriptLine) (flawless : line.flaw ≡ None) where
    asks-for : (name : List ℕ) (words : List (List ℕ)) → line.words ≡ name ∷ words → name_fault line.lane name ≡ None
        → (request : Request) → request_of (name ∷ words) ≡ Ok (command_of request) → AsksFor line request
    asks-for name words are may request e = record {
      flawless = flawless;
      may = subst (MayRun line.lane) (sym are) may;
      asks = subst (λ (l : List (List ℕ)). IsRequest l (command_of request)) (sym are) ((requests_are (name ∷ words) (command_of request)).0 e);
    }

    is-faulty : (words : List (List ℕ)) → line.words ≡ words → MayRun line.lane words → (word : List ℕ) (kind : UsageKind) → IsRefused words word kind → IsFaulty line word kind
    is-faulty words are may word kind is =
        a_fault line word kind flawless (subst (MayRun line.lane) (sym are) may) (subst (λ (l : List (List ℕ)). IsRefused l word kind) (sym are) is)

    answer-parsed : (name : List ℕ) (words : List (List ℕ)) → line.words ≡ name ∷ words → name_fault line.lane name ≡ None
        → (answer : Result asks.Request CommandError) → request_of (name ∷ words) ≡ answer → IsParsed line (parse_answer name answer)
    answer-parsed name words are may (Ok asked.New) e = asks-for name words are may requests.New e
    answer-parsed name words are may (Ok (asked.Search ask)) e = asks-for name words are may (requests.Search ask) e
    answer-parsed name words are may (Ok (asked.Dump ask)) e = asks-for name words are may (requests.Dump ask) e
    answer-parsed name words are may (Ok (asked.Count ask)) e = asks-for name words are may (requests.Count ask) e
    answer-parsed name words are may (Ok (asked.Show ask)) e = asks-for name words are may (requests.Show ask) e
    answer-parsed name words are may (Ok (asked.Tag ask)) e = asks-for name words are may (requests.Tag ask) e
    answer-parsed name words are may (Ok (asked.Restore ask)) e = asks-for name words are may (requests.Restore ask) e
    answer-parsed name words are may (Ok (asked.Drill count)) e =
        absurd (runs-not line.lane (name ∷ words) (asked.Drill count) refl ((requests_are (name ∷ words) (asked.Drill count)).0 e) may)
    answer-parsed name words are may (Ok asked.Session) e = absurd (runs-not line.lane (name ∷ words) asked.Session refl ((requests_are (name ∷ words) asked.Session).0 e) may)
    answer-parsed name words are may (Err (errors.Usage word kind)) e = is-faulty (name ∷ words) are may word kind ((refusals_are (name ∷ words) word kind).0 e)
    answer-parsed name words are may (Err errors.NoMemory) e = absurd (no-memory (name ∷ words) e)

    command-parsed : (words : List (List ℕ)) → line.words ≡ words → IsParsed line (parse_command line.lane words)
    command-parsed [] are = is-faulty [] are tt [] kinds.Command ((refusals_are [] [] kinds.Command).0 refl)
    command-parsed (name ∷ words) are =
        elim (name_fault line.lane name) as (λ fault. name_fault line.lane name ≡ fault → IsParsed line (named name words fault)) [
          | Some kind ↦ λ e. another_lanes line name words kind flawless are e
          | None ↦ λ e. answer-parsed name words are e (request_of (name ∷ words)) refl
        ] refl

  line-parsed : (line : ScriptLine) → IsParsed line (asked_by line)
  line-parsed line =
      elim (line.flaw) as (λ flaw. line.flaw ≡ flaw → IsParsed line (asked_unless flaw line.lane line.words)) [
        | Some kind ↦ λ e. a_flaw line kind e
        | None ↦ λ e. command-parsed line e line.words refl
      ] refl

  pub asks-line : (line : ScriptLine) (request : Request) → asked_by line ≡ parsed.Request request → AsksFor line request
  asks-line line request e = subst (IsParsed line) e (line-parsed line)

  pub faulty-line : (line : ScriptLine) (word : List ℕ) (kind : UsageKind) → asked_by line ≡ parsed.Usage word kind → IsFaulty line word kind
  faulty-line line word kind e = subst (IsParsed line) e (line-parsed line)
