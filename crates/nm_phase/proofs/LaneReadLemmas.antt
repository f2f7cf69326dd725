-- What a line of another lane leaves: its log and its marks. For the proofs of `note_answer` and `lane_read_log`.
use Rattle.std.proofs.Common.{◌≡◌, inr, false, ℕ, ℤ, List, [], ◌∷◌, Option, None, MatchResult, Result, Ok, Err, map, codes, refl, sym, ap, ◌∙◌, subst}
use Rattle.std.specs.Option.{option_to_list}
use Rattle.nm_base.specs.declared.memory.NoMemory.{NoMemory}
use Rattle.nm_history.specs.Lines.{RunLine}
use Rattle.nm_history.specs.MachineRun.{reply_to}
use Rattle.nm_model_index.specs.declared.base.Base.{Base}
use Rattle.nm_lanes.specs.declared.script.ScriptLine.{ScriptLine}
use Rattle.nm_line.specs.LaneRead.{IsAnswerOn, IsSaidOn, lane_answer}
use Rattle.nm_line.specs.declared.line_answer.LineAnswer.{LineAnswer}
use Rattle.nm_log.specs.ParsedLine.{parse_line}
use Rattle.nm_log.specs.Replies.{status_of}
use Rattle.nm_log.specs.declared.line_parser.ParsedLine.{ParsedLine}
use Rattle.nm_log.specs.declared.log.Said.{Said}
use Rattle.nm_log.specs.declared.outcome.Outcome.TheVariants as outcomes
use Rattle.nm_maildir.specs.declared.given.Given.{Given}
use Rattle.nm_phase.specs.LaneLog.{IsLaneAnswered}
use Rattle.nm_phase.proofs.MarkLemmas.{said-marks}
use Rattle.nm_trace.specs.Trace.{lane_read_marks, reply_mark, said_marks}
use Rattle.nm_trace.specs.declared.trace.Mark.{Mark}
use Rattle.nm_trace.specs.declared.trace.Mark.TheVariants as marks

abbrev no-memory : List ℕ → LineAnswer
no-memory fallback = record { outcome = outcomes.NoMemory; text = fallback; reply = None }

said-without : (moment : ℤ) (index : Base) (line : ParsedLine) (input : List ℕ) → IsSaidOn moment index line input (no-memory (codes "notmuch: no memory\n"))
said-without moment index line input = record { cause = inr refl; text = refl; reply = λ lane revision. refl }

-- what `nm_line` says of an answer
abbrev pub LaneReadsAreSaid : Type 0
LaneReadsAreSaid = (moment : ℤ) (index : Base) (line : ParsedLine) (input : List ℕ) → IsSaidOn moment index line input (lane_answer moment index line input)

said-by : LaneReadsAreSaid → (moment : ℤ) (index : Base) (line : ScriptLine) (answered : Result LineAnswer NoMemory) (done : LineAnswer) (fallback : List ℕ) → fallback ≡ codes "notmuch: no memory\n"
    → MatchResult answered (λ got. done ≡ got) (λ error. done ≡ record { outcome = outcomes.NoMemory; text = fallback; reply = None })
    → IsAnswerOn moment index line answered → IsSaidOn moment index (parse_line line) line.input done
said-by law moment index line (Ok got) done fallback text is lane_reads = subst (λ (d : LineAnswer). IsSaidOn moment index (parse_line line) line.input d) (sym (is ∙ lane_reads)) (law moment index (parse_line line) line.input)
said-by law moment index line (Err error) done fallback text is lane_reads =
    subst (λ (d : LineAnswer). IsSaidOn moment index (parse_line line) line.input d) (sym (is ∙ ap no-memory text)) (said-without moment index (parse_line line) line.input)

pub is-lane_answer : LaneReadsAreSaid → (moment : ℤ) (phase : ℕ) (index : Base) (line : ScriptLine) (answered : Result LineAnswer NoMemory) (done : LineAnswer) (fallback : List ℕ) (revision status : ℕ) (noted : List Given) → fallback ≡ codes "notmuch: no memory\n"
    → MatchResult answered (λ got. done ≡ got) (λ error. done ≡ record { outcome = outcomes.NoMemory; text = fallback; reply = None })
    → IsAnswerOn moment index line answered → revision ≡ index.revision → status ≡ status_of done.outcome → noted ≡ []
    → IsLaneAnswered moment phase index (line, record { phase = phase; lane = line.lane; line = line.number; revision = revision; status = status; outcome = done.outcome; text = done.text; given = noted; mail_faults = 0; disk_faults = 0; disk_failed = false }) done.reply
is-lane_answer law moment phase index line answered done fallback revision status noted text is lane_reads at status_is none =
    let h = said-by law moment index line answered done fallback text is lane_reads in
    record {
      numbers = record { phase = refl; lane = refl; number = refl };
      revision = at;
      cause = h.cause;
      status = status_is;
      text = h.text;
      reply_is = h.reply line.lane revision;
      given = none;
      mail = refl;
      disk = refl;
      well = refl;
    }

-- its marks
pub lane_read-marks : (moment : ℤ) (phase : ℕ) (index : Base) (ran : RunLine) (reply : Option Said) → IsLaneAnswered moment phase index ran reply
    → marks.LaneRead ran.1.lane ∷ said_marks ran.1.lane (option_to_list reply) ≡ lane_read_marks ran.0.lane (reply_to ran)
lane_read-marks moment phase index ran reply h =
    ap (λ (l : List Mark). marks.LaneRead ran.1.lane ∷ l) (said-marks ran (option_to_list reply) h.reply_is) ∙ ap (λ (n : ℕ). marks.LaneRead n ∷ map reply_mark (reply_to ran)) h.numbers.lane
