-- What a line of another lane is answered, which asks no device. Cited by `other_lane` and `nm_session`.
use Rattle.std.specs.Prelude.{◌≡◌, ◌⊎◌, ℕ, ℤ, List, [], map, Option, None, Some, Result, Ok, Err}
use Rattle.std.specs.Option.{option_to_list}
use Rattle.nm_model_answer.specs.Answer.{answer}
use Rattle.nm_model_answer.specs.declared.request.Request.{Request}
use Rattle.nm_base.specs.declared.memory.NoMemory.{NoMemory}
use Rattle.nm_history.specs.LineAnswers.{ends_by, line_text, refused_lane_read}
use Rattle.nm_history.specs.LineResult.{said_of}
use Rattle.nm_history.specs.MachineRun.{replied_where}
use Rattle.nm_history.specs.Requests.{refused_text_of}
use Rattle.nm_model_index.specs.declared.base.Base.{Base}
use Rattle.nm_lanes.specs.declared.script.ScriptLine.{ScriptLine}
use Rattle.nm_line.specs.Line.{refused_with, replied_with}
use Rattle.nm_line.specs.declared.line_answer.LineAnswer.{LineAnswer}
use Rattle.nm_log.specs.ParsedLine.{parse_line}
use Rattle.nm_log.specs.declared.line_parser.ParsedLine.{ParsedLine}
use Rattle.nm_log.specs.declared.line_parser.ParsedLine.TheVariants as asked
use Rattle.nm_log.specs.declared.outcome.Outcome.{Outcome}
use Rattle.nm_log.specs.declared.outcome.Outcome.TheVariants as outcomes

-- the refusal, if there is one, or else the text
abbrev pub refused_or : Request → List ℕ → Option Outcome → LineAnswer
refused_or request text None = replied_with request text
refused_or request text (Some outcome) = refused_with outcome

-- what a line is answered on this index, by what it asks for and its input
abbrev pub lane_answer : ℤ → Base → ParsedLine → List ℕ → LineAnswer
lane_answer moment index (asked.Usage word kind) input = refused_with (outcomes.Usage word kind)
lane_answer moment index (asked.Request request) input = refused_or request (answer request input index index moment []) (refused_text_of request input)

-- what a line may be answered on this index, or no memory was found for it
abbrev pub IsAnswerOn : ℤ → Base → ScriptLine → Result LineAnswer NoMemory → Type 0
IsAnswerOn moment index line (Ok done) = done ≡ lane_answer moment index (parse_line line) line.input
IsAnswerOn moment index line (Err error) = Unit {0}

-- what is said of a line, by its outcome
pub record IsSaidOn (moment : ℤ) (index : Base) (line : ParsedLine) (input : List ℕ) (done : LineAnswer) : Type 0 where
  pub cause : (done.outcome ≡ ends_by (refused_lane_read line input)) ⊎ (done.outcome ≡ outcomes.NoMemory)
  pub text : done.text ≡ line_text done.outcome line input index index moment []
  pub reply : (lane revision : ℕ) → option_to_list done.reply ≡ map said_of (replied_where done.outcome line lane revision done.text)
