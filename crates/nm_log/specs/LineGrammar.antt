-- The grammar of a line of a script, a case for each of its rules: which lines ask for what, and which word of a line is at fault. What is
-- wrong with a line whatever its command, its flaw, is given by the script.
-- Cited by `laws`.
use Rattle.std.specs.Prelude.{◌≡◌, ℕ, List, [], ◌∷◌, None, Some}
use Rattle.nm_base.specs.declared.refusals.UsageKind.{UsageKind}
use Rattle.nm_model_answer.specs.declared.request.Request.{Request}
use Rattle.nm_model_answer.specs.declared.request.Request.TheVariants as requests
use Rattle.nm_command.specs.Grammar.{IsRefused, IsRequest}
use Rattle.nm_command.specs.declared.request.Request as asks
use Rattle.nm_command.specs.declared.request.Request.TheVariants as asked
use Rattle.nm_lanes.specs.declared.script.ScriptLine.{ScriptLine}
use Rattle.nm_log.specs.ParsedLine.{first_word, name_fault}

-- a request as the words of a command ask for it
abbrev pub command_of : Request → asks.Request
command_of requests.New = asked.New
command_of (requests.Count ask) = asked.Count ask
command_of (requests.Search ask) = asked.Search ask
command_of (requests.Dump ask) = asked.Dump ask
command_of (requests.Show ask) = asked.Show ask
command_of (requests.Tag ask) = asked.Tag ask
command_of (requests.Restore ask) = asked.Restore ask

-- the words name no command that this lane may not run
abbrev pub MayRun : ℕ → List (List ℕ) → Type 0
MayRun lane [] = Unit {0}
MayRun lane (name ∷ words) = name_fault lane name ≡ None

-- the line asks for this: it has no flaw, and its words ask for it in a lane that may run it
pub record AsksFor (line : ScriptLine) (request : Request) : Type 0 where
  pub flawless : line.flaw ≡ None
  pub may : MayRun line.lane line.words
  pub asks : IsRequest line.words (command_of request)

-- this word of the line is at fault, for this reason: no word before it is
pub data IsFaulty : ScriptLine → List ℕ → UsageKind → Type 0 where
  a_flaw : (line : ScriptLine) (kind : UsageKind) → line.flaw ≡ Some kind → IsFaulty line (first_word line.words) kind
  another_lanes : (line : ScriptLine) (name : List ℕ) (words : List (List ℕ)) (kind : UsageKind) → line.flaw ≡ None → line.words ≡ name ∷ words →
      name_fault line.lane name ≡ Some kind → IsFaulty line name kind
  a_fault : (line : ScriptLine) (word : List ℕ) (kind : UsageKind) → line.flaw ≡ None →
      MayRun line.lane line.words → IsRefused line.words word kind → IsFaulty line word kind
