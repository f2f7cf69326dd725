-- What a `tag` asks for. Cited by `nm_prepare`.
use Rattle.std.specs.Prelude.{ℕ, List, [], ◌∷◌, Ok, Err, if◌then◌else◌}
use Rattle.nm_base.specs.declared.asks.TagAsk.{TagAsk}
use Rattle.nm_query.specs.Answers.{answer_of}
use Rattle.nm_model_answer.specs.BatchLines.{taggings_in}
use Rattle.nm_model_answer.specs.declared.tag_change.TagChange.{TagChange}

-- the lines of an input; one of them that is no line asks for nothing, nor do the others then
abbrev pub lines_of_input : TagAsk → List ℕ → List TagChange
lines_of_input ask input = elim (taggings_in ask.clear input) [ Ok read ↦ read | Err fault ↦ [] ]

-- the one line that the words are; a text that is no query asks for nothing
abbrev pub line_of_words : TagAsk → List TagChange
line_of_words ask = elim (answer_of ask.query) [ Ok query ↦ record { clear = ask.clear; ops = ask.ops; query = query } ∷ [] | Err refusal ↦ [] ]

-- the lines that a `tag` asks for
abbrev pub taggings_of : TagAsk → List ℕ → List TagChange
taggings_of ask input = if ask.batch then lines_of_input ask input else line_of_words ask
