-- The model's answer to a search, in the form and of the kind that it asks for. Cited by `nm_render` and `nm_core`.
use Rattle.std.specs.Prelude.{ℕ, ℤ, List, [], Ok, Err, if◌then◌else◌}
use Rattle.nm_base.specs.declared.asks.SearchAsk.{SearchAsk}
use Rattle.nm_base.specs.declared.forms.Output.{Output}
use Rattle.nm_base.specs.declared.forms.Output.TheVariants.{Summary, Threads, Messages, Files, Tags}
use Rattle.nm_model_index.specs.declared.base.Base.{Base}
use Rattle.nm_query.specs.Answers.{answer_of}
use Rattle.nm_query.specs.declared.query.Query.{Query}
use Rattle.nm_model_answer.specs.Search.{found_in_order, items_text}
use Rattle.nm_model_answer.specs.Summary.{summary_lines}
use Rattle.nm_model_answer.specs.SummaryJson.{summaries_json}

-- summaries of the threads of messages in order
abbrev pub summaries_text : SearchAsk → Base → List (List ℕ) → List ℕ
summaries_text ask index ids = if ask.json then summaries_json ask index ids else summary_lines ask index ids

-- of messages in order, what is asked
abbrev pub found_text : Output → SearchAsk → Base → List (List ℕ) → List ℕ
found_text Summary ask index ids = summaries_text ask index ids
found_text Threads ask index ids = items_text Threads ask index ids
found_text Messages ask index ids = items_text Messages ask index ids
found_text Files ask index ids = items_text Files ask index ids
found_text Tags ask index ids = items_text Tags ask index ids

-- the text over the messages that a query finds
abbrev pub search_found : SearchAsk → Base → ℤ → Query → List ℕ
search_found ask index moment query = found_text ask.output ask index (found_in_order ask index moment query)

-- what a search is answered; a text that is no query has no answer
abbrev pub search_answer : SearchAsk → Base → ℤ → List ℕ
search_answer ask index moment = elim (answer_of ask.query) [ Ok query ↦ search_found ask index moment query | Err refusal ↦ [] ]
