-- JSON replies as the library's own reader reads them. Cited by `items`, `text_lists`, `search` and others.
use Rattle.std.specs.Prelude.{◌≡◌, ℕ, List, [], ◌∷◌, ◌++◌, map, Some}
use Rattle.serde_json.specs.Data.{Data, array, string}
use Rattle.serde_json.specs.Read.{read}
use Rattle.serde_json.specs.View.{items_of}
use Rattle.nm_base.specs.declared.asks.SearchAsk.{SearchAsk}
use Rattle.nm_base.specs.declared.forms.Output.{Output}
use Rattle.nm_base.specs.declared.forms.Output.TheVariants.{Summary, Threads, Messages, Files, Tags}
use Rattle.nm_model_index.specs.declared.base.Base.{Base}
use Rattle.nm_model_answer.specs.Search.{part_asked, paths_of_all, tags_of_all, thread_digits, threads_of}
use Rattle.nm_model_answer.specs.Summary.{summary_of}
use Rattle.nm_render.specs.SummaryData.{summary_data}

-- JSON that is read as an array of these values, and LF
abbrev pub ReadsBack : List Data → List ℕ → Type 0
ReadsBack values text = (json : List ℕ) × (text ≡ json ++ 10 ∷ []) × (read json ≡ Some (array (items_of values)))

-- what a search prints of messages in order, as values: an object for each thread, or a string for each thread, message, file or
-- tag
abbrev pub found_data : Output → SearchAsk → Base → List (List ℕ) → List Data
found_data Summary ask index ids = map summary_data (map (summary_of index ids) (part_asked ask (threads_of index ids)))
found_data Threads ask index ids = map string (map thread_digits (part_asked ask (threads_of index ids)))
found_data Messages ask index ids = map string (part_asked ask ids)
found_data Files ask index ids = map string (part_asked ask (paths_of_all index ids))
found_data Tags ask index ids = map string (part_asked ask (tags_of_all index ids))
