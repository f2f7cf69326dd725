-- The summaries of a search as JSON: an array with an object for each thread, its members by their names.
-- Cited by `nm_render`.
use Rattle.std.specs.Prelude.{ℕ, List, [], ◌∷◌, ◌++◌, map, codes}
use Rattle.std.specs.Fmt.{decimal, signed_decimal}
use Rattle.nm_base.specs.declared.asks.SearchAsk.{SearchAsk}
use Rattle.nm_model_index.specs.declared.base.Base.{Base}
use Rattle.nm_model_answer.specs.Json.{joined, json_array, json_string}
use Rattle.nm_model_answer.specs.Search.{part_asked, thread_digits, threads_of}
use Rattle.nm_model_answer.specs.Summary.{summary_of}
use Rattle.nm_model_answer.specs.declared.summary.ThreadSummary.{ThreadSummary}

-- a name and its value
abbrev pub json_member : List ℕ × List ℕ → List ℕ
json_member named = json_string named.0 ++ (58 ∷ named.1)

-- values after their names, as an object
abbrev pub json_object : List (List ℕ × List ℕ) → List ℕ
json_object members = 123 ∷ (joined (44 ∷ []) (map json_member members) ++ 125 ∷ [])

-- what is reported of a thread; the date is in seconds since 1970
abbrev pub summary_members : ThreadSummary → List (List ℕ × List ℕ)
summary_members summary =
    (codes "authors", json_string summary.authors)
    ∷ (codes "files", decimal summary.files)
    ∷ (codes "matched", decimal summary.matched)
    ∷ (codes "subject", json_string summary.subject)
    ∷ (codes "tags", json_array (map json_string summary.tags))
    ∷ (codes "thread", json_string (thread_digits summary.thread))
    ∷ (codes "timestamp", signed_decimal summary.date)
    ∷ (codes "total", decimal summary.total)
    ∷ []

abbrev pub summary_json : ThreadSummary → List ℕ
summary_json summary = json_object (summary_members summary)

-- the summaries of the threads of messages in order, and LF; the offset and the limit count threads
abbrev pub summaries_json : SearchAsk → Base → List (List ℕ) → List ℕ
summaries_json ask index ids = json_array (map (λ name. summary_json (summary_of index ids name)) (part_asked ask (threads_of index ids))) ++ 10 ∷ []
