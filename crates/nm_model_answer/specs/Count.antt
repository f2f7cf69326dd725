-- The model's answer to a count: how many messages a query finds, how many threads they are of, or how many files they
-- have.
-- Cited by `nm_render` and `nm_core`.
use Rattle.std.specs.Prelude.{ℕ, ℤ, List, [], ◌∷◌, ◌++◌, length, fold, Ok, Err, if◌then◌else◌}
use Rattle.std.specs.BTreeSet.{insert_key}
use Rattle.std.specs.Fmt.{decimal}
use Rattle.std.specs.List.{filter_map, flat_map}
use Rattle.std.specs.Ordering.{nat_cmp}
use Rattle.nm_base.specs.declared.asks.CountAsk.{CountAsk}
use Rattle.nm_base.specs.declared.facts.Facts.{Facts}
use Rattle.nm_base.specs.declared.forms.Output.{Output}
use Rattle.nm_base.specs.declared.forms.Output.TheVariants.{Summary, Threads, Messages, Files, Tags}
use Rattle.nm_model_index.specs.Index.{rows_of}
use Rattle.nm_model_index.specs.declared.base.Base.{Base}
use Rattle.nm_query.specs.Answers.{answer_of}
use Rattle.nm_query.specs.declared.query.Query.{Query}
use Rattle.nm_threads.specs.Name.{thread_name}
use Rattle.nm_model_answer.specs.BatchLines.{queries_in}
use Rattle.nm_model_answer.specs.Matches.{matches_of}
use Rattle.nm_model_answer.specs.View.{files_of}

-- the numbers in rising order, each once
abbrev pub distinct : List ℕ → List ℕ
distinct numbers = fold (insert_key nat_cmp) [] numbers

-- the names of the threads that messages are of, each once
abbrev pub thread_names : Base → List (List ℕ) → List ℕ
thread_names index ids = distinct (filter_map (thread_name (rows_of index) index.entries) ids)

-- the files of messages, message by message
abbrev pub files_of_all : Base → List (List ℕ) → List (List ℕ × Facts)
files_of_all index ids = flat_map (files_of index) ids

-- how many of what is asked the messages come to; what is printed in another form is not counted
abbrev pub counted : Output → Base → List (List ℕ) → ℕ
counted Summary index ids = 0
counted Threads index ids = length (thread_names index ids)
counted Messages index ids = length ids
counted Files index ids = length (files_of_all index ids)
counted Tags index ids = 0

-- the number, and LF
abbrev pub count_text : Output → Base → List (List ℕ) → List ℕ
count_text output index ids = decimal (counted output index ids) ++ 10 ∷ []

-- the count over the messages that a query finds
abbrev pub count_found : CountAsk → Base → ℤ → Query → List ℕ
count_found ask index moment query = count_text ask.output index (matches_of index query moment ask.exclude)

-- the counts of queries, one after the other
abbrev pub counts_found : CountAsk → Base → ℤ → List Query → List ℕ
counts_found ask index moment queries = flat_map (count_found ask index moment) queries

-- the counts of the queries of an input; where a line of it is no query nothing is counted
abbrev pub batch_answer : CountAsk → List ℕ → Base → ℤ → List ℕ
batch_answer ask input index moment = elim (queries_in input) [ Ok queries ↦ counts_found ask index moment queries | Err fault ↦ [] ]

-- the count of the query of the words; a text that is no query has no answer
abbrev pub words_answer : CountAsk → Base → ℤ → List ℕ
words_answer ask index moment = elim (answer_of ask.query) [ Ok query ↦ count_found ask index moment query | Err refusal ↦ [] ]

-- what a count is answered
abbrev pub count_answer : CountAsk → List ℕ → Base → ℤ → List ℕ
count_answer ask input index moment = if ask.batch then batch_answer ask input index moment else words_answer ask index moment
