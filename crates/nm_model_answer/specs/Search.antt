-- The model's answer to a search: in their order the threads, messages, files or tags of what a query finds, as lines or
-- as a JSON array.
-- Cited by `nm_render`.
use Rattle.std.specs.Prelude.{ℕ, ℤ, pos, ◌-ℤ◌, Bool, List, [], ◌∷◌, ◌++◌, map, nat_eq, codes, if◌then◌else◌}
use Rattle.std.specs.List.{filter_map, flat_map}
use Rattle.hex.specs.Hex.{encode_lower}
use Rattle.nm_base.specs.Order.{sorted}
use Rattle.nm_base.specs.declared.asks.SearchAsk.{SearchAsk}
use Rattle.nm_base.specs.declared.forms.Output.{Output}
use Rattle.nm_base.specs.declared.forms.Output.TheVariants.{Summary, Threads, Messages, Files, Tags}
use Rattle.nm_codec.specs.Encoding.{u64_bytes}
use Rattle.nm_model_index.specs.Index.{rows_of}
use Rattle.nm_model_index.specs.declared.base.Base.{Base}
use Rattle.nm_query.specs.declared.query.Query.{Query}
use Rattle.nm_threads.specs.Name.{thread_name}
use Rattle.nm_model_answer.specs.Count.{files_of_all}
use Rattle.nm_model_answer.specs.Json.{json_array, json_string}
use Rattle.nm_model_answer.specs.Listing.{by_rank, each_once, part_of}
use Rattle.nm_model_answer.specs.Matches.{matches_of}
use Rattle.nm_model_answer.specs.View.{files_of, lead_date, tags_of}

-- ---- in order

-- the date of a message
abbrev pub message_date : Base → List ℕ → ℤ
message_date index id = lead_date (files_of index id)

-- its date, negated where the newest come first
abbrev pub rank_of : Base → Bool → List ℕ → ℤ
rank_of index oldest id = if oldest then message_date index id else pos 0 -ℤ message_date index id

-- messages, which come by their numbers, by date, the oldest or the newest first; those of one date stay by their numbers
abbrev pub ordered : Base → Bool → List (List ℕ) → List (List ℕ)
ordered index oldest ids = by_rank (rank_of index oldest) ids

-- the threads of messages, each where the first of its messages is
abbrev pub threads_of : Base → List (List ℕ) → List ℕ
threads_of index ids = each_once nat_eq (filter_map (thread_name (rows_of index) index.entries) ids)

-- the paths of messages, those of one in order of arrival
abbrev pub paths_of_all : Base → List (List ℕ) → List (List ℕ)
paths_of_all index ids = map (λ file. file.0) (files_of_all index ids)

-- the tags of messages, in byte order
abbrev pub tags_of_all : Base → List (List ℕ) → List (List ℕ)
tags_of_all index ids = sorted (flat_map (tags_of index) ids)

-- ---- printed

-- a thread by its name, in 16 hex digits
abbrev pub thread_digits : ℕ → List ℕ
thread_digits name = encode_lower (u64_bytes name)

-- the text after what says of what, and LF
abbrev pub item_line : List ℕ → List ℕ → List ℕ
item_line before text = before ++ (text ++ 10 ∷ [])

-- texts, a line each
abbrev pub lines_text : List ℕ → List (List ℕ) → List ℕ
lines_text before texts = flat_map (item_line before) texts

-- texts as an array of strings, and LF
abbrev pub strings_json : List (List ℕ) → List ℕ
strings_json texts = json_array (map json_string texts) ++ 10 ∷ []

-- texts in the form that is asked; what comes before each in a line is not in the array
abbrev pub texts_printed : Bool → List ℕ → List (List ℕ) → List ℕ
texts_printed json before texts = if json then strings_json texts else lines_text before texts

-- the part of the items that is asked for
abbrev pub part_asked : {X : Type 0} → SearchAsk → List X → List X
part_asked ask items = part_of ask.offset ask.limit items

-- of messages in order, what is asked: their threads, their ids, their files or their tags; the offset and the limit count
-- what is printed. A summary has a definition of its own.
abbrev pub items_text : Output → SearchAsk → Base → List (List ℕ) → List ℕ
items_text Summary ask index ids = []
items_text Threads ask index ids = texts_printed ask.json (codes "thread:") (map thread_digits (part_asked ask (threads_of index ids)))
items_text Messages ask index ids = texts_printed ask.json (codes "id:") (part_asked ask ids)
items_text Files ask index ids = texts_printed ask.json [] (part_asked ask (paths_of_all index ids))
items_text Tags ask index ids = texts_printed ask.json [] (part_asked ask (tags_of_all index ids))

-- the messages that a search finds, in its order
abbrev pub found_in_order : SearchAsk → Base → ℤ → Query → List (List ℕ)
found_in_order ask index moment query = ordered index ask.oldest (matches_of index query moment ask.exclude)
