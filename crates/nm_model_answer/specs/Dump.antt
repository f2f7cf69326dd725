-- The model's answer to a dump: a line for each message that its query finds, in byte order of the ids.
--   form of tag changes:  "#notmuch-dump batch-tag:3 tags" LF, then for each message ("+" tag " ")* "-- id:" id LF
--   form of sup:          for each message id " (" tag (" " tag)* ")" LF, the tags as they are
-- Cited by `nm_core` and `nm_dump`.
use Rattle.std.specs.Prelude.{ℕ, ℤ, Bool, false, ◌==◌, ◌||◌, List, [], ◌∷◌, ◌++◌, map, nat_eq, codes, Ok, Err, if◌then◌else◌}
use Rattle.std.specs.List.{flat_map, join_with_byte, list_any, starts_with}
use Rattle.nm_base.specs.Order.{sorted}
use Rattle.nm_base.specs.declared.asks.DumpAsk.{DumpAsk}
use Rattle.nm_base.specs.declared.forms.DumpForm.{DumpForm}
use Rattle.nm_base.specs.declared.forms.DumpForm.TheVariants.{BatchTag, Sup}
use Rattle.nm_model_index.specs.declared.base.Base.{Base}
use Rattle.nm_query.specs.Answers.{answer_of}
use Rattle.nm_query.specs.declared.query.Query.{Query}
use Rattle.nm_tags.specs.Encoding.{encoded_tag}
use Rattle.nm_model_answer.specs.Matches.{matches_of}
use Rattle.nm_model_answer.specs.View.{tags_of}

-- a `)` is in the text
abbrev pub has_parenthesis : List ℕ → Bool
has_parenthesis text = list_any (λ byte. byte == 41) text

-- a byte of a text in quotes: a double quote is doubled
abbrev pub doubled : ℕ → List ℕ
doubled byte = (if byte == 34 then byte ∷ byte ∷ [] else byte ∷ [])

-- a text in double quotes
abbrev pub quoted : List ℕ → List ℕ
quoted text = 34 ∷ flat_map doubled text ++ 34 ∷ []

-- as it is, the id would be read as something else: it holds `)`, or begins with `"`
abbrev pub wants_quotes : List ℕ → Bool
wants_quotes id = has_parenthesis id || starts_with nat_eq id (34 ∷ [])

-- an id after `id:`
abbrev pub written_id : List ℕ → List ℕ
written_id id = (if wants_quotes id then quoted id else id)

-- a tag that is set, and a space
abbrev pub written_tag : List ℕ → List ℕ
written_tag tag = 43 ∷ encoded_tag tag ++ 32 ∷ []

-- the line of a message in the form of tag changes
abbrev pub changes_line : List ℕ → List (List ℕ) → List ℕ
changes_line id tags = flat_map written_tag tags ++ codes "-- id:" ++ written_id id

-- the line of a message in the form of sup
abbrev pub sup_line : List ℕ → List (List ℕ) → List ℕ
sup_line id tags = id ++ codes " (" ++ join_with_byte 32 tags ++ codes ")"

-- the line of a message, in the form that is asked
abbrev pub message_line : DumpForm → List ℕ → List (List ℕ) → List ℕ
message_line BatchTag id tags = changes_line id tags
message_line Sup id tags = sup_line id tags

-- what comes before the lines: the first line in the form of tag changes, nothing in that of sup
abbrev pub first_line : DumpForm → List ℕ
first_line BatchTag = codes "#notmuch-dump batch-tag:3 tags" ++ 10 ∷ []
first_line Sup = []

-- the dump of messages, which are ids with their tags
abbrev pub dump_text : DumpForm → List (List ℕ × List (List ℕ)) → List ℕ
dump_text form messages = first_line form ++ flat_map (λ message. message_line form message.0 message.1 ++ 10 ∷ []) messages

-- messages with their tags
abbrev pub tagged : Base → List (List ℕ) → List (List ℕ × List (List ℕ))
tagged index ids = map (λ id. (id, tags_of index id)) ids

-- the dump of messages of an index, in byte order of their ids and each once
abbrev pub dump : DumpForm → Base → List (List ℕ) → List ℕ
dump form index ids = dump_text form (tagged index (sorted ids))

-- The dump of the messages that a query finds. No tag keeps a message out of a dump.
abbrev pub dump_found : DumpAsk → Base → ℤ → Query → List ℕ
dump_found ask index moment query = dump ask.form index (matches_of index query moment false)

-- what a dump is answered; a text that is no query has no answer
abbrev pub dump_answer : DumpAsk → Base → ℤ → List ℕ
dump_answer ask index moment = elim (answer_of ask.query) [ Ok query ↦ dump_found ask index moment query | Err refusal ↦ [] ]
