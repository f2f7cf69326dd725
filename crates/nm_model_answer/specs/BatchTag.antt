-- Lines of a dump in the form of tag changes: `+tag -tag -- id:ID`, the id as it is or in double quotes.
-- Cited by `nm_dump`.
use Rattle.std.specs.Prelude.{ℕ, ◌==◌, ◌&&◌, List, [], ◌∷◌, drop, nat_eq, Option, Some, None, Result, Ok, Err, codes, if◌then◌else◌}
use Rattle.std.specs.List.{starts_with}
use Rattle.std.specs.Str.{is_utf8}
use Rattle.nm_base.specs.MessageId.{is_message_id}
use Rattle.nm_base.specs.declared.tag_op.TagOp.{TagOp}
use Rattle.nm_model_answer.specs.Dump.{has_parenthesis}
use Rattle.nm_tags.specs.TagLines.{asked_in}
use Rattle.nm_tags.specs.declared.line_error.LineKind.{LineKind}
use Rattle.nm_tags.specs.declared.line_error.LineKind.TheVariants as kinds

-- a byte before a text, where there is one
abbrev pub with_byte : ℕ → Option (List ℕ) → Option (List ℕ)
with_byte byte (Some text) = Some (byte ∷ text)
with_byte byte None = None

-- What comes after a first double quote up to the last one: each quote in it is doubled, and nothing comes after.
abbrev pub unquoted : List ℕ → Option (List ℕ)
unquoted [] = None
unquoted (byte ∷ []) = if byte == 34 then Some [] else None
unquoted (byte ∷ next ∷ more) =
    if byte == 34 then (if next == 34 then with_byte 34 (unquoted more) else None) else with_byte byte (unquoted (next ∷ more))

-- the text as it is, unless it has a `)`
abbrev pub unencoded : List ℕ → Option (List ℕ)
unencoded text = if has_parenthesis text then None else Some text

-- the text of an id: in quotes, or as it is
abbrev pub id_text : List ℕ → Option (List ℕ)
id_text [] = None
id_text (first ∷ more) = if first == 34 then unquoted more else unencoded (first ∷ more)

-- the text where it is an id
abbrev pub checked_id : Option (List ℕ) → Option (List ℕ)
checked_id (Some text) = if is_utf8 text && is_message_id text then Some text else None
checked_id None = None

-- the id that a query names which is nothing but an id
abbrev pub id_of_query : List ℕ → Option (List ℕ)
id_of_query query = if starts_with nat_eq query (codes "id:") then checked_id (id_text (drop 3 query)) else None

-- the changes with the id that the query names
abbrev pub with_id : List TagOp → Option (List ℕ) → Result (List ℕ × List TagOp) LineKind
with_id ops (Some id) = Ok (id, ops)
with_id ops None = Err kinds.Form

-- what a line asks for, or its first fault; it may change nothing
abbrev pub read_batch_tag : List ℕ → Result (List ℕ × List TagOp) LineKind
read_batch_tag text = elim (asked_in text) [ Some asked ↦ with_id asked.0 (id_of_query asked.1) | None ↦ Err kinds.Tag ]
