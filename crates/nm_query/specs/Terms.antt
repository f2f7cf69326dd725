-- What a value asks after its prefix, and what a run or a quoted text asks by itself. Cited by `terms`.
use Rattle.std.specs.Prelude.{ℕ, ◌+◌, ◌-◌, ◌*◌, Bool, true, false, ◌||◌, ◌&&◌, ◌==◌, not, List, [], ◌∷◌, length, take, drop, nat_le, nat_lt, slice_index, fold, Option, Some, None, Result, Ok, Err, codes, if◌then◌else◌}
use Rattle.std.specs.List.{list_all}
use Rattle.std.specs.Str.{bytes_eq}
use Rattle.nm_base.specs.declared.facts.Field.{Field}
use Rattle.nm_base.specs.declared.facts.Field.TheVariants as field
use Rattle.nm_dates.specs.Ends.{end_of}
use Rattle.nm_dates.specs.declared.end.End.{End}
use Rattle.nm_words.specs.Words.{words_of}
use Rattle.nm_query.specs.declared.prefixes.Name.{Name}
use Rattle.nm_query.specs.declared.prefixes.Name.TheVariants as name
use Rattle.nm_query.specs.declared.query.Query.{Query}
use Rattle.nm_query.specs.declared.query.Query.TheVariants as tree
use Rattle.nm_query.specs.declared.query_error.QueryError.{QueryError}
use Rattle.nm_query.specs.declared.query_error.QueryError.TheVariants.{BadDate, BadQuery}
use Rattle.nm_query.specs.declared.query_error.QueryKind.TheVariants as kind
use Rattle.nm_query.specs.declared.token.Item.{Item}
use Rattle.nm_query.specs.declared.token.TermKind.{TermKind}
use Rattle.nm_query.specs.declared.token.TermKind.TheVariants as joins
use Rattle.nm_query.specs.declared.values.Value.{Value}

-- the last byte is this one
abbrev pub ends_with : ℕ → List ℕ → Bool
ends_with b text = nat_lt 0 (length text) && slice_index text (length text - 1) == b

-- without the last byte
abbrev pub without_last : List ℕ → List ℕ
without_last text = take (length text - 1) text

-- the words of a text, as they are
abbrev pub words_query : Option Field → List ℕ → Query
words_query field text = tree.Words field (words_of text) false

-- the words of a run: with a `*` at its end the last is the front of a word
abbrev pub run_query : Option Field → List ℕ → Query
run_query field run = if ends_with 42 run then tree.Words field (words_of (without_last run)) true else words_query field run

-- `/`, and another one at the end: the form of a pattern
abbrev pub is_pattern : List ℕ → Bool
is_pattern text = nat_le 2 (length text) && slice_index text 0 == 47 && ends_with 47 text

-- the fields that a pattern may be in
abbrev pub takes_pattern : Field → Bool
takes_pattern field.From = true
takes_pattern field.To = false
takes_pattern field.Subject = true
takes_pattern field.Body = false
takes_pattern field.Attachment = false

-- a `*` inside quotes asks nothing
abbrev pub said_query : Option Field → Value → Query
said_query field value = if value.quoted then words_query field value.said else run_query field value.said

-- what a value asks of a field, for a term at one place whose value begins at another
abbrev pub field_query : ℕ → ℕ → Field → Value → Result Query QueryError
field_query at from field value =
    if length value.said == 0 then Err (BadQuery from kind.Value)
    else (if takes_pattern field && is_pattern value.said then Err (BadQuery at kind.NotHere)
    else Ok (said_query (Some field) value))

-- a lower-case hexadecimal digit
abbrev pub is_hex_digit : ℕ → Bool
is_hex_digit b = (nat_le 48 b && nat_le b 57) || (nat_le 97 b && nat_le b 102)

-- the value of such a digit
abbrev pub hex_value : ℕ → ℕ
hex_value b = if nat_le b 57 then b - 48 else b - 87

-- one digit more
abbrev pub with_hex_digit : ℕ → ℕ → ℕ
with_hex_digit number digit = number * 16 + hex_value digit

-- the number that the digits say
abbrev pub hex_number : List ℕ → ℕ
hex_number digits = fold with_hex_digit 0 digits

-- the number of a thread: 16 lower-case hexadecimal digits
abbrev pub thread_number : List ℕ → Option ℕ
thread_number text = if length text == 16 && list_all is_hex_digit text then Some (hex_number text) else None

-- `**`, or `/**` at the end: the folder and all below
abbrev pub path_query : List ℕ → Query
path_query text =
    if bytes_eq text (codes "**") then tree.Path [] true
    else (if nat_le 3 (length text) && bytes_eq (drop (length text - 3) text) (codes "/**") then tree.Path (take (length text - 3) text) true
    else tree.Path text false)

-- `..` is at the front
abbrev pub begins_with_dots : List ℕ → Bool
begins_with_dots [] = false
begins_with_dots (b ∷ []) = false
begins_with_dots (b ∷ c ∷ more) = b == 46 && c == 46

-- how many bytes come before the first `..`; all of them where none does
abbrev pub before_dots : List ℕ → ℕ
before_dots [] = 0
before_dots (b ∷ more) = if begins_with_dots (b ∷ more) then 0 else 1 + before_dots more

-- the range between two ends
abbrev pub dates_of : Option End → Option End → Query
dates_of from to = tree.Dates from to

-- the end that is there
abbrev pub end_at : ℕ → List ℕ → Result End QueryError
end_at at text = elim (end_of text) [ Some end ↦ Ok end | None ↦ Err (BadDate at) ]

-- the end that is there, if one does
abbrev pub optional_end : ℕ → List ℕ → Result (Option End) QueryError
optional_end at text = if length text == 0 then Ok None else elim (end_at at text) [ Ok end ↦ Ok (Some end) | Err refusal ↦ Err refusal ]

-- one end for both
abbrev pub one_date : ℕ → List ℕ → Result Query QueryError
one_date at text = elim (end_at at text) [ Ok end ↦ Ok (dates_of (Some end) (Some end)) | Err refusal ↦ Err refusal ]

-- a range whose second end is read after the first
abbrev pub with_from : Option End → Result (Option End) QueryError → Result Query QueryError
with_from from to = elim to [ Ok end ↦ Ok (dates_of from end) | Err refusal ↦ Err refusal ]

-- two ends, each with its place
abbrev pub two_dates : ℕ → List ℕ → ℕ → List ℕ → Result Query QueryError
two_dates at from at_to to = elim (optional_end at from) [ Ok end ↦ with_from end (optional_end at_to to) | Err refusal ↦ Err refusal ]

-- the place of the second end
abbrev pub second_place : ℕ → Bool → ℕ → ℕ
second_place from quoted dots = if quoted then from else from + dots + 2

-- `!` after an end represents that end
abbrev pub is_same_end : List ℕ → List ℕ → Bool
is_same_end from to = nat_lt 0 (length from) && bytes_eq to (codes "!")

-- a range of two ends with their places
abbrev pub range_query : ℕ → ℕ → List ℕ → List ℕ → Result Query QueryError
range_query at at_to from to = if is_same_end from to then one_date at from else two_dates at from at_to to

-- a range is cut at its first `..`; without one both ends are the same
abbrev pub date_query : ℕ → Value → Result Query QueryError
date_query from value =
    if before_dots value.said == length value.said then one_date from value.said
    else range_query from (second_place from value.quoted (before_dots value.said)) (take (before_dots value.said) value.said) (drop (before_dots value.said + 2) value.said)

-- a tag, but no pattern
abbrev pub tag_query : ℕ → List ℕ → Result Query QueryError
tag_query at text = if is_pattern text then Err (BadQuery at kind.NotHere) else Ok (tree.Tag text)

-- a thread, but none of a query
abbrev pub thread_query : ℕ → List ℕ → Result Query QueryError
thread_query at text = if slice_index text 0 == 123 then Err (BadQuery at kind.NotHere) else Ok (tree.Thread (thread_number text))

-- a folder, but no pattern
abbrev pub folder_path_query : ℕ → List ℕ → Result Query QueryError
folder_path_query at text = if is_pattern text then Err (BadQuery at kind.NotHere) else Ok (path_query text)

-- what a value that is there asks after a name
abbrev pub named_query : ℕ → ℕ → Name → Value → Result Query QueryError
named_query at from name.Tag value = tag_query at value.said
named_query at from name.Is value = Ok (tree.Tag value.said)
named_query at from name.Id value = Ok (tree.Id value.said)
named_query at from name.Thread value = thread_query at value.said
named_query at from name.Folder value = Ok (tree.Folder value.said)
named_query at from name.Path value = folder_path_query at value.said
named_query at from name.Mime value = Ok (tree.Mime value.said)
named_query at from name.Date value = date_query from value

-- a folder may be the root, whose name is empty
abbrev pub may_be_empty : Name → Bool
may_be_empty name.Tag = false
may_be_empty name.Is = false
may_be_empty name.Id = false
may_be_empty name.Thread = false
may_be_empty name.Folder = true
may_be_empty name.Path = true
may_be_empty name.Mime = false
may_be_empty name.Date = false

-- nothing that may be a value: an empty one, but for a quoted one of a folder
abbrev pub lacks_value : Name → Value → Bool
lacks_value name value = length value.said == 0 && not (value.quoted && may_be_empty name)

-- what a value asks after a name, for a term at one place whose value begins at another
abbrev pub name_query : ℕ → ℕ → Name → Value → Result Query QueryError
name_query at from name value = if lacks_value name value then Err (BadQuery from kind.Value) else named_query at from name value

-- with which terms of its group it is joined by Or
abbrev pub term_kind : Name → TermKind
term_kind name.Tag = joins.Tag
term_kind name.Is = joins.Tag
term_kind name.Id = joins.Id
term_kind name.Thread = joins.Thread
term_kind name.Folder = joins.Folder
term_kind name.Path = joins.Path
term_kind name.Mime = joins.Other
term_kind name.Date = joins.Other

-- a query that is joined with no others by Or
abbrev pub other_item : Query → Item
other_item query = record { kind = joins.Other; query = query }
