-- Which fields of a name count (RFC 5322, section 3.6), and the text in them.
-- Cited by `texts`, `nm_mime` and `nm_extract`.
use Rattle.std.specs.Prelude.{ℕ, Bool, ◌||◌, List, [], map, filter, find, slice_get, unwrap_or, codes, if◌then◌else◌}
use Rattle.std.specs.List.{list_any}
use Rattle.std.specs.Option.{option_map, option_to_list}
use Rattle.std.specs.Str.Lossy.{utf8_lossy}
use Rattle.std.specs.Str.{bytes_eq}
use Rattle.nm_header.specs.declared.header.HeaderField.{HeaderField}

-- the field has this name
abbrev pub is_named : List ℕ → HeaderField → Bool
is_named name field = bytes_eq field.name name

-- the body read as UTF-8, with U+FFFD for damage
abbrev pub text_in : HeaderField → List ℕ
text_in field = utf8_lossy field.body

-- a name of which all fields count
abbrev pub counts_all : List ℕ → Bool
counts_all name =
    bytes_eq name (codes "to") || (bytes_eq name (codes "cc") || (bytes_eq name (codes "bcc") || (bytes_eq name (codes "references") || bytes_eq name (codes "in-reply-to"))))

-- the texts of the fields of a name that count: all, or the first
abbrev pub texts_of : List HeaderField → List ℕ → List (List ℕ)
texts_of fields name =
    if counts_all name then map text_in (filter (is_named name) fields) else option_to_list (option_map text_in (find (is_named name) fields))

-- the text of the first field with this name, or nothing
abbrev pub field_text : List HeaderField → List ℕ → List ℕ
field_text fields name = unwrap_or (slice_get (texts_of fields name) 0) []

-- a field with this name is among them
abbrev pub has_field : List HeaderField → List ℕ → Bool
has_field fields name = list_any (is_named name) fields
