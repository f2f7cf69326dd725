-- Content types (RFC 2045, sections 5.1 and 5.2). Cited by `types`.
use Rattle.std.specs.Prelude.{ℕ, ◌+◌, Bool, ◌&&◌, ◌||◌, ◌==◌, not, List, [], ◌∷◌, Option, None, Some, length, map, nat_lt, unwrap_or, codes, if◌then◌else◌}
use Rattle.std.specs.Char.{to_ascii_lowercase}
use Rattle.std.specs.List.{before_first, position_or_len}
use Rattle.nm_text.specs.Cuts.{is_byte}
use Rattle.nm_text.specs.WhiteSpace.{is_printable, trimmed_start}
use Rattle.nm_mime.specs.declared.types.ContentType.{ContentType}
use Rattle.nm_mime.specs.Params.{params_of}

-- no printable ASCII character, or a `;`
abbrev pub ends_type : ℕ → Bool
ends_type b = not (is_printable b) || b == 59

-- the characters with which the text begins after white space
abbrev pub run_of : List ℕ → List ℕ
run_of text = before_first ends_type (trimmed_start text)

-- its first `/` has something before it and something after it
abbrev pub is_type : List ℕ → Bool
is_type run = nat_lt 0 (position_or_len (is_byte 47) run) && nat_lt (position_or_len (is_byte 47) run + 1) (length run)

-- the type that is read in a field's text, if there is one
abbrev pub read_type : List ℕ → Option ContentType
read_type text =
    if is_type (run_of text) then Some (record { kind = map to_ascii_lowercase (run_of text); params = params_of text }) else None

-- where none is read: text/plain in ASCII
abbrev pub default_type : ContentType
default_type = record { kind = codes "text/plain"; params = record { name = codes "charset"; value = codes "us-ascii" } ∷ [] }

-- and in a digest a mail
abbrev pub mail_type : ContentType
mail_type = record { kind = codes "message/rfc822"; params = [] }

-- the type that a field's text names
abbrev pub content_type_of : List ℕ → ContentType
content_type_of text = unwrap_or (read_type text) default_type

-- the type of a part; `digest`: it is in a digest
abbrev pub type_of : Bool → List ℕ → ContentType
type_of digest text = unwrap_or (read_type text) (if digest then mail_type else default_type)
