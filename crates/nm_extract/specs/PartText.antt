-- The text of a readable part: its content decoded, and of HTML what is outside the tags.
-- Cited by `body_text`, `mail`, `nm_render` and others.
use Rattle.std.specs.Prelude.{ℕ, Bool, true, false, List, map, filter, codes, if◌then◌else◌}
use Rattle.std.specs.Str.{bytes_eq}
use Rattle.nm_decode.specs.Base64.{base64_of}
use Rattle.nm_decode.specs.Charsets.{text_of}
use Rattle.nm_decode.specs.QuotedPrintable.{quoted_of}
use Rattle.nm_extract.specs.Html.{strip_html_tags}
use Rattle.nm_mime.specs.Parts.{bytes_in, parts_of}
use Rattle.nm_mime.specs.declared.entity.Part.{Part}
use Rattle.nm_mime.specs.declared.roles.Encoding.{Encoding}
use Rattle.nm_mime.specs.declared.roles.Encoding.TheVariants.{Plain, Quoted, Base64}
use Rattle.nm_mime.specs.declared.roles.Role.{Role}
use Rattle.nm_mime.specs.declared.roles.Role.TheVariants.{Opened, Readable, Unread, Signature}

-- a text that a reader of the mail is shown
abbrev pub is_readable : Role → Bool
is_readable Opened = false
is_readable Readable = true
is_readable Unread = false
is_readable Signature = false

-- the bytes that a content encodes
abbrev pub decoded : Encoding → List ℕ → List ℕ
decoded Plain content = content
decoded Quoted content = quoted_of content
decoded Base64 content = base64_of content

-- the text of a part
abbrev pub part_text : List ℕ → Part → List ℕ
part_text mail part = text_of (decoded part.encoding (bytes_in mail part.from part.to)) part.charset

-- the text of each readable part
abbrev pub bodies_of : List ℕ → List (List ℕ)
bodies_of mail = map (part_text mail) (filter (λ part. is_readable part.role) (parts_of mail))

abbrev pub is_html : List ℕ → Bool
is_html kind = bytes_eq kind (codes "text/html")

-- what is read of a text of this type: of HTML what is outside the tags
abbrev pub visible_text : List ℕ → List ℕ → List ℕ
visible_text kind text = if is_html kind then strip_html_tags text else text
