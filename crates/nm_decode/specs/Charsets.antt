-- Charsets (RFC 2045, section 2.2; RFC 2046, section 4.1.2): the text of bytes under a label.
-- Cited by `charset` and `nm_extract`.
use Rattle.std.specs.Prelude.{ℕ, ◌||◌, nat_lt, if◌then◌else◌, List, map, codes}
use Rattle.std.specs.Str.{encode_utf8_all}
use Rattle.std.specs.Str.Lossy.{utf8_lossy}
use Rattle.nm_text.specs.Case.{same_ignoring_case}
use Rattle.nm_decode.specs.declared.charset.Charset.{Charset}
use Rattle.nm_decode.specs.declared.charset.Charset.TheVariants.{Ascii, Latin1, Utf8}

-- the charset of a label: one row a charset
abbrev pub charset_of : List ℕ → Charset
charset_of label =
    if same_ignoring_case label (codes "utf-8") || same_ignoring_case label (codes "utf8") then Utf8
    else (if same_ignoring_case label (codes "iso-8859-1") || same_ignoring_case label (codes "latin1") then Latin1
    else Ascii)

-- the character of a byte in a charset of one byte a character: one row a charset, and ASCII, with U+FFFD above 0x7F
abbrev pub char_in : Charset → ℕ → ℕ
char_in Latin1 b = b
char_in _ b = if nat_lt b 128 then b else 0xFFFD

-- the text of bytes that represent a character each
abbrev pub single_byte_text : Charset → List ℕ → List ℕ
single_byte_text charset bytes = encode_utf8_all (map (char_in charset) bytes)

-- the text of bytes in a charset; damaged UTF-8 is U+FFFD for each maximal subpart
abbrev pub text_in : Charset → List ℕ → List ℕ
text_in Utf8 bytes = utf8_lossy bytes
text_in charset bytes = single_byte_text charset bytes

-- the text of bytes under a label
abbrev pub text_of : List ℕ → List ℕ → List ℕ
text_of bytes label = text_in (charset_of label) bytes
