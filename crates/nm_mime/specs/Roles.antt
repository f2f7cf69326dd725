-- How a part is encoded, whether it is attached, and what becomes of it: the first of eight rules that fits.
-- Cited by `roles`.
use Rattle.std.specs.Prelude.{ℕ, Bool, true, false, ◌&&◌, ◌||◌, ◌==◌, not, List, Option, None, Some, nat_lt, nat_eq, codes, if◌then◌else◌}
use Rattle.std.specs.List.{before_first, list_any, starts_with}
use Rattle.std.specs.Option.{option_map}
use Rattle.std.specs.Str.{bytes_eq}
use Rattle.nm_base.specs.Bounds.{fits_length}
use Rattle.nm_text.specs.Case.{same_ignoring_case}
use Rattle.nm_decode.specs.EncodedWords.{words_decoded}
use Rattle.nm_text.specs.WhiteSpace.{is_printable, trimmed}
use Rattle.nm_mime.specs.declared.param_list.Param.{Param}
use Rattle.nm_mime.specs.declared.roles.Encoding.{Encoding}
use Rattle.nm_mime.specs.declared.roles.Encoding.TheVariants.{Plain, Quoted, Base64}
use Rattle.nm_mime.specs.declared.roles.Role.{Role}
use Rattle.nm_mime.specs.declared.roles.Role.TheVariants.{Opened, Readable, Signature, Unread}
use Rattle.nm_mime.specs.Params.{param_of, params_of}

-- the encoding that a Content-Transfer-Encoding names (RFC 2045, section 6)
abbrev pub encoding_of : List ℕ → Encoding
encoding_of text =
    if same_ignoring_case (trimmed text) (codes "quoted-printable") then Quoted
    else (if same_ignoring_case (trimmed text) (codes "base64") then Base64
    else Plain)

-- one of RFC 2045's tspecials: ( ) < > @ , ; : \ " / [ ] ? =
abbrev pub is_tspecial : ℕ → Bool
is_tspecial b = list_any (λ special. special == b) (codes "()<>@,;:\\\"/[]?=")

-- no character of a token (RFC 2045, section 5.1)
abbrev pub ends_token : ℕ → Bool
ends_token b = not (is_printable b) || is_tspecial b

-- a Content-Disposition begins with the token `attachment` (RFC 2183, section 2)
abbrev pub is_attachment : List ℕ → Bool
is_attachment disposition = same_ignoring_case (before_first ends_token disposition) (codes "attachment")

-- the first, or where there is none the second
abbrev pub first_of : Option (List ℕ) → Option (List ℕ) → Option (List ℕ)
first_of None second = second
first_of (Some text) second = Some text

-- the name of an attached part's file: its disposition's, or else its type's
abbrev pub filename_of : List ℕ → List Param → Option (List ℕ)
filename_of disposition params =
    if is_attachment disposition
    then option_map words_decoded (first_of (param_of (params_of disposition) (codes "filename")) (param_of params (codes "name")))
    else None

-- the type begins with these bytes
abbrev pub is_kind_of : List ℕ → List ℕ → Bool
is_kind_of front kind = starts_with nat_eq kind front

-- a multipart of any subtype
abbrev pub is_multipart : List ℕ → Bool
is_multipart kind = is_kind_of (codes "multipart/") kind

-- a mail as a part
abbrev pub is_message : List ℕ → Bool
is_message kind = bytes_eq kind (codes "message/rfc822")

-- not encoded, or in a way that is not known
abbrev pub is_plain : Encoding → Bool
is_plain Plain = true
is_plain Quoted = false
is_plain Base64 = false

-- it may hold parts, but is too deep
abbrev pub is_too_deep : ℕ → List ℕ → Bool
is_too_deep depth kind = not (nat_lt depth 32) && (is_multipart kind || is_message kind)

-- the first rule that fits; `signature`: it is the second part of a multipart/signed
abbrev pub role_of : Bool → Bool → ℕ → List ℕ → List ℕ → Encoding → Role
role_of attached signature depth kind boundary encoding =
    if attached then Unread
    else (if signature then Signature
    else (if bytes_eq kind (codes "multipart/encrypted") then Unread
    else (if is_too_deep depth kind then Unread
    else (if is_multipart kind && fits_length 200 boundary then Opened
    else (if is_message kind && is_plain encoding then Opened
    else (if is_kind_of (codes "text/") kind then Readable
    else Unread))))))
