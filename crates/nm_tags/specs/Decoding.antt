-- What an encoded tag represents. Cited by `decode`.
use Rattle.std.specs.Prelude.{ℕ, ◌==◌, ◌&&◌, List, [], ◌∷◌, ◌++◌, Option, Some, None, Result, Ok, Err, if◌then◌else◌}
use Rattle.std.specs.Str.{is_utf8}
use Rattle.hex.specs.Hex.{decode_of}
use Rattle.hex.specs.declared.error.FromHexError.{FromHexError}
use Rattle.nm_base.specs.Tag.{is_tag}

-- these bytes before what follows, where both are there
abbrev pub joined : Result (List ℕ) FromHexError → Option (List ℕ) → Option (List ℕ)
joined (Ok bytes) (Some more) = Some (bytes ++ more)
joined (Ok bytes) None = None
joined (Err fault) more = None

-- `%` and two hex digits are a byte, every other byte represents itself; a `%` without two digits after it represents nothing
abbrev pub decoded_bytes : List ℕ → Option (List ℕ)
decoded_bytes [] = Some []
decoded_bytes (byte ∷ []) = if byte == 37 then None else Some (byte ∷ [])
decoded_bytes (byte ∷ high ∷ []) = if byte == 37 then None else joined (Ok (byte ∷ [])) (decoded_bytes (high ∷ []))
decoded_bytes (byte ∷ high ∷ low ∷ more) =
    if byte == 37 then joined (decode_of (high ∷ low ∷ [])) (decoded_bytes more) else joined (Ok (byte ∷ [])) (decoded_bytes (high ∷ low ∷ more))

-- the bytes where they are the text of a tag
abbrev pub tag_of_bytes : Option (List ℕ) → Option (List ℕ)
tag_of_bytes (Some bytes) = if is_utf8 bytes && is_tag bytes then Some bytes else None
tag_of_bytes None = None

-- the tag that is written so, if there is one
abbrev pub decoded_tag : List ℕ → Option (List ℕ)
decoded_tag encoded = tag_of_bytes (decoded_bytes encoded)
