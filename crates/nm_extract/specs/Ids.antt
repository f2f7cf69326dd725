-- Which message a mail is, and which others it names (RFC 5322, section 3.6.4). Cited by `ids`.
use Rattle.std.specs.Prelude.{ℕ, List, [], ◌∷◌, ◌++◌, fold, slice_get, unwrap_or, codes, if◌then◌else◌}
use Rattle.std.specs.List.{flat_map}
use Rattle.hex.specs.Hex.{encode_lower}
use Rattle.sha1.specs.Sha1.{sha1}
use Rattle.nm_base.specs.Order.{has_text}
use Rattle.nm_header.specs.Ids.{ids_of}
use Rattle.nm_header.specs.Texts.{texts_of}
use Rattle.nm_header.specs.declared.header.HeaderField.{HeaderField}

-- the ids in the fields of a name that count
abbrev pub field_ids : List HeaderField → List ℕ → List (List ℕ)
field_ids fields name = flat_map ids_of (texts_of fields name)

-- the id of a mail that names none: it is that of its bytes
abbrev pub digest_id : List ℕ → List ℕ
digest_id bytes = codes "notmuch-sha1-" ++ encode_lower (sha1 bytes)

-- the first id of the Message-ID, or that of the bytes
abbrev pub own_id : List ℕ → List HeaderField → List ℕ
own_id bytes fields = unwrap_or (slice_get (field_ids fields (codes "message-id")) 0) (digest_id bytes)

-- what the mail may link to: the ids of References, then those of In-Reply-To
abbrev pub named_ids : List HeaderField → List (List ℕ)
named_ids fields = field_ids fields (codes "references") ++ field_ids fields (codes "in-reply-to")

-- the links with one id more: the own id is none, and none occurs twice
abbrev pub with_link : List ℕ → List (List ℕ) → List ℕ → List (List ℕ)
with_link own links id = if has_text (own ∷ links) id then links else links ++ id ∷ []

-- the ids as links, in their order
abbrev pub links_among : List ℕ → List (List ℕ) → List (List ℕ)
links_among own ids = fold (with_link own) [] ids
