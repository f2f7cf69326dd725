-- Message ids (RFC 5322, section 3.6.4, read generously): 1 to 1,000 bytes without white space, `<` and `>`.
-- Cited by `message_id`, `nm_header`, `nm_dump` and others.
use Rattle.std.specs.Prelude.{ℕ, Bool, ◌&&◌, ◌||◌, ◌==◌, not, List}
use Rattle.std.specs.List.{list_all}
use Rattle.nm_base.specs.Bounds.{fits_length, is_white_space}

-- no white space, no `<`, no `>`
abbrev pub is_id_byte : ℕ → Bool
is_id_byte b = not (is_white_space b || b == 60 || b == 62)

abbrev pub is_id_text : List ℕ → Bool
is_id_text text = list_all is_id_byte text

-- an id, of the right length too
abbrev pub is_message_id : List ℕ → Bool
is_message_id text = fits_length 1000 text && is_id_text text
