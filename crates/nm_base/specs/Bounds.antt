-- Texts with bounds: what a constructor of a name, a tag, a word or a path answers.
-- Cited by `mail_path`, `message_id`, `nm_text` and others.
use Rattle.std.specs.Prelude.{ℕ, Bool, ◌&&◌, ◌||◌, ◌==◌, List, length, nat_le, Result, Ok, Err, if◌then◌else◌}
use Rattle.nm_base.specs.declared.names.BadValue.{BadValue}
use Rattle.nm_base.specs.declared.names.BadValue.TheVariants.{Length, Byte}

-- from one byte up to max bytes
abbrev pub fits_length : ℕ → List ℕ → Bool
fits_length max bytes = nat_le 1 (length bytes) && nat_le (length bytes) max

-- the text itself where it has the length and passes the rule; a fault of length is reported first
abbrev pub checked : ℕ → (List ℕ → Bool) → List ℕ → Result (List ℕ) BadValue
checked max rule text =
    if fits_length max text then (if rule text then Ok text else Err Byte) else Err Length

-- space, tab, CR or LF
abbrev pub is_white_space : ℕ → Bool
is_white_space b = b == 32 || b == 9 || b == 13 || b == 10
