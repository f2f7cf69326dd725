-- White space, which is space, tab, CR and LF, and what is printed: tests, and texts without white space.
-- Cited by `white_space`, `nm_header`, `nm_decode` and others.
use Rattle.std.specs.Prelude.{ℕ, Bool, ◌&&◌, ◌||◌, ◌==◌, ◌-◌, nat_le, not, List, length, take, drop, filter}
use Rattle.std.specs.List.{list_all, prefix_len, suffix_len}
use Rattle.nm_base.specs.Bounds.{is_white_space}

-- a space or a tab
abbrev pub is_blank : ℕ → Bool
is_blank b = b == 32 || b == 9

-- a printable ASCII character that is no space
abbrev pub is_printable : ℕ → Bool
is_printable b = nat_le 33 b && nat_le b 126

-- white space alone, or nothing
abbrev pub is_all_white_space : List ℕ → Bool
is_all_white_space bytes = list_all is_white_space bytes

-- without any
abbrev pub without_white_space : List ℕ → List ℕ
without_white_space bytes = filter (λ b. not (is_white_space b)) bytes

-- without that at the front
abbrev pub trimmed_start : List ℕ → List ℕ
trimmed_start bytes = drop (prefix_len is_white_space bytes) bytes

-- without that at the end
abbrev pub trimmed_end : List ℕ → List ℕ
trimmed_end bytes = take (length bytes - suffix_len is_white_space bytes) bytes

-- without that at either end
abbrev pub trimmed : List ℕ → List ℕ
trimmed bytes = trimmed_end (trimmed_start bytes)
