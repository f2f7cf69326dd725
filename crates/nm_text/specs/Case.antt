-- Names without ASCII case. Cited by `case`, `nm_decode`, `nm_mime` and others.
use Rattle.std.specs.Prelude.{ℕ, Bool, List, map}
use Rattle.std.specs.Char.{to_ascii_lowercase}
use Rattle.std.specs.Str.{bytes_eq}

-- the two are one but for the case of ASCII letters
abbrev pub same_ignoring_case : List ℕ → List ℕ → Bool
same_ignoring_case name other = bytes_eq (map to_ascii_lowercase name) (map to_ascii_lowercase other)
