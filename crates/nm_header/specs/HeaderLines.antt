-- The lines of a header (RFC 5322, section 2.1): those before the first empty one.
-- Cited by `header` and `header_lines`.
use Rattle.std.specs.Prelude.{◌≡◌, ℕ, ◌+◌, ◌<◌, ◌≤◌, Bool, ◌==◌, not, List, ◌∷◌, length, take, drop}
use Rattle.std.specs.List.{take_while}
use Rattle.nm_text.specs.Cuts.{len_through}
use Rattle.nm_text.specs.Lines.{content, lines_of}

-- it has nothing but its end
abbrev pub is_empty_line : List ℕ → Bool
is_empty_line line = length (content line) == 0

-- the lines before the first empty one
abbrev pub header_lines : List ℕ → List (List ℕ)
header_lines bytes = take_while (λ line. not (is_empty_line line)) (lines_of bytes)

-- where the body begins: after the first empty line, or at the end
abbrev pub rest_of : List ℕ → ℕ
rest_of bytes = len_through is_empty_line (lines_of bytes)

-- the first n bytes are a line of the header
pub record BeginsWithLine (bytes : List ℕ) (n : ℕ) : Type 0 where
  pub header : header_lines bytes ≡ take n bytes ∷ header_lines (drop n bytes)
  pub rest : rest_of bytes ≡ n + rest_of (drop n bytes)
  pub some : 0 < n
  pub within : n ≤ length bytes

-- what is left of the bytes after some lines of their header
pub record LeavesOf (bytes left : List ℕ) : Type 0 where
  pub rest : rest_of bytes + length left ≡ rest_of left + length bytes
  pub within : length left ≤ length bytes
