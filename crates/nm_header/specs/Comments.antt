-- Comments (RFC 5322, section 3.2.2) between quoted strings and quoted pairs.
-- Cited by `comments`, `plain_text` and `nm_extract`.
use Rattle.std.specs.Prelude.{ℕ, ◌+◌, ◌-◌, Bool, ◌==◌, List, [], ◌∷◌, length, map, find, count_by, unwrap_or, if◌then◌else◌}
use Rattle.std.specs.List.{concat, flat_map}
use Rattle.nm_text.specs.Cuts.{begins_with, cut}
use Rattle.nm_text.specs.QuotedStrings.{is_special, pair_more, pairs_of, quoted_len}

-- the beginnings of a list, the shortest first
abbrev pub beginnings : List (List ℕ) → List (List (List ℕ))
beginnings [] = [] ∷ []
beginnings (x ∷ xs) = [] ∷ map (λ front. x ∷ front) (beginnings xs)

-- there are `missing` more `)` than `(`
abbrev pub closes : ℕ → List (List ℕ) → Bool
closes missing pairs = count_by (is_special 41) pairs == count_by (is_special 40) pairs + missing

-- the shortest beginning that closes n comments, or all pairs
abbrev pub comment_pairs : ℕ → List (List ℕ) → List (List ℕ)
comment_pairs depth pairs = unwrap_or (find (closes depth) (beginnings pairs)) pairs

-- a comment goes on to the `)` that matches its `(`, or to the end
abbrev pub comment_len : List ℕ → ℕ
comment_len text = length (concat (comment_pairs 1 (pairs_of text)))

-- comments, quoted strings, pairs, and single bytes
abbrev pub lexeme_more : ℕ → List ℕ → ℕ
lexeme_more b text = if b == 40 then comment_len text else (if b == 34 then quoted_len text else pair_more b text)

-- the lexemes of a text with comments
abbrev pub lexemes_of : List ℕ → List (List ℕ)
lexemes_of text = cut lexeme_more text

-- it begins with `(`
abbrev pub is_comment : List ℕ → Bool
is_comment lexeme = begins_with 40 lexeme

-- a comment is one space
abbrev pub shown : List ℕ → List ℕ
shown lexeme = if is_comment lexeme then 32 ∷ [] else lexeme

-- the text without comments
abbrev pub plain_of : List ℕ → List ℕ
plain_of text = flat_map shown (lexemes_of text)

-- how many comments are open after the pair
abbrev pub depth_after : ℕ → List ℕ → ℕ
depth_after depth pair = if is_special 41 pair then depth - 1 else (if is_special 40 pair then depth + 1 else depth)
