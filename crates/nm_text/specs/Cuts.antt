-- Cuts: a text before and after a byte, and a text cut into lexemes one after the other.
-- Cited by `cuts`, `nm_decode`, `nm_eval` and others.
use Rattle.std.specs.Prelude.{ℕ, zero, suc, ◌+◌, ◌-◌, Bool, false, ◌&&◌, ◌==◌, List, [], ◌∷◌, length, take, drop, nat_lt, slice_index, if◌then◌else◌}

-- this byte
abbrev pub is_byte : ℕ → ℕ → Bool
is_byte wanted b = b == wanted

-- the byte comes first
abbrev pub begins_with : ℕ → List ℕ → Bool
begins_with byte [] = false
begins_with byte (first ∷ more) = first == byte

-- the byte comes last
abbrev pub ends_with : ℕ → List ℕ → Bool
ends_with byte text = nat_lt 0 (length text) && slice_index text (length text - 1) == byte

-- each lexeme has its first byte, and as many more as `more` says of that byte and of what follows it; n bounds how many lexemes there are
abbrev pub cut_upto : ℕ → (ℕ → List ℕ → ℕ) → List ℕ → List (List ℕ)
cut_upto zero more xs = []
cut_upto (suc n) more [] = []
cut_upto (suc n) more (x ∷ xs) = (x ∷ take (more x xs) xs) ∷ cut_upto n more (drop (more x xs) xs)

-- all lexemes of the text
unfoldable pub cut : (ℕ → List ℕ → ℕ) → List ℕ → List (List ℕ)
cut more xs = cut_upto (length xs) more xs

-- how many bytes are in the lexemes up to the first that passes the test, and in that one
abbrev pub len_through : (List ℕ → Bool) → List (List ℕ) → ℕ
len_through test [] = 0
len_through test (x ∷ xs) = if test x then length x else length x + len_through test xs
