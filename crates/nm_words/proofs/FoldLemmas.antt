-- Where every byte is ASCII, folding is the lower case of each byte, and leaves those as they are that are no capital letters.
-- For the proofs of `fold` and `add_piece`.
use Rattle.std.proofs.Common.{◌≡◌, ℕ, true, List, [], ◌∷◌, map, chars, encode_utf8_all, IsAscii, arith, refl, ap, ◌∙◌}
use Rattle.std.specs.Char.{to_ascii_lowercase}
use Rattle.std.specs.List.{list_all}
use Rattle.std.proofs.lemmas.Bool.{and_parts, ltb-true}
use Rattle.std.proofs.lemmas.Bool.Decides.{nat_tests}
use Rattle.std.proofs.lemmas.Str.{chars-IsAscii}
use Rattle.std.proofs.lemmas.Str.Ascii.{IsAscii-cons, IsAscii-map, IsAscii-nil, encodes-IsAscii, lowercase_ascii}
use Rattle.caseless.proofs.CaselessLemmas.{All-chars, default_case_fold-ascii}
use Rattle.nm_words.specs.Words.{folded, is_low}

pub folded_ascii : (piece : List ℕ) → IsAscii piece → folded piece ≡ map to_ascii_lowercase piece
folded_ascii piece ascii =
    ap encode_utf8_all (default_case_fold-ascii (chars piece) (All-chars piece ascii) ∙ ap (map to_ascii_lowercase) (chars-IsAscii piece ascii)) ∙ encodes-IsAscii (map to_ascii_lowercase piece) (IsAscii-map to_ascii_lowercase piece lowercase_ascii ascii)

low_ascii : (piece : List ℕ) → list_all is_low piece ≡ true → IsAscii piece
low_ascii [] low = IsAscii-nil
low_ascii (b ∷ bs) low = let both = and_parts (is_low b) (list_all is_low bs) low in IsAscii-cons b bs (ltb-true _ _ (and_parts _ _ both.0).0) (low_ascii bs both.1)

stays_low : (b : ℕ) → is_low b ≡ true → to_ascii_lowercase b ≡ b
stays_low b low = grind (arith, nat_tests)

all_stay : (piece : List ℕ) → list_all is_low piece ≡ true → map to_ascii_lowercase piece ≡ piece
all_stay [] low = refl
all_stay (b ∷ bs) low = let both = and_parts (is_low b) (list_all is_low bs) low in ap (λ c. c ∷ map to_ascii_lowercase bs) (stays_low b both.0) ∙ ap (λ l. b ∷ l) (all_stay bs both.1)

pub folded_low : (piece : List ℕ) → list_all is_low piece ≡ true → folded piece ≡ piece
folded_low piece low = folded_ascii piece (low_ascii piece low) ∙ all_stay piece low
