-- The words of a text (UAX 29), cut further at ASCII characters, and folded (Unicode, section 3.13).
-- Cited by `pieces`, `text`, `nm_extract` and others.
use Rattle.std.specs.Prelude.{ℕ, Bool, ◌&&◌, ◌||◌, ◌==◌, not, List, filter, map, nat_lt, if◌then◌else◌, chars, encode_utf8_all}
use Rattle.std.specs.Char.{is_ascii_alphanumeric, is_ascii_uppercase}
use Rattle.std.specs.List.{flat_map, list_any, slice_split}
use Rattle.unicode_segmentation.specs.Word as segmentation
use Rattle.caseless.specs.Caseless.{default_case_fold}
use Rattle.nm_base.specs.Word.{is_word}

-- an ASCII character that is no letter, no digit and no `_`
abbrev pub is_cut : ℕ → Bool
is_cut b = nat_lt b 128 && not (is_ascii_alphanumeric b || b == 95)

-- a letter or a digit of ASCII is in the piece
abbrev pub is_named : List ℕ → Bool
is_named piece = list_any is_ascii_alphanumeric piece

-- those of the pieces, or all
abbrev pub chosen : Bool → List (List ℕ) → List (List ℕ)
chosen named pieces = if named then filter is_named pieces else pieces

-- a byte of ASCII that is no capital letter
abbrev pub is_low : ℕ → Bool
is_low b = nat_lt b 128 && not (is_ascii_uppercase b)

abbrev pub is_line_feed : ℕ → Bool
is_line_feed b = b == 10

-- the piece without case
abbrev pub folded : List ℕ → List ℕ
folded piece = encode_utf8_all (default_case_fold (chars piece))

-- the pieces without case, the empty and the long ones dropped
abbrev pub words_in : List (List ℕ) → List (List ℕ)
words_in pieces = filter is_word (map folded pieces)

-- the words of the text, each cut at the ASCII characters that are in no word
abbrev pub words_of : List ℕ → List (List ℕ)
words_of text = words_in (flat_map (slice_split is_cut) (segmentation.words text))
