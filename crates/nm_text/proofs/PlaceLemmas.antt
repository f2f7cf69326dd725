-- A text is cut at the first place of an ASCII character: the parts, and that each is text.
-- For the proofs of `after_first`, `before_first`, `cut_at` and `first_place`.
use Rattle.std.proofs.Common.{◌≡◌, ℕ, ◌+◌, ◌<◌, Bool, true, false, List, Option, None, Some, [], ◌∷◌, length, take, drop, get_or, refl, sym, ap, subst, ◌∙◌, arith, inl, inr}
use Rattle.std.specs.Prelude.{IsUtf8}
use Rattle.std.specs.Str.{IsCharBoundary}
use Rattle.std.specs.List.{position_or_len, slice_split}
use Rattle.std.specs.Option.{unwrap_or}
use Rattle.std.proofs.lemmas.Bool.{cases_lt, eqb-true}
use Rattle.std.proofs.lemmas.List.{take_all}
use Rattle.std.proofs.lemmas.List.Elements.{All-from_get_or}
use Rattle.std.proofs.lemmas.List.Splits.{slice_split_first, slice_split_none}
use Rattle.std.proofs.lemmas.List.Sums.{fails_before_first, passes_at_first, position_or_len_is}
use Rattle.std.proofs.lemmas.Str.{IsCharBoundary-after_ascii, IsCharBoundary-before_ascii, IsUtf8-drop, IsUtf8-take}
use Rattle.bstr.specs.Find.{IsFirstByte}
use Rattle.nm_text.specs.Cuts.{is_byte}

-- the place, as a loop over the bytes of the text gives it
module _ (wanted : ℕ) (text bytes : List ℕ) (at : ℕ) (same : bytes ≡ text) (place : at ≡ position_or_len (is_byte wanted) bytes) where
  first : at ≡ position_or_len (is_byte wanted) text
  first = place ∙ ap (position_or_len (is_byte wanted)) same

  pub split_none : at ≡ length text → slice_split (is_byte wanted) text ≡ text ∷ []
  split_none all =
      let here = first in
      slice_split_none (is_byte wanted) text (All-from_get_or (λ x. is_byte wanted x ≡ false) text 0 (λ i within. fails_before_first (is_byte wanted) text i 0 (omega arith)))

  byte_at : at < length text → get_or text at 0 ≡ wanted
  byte_at within =
      let here = first in
      ap (λ n. get_or text n 0) here ∙ eqb-true (get_or text (position_or_len (is_byte wanted) text) 0) wanted (passes_at_first (is_byte wanted) text 0 (omega arith))

  pub before_place : wanted < 128 → at < length text → IsCharBoundary text at
  before_place ascii within = let byte = byte_at within in IsCharBoundary-before_ascii text at within (omega arith)

  pub after_place : wanted < 128 → at < length text → IsUtf8 text → IsCharBoundary text (at + 1)
  after_place ascii within u = let byte = byte_at within in IsCharBoundary-after_ascii text at u within (omega arith)

  pub split_first : at < length text → slice_split (is_byte wanted) text ≡ take at text ∷ slice_split (is_byte wanted) (drop (at + 1) text)
  split_first within =
      let here = first in
      slice_split_first (is_byte wanted) text 0 (omega arith) ∙ ap (λ n. take n text ∷ slice_split (is_byte wanted) (drop (n + 1) text)) (sym here)

-- what comes before an ASCII character of a text is text, and so is what comes after it
pub before_utf8 : (wanted : ℕ) (bytes : List ℕ) (at : ℕ) → at ≡ position_or_len (is_byte wanted) bytes → wanted < 128 → IsUtf8 bytes → IsUtf8 (take at bytes)
before_utf8 wanted bytes at place ascii u =
    elim (cases_lt at (length bytes)) [
      | inl within ↦ IsUtf8-take bytes at u (before_place wanted bytes bytes at refl place ascii within)
      | inr past ↦ subst IsUtf8 (sym (take_all at bytes past)) u
    ]

pub after_utf8 : (wanted : ℕ) (bytes : List ℕ) (at : ℕ) → at ≡ position_or_len (is_byte wanted) bytes → at < length bytes → wanted < 128 → IsUtf8 bytes → IsUtf8 (drop (at + 1) bytes)
after_utf8 wanted bytes at place within ascii u = IsUtf8-drop bytes (at + 1) u (after_place wanted bytes bytes at refl place ascii within u)

-- what isn't true is false
fails : (b : Bool) → ¬ (b ≡ true) → b ≡ false
fails true not = absurd (not refl)
fails false not = refl

-- the first byte that a search finds
pub place_found : (wanted : ℕ) (bytes : List ℕ) (found : Option ℕ) → IsFirstByte (is_byte wanted) bytes found → unwrap_or found (length bytes) ≡ position_or_len (is_byte wanted) bytes
place_found wanted bytes None none =
    sym (position_or_len_is (is_byte wanted) bytes (length bytes) 0 (omega arith) (λ k within. fails (is_byte wanted (get_or bytes k 0)) (none k (omega arith) within)) (λ within. absurd (omega arith)))
place_found wanted bytes (Some at) first =
    let none = first.0 in
    let within = none.high in
    sym (position_or_len_is (is_byte wanted) bytes at 0 (omega arith) (λ k before. fails (is_byte wanted (get_or bytes k 0)) (none.before k (omega arith) before)) (λ _. first.1))
