-- Bytes that are decoded one by one, and texts. For the proofs of `decoded_bytes` and `a_written_tag_is_read_back`.
use Rattle.std.proofs.Common.{◌≡◌, ℕ, zero, suc, ◌/◌, ◌%◌, ◌<◌, ◌==◌, ◌&&◌, true, false, List, [], ◌∷◌, ◌++◌, refl, sym, ap, ◌∙◌, subst, arith, inl, inr, cond, append_assoc, slice_index, Option, Some, None, Ok}
use Rattle.std.specs.Str.{is_utf8}
use Rattle.std.proofs.lemmas.Bool.{cases_Bool}
use Rattle.std.proofs.lemmas.Bool.Decides.{nat_tests}
use Rattle.hex.specs.Hex.{decode_of, encode_lower, encode_with, lower_digits, IsBytes}
use Rattle.hex.proofs.HexLemmas.{decode_of-encode_lower}
use Rattle.nm_base.specs.Tag.{is_tag}
use Rattle.nm_tags.specs.Decoding.{decoded_bytes, decoded_tag, joined, tag_of_bytes}
use Rattle.nm_tags.specs.Encoding.{encoded_byte, encoded_tag, escaped, is_written}

-- a byte after others
pub joined_one_more : (before : List ℕ) (byte : ℕ) (more : Option (List ℕ)) → joined (Ok (before ++ byte ∷ [])) more ≡ joined (Ok before) (joined (Ok (byte ∷ [])) more)
joined_one_more before byte (Some more) = ap Some (append_assoc before (byte ∷ []) more)
joined_one_more before byte None = refl

-- a byte other than `%` represents itself
plain_byte : (byte : ℕ) (more : List ℕ) → (byte == 37) ≡ false → decoded_bytes (byte ∷ more) ≡ joined (Ok (byte ∷ [])) (decoded_bytes more)
plain_byte byte [] e = ap (λ b. cond b None (Some (byte ∷ []))) e
plain_byte byte (high ∷ []) e = ap (λ b. cond b None (joined (Ok (byte ∷ [])) (decoded_bytes (high ∷ [])))) e
plain_byte byte (high ∷ low ∷ more) e =
    ap (λ b. cond b (joined (decode_of (high ∷ low ∷ [])) (decoded_bytes more)) (joined (Ok (byte ∷ [])) (decoded_bytes (high ∷ low ∷ more)))) e

-- a byte that represents itself is no `%`
no_percent : (byte : ℕ) → is_written byte ≡ true → (byte == 37) ≡ false
no_percent byte e = grind (arith, nat_tests)

-- a list of one byte
one_byte : (byte : ℕ) → byte < 256 → IsBytes (byte ∷ [])
one_byte byte small zero = small
one_byte byte small (suc i) = omega arith

-- the digits of a byte are two
two_digits : (byte : ℕ) → encode_lower (byte ∷ []) ≡ slice_index lower_digits (byte / 16) ∷ slice_index lower_digits (byte % 16) ∷ []
unfolding encode_with
two_digits byte = refl

-- `%` and two digits represent what the digits are
digits_read : (digits : List ℕ) (high low : ℕ) (more : List ℕ) → digits ≡ high ∷ low ∷ [] → decoded_bytes ((37 ∷ digits) ++ more) ≡ joined (decode_of digits) (decoded_bytes more)
digits_read digits high low more e = subst (λ d. decoded_bytes ((37 ∷ d) ++ more) ≡ joined (decode_of d) (decoded_bytes more)) (sym e) refl

-- `%` and the digits of a byte represent it
escape_read : (byte : ℕ) (more : List ℕ) → byte < 256 → decoded_bytes (escaped byte ++ more) ≡ joined (Ok (byte ∷ [])) (decoded_bytes more)
escape_read byte more small =
    digits_read (encode_lower (byte ∷ [])) _ _ more (two_digits byte)
    ∙ ap (λ d. joined d (decoded_bytes more)) (decode_of-encode_lower (byte ∷ []) (one_byte byte small))

-- what is written of a byte is read as it
byte_read : (byte : ℕ) (more : List ℕ) → byte < 256 → decoded_bytes (encoded_byte byte ++ more) ≡ joined (Ok (byte ∷ [])) (decoded_bytes more)
byte_read byte more small =
    elim (cases_Bool (is_written byte)) [
      | inl e ↦ subst (λ b. decoded_bytes (cond b (byte ∷ []) (escaped byte) ++ more) ≡ joined (Ok (byte ∷ [])) (decoded_bytes more)) (sym e) (plain_byte byte more (no_percent byte e))
      | inr e ↦ subst (λ b. decoded_bytes (cond b (byte ∷ []) (escaped byte) ++ more) ≡ joined (Ok (byte ∷ [])) (decoded_bytes more)) (sym e) (escape_read byte more small)
    ]

-- what is written of a tag's bytes is read as them
pub bytes_read : (tag : List ℕ) → IsBytes tag → decoded_bytes (encoded_tag tag) ≡ Some tag
bytes_read [] small = refl
bytes_read (byte ∷ more) small =
    byte_read byte (encoded_tag more) (small 0) ∙ ap (joined (Ok (byte ∷ []))) (bytes_read more (λ i. small (suc i)))

-- and is that tag
pub tag_read : (tag : List ℕ) → IsBytes tag → is_utf8 tag ≡ true → is_tag tag ≡ true → decoded_tag (encoded_tag tag) ≡ Some tag
tag_read tag small text is =
    ap tag_of_bytes (bytes_read tag small) ∙ (ap (λ b. cond (b && is_tag tag) (Some tag) None) text ∙ ap (λ b. cond b (Some tag) None) is)
