-- The id that is made of the bytes of a mail is a message id. For the proof of `digest_id`.
use Rattle.std.proofs.Common.{◌≡◌, ℕ, zero, suc, ◌+◌, ◌*◌, ◌≤◌, true, false, ◌&&◌, cond, List, [], ◌∷◌, Ok, length, get_or, ltb, codes, refl, ap, ◌∙◌, arith, length-append}
use Rattle.std.specs.List.{list_all}
use Rattle.std.specs.Prelude.{◌/◌, ◌%◌, Err, nat_le}
use Rattle.std.proofs.lemmas.Bool.{le-leb, ltb-false, ltb-true}
use Rattle.std.proofs.lemmas.List.{get_or_past}
use Rattle.std.proofs.lemmas.List.Elements.{All-get_or}
use Rattle.std.proofs.lemmas.List.Sums.{AllPass-from_list_all}
use Rattle.hex.specs.Hex.{encode_lower, encode_with, lower_digits}
use Rattle.hex.proofs.HexLemmas.{length-encode_with}
use Rattle.sha1.specs.Sha1.{digest_bytes, sha1}
use Rattle.nm_base.specs.declared.names.BadValue.TheVariants.{Length, Byte}
use Rattle.nm_base.specs.Bounds.{checked, fits_length}
use Rattle.nm_base.specs.MessageId.{is_id_byte, is_id_text}
use Rattle.nm_extract.specs.Ids.{digest_id}

length-digest_bytes : (h : List ℕ) (n : ℕ) → length (digest_bytes h n) ≡ 4 * n
unfolding digest_bytes
length-digest_bytes h zero = refl
length-digest_bytes h (suc n) = let e = length-digest_bytes h n in simp length-append (omega (arith, e))

length-sha1 : (bytes : List ℕ) → length (sha1 bytes) ≡ 20
unfolding sha1
length-sha1 bytes = length-digest_bytes _ 5

-- no digit is white space or a bracket
digits_pass : list_all is_id_byte lower_digits ≡ true
digits_pass = refl

digit_is_id : (i : ℕ) → is_id_byte (get_or lower_digits i 0) ≡ true
digit_is_id i =
    elim (ltb i 16) as (λ v. ltb i 16 ≡ v → is_id_byte (get_or lower_digits i 0) ≡ true) [
      | true ↦ λ h. All-get_or (λ b. is_id_byte b ≡ true) lower_digits i 0 (ltb-true i 16 h) (AllPass-from_list_all is_id_byte lower_digits digits_pass)
      | false ↦ λ h. ap is_id_byte (get_or_past lower_digits i 0 (ltb-false i 16 h))
    ] refl

digits_are_id : (bytes : List ℕ) → is_id_text (encode_lower bytes) ≡ true
unfolding encode_with
digits_are_id [] = refl
digits_are_id (b ∷ rest) =
    ap (λ v. v && (is_id_byte (get_or lower_digits (b % 16) 0) && is_id_text (encode_lower rest))) (digit_is_id (b / 16))
    ∙ (ap (λ v. v && is_id_text (encode_lower rest)) (digit_is_id (b % 16)) ∙ digits_are_id rest)

fits : (n : ℕ) → 1 ≤ n → n ≤ 1000 → (nat_le 1 n && nat_le n 1000) ≡ true
fits n least most = ap (λ v. v && nat_le n 1000) (le-leb 1 n least) ∙ le-leb n 1000 most

digest_fits : (bytes : List ℕ) → fits_length 1000 (digest_id bytes) ≡ true
digest_fits bytes =
    let long : length (digest_id bytes) ≡ 53 = length-append (codes "notmuch-sha1-") (encode_lower (sha1 bytes)) ∙ ap (λ n. 13 + n) (length-encode_with lower_digits (sha1 bytes) ∙ ap (λ n. 2 * n) (length-sha1 bytes)) in
    fits (length (digest_id bytes)) (omega arith) (omega arith)

pub digest_is_id : (bytes : List ℕ) → checked 1000 is_id_text (digest_id bytes) ≡ Ok (digest_id bytes)
digest_is_id bytes =
    ap (λ v. cond v (cond (is_id_text (digest_id bytes)) (Ok (digest_id bytes)) (Err Byte)) (Err Length)) (digest_fits bytes)
    ∙ ap (λ v. cond v (Ok (digest_id bytes)) (Err Byte)) (digits_are_id (sha1 bytes))
