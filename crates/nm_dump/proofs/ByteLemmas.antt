-- What holds of each byte of a text that is written. For `SupWholeLemmas`, `TagLineLemmas` and `WholeLemmas`.
use Rattle.std.proofs.Common.{◌≡◌, ℕ, zero, suc, ◌/◌, ◌%◌, ◌==◌, ◌||◌, not, nat_lt, Bool, true, List, [], ◌∷◌, ◌++◌, slice_index, refl, sym, ap, ◌∙◌, subst, arith, inl, inr, cond}
use Rattle.std.specs.List.{flat_map, list_all}
use Rattle.std.specs.Str.{IsAscii}
use Rattle.std.proofs.lemmas.Bool.{and_from, and_parts, cases_Bool}
use Rattle.std.proofs.lemmas.Bool.Decides.{nat_tests}
use Rattle.std.proofs.lemmas.List.Folds.{list_all-append}
use Rattle.hex.specs.Hex.{encode_lower, encode_with, lower_digits}
use Rattle.nm_base.specs.Bounds.{fits_length, is_white_space}
use Rattle.nm_base.specs.MessageId.{is_id_byte, is_id_text, is_message_id}
use Rattle.nm_tags.specs.Encoding.{encoded_byte, encoded_tag, escaped, is_written}
use Rattle.nm_model_answer.specs.Dump.{doubled, quoted, wants_quotes, written_id}

-- no white space
abbrev pub is_dark : ℕ → Bool
is_dark b = not (is_white_space b)

-- no part of a line end
abbrev pub is_inner : ℕ → Bool
is_inner b = not (b == 10 || b == 13)

-- of ASCII
abbrev pub is_low : ℕ → Bool
is_low b = nat_lt b 128

-- what holds of all bytes and of zero holds at each place
pub holds_at : (p : ℕ → Bool) (xs : List ℕ) (i : ℕ) → p 0 ≡ true → list_all p xs ≡ true → p (slice_index xs i) ≡ true
holds_at p [] i z h = z
holds_at p (x ∷ xs) zero z h = (and_parts (p x) _ h).0
holds_at p (x ∷ xs) (suc i) z h = holds_at p xs i z (and_parts (p x) _ h).1

-- a part and another
pub append_all : (p : ℕ → Bool) (xs ys : List ℕ) → list_all p xs ≡ true → list_all p ys ≡ true → list_all p (xs ++ ys) ≡ true
append_all p xs ys h k = list_all-append p xs ys ∙ and_from (list_all p xs) _ h k

-- parts of many
pub parts_all : {X : Type 0} (p : ℕ → Bool) (f : X → List ℕ) → ((x : X) → list_all p (f x) ≡ true) → (xs : List X) → list_all p (flat_map f xs) ≡ true
parts_all p f each [] = refl
parts_all p f each (x ∷ xs) = append_all p (f x) (flat_map f xs) (each x) (parts_all p f each xs)

-- what one test says another says
pub weaker : (p q : ℕ → Bool) → ((b : ℕ) → p b ≡ true → q b ≡ true) → (xs : List ℕ) → list_all p xs ≡ true → list_all q xs ≡ true
weaker p q says [] h = refl
weaker p q says (b ∷ xs) h = and_from (q b) _ (says b (and_parts (p b) _ h).0) (weaker p q says xs (and_parts (p b) _ h).1)

pub dark_inner : (b : ℕ) → is_dark b ≡ true → is_inner b ≡ true
dark_inner b e = grind (arith, nat_tests)

-- a text of ASCII
pub ascii_from_low : (text : List ℕ) → list_all is_low text ≡ true → IsAscii text
ascii_from_low text h i =
    let low : is_low (slice_index text i) ≡ true = holds_at is_low text i refl h in
    grind (arith, nat_tests)

-- the digits of a byte are two
two_digits : (byte : ℕ) → encode_lower (byte ∷ []) ≡ slice_index lower_digits (byte / 16) ∷ slice_index lower_digits (byte % 16) ∷ []
unfolding encode_with
two_digits byte = refl

escaped_all : (p : ℕ → Bool) → p 0 ≡ true → p 37 ≡ true → list_all p lower_digits ≡ true → (byte : ℕ) → list_all p (escaped byte) ≡ true
escaped_all p z percent digits byte =
    ap (λ d. list_all p (37 ∷ d)) (two_digits byte)
    ∙ and_from (p 37) _ percent (and_from (p (slice_index lower_digits (byte / 16))) _ (holds_at p lower_digits (byte / 16) z digits)
    (and_from (p (slice_index lower_digits (byte % 16))) true (holds_at p lower_digits (byte % 16) z digits) refl))

encoded_byte_all : (p : ℕ → Bool) → p 0 ≡ true → p 37 ≡ true → list_all p lower_digits ≡ true → ((b : ℕ) → is_written b ≡ true → p b ≡ true)
    → (byte : ℕ) → list_all p (encoded_byte byte) ≡ true
encoded_byte_all p z percent digits written byte =
    elim (cases_Bool (is_written byte)) [
      | inl e ↦ subst (λ b. list_all p (cond b (byte ∷ []) (escaped byte)) ≡ true) (sym e) (and_from (p byte) true (written byte e) refl)
      | inr e ↦ subst (λ b. list_all p (cond b (byte ∷ []) (escaped byte)) ≡ true) (sym e) (escaped_all p z percent digits byte)
    ]

written_dark : (byte : ℕ) → is_written byte ≡ true → is_dark byte ≡ true
written_dark byte e = grind (arith, nat_tests)

written_low : (byte : ℕ) → is_written byte ≡ true → is_low byte ≡ true
written_low byte e = grind (arith, nat_tests)

-- an encoded tag has no white space
pub tag_dark : (tag : List ℕ) → list_all is_dark (encoded_tag tag) ≡ true
tag_dark tag = parts_all is_dark encoded_byte (encoded_byte_all is_dark refl refl refl written_dark) tag

-- and is ASCII
pub tag_low : (tag : List ℕ) → list_all is_low (encoded_tag tag) ≡ true
tag_low tag = parts_all is_low encoded_byte (encoded_byte_all is_low refl refl refl written_low) tag

doubled_dark : (byte : ℕ) → is_dark byte ≡ true → list_all is_dark (doubled byte) ≡ true
doubled_dark byte h =
    elim (cases_Bool (byte == 34)) [
      | inl e ↦ subst (λ b. list_all is_dark (cond b (byte ∷ byte ∷ []) (byte ∷ [])) ≡ true) (sym e) (and_from (is_dark byte) _ h (and_from (is_dark byte) true h refl))
      | inr e ↦ subst (λ b. list_all is_dark (cond b (byte ∷ byte ∷ []) (byte ∷ [])) ≡ true) (sym e) (and_from (is_dark byte) true h refl)
    ]

quoted_dark : (text : List ℕ) → list_all is_dark text ≡ true → list_all is_dark (flat_map doubled text) ≡ true
quoted_dark [] h = refl
quoted_dark (byte ∷ text) h =
    append_all is_dark (doubled byte) (flat_map doubled text) (doubled_dark byte (and_parts (is_dark byte) _ h).0) (quoted_dark text (and_parts (is_dark byte) _ h).1)

id_byte_dark : (byte : ℕ) → is_id_byte byte ≡ true → is_dark byte ≡ true
id_byte_dark byte e = grind (arith, nat_tests)

id_text_dark : (id : List ℕ) → is_id_text id ≡ true → list_all is_dark id ≡ true
id_text_dark [] h = refl
id_text_dark (byte ∷ id) h =
    and_from (is_dark byte) _ (id_byte_dark byte (and_parts (is_id_byte byte) _ h).0) (id_text_dark id (and_parts (is_id_byte byte) _ h).1)

-- an id has no white space
pub id_dark : (id : List ℕ) → is_message_id id ≡ true → list_all is_dark id ≡ true
id_dark id is = id_text_dark id (and_parts (fits_length 1000 id) _ is).1

-- nor has what is written of it
pub written_id_dark : (id : List ℕ) → is_message_id id ≡ true → list_all is_dark (written_id id) ≡ true
written_id_dark id is =
    elim (cases_Bool (wants_quotes id)) [
      | inl e ↦ subst (λ b. list_all is_dark (cond b (quoted id) id) ≡ true) (sym e) (append_all is_dark (flat_map doubled id) (34 ∷ []) (quoted_dark id (id_dark id is)) refl)
      | inr e ↦ subst (λ b. list_all is_dark (cond b (quoted id) id) ≡ true) (sym e) (id_dark id is)
    ]
