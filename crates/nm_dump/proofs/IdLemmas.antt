-- Ids as they are written, and read again. For the proof of `a_written_id_is_read_back`.
use Rattle.std.proofs.Common.{◌≡◌, ℕ, ◌<◌, ◌==◌, ◌&&◌, true, false, List, [], ◌∷◌, ◌++◌, length, nat_eq, codes, refl, sym, ap, ◌∙◌, subst, arith, append_assoc, inl, inr, cond, Some, None}
use Rattle.std.specs.List.{flat_map, starts_with}
use Rattle.std.specs.Str.{is_utf8}
use Rattle.std.proofs.lemmas.Bool.{cases_Bool, or_parts}
use Rattle.std.proofs.lemmas.Bool.Decides.{nat_tests}
use Rattle.nm_base.specs.MessageId.{is_message_id}
use Rattle.nm_model_answer.specs.Dump.{has_parenthesis}
use Rattle.nm_model_answer.specs.BatchTag.{checked_id, id_of_query, id_text, unquoted, with_byte}
use Rattle.nm_model_answer.specs.Dump.{doubled, quoted, wants_quotes, written_id}

-- a byte that is no quote, with something after it, represents itself
other_byte : (byte : ℕ) (more : List ℕ) → (byte == 34) ≡ false → 0 < length more → unquoted (byte ∷ more) ≡ with_byte byte (unquoted more)
other_byte byte [] e some = absurd (omega arith)
other_byte byte (next ∷ more) e some =
    ap (λ b. cond b (cond (next == 34) (with_byte 34 (unquoted more)) None) (with_byte byte (unquoted (next ∷ more)))) e

-- two quotes represent one
two_quotes : (byte : ℕ) (more : List ℕ) → (byte == 34) ≡ true → unquoted (byte ∷ byte ∷ more) ≡ with_byte byte (unquoted more)
two_quotes byte more e =
    let is : 34 ≡ byte = grind (arith, nat_tests) in
    subst (λ (b : ℕ). unquoted (b ∷ b ∷ more) ≡ with_byte b (unquoted more)) is refl

-- the closing quote is there
closed : (front : List ℕ) → 0 < length (front ++ 34 ∷ [])
closed [] = omega arith
closed (byte ∷ front) = omega arith

-- a byte of a text in quotes is read as it is
doubled_read : (byte : ℕ) (more : List ℕ) → 0 < length more → unquoted (doubled byte ++ more) ≡ with_byte byte (unquoted more)
doubled_read byte more some =
    elim (cases_Bool (byte == 34)) [
      | inl e ↦ subst (λ b. unquoted (cond b (byte ∷ byte ∷ []) (byte ∷ []) ++ more) ≡ with_byte byte (unquoted more)) (sym e) (two_quotes byte more e)
      | inr e ↦ subst (λ b. unquoted (cond b (byte ∷ byte ∷ []) (byte ∷ []) ++ more) ≡ with_byte byte (unquoted more)) (sym e) (other_byte byte more e some)
    ]

-- a text in quotes is read as it is
quoted_read : (text : List ℕ) → unquoted (flat_map doubled text ++ 34 ∷ []) ≡ Some text
quoted_read [] = refl
quoted_read (byte ∷ text) =
    ap unquoted (append_assoc (doubled byte) (flat_map doubled text) (34 ∷ []))
    ∙ (doubled_read byte (flat_map doubled text ++ 34 ∷ []) (closed (flat_map doubled text)) ∙ ap (with_byte byte) (quoted_read text))

-- an id without `)` and a quote in front is written as it is
plain_read : (id : List ℕ) → is_message_id id ≡ true → wants_quotes id ≡ false → id_text id ≡ Some id
plain_read [] is e = absurd (cc)
plain_read (first ∷ more) is e =
    let apart = or_parts (has_parenthesis (first ∷ more)) _ e in
    let quote : starts_with nat_eq (first ∷ more) (34 ∷ []) ≡ false = apart.1 in
    let other : (first == 34) ≡ false = grind (arith, nat_tests) in
    ap (λ b. cond b (unquoted more) (cond (has_parenthesis (first ∷ more)) None (Some (first ∷ more)))) other
    ∙ ap (λ b. cond b None (Some (first ∷ more))) apart.0

-- the text of an id is read as it was written
written_read : (id : List ℕ) → is_message_id id ≡ true → id_text (written_id id) ≡ Some id
written_read id is =
    elim (cases_Bool (wants_quotes id)) [
      | inl e ↦ subst (λ b. id_text (cond b (quoted id) id) ≡ Some id) (sym e) (quoted_read id)
      | inr e ↦ subst (λ b. id_text (cond b (quoted id) id) ≡ Some id) (sym e) (plain_read id is e)
    ]

-- and is that id
pub id_read : (id : List ℕ) → is_utf8 id ≡ true → is_message_id id ≡ true → id_of_query (codes "id:" ++ written_id id) ≡ Some id
id_read id text is =
    ap checked_id (written_read id is)
    ∙ (ap (λ b. cond (b && is_message_id id) (Some id) None) text ∙ ap (λ b. cond b (Some id) None) is)
