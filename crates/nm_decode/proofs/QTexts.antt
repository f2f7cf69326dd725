-- The `=` of a text in Q, one at a time. For the proof of `is_q_text`.
use Rattle.std.proofs.Common.{◌≡◌, ℕ, suc, Bool, true, false, ◌&&◌, List, [], ◌∷◌, Some, None, drop, refl, sym, ap, ◌∙◌, eqb, arith}
use Rattle.std.specs.List.{position_or_len}
use Rattle.std.specs.Option.{is_some}
use Rattle.nm_text.specs.Cuts.{is_byte}
use Rattle.nm_decode.specs.Bytes.{escape_of}
use Rattle.nm_decode.specs.EncodedWords.{is_q_text}
use Rattle.nm_decode.proofs.Escapes.{equals-first}

plain-first : (a : ℕ) (more : List ℕ) → eqb a 61 ≡ false → is_q_text (a ∷ more) ≡ is_q_text more
plain-first a more e = rw e refl

-- the first place of `=`
first-here : (a : ℕ) (more : List ℕ) → eqb a 61 ≡ true → position_or_len (is_byte 61) (a ∷ more) ≡ 0
first-here a more e = rw e refl

first-later : (a : ℕ) (more : List ℕ) → eqb a 61 ≡ false → position_or_len (is_byte 61) (a ∷ more) ≡ suc (position_or_len (is_byte 61) more)
first-later a more e = rw e (omega arith)

run-step : (a : ℕ) (more : List ℕ) (t : Bool) → eqb a 61 ≡ t → is_q_text more ≡ is_q_text (drop (position_or_len (is_byte 61) more) more)
    → is_q_text (a ∷ more) ≡ is_q_text (drop (position_or_len (is_byte 61) (a ∷ more)) (a ∷ more))
run-step a more true e h = ap (λ n. is_q_text (drop n (a ∷ more))) (sym (first-here a more e))
run-step a more false e h = plain-first a more e ∙ h ∙ ap (λ n. is_q_text (drop n (a ∷ more))) (sym (first-later a more e))

q-run : (xs : List ℕ) → is_q_text xs ≡ is_q_text (drop (position_or_len (is_byte 61) xs) xs)
q-run [] = refl
q-run (a ∷ more) = run-step a more (eqb a 61) refl (q-run more)

pub q-end : (text after : List ℕ) → after ≡ drop (position_or_len (is_byte 61) text) text → after ≡ [] → is_q_text text ≡ true
q-end text after b c = q-run text ∙ ap is_q_text (sym b ∙ c)

pub q-mark : (text after more : List ℕ) (equals : ℕ) → after ≡ drop (position_or_len (is_byte 61) text) text → after ≡ equals ∷ more
    → is_q_text text ≡ (is_some (escape_of more) && is_q_text more)
q-mark text after more equals b c =
    q-run text ∙ ap is_q_text (sym b ∙ c) ∙ ap (λ x. is_q_text (x ∷ more)) (equals-first text after more equals b c)

pub q-some : (text after more : List ℕ) (equals byte : ℕ) → after ≡ drop (position_or_len (is_byte 61) text) text → after ≡ equals ∷ more
    → escape_of more ≡ Some byte → is_q_text text ≡ is_q_text more
q-some text after more equals byte b c e = q-mark text after more equals b c ∙ ap (λ o. is_some o && is_q_text more) e

pub q-none : (text after more : List ℕ) (equals : ℕ) → after ≡ drop (position_or_len (is_byte 61) text) text → after ≡ equals ∷ more
    → escape_of more ≡ None → is_q_text text ≡ false
q-none text after more equals b c e = q-mark text after more equals b c ∙ ap (λ o. is_some o && is_q_text more) e
