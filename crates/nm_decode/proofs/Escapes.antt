-- Escapes, one at a time. For the proof of `push_unescaped`.
use Rattle.std.proofs.Common.{◌≡◌, ℕ, suc, ◌+◌, ◌<◌, Bool, true, false, ◌&&◌, List, [], ◌∷◌, ◌++◌, Some, None, length, take, drop, refl, sym, ap, ◌∙◌, subst, cond, eqb, get_or, arith, add-zero, append_assoc}
use Rattle.std.specs.List.{position_or_len}
use Rattle.std.proofs.lemmas.List.{append-nil, get_or-drop, length-drop}
use Rattle.std.proofs.lemmas.List.Sums.{passes_at_first}
use Rattle.std.proofs.lemmas.Bool.Decides.{nat_tests}
use Rattle.nm_text.specs.Cuts.{is_byte}
use Rattle.nm_decode.specs.Bytes.{escape_of, hex_byte, is_hex}
use Rattle.nm_decode.specs.QuotedPrintable.{unescaped}

-- a byte that is no `=` represents itself
pub unescaped-plain : (a : ℕ) (more : List ℕ) → eqb a 61 ≡ false → unescaped (a ∷ more) ≡ a ∷ unescaped more
unescaped-plain a [] e = refl
unescaped-plain a (b ∷ []) e = refl
unescaped-plain a (b ∷ c ∷ more) e = rw e refl

run-cons : (a : ℕ) (more : List ℕ) (n m : ℕ) → m ≡ suc n → eqb a 61 ≡ false → unescaped more ≡ take n more ++ unescaped (drop n more)
    → unescaped (a ∷ more) ≡ take m (a ∷ more) ++ unescaped (drop m (a ∷ more))
run-cons a more n m k e h =
    let P : ℕ → Type 0 = λ j. unescaped (a ∷ more) ≡ take j (a ∷ more) ++ unescaped (drop j (a ∷ more)) in
    subst P (sym k) (unescaped-plain a more e ∙ ap (λ xs. a ∷ xs) h)

run-step : (a : ℕ) (more : List ℕ) (t : Bool) → eqb a 61 ≡ t
    → unescaped more ≡ take (position_or_len (is_byte 61) more) more ++ unescaped (drop (position_or_len (is_byte 61) more) more)
    → unescaped (a ∷ more) ≡ take (position_or_len (is_byte 61) (a ∷ more)) (a ∷ more) ++ unescaped (drop (position_or_len (is_byte 61) (a ∷ more)) (a ∷ more))
run-step a more true e h = rw e refl
run-step a more false e h = rw e (run-cons a more (position_or_len (is_byte 61) more) (1 + position_or_len (is_byte 61) more) (omega arith) e h)

-- the bytes before the first `=` represent themselves
pub unescaped-run : (xs : List ℕ) → unescaped xs ≡ take (position_or_len (is_byte 61) xs) xs ++ unescaped (drop (position_or_len (is_byte 61) xs) xs)
unescaped-run [] = refl
unescaped-run (a ∷ more) = run-step a more (eqb a 61) refl (unescaped-run more)

taken : (t : Bool) (x y : ℕ) (r q : List ℕ) → cond t (Some x) None ≡ Some y → cond t (x ∷ r) q ≡ y ∷ r
taken true x y r q e = ap (λ z. z ∷ r) (cc)
taken false x y r q e = (cc)

not_taken : (t : Bool) (x : ℕ) (r q : List ℕ) → cond t (Some x) None ≡ None → cond t (x ∷ r) q ≡ q
not_taken true x r q e = (cc)
not_taken false x r q e = refl

-- a `=` with two hex digits after it, and another
pub unescaped-some : (more : List ℕ) (byte : ℕ) → escape_of more ≡ Some byte → unescaped (61 ∷ more) ≡ byte ∷ unescaped (drop 2 more)
unescaped-some [] byte e = (cc)
unescaped-some (b ∷ []) byte e = (cc)
unescaped-some (b ∷ c ∷ more) byte e = taken (is_hex b && is_hex c) (hex_byte b c) byte (unescaped more) (61 ∷ unescaped (b ∷ c ∷ more)) e

pub unescaped-none : (more : List ℕ) → escape_of more ≡ None → unescaped (61 ∷ more) ≡ 61 ∷ unescaped more
unescaped-none [] e = refl
unescaped-none (b ∷ []) e = refl
unescaped-none (b ∷ c ∷ more) e = not_taken (is_hex b && is_hex c) (hex_byte b c) (unescaped more) (61 ∷ unescaped (b ∷ c ∷ more)) e

-- the turns of a loop over the escapes, and its end
pub escape-turn : (out text run after more rest all : List ℕ) (byte equals : ℕ) → run ≡ take (position_or_len (is_byte 61) text) text
    → after ≡ drop (position_or_len (is_byte 61) text) text → after ≡ equals ∷ more → equals ≡ 61 → escape_of more ≡ Some byte → rest ≡ drop 2 more
    → out ++ unescaped text ≡ all → ((out ++ run) ++ byte ∷ []) ++ unescaped rest ≡ all
escape-turn out text run after more rest all byte equals a b c d e f g =
    append_assoc (out ++ run) (byte ∷ []) (unescaped rest)
    ∙ append_assoc out run (byte ∷ unescaped rest)
    ∙ ap (λ xs. out ++ (run ++ xs)) (ap (λ xs. byte ∷ unescaped xs) f ∙ sym (unescaped-some more byte e) ∙ ap (λ x. unescaped (x ∷ more)) (sym d) ∙ ap unescaped (sym c ∙ b))
    ∙ ap (λ xs. out ++ (xs ++ unescaped (drop (position_or_len (is_byte 61) text) text))) a
    ∙ ap (λ xs. out ++ xs) (sym (unescaped-run text))
    ∙ g

pub equals-turn : (out text run after more all : List ℕ) (equals : ℕ) → run ≡ take (position_or_len (is_byte 61) text) text
    → after ≡ drop (position_or_len (is_byte 61) text) text → after ≡ equals ∷ more → equals ≡ 61 → escape_of more ≡ None
    → out ++ unescaped text ≡ all → ((out ++ run) ++ equals ∷ []) ++ unescaped more ≡ all
equals-turn out text run after more all equals a b c d e g =
    append_assoc (out ++ run) (equals ∷ []) (unescaped more)
    ∙ append_assoc out run (equals ∷ unescaped more)
    ∙ ap (λ xs. out ++ (run ++ xs)) (ap (λ x. x ∷ unescaped more) d ∙ sym (unescaped-none more e) ∙ ap (λ x. unescaped (x ∷ more)) (sym d) ∙ ap unescaped (sym c ∙ b))
    ∙ ap (λ xs. out ++ (xs ++ unescaped (drop (position_or_len (is_byte 61) text) text))) a
    ∙ ap (λ xs. out ++ xs) (sym (unescaped-run text))
    ∙ g

pub escapes-end : (out text run after all : List ℕ) → run ≡ take (position_or_len (is_byte 61) text) text
    → after ≡ drop (position_or_len (is_byte 61) text) text → after ≡ [] → out ++ unescaped text ≡ all → out ++ run ≡ all
escapes-end out text run after all a b c g =
    ap (λ xs. out ++ xs) (sym (append-nil run) ∙ ap (λ xs. run ++ unescaped xs) (sym c ∙ b) ∙ ap (λ xs. xs ++ unescaped (drop (position_or_len (is_byte 61) text) text)) a ∙ sym (unescaped-run text))
    ∙ g

-- what comes after the first run begins with `=`
pub equals-first : (text after more : List ℕ) (equals : ℕ) → after ≡ drop (position_or_len (is_byte 61) text) text → after ≡ equals ∷ more → equals ≡ 61
equals-first text after more equals b c =
    let n = position_or_len (is_byte 61) text in
    let l : n < length text = omega (arith, length-drop n text, ap length (sym c ∙ b)) in
    let p = passes_at_first (is_byte 61) text 0 l in
    let q : get_or after 0 0 ≡ equals = ap (λ xs. get_or xs 0 0) c in
    let r : get_or after 0 0 ≡ get_or text n 0 = ap (λ xs. get_or xs 0 0) b ∙ get_or-drop n text 0 0 ∙ ap (λ i. get_or text i 0) (add-zero n) in
    grind (arith, nat_tests)
