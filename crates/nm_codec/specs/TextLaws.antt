-- Texts are read again, and what is read was encoded so. Cited by `Grammar`.
use Rattle.std.proofs.Common.{◌≡◌, ℕ, ◌^◌, ◌<◌, ◌≤◌, Bool, true, false, cond, ltb, List, ◌++◌, length, take, drop, Result, Ok, Err, refl, sym, subst, arith}
use Rattle.std.specs.Int.{w32, to_be_bytes}
use Rattle.std.specs.Str.{is_utf8}
use Rattle.std.proofs.lemmas.Bool.{ltb-false, le-ltb}
use Rattle.std.proofs.lemmas.List.{take_at, drop_at, take-append-drop, length-append, length-take}
use Rattle.nm_codec.specs.Encoding.{text_bytes}
use Rattle.nm_codec.specs.ReadSteps.{IsBytes, Takes, number_at, text_at}
use Rattle.nm_codec.specs.StepLaws.{bind_ok, passed_ok, Takes-then}
use Rattle.nm_codec.specs.NumberLaws.{IsBytes-drop, is_width_32, number_again, number_only}

pub some_text : (text : List ℕ) → 0 < length (text_bytes text)
some_text text = omega (arith, length-append (to_be_bytes w32 (length text)) text)

-- a text that was written is read
pub text_again : (text rest : List ℕ) → is_utf8 text ≡ true → length (text_bytes text) < 2 ^ 32 → text_at (text_bytes text ++ rest) ≡ Ok (text, rest)
unfolding text_at
text_again text rest utf8 short =
    let long : ltb (length (text ++ rest)) (length text) ≡ false = le-ltb _ _ (omega (arith, length-append text rest)) in
    let count : length text < 2 ^ 32 = omega (arith, short, length-append (to_be_bytes w32 (length text)) text) in
    rw (number_again w32 (2 ^ 32) is_width_32 (length text) (text ++ rest) count, long, take_at text rest (length text) refl, drop_at text rest (length text) refl, utf8) refl

-- what was read was long enough
long_enough : (b : Bool) (more : Result (List ℕ × List ℕ) ℕ) (y : List ℕ × List ℕ) → cond b (Err 0) more ≡ Ok y → (b ≡ false) × (more ≡ Ok y)
long_enough true more y e = absurd cc
long_enough false more y e = (refl, e)

-- a text that was read was written so
pub text_only : (bytes text rest : List ℕ) → IsBytes bytes → text_at bytes ≡ Ok (text, rest) → Takes bytes (text_bytes text) rest × (is_utf8 text ≡ true)
unfolding text_at
text_only bytes text rest fits e =
    let b = bind_ok (number_at w32 bytes) (λ n. cond (ltb (length n.1) n.0) (Err 0) (cond (is_utf8 (take n.0 n.1)) (Ok (take n.0 n.1, drop n.0 n.1)) (Err (length bytes)))) (text, rest) e in
    let n = b.0 in
    let front : List ℕ = take n.0 n.1 in
    let t = number_only w32 (2 ^ 32) is_width_32 bytes n.0 n.1 fits b.1 in
    let g = long_enough (ltb (length n.1) n.0) (cond (is_utf8 front) (Ok (front, drop n.0 n.1)) (Err (length bytes))) (text, rest) b.2 in
    let u = passed_ok (is_utf8 front) (length bytes) (front, drop n.0 n.1) (text, rest) g.1 in
    let long : n.0 ≤ length n.1 = ltb-false _ _ g.0 in
    let len : length front ≡ n.0 = omega (arith, length-take n.0 n.1) in
    let second : Takes n.1 front (drop n.0 n.1) = record { parts = sym (take-append-drop n.0 n.1); rest_fits = IsBytes-drop n.0 n.1 t.0.rest_fits } in
    let both = Takes-then bytes (to_be_bytes w32 n.0) n.1 front (drop n.0 n.1) t.0 second in
    let whole : Takes bytes (text_bytes front) (drop n.0 n.1) = subst (λ (k : ℕ). Takes bytes (to_be_bytes w32 k ++ front) (drop n.0 n.1)) (sym len) both in
    subst (λ (p : List ℕ × List ℕ). Takes bytes (text_bytes p.0) p.1 × (is_utf8 p.0 ≡ true)) u.1 (whole, u.0)
