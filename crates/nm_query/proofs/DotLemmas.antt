-- Where the first `..` of a text is. For the proofs of `before_dots` and `date_query`.
use Rattle.std.proofs.Common.{◌≡◌, ℕ, ◌+◌, ◌<◌, true, false, cond, List, [], ◌∷◌, length, drop, get_or, sym, ap, ◌∙◌, arith, length-drop}
use Rattle.std.proofs.lemmas.Bool.Decides.{nat_tests}
use Rattle.std.proofs.lemmas.List.{at_drop_more, get_or-drop}
use Rattle.std.specs.Str.{IsCharBoundary}
use Rattle.std.specs.Prelude.{IsUtf8}
use Rattle.std.proofs.lemmas.Str.{IsCharBoundary-after_ascii, IsCharBoundary-before_ascii}
use Rattle.nm_query.specs.Terms.{before_dots, begins_with_dots}

-- where none is at the front, the first one is further on
pub dots_further : (text : List ℕ) (at : ℕ) → at < length text → begins_with_dots (drop at text) ≡ false → before_dots (drop at text) ≡ 1 + before_dots (drop (at + 1) text)
dots_further text at within h =
    let rest : List ℕ = get_or text at 0 ∷ drop (at + 1) text in
    let none : begins_with_dots rest ≡ false = sym (at_drop_more begins_with_dots text at 0 within) ∙ h in
    at_drop_more before_dots text at 0 within ∙ ap (λ v. cond v 0 (1 + before_dots (drop (at + 1) text))) none

two_dots : (text : List ℕ) → begins_with_dots text ≡ true → (1 < length text) × (get_or text 0 0 ≡ 46) × (get_or text 1 0 ≡ 46)
two_dots [] h = absurd (cc)
two_dots (b ∷ []) h = absurd (cc)
two_dots (b ∷ c ∷ more) h = (omega arith, grind (arith, nat_tests), grind (arith, nat_tests))

pub dots_here : (text : List ℕ) (at : ℕ) → at < length text → begins_with_dots (drop at text) ≡ true → before_dots (drop at text) ≡ 0
dots_here text at within h =
    let rest : List ℕ = get_or text at 0 ∷ drop (at + 1) text in
    let dots : begins_with_dots rest ≡ true = sym (at_drop_more begins_with_dots text at 0 within) ∙ h in
    at_drop_more before_dots text at 0 within ∙ ap (λ v. cond v 0 (1 + before_dots (drop (at + 1) text))) dots

pub dots_found : (text : List ℕ) (at : ℕ) → begins_with_dots (drop at text) ≡ true → (at + 1 < length text) × (get_or text at 0 ≡ 46) × (get_or text (at + 1) 0 ≡ 46)
dots_found text at h =
    let dots = two_dots (drop at text) h in
    let same : at + 0 ≡ at = omega arith in
    (omega (arith, dots.0, length-drop at text), ap (λ n. get_or text n 0) (sym same) ∙ sym (get_or-drop at text 0 0) ∙ dots.1, sym (get_or-drop at text 1 0) ∙ dots.2)

-- a text may be cut before its `..` and after them
pub before_dots_cut : (text bytes : List ℕ) (at : ℕ) → bytes ≡ text → at < length bytes → get_or bytes at 0 ≡ 46 → IsCharBoundary text at
before_dots_cut text bytes at same within dot =
    let long = ap length same in
    let low : get_or text at 0 ≡ 46 = ap (λ x. get_or x at 0) (sym same) ∙ dot in
    IsCharBoundary-before_ascii text at (omega arith) (omega arith)

pub after_dots_cut : (text bytes : List ℕ) (at : ℕ) → bytes ≡ text → IsUtf8 text → at + 1 < length bytes → get_or bytes (at + 1) 0 ≡ 46 → IsCharBoundary text (at + 1 + 1)
after_dots_cut text bytes at same u within dot =
    let long = ap length same in
    let low : get_or text (at + 1) 0 ≡ 46 = ap (λ x. get_or x (at + 1) 0) (sym same) ∙ dot in
    IsCharBoundary-after_ascii text (at + 1) u (omega arith) (omega arith)
