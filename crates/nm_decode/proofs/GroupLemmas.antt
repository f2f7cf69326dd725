-- Base64, symbol by symbol, is base64 in groups of four. For the proof of `base64_bytes`.
use Rattle.std.proofs.Common.{◌≡◌, ℕ, ◌+◌, ◌*◌, ◌/◌, ◌%◌, ◌<◌, Bool, true, false, List, [], ◌∷◌, ◌++◌, length, Some, None, map, drop, get_or, refl, sym, ap, ◌∙◌, subst, cond, append_assoc}
use Rattle.std.specs.List.{filter}
use Rattle.std.proofs.lemmas.List.{at_drop_more}
use Rattle.nm_decode.specs.Base64.{bytes_of_groups, is_symbol, six_bits, symbol_of}
use Rattle.nm_decode.specs.GroupSteps.{made}
use Rattle.std.proofs.lemmas.Option.{cond_some}

-- the bytes that symbols make from a place of a group on, with the symbol before them
abbrev pub after : ℕ → ℕ → List ℕ → List ℕ
after place last [] = []
after place last (x ∷ xs) = made place last x ++ after ((place + 1) % 4) x xs

pub after-start : (last : ℕ) (xs : List ℕ) → after 0 last xs ≡ bytes_of_groups xs
after-start last [] = refl
after-start last (a ∷ []) = refl
after-start last (a ∷ b ∷ []) = refl
after-start last (a ∷ b ∷ c ∷ []) = refl
after-start last (a ∷ b ∷ c ∷ d ∷ more) =
    ap (λ xs. (a * 4 + b / 16) ∷ (b % 16 * 16 + c / 4) ∷ (c % 4 * 64 + d) ∷ xs) (after-start d more)

abbrev pub values : List ℕ → List ℕ
values xs = map six_bits (filter is_symbol xs)

values-keep : (b : ℕ) (xs : List ℕ) → is_symbol b ≡ true → values (b ∷ xs) ≡ six_bits b ∷ values xs
values-keep b xs h = ap (λ t. map six_bits (cond t (b ∷ filter is_symbol xs) (filter is_symbol xs))) h

values-skip : (b : ℕ) (xs : List ℕ) → is_symbol b ≡ false → values (b ∷ xs) ≡ values xs
values-skip b xs h = ap (λ t. map six_bits (cond t (b ∷ filter is_symbol xs) (filter is_symbol xs))) h

pub keep-turn : (place last i b : ℕ) (out kept all : List ℕ) → i < length kept → b ≡ get_or kept i 0 → is_symbol b ≡ true
    → out ++ after place last (values (drop i kept)) ≡ all
    → (out ++ made place last (six_bits b)) ++ after ((place + 1) % 4) (six_bits b) (values (drop (i + 1) kept)) ≡ all
keep-turn place last i b out kept all l e h g =
    append_assoc out (made place last (six_bits b)) (after ((place + 1) % 4) (six_bits b) (values (drop (i + 1) kept)))
    ∙ ap (λ xs. out ++ after place last xs) (sym (values-keep b (drop (i + 1) kept) h))
    ∙ ap (λ x. out ++ after place last (values (x ∷ drop (i + 1) kept))) e
    ∙ ap (λ xs. out ++ xs) (sym (at_drop_more (λ xs. after place last (values xs)) kept i 0 l))
    ∙ g

pub skip-turn : (place last i b : ℕ) (out kept all : List ℕ) → i < length kept → b ≡ get_or kept i 0 → is_symbol b ≡ false
    → out ++ after place last (values (drop i kept)) ≡ all
    → out ++ after place last (values (drop (i + 1) kept)) ≡ all
skip-turn place last i b out kept all l e h g =
    ap (λ xs. out ++ after place last xs) (sym (values-skip b (drop (i + 1) kept) h))
    ∙ ap (λ x. out ++ after place last (values (x ∷ drop (i + 1) kept))) e
    ∙ ap (λ xs. out ++ xs) (sym (at_drop_more (λ xs. after place last (values xs)) kept i 0 l))
    ∙ g

not_chosen : (t : Bool) (x : ℕ) → cond t (Some x) None ≡ None → t ≡ false
not_chosen true x e = (cc)
not_chosen false x e = refl

-- the turn at a symbol, and at another character
pub symbol-turn : (place last i b bits : ℕ) (out kept all : List ℕ) → i < length kept → b ≡ get_or kept i 0 → symbol_of b ≡ Some bits
    → out ++ after place last (values (drop i kept)) ≡ all
    → (out ++ made place last bits) ++ after ((place + 1) % 4) bits (values (drop (i + 1) kept)) ≡ all
symbol-turn place last i b bits out kept all l e h g =
    let p = cond_some (is_symbol b) (six_bits b) bits h in
    let P : ℕ → Type 0 = λ x. (out ++ made place last x) ++ after ((place + 1) % 4) x (values (drop (i + 1) kept)) ≡ all in
    subst P p.1 (keep-turn place last i b out kept all l e p.0 g)

pub other-turn : (place last i b : ℕ) (out kept all : List ℕ) → i < length kept → b ≡ get_or kept i 0 → symbol_of b ≡ None
    → out ++ after place last (values (drop i kept)) ≡ all
    → out ++ after place last (values (drop (i + 1) kept)) ≡ all
other-turn place last i b out kept all l e h g = skip-turn place last i b out kept all l e (not_chosen (is_symbol b) (six_bits b) h) g
