-- Where a text may be cut: at the quotes of a value, at what ends a run, after an ASCII character.
-- For the proofs of `further_at`, `lexeme_at`, `sign_at` and others.
use Rattle.std.proofs.Common.{◌≡◌, ℕ, zero, suc, ◌+◌, ◌-◌, ◌<◌, ◌≤◌, true, false, cond, not, ◌==◌, List, [], ◌∷◌, length, drop, get_or, ltb, refl, sym, ap, subst, ◌∙◌, arith}
use Rattle.std.specs.Prelude.{IsUtf8, Result, Ok, Err, IfOk}
use Rattle.std.specs.List.{position_or_len}
use Rattle.std.specs.Str.{IsCharBoundary}
use Rattle.std.proofs.lemmas.Bool.{eqb-true, ltb-false, ltb-true}
use Rattle.std.proofs.lemmas.Bool.Decides.{nat_tests}
use Rattle.std.proofs.lemmas.List.{get_or-drop}
use Rattle.std.proofs.lemmas.List.Sums.{passes_at_first}
use Rattle.std.proofs.lemmas.Str.{IsCharBoundary-after_ascii, IsCharBoundary-before_ascii, IsCharBoundary-end, IsCharBoundary-from_rest}
use Rattle.nm_base.specs.Bounds.{is_white_space}
use Rattle.nm_query.specs.Lexemes.{goes_on}
use Rattle.nm_query.specs.Prefixes.{CutsOff}
use Rattle.nm_query.specs.Values.{begins_with, closing, ends_of}
use Rattle.nm_query.specs.declared.token.Lexeme.{Lexeme}
use Rattle.nm_query.specs.declared.values.Ends.{Ends}
use Rattle.nm_query.specs.declared.values.Ends.TheVariants.{Name, Run}
use Rattle.nm_query.proofs.QuoteLemmas.{begins_long}

-- a fact of what is read gives another one
pub inside : {A E F : Type 0} (result : Result (Result A E) F) (P Q : A → Type 0) → ((x : A) → P x → Q x) → IfOk result (λ read. IfOk read P) → IfOk result (λ read. IfOk read Q)
inside (Ok (Ok x)) P Q more h = more x h
inside (Ok (Err e)) P Q more h = h
inside (Err e) P Q more h = h

two_on : (b c : ℕ) (more : List ℕ) (k : ℕ) → get_or (b ∷ c ∷ more) (2 + k) 0 ≡ get_or more k 0
two_on b c more k = sym (get_or-drop 2 (b ∷ c ∷ more) k 0)

one_on : (b c : ℕ) (more : List ℕ) (k : ℕ) → get_or (b ∷ c ∷ more) (1 + k) 0 ≡ get_or (c ∷ more) k 0
one_on b c more k = sym (get_or-drop 1 (b ∷ c ∷ more) k 0)

-- a `"` is where a quoted text ends
closing_quote : (n : ℕ) (text : List ℕ) → length text ≤ n → closing text < length text → get_or text (closing text) 0 ≡ 34
closing_quote n [] most within = absurd (omega arith)
closing_quote n (b ∷ []) most within =
    elim (b == 34) as (λ v. (b == 34) ≡ v → cond v 0 1 < 1 → get_or (b ∷ []) (cond v 0 1) 0 ≡ 34) [
      | true ↦ λ e within. eqb-true b 34 e
      | false ↦ λ e within. absurd (omega arith)
    ] refl within
closing_quote zero (b ∷ c ∷ more) most within = absurd (omega arith)
closing_quote (suc n) (b ∷ c ∷ more) most within =
    elim (b == 34) as (λ v. (b == 34) ≡ v → cond v (cond (c == 34) (2 + closing more) 0) (1 + closing (c ∷ more)) < length (b ∷ c ∷ more) → get_or (b ∷ c ∷ more) (cond v (cond (c == 34) (2 + closing more) 0) (1 + closing (c ∷ more))) 0 ≡ 34) [
      | true ↦ λ e within. elim (c == 34) as (λ v. cond v (2 + closing more) 0 < length (b ∷ c ∷ more) → get_or (b ∷ c ∷ more) (cond v (2 + closing more) 0) 0 ≡ 34) [
        | true ↦ λ within. two_on b c more (closing more) ∙ closing_quote n more (omega arith) (omega arith)
        | false ↦ λ within. eqb-true b 34 e
      ] within
      | false ↦ λ e within. one_on b c more (closing (c ∷ more)) ∙ closing_quote n (c ∷ more) (omega arith) (omega arith)
    ] refl within

-- the place, as a loop over the bytes of the text gives it
module _ (text bytes : List ℕ) (at : ℕ) (same : bytes ≡ text) (place : at ≡ closing bytes) (within : at < length text) where
  quote_at : get_or text at 0 ≡ 34
  quote_at =
      let here : at ≡ closing text = place ∙ ap closing same in
      ap (λ n. get_or text n 0) here ∙ closing_quote (length text) text (omega arith) (omega arith)

  pub before_quote : IsCharBoundary text at
  before_quote = let quote = quote_at in IsCharBoundary-before_ascii text at within (omega arith)

  pub after_quote : IsUtf8 text → IsCharBoundary text (at + 1)
  after_quote u = let quote = quote_at in IsCharBoundary-after_ascii text at u within (omega arith)

end_small : (ends : Ends) (b : ℕ) → ends_of ends b ≡ true → b < 128
end_small Run b e = grind (arith, nat_tests)
end_small Name b e = grind (arith, nat_tests)

pub run_cut : (ends : Ends) (text bytes : List ℕ) (at : ℕ) → bytes ≡ text → at ≡ position_or_len (ends_of ends) bytes → at ≤ length text → IsCharBoundary text at
run_cut ends text bytes at same place most =
    let here : at ≡ position_or_len (ends_of ends) text = place ∙ ap (position_or_len (ends_of ends)) same in
    elim (ltb at (length text)) as (λ v. ltb at (length text) ≡ v → IsCharBoundary text at) [
      | true ↦ λ e.
          let within = ltb-true at (length text) e in
          let first : ends_of ends (get_or text (position_or_len (ends_of ends) text) 0) ≡ true = passes_at_first (ends_of ends) text 0 (omega arith) in
          let low : get_or text at 0 < 128 = end_small ends (get_or text at 0) (ap (λ n. ends_of ends (get_or text n 0)) here ∙ first) in
          IsCharBoundary-before_ascii text at within low
      | false ↦ λ e.
          let past = ltb-false at (length text) e in
          let all : at ≡ length text = omega arith in
          subst (IsCharBoundary text) (sym all) (IsCharBoundary-end text)
    ] refl

white_small : (b : ℕ) → not (is_white_space b) ≡ false → b < 128
white_small b e = grind (arith, nat_tests)

-- one ASCII character is at the front
pub one_cut : (byte : ℕ) (text bytes : List ℕ) → byte < 128 → bytes ≡ text → begins_with byte bytes ≡ true → IsUtf8 text → CutsOff text 1
one_cut byte text bytes low same begins u =
    let h = begins_long byte text (subst (λ x. begins_with byte x ≡ true) same begins) in
    (omega arith, IsCharBoundary-after_ascii text 0 u h.0 (omega (arith, h.1)))

-- a cut after the first byte is one of the whole
pub cut_after_one : (text rest : List ℕ) (len : ℕ) → 1 ≤ length text → rest ≡ drop 1 text → 2 ≤ len → IsCharBoundary rest (len - 1) → IsCharBoundary text len
cut_after_one text rest len some same two cut =
    let sum : 1 + (len - 1) ≡ len = omega arith in
    subst (IsCharBoundary text) sum (IsCharBoundary-from_rest text 1 (len - 1) some (subst (λ x. IsCharBoundary x (len - 1)) same cut))

-- and so is one after a prefix
pub cut_after : (text rest : List ℕ) (prefix len : ℕ) → CutsOff text prefix → rest ≡ drop prefix text → prefix ≤ len → IsCharBoundary rest (len - prefix) → CutsOff text len
cut_after text rest prefix len off same long cut =
    let sum : prefix + (len - prefix) ≡ len = omega arith in
    (omega (arith, off.0), subst (IsCharBoundary text) sum (IsCharBoundary-from_rest text prefix (len - prefix) off.1.0 (subst (λ x. IsCharBoundary x (len - prefix)) same cut)))

-- white space is at the front
pub space_cut : (text bytes : List ℕ) → bytes ≡ text → goes_on bytes ≡ false → 0 < length text → IsUtf8 text → CutsOff text 1
space_cut [] bytes same h some u = absurd (omega arith)
space_cut (b ∷ more) bytes same h some u =
    let white : not (is_white_space b) ≡ false = subst (λ x. goes_on x ≡ false) same h in
    let low = white_small b white in
    (omega arith, IsCharBoundary-after_ascii (b ∷ more) 0 u some low)

-- what a lexeme of this length cuts off
pub off_by : (text : List ℕ) (lexeme : Lexeme) (len : ℕ) → lexeme.len ≡ len → CutsOff text len → CutsOff text lexeme.len
off_by text lexeme len same off = subst (CutsOff text) (sym same) off
