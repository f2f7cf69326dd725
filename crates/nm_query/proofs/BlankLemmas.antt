-- White space or the end after a text leaves what the text begins with as it is, wherever it is.
-- For `LexemeLemmas`.
use Rattle.std.proofs.Common.{◌≡◌, ℕ, zero, suc, ◌+◌, ◌<◌, ◌≤◌, Bool, true, false, cond, not, ◌&&◌, ◌==◌, List, [], ◌∷◌, ◌++◌, length, take, drop, refl, ap, ◌∙◌, arith, length-append}
use Rattle.std.specs.Prelude.{Result, Ok, Err, nat_eq}
use Rattle.std.specs.List.{before_first, list_all, position_or_len}
use Rattle.std.proofs.lemmas.Bool.{and_parts}
use Rattle.std.proofs.lemmas.Bool.Decides.{nat_tests}
use Rattle.std.proofs.lemmas.List.{take-append-le}
use Rattle.nm_base.specs.Bounds.{is_white_space}
use Rattle.nm_query.specs.Lexemes.{goes_on}
use Rattle.nm_query.specs.Prefixes.{begins}
use Rattle.nm_query.specs.Values.{begins_with, closing, quoted_value, run_value, undoubled, value_at}
use Rattle.nm_query.specs.declared.query_error.QueryError.{QueryError}
use Rattle.nm_query.specs.declared.query_error.QueryError.TheVariants.{BadQuery}
use Rattle.nm_query.specs.declared.query_error.QueryKind.TheVariants.{Quote}
use Rattle.nm_query.specs.declared.values.Value.{Value}

-- a byte that white space is not
abbrev pub IsDark : ℕ → Type 0
IsDark b = is_white_space b ≡ false

white_here : (b : ℕ) → not (is_white_space b) ≡ false → is_white_space b ≡ true
white_here b h = grind (arith, nat_tests)

differs : (dark white : ℕ) → is_white_space dark ≡ false → not (is_white_space white) ≡ false → (dark == white) ≡ false
differs dark white d w = grind (arith, nat_tests)

differs_too : (dark white : ℕ) → is_white_space dark ≡ false → not (is_white_space white) ≡ false → (white == dark) ≡ false
differs_too dark white d w = grind (arith, nat_tests)

-- no such byte is at the front of white space or the end
pub begins-blank : (byte : ℕ) (blank : List ℕ) → is_white_space byte ≡ false → goes_on blank ≡ false → begins_with byte blank ≡ false
begins-blank byte [] dark h = refl
begins-blank byte (w ∷ more) dark h = differs_too byte w dark h

-- a run ends there
abbrev pub EndsAtBlank : (ℕ → Bool) → Type 0
EndsAtBlank ends = (b : ℕ) → is_white_space b ≡ true → ends b ≡ true

run-blank : (ends : ℕ → Bool) (blank : List ℕ) → EndsAtBlank ends → goes_on blank ≡ false → position_or_len ends blank ≡ 0
run-blank ends [] e h = refl
run-blank ends (w ∷ more) e h = ap (λ v. cond (not v) (1 + position_or_len ends more) 0) (e w (white_here w h))

pub run_len-blank : (ends : ℕ → Bool) (text blank : List ℕ) → EndsAtBlank ends → goes_on blank ≡ false → position_or_len ends (text ++ blank) ≡ position_or_len ends text
run_len-blank ends [] blank e h = run-blank ends blank e h
run_len-blank ends (b ∷ text) blank e h = ap (λ n. cond (not (ends b)) (1 + n) 0) (run_len-blank ends text blank e h)

pub run_len-within : (ends : ℕ → Bool) (text : List ℕ) → position_or_len ends text ≤ length text
run_len-within ends [] = omega arith
run_len-within ends (b ∷ text) =
    let within = run_len-within ends text in
    elim (ends b) as (λ v. cond (not v) (1 + position_or_len ends text) 0 ≤ length (b ∷ text)) [
      | true ↦ omega arith
      | false ↦ omega arith
    ]

pub before-blank : (ends : ℕ → Bool) (text blank : List ℕ) → EndsAtBlank ends → goes_on blank ≡ false → before_first ends (text ++ blank) ≡ before_first ends text
before-blank ends text blank e h =
    ap (λ n. take n (text ++ blank)) (run_len-blank ends text blank e h) ∙ take-append-le (position_or_len ends text) text blank (run_len-within ends text)

-- a prefix without white space
pub prefix-blank : (front text blank : List ℕ) → list_all (λ b. not (is_white_space b)) front ≡ true → goes_on blank ≡ false → begins front (text ++ blank) ≡ begins front text
prefix-blank [] text blank dark h = refl
prefix-blank (c ∷ front) [] [] dark h = refl
prefix-blank (c ∷ front) [] (w ∷ more) dark h =
    let first = and_parts (not (is_white_space c)) (list_all (λ b. not (is_white_space b)) front) dark in
    ap (λ v. v && begins front more) (differs c w (dark_here c first.0) h)
  where
    dark_here : (b : ℕ) → not (is_white_space b) ≡ true → is_white_space b ≡ false
    dark_here b h = grind (arith, nat_tests)
prefix-blank (c ∷ front) (b ∷ text) blank dark h =
    let first = and_parts (not (is_white_space c)) (list_all (λ b. not (is_white_space b)) front) dark in
    ap (λ v. nat_eq c b && v) (prefix-blank front text blank first.1 h)

-- a text that begins so is as long
pub prefix-long : (front text : List ℕ) → begins front text ≡ true → length front ≤ length text
prefix-long [] text h = omega arith
prefix-long (c ∷ front) [] h = absurd (cc)
prefix-long (c ∷ front) (b ∷ text) h =
    let rest = and_parts (nat_eq c b) (begins front text) h in
    let within = prefix-long front text rest.1 in
    omega arith

pub closing-within : (n : ℕ) (text : List ℕ) → length text ≤ n → closing text ≤ length text
closing-within n [] most = omega arith
closing-within n (b ∷ []) most = elim (b == 34) as (λ v. cond v 0 1 ≤ 1) [ true ↦ omega arith | false ↦ omega arith ]
closing-within zero (b ∷ c ∷ more) most = absurd (omega arith)
closing-within (suc n) (b ∷ c ∷ more) most =
    let two = closing-within n more (omega arith) in
    let one = closing-within n (c ∷ more) (omega arith) in
    elim (b == 34) as (λ v. cond v (cond (c == 34) (2 + closing more) 0) (1 + closing (c ∷ more)) ≤ length (b ∷ c ∷ more)) [
      | true ↦ elim (c == 34) as (λ v. cond v (2 + closing more) 0 ≤ length (b ∷ c ∷ more)) [ true ↦ omega arith | false ↦ omega arith ]
      | false ↦ omega arith
    ]

closing-last : (b : ℕ) (blank : List ℕ) → (b == 34) ≡ true → goes_on blank ≡ false → closing (b ∷ blank) ≡ 0
closing-last b [] quote h = ap (λ v. cond v 0 1) quote
closing-last b (w ∷ more) quote h =
    ap (λ v. cond v (cond (w == 34) (2 + closing more) 0) (1 + closing (w ∷ more))) quote ∙ ap (λ v. cond v (2 + closing more) 0) (differs_too 34 w refl h)

pub closing-blank : (n : ℕ) (text blank : List ℕ) → length text ≤ n → goes_on blank ≡ false → closing text < length text → closing (text ++ blank) ≡ closing text
closing-blank n [] blank most h within = absurd (omega arith)
closing-blank n (b ∷ []) blank most h within =
    elim (b == 34) as (λ v. (b == 34) ≡ v → cond v 0 1 < 1 → closing (b ∷ blank) ≡ cond v 0 1) [
      | true ↦ λ quote within. closing-last b blank quote h
      | false ↦ λ other within. absurd (omega arith)
    ] refl within
closing-blank zero (b ∷ c ∷ more) blank most h within = absurd (omega arith)
closing-blank (suc n) (b ∷ c ∷ more) blank most h within =
    elim (b == 34) as (λ v. cond v (cond (c == 34) (2 + closing more) 0) (1 + closing (c ∷ more)) < length (b ∷ c ∷ more) →
    cond v (cond (c == 34) (2 + closing (more ++ blank)) 0) (1 + closing (c ∷ (more ++ blank))) ≡ cond v (cond (c == 34) (2 + closing more) 0) (1 + closing (c ∷ more))) [
      | true ↦ λ within. elim (c == 34) as (λ v. cond v (2 + closing more) 0 < length (b ∷ c ∷ more) → cond v (2 + closing (more ++ blank)) 0 ≡ cond v (2 + closing more) 0) [
        | true ↦ λ within. ap (λ n. 2 + n) (closing-blank n more blank (omega arith) h (omega arith))
        | false ↦ λ within. refl
      ] within
      | false ↦ λ within. ap (λ n. 1 + n) (closing-blank n (c ∷ more) blank (omega arith) h (omega arith))
    ] within

abbrev pub quoted_of : ℕ → List ℕ → Value
quoted_of len text = record { said = undoubled (take len text); quoted = true; len = len + 2 }

is_end : (place len : ℕ) → (place == len) ≡ false → place ≤ len → place < len
is_end place len h within = grind (arith, nat_tests)

no_end : (place len : ℕ) → place < len → (place == len) ≡ false
no_end place len h = grind (arith, nat_tests)

same_value : (value : Value) (at : ℕ) (read : Value) → (let answer : Result Value QueryError = Ok value in answer ≡ Ok read) → value ≡ read
same_value value at read h = cc

pub quoted-blank : (at place : ℕ) (text blank : List ℕ) (value : Value) → goes_on blank ≡ false → quoted_value at text ≡ Ok value →
    (quoted_value place (text ++ blank) ≡ Ok value) × (value.len ≤ 1 + length text)
quoted-blank at place text blank value h read =
    elim (closing text == length text) as (λ v. (closing text == length text) ≡ v → cond v (Err (BadQuery at Quote)) (Ok (quoted_of (closing text) text)) ≡ Ok value →
    (quoted_value place (text ++ blank) ≡ Ok value) × (value.len ≤ 1 + length text)) [
      | true ↦ λ none read. absurd (cc)
      | false ↦ λ some read.
          let before = is_end (closing text) (length text) some (closing-within (length text) text (omega arith)) in
          let keeps = closing-blank (length text) text blank (omega arith) h before in
          let long = length-append text blank in
          let value_is = same_value (quoted_of (closing text) text) at value read in
          let len_is = ap (λ (v : Value). v.len) value_is in (
            ap (λ v. cond v (Err (BadQuery place Quote)) (Ok (quoted_of (closing (text ++ blank)) (text ++ blank)))) (no_end (closing (text ++ blank)) (length (text ++ blank)) (omega arith))
                ∙ ap (λ n. Ok (quoted_of n (text ++ blank))) keeps
                ∙ ap (λ x. Ok (record { said = undoubled x; quoted = true; len = closing text + 2 })) (take-append-le (closing text) text blank (omega arith))
                ∙ ap Ok value_is,
            omega arith,
          )
    ] refl read

run_value-blank : (ends : ℕ → Bool) (text blank : List ℕ) → EndsAtBlank ends → goes_on blank ≡ false → run_value ends (text ++ blank) ≡ run_value ends text
run_value-blank ends text blank e h =
    ap (λ x. record { said = x; quoted = false; len = position_or_len ends (text ++ blank) }) (before-blank ends text blank e h)
    ∙ ap (λ n. record { said = before_first ends text; quoted = false; len = n }) (run_len-blank ends text blank e h)

run-read : (ends : ℕ → Bool) (at : ℕ) (text blank : List ℕ) (value : Value) → EndsAtBlank ends → goes_on blank ≡ false → (let answer : Result Value QueryError = Ok (run_value ends text) in answer ≡ Ok value) →
    (let answer : Result Value QueryError = Ok (run_value ends (text ++ blank)) in answer ≡ Ok value) × (value.len ≤ length text)
run-read ends at text blank value e h read =
    let value_is = same_value (run_value ends text) at value read in
    let len_is = ap (λ (v : Value). v.len) value_is in
    let within = run_len-within ends text in
    (ap Ok (run_value-blank ends text blank e h ∙ value_is), omega arith)

pub value-blank : (ends : ℕ → Bool) (at place : ℕ) (text blank : List ℕ) (value : Value) → EndsAtBlank ends → goes_on blank ≡ false → value_at ends at text ≡ Ok value →
    (value_at ends place (text ++ blank) ≡ Ok value) × (value.len ≤ length text)
value-blank ends at place [] blank value e h read =
    let same = run-read ends at [] blank value e h read in
    (ap (λ v. cond v (quoted_value place (drop 1 blank)) (Ok (run_value ends blank))) (begins-blank 34 blank refl h) ∙ same.0, same.1)
value-blank ends at place (b ∷ text) blank value e h read =
    elim (b == 34) as (λ v. cond v (quoted_value at text) (Ok (run_value ends (b ∷ text))) ≡ Ok value →
    (cond v (quoted_value place (text ++ blank)) (Ok (run_value ends (b ∷ (text ++ blank)))) ≡ Ok value) × (value.len ≤ length (b ∷ text))) [
      | true ↦ λ read. let same = quoted-blank at place text blank value h read in (same.0, omega (arith, same.1))
      | false ↦ λ read. run-read ends at (b ∷ text) blank value e h read
    ] read
