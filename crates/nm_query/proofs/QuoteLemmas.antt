-- Quoted texts, byte by byte: what represents their first byte, and that what they say is text.
-- For the proofs of `said_len`, `doubled_len` and `undoubled`.
use Rattle.std.proofs.Common.{◌≡◌, ℕ, zero, suc, ◌+◌, ◌<◌, ◌≤◌, true, false, cond, ◌&&◌, ◌==◌, List, [], ◌∷◌, ◌++◌, length, drop, get_or, refl, sym, ap, subst, ◌∙◌, arith, append_assoc}
use Rattle.std.specs.Prelude.{IsUtf8}
use Rattle.std.proofs.lemmas.Bool.{eqb-true}
use Rattle.std.proofs.lemmas.Bool.Decides.{nat_tests}
use Rattle.std.proofs.lemmas.Str.{IsUtf8-append}
use Rattle.nm_query.specs.Values.{begins_with, closing, undoubled}
use Rattle.nm_text.specs.Utf8Laws.{split_ascii}

same_byte : (b c : ℕ) → b ≡ c → (b == c) ≡ true
same_byte b c e = grind (arith, nat_tests)

other_byte : (b c : ℕ) → (b ≡ c → ⊥) → (b == c) ≡ false
other_byte b c e = grind (arith, nat_tests)

pub closing_end : (text : List ℕ) → 0 < length text → get_or text 0 0 ≡ 34 → begins_with 34 (drop 1 text) ≡ false → closing text ≡ 0
closing_end [] some quote single = absurd (omega arith)
closing_end (b ∷ []) some quote single = ap (λ v. cond v 0 1) (same_byte b 34 quote)
closing_end (b ∷ c ∷ more) some quote single =
    ap (λ v. cond v (cond (c == 34) (2 + closing more) 0) (1 + closing (c ∷ more))) (same_byte b 34 quote) ∙ ap (λ v. cond v (2 + closing more) 0) single

pub closing_one : (text : List ℕ) → 0 < length text → (get_or text 0 0 ≡ 34 → ⊥) → closing text ≡ 1 + closing (drop 1 text)
closing_one [] some other = absurd (omega arith)
closing_one (b ∷ []) some other = ap (λ v. cond v 0 1) (other_byte b 34 other)
closing_one (b ∷ c ∷ more) some other =
    ap (λ v. cond v (cond (c == 34) (2 + closing more) 0) (1 + closing (c ∷ more))) (other_byte b 34 other)

pub closing_two : (text : List ℕ) → get_or text 0 0 ≡ 34 → begins_with 34 (drop 1 text) ≡ true → closing text ≡ 2 + closing (drop 2 text)
closing_two [] quote double = absurd (cc)
closing_two (b ∷ []) quote double = absurd (cc)
closing_two (b ∷ c ∷ more) quote double =
    ap (λ v. cond v (cond (c == 34) (2 + closing more) 0) (1 + closing (c ∷ more))) (same_byte b 34 quote) ∙ ap (λ v. cond v (2 + closing more) 0) double

pub begins_long : (byte : ℕ) (text : List ℕ) → begins_with byte text ≡ true → (0 < length text) × (get_or text 0 0 ≡ byte)
begins_long byte [] h = absurd (cc)
begins_long byte (b ∷ more) h = (omega arith, eqb-true b byte h)

pub undoubled_two : (text : List ℕ) → get_or text 0 0 ≡ 34 → begins_with 34 (drop 1 text) ≡ true → undoubled text ≡ get_or text 0 0 ∷ undoubled (drop 2 text)
undoubled_two [] quote double = absurd (cc)
undoubled_two (b ∷ []) quote double = absurd (cc)
undoubled_two (b ∷ c ∷ more) quote double =
    ap (λ v. cond (v && (c == 34)) (b ∷ undoubled more) (b ∷ undoubled (c ∷ more))) (same_byte b 34 quote) ∙ ap (λ v. cond v (b ∷ undoubled more) (b ∷ undoubled (c ∷ more))) double

pub undoubled_one : (text : List ℕ) → 0 < length text → (get_or text 0 0 ≡ 34 → begins_with 34 (drop 1 text) ≡ false) → undoubled text ≡ get_or text 0 0 ∷ undoubled (drop 1 text)
undoubled_one [] some single = absurd (omega arith)
undoubled_one (b ∷ []) some single = refl
undoubled_one (b ∷ c ∷ more) some single =
    elim (b == 34) as (λ v. (b == 34) ≡ v → cond (v && (c == 34)) (b ∷ undoubled more) (b ∷ undoubled (c ∷ more)) ≡ b ∷ undoubled (c ∷ more)) [
      | true ↦ λ h. ap (λ v. cond v (b ∷ undoubled more) (b ∷ undoubled (c ∷ more))) (single (eqb-true b 34 h))
      | false ↦ λ h. refl
    ] refl

second_quote : (b c : ℕ) → ((b == 34) && (c == 34)) ≡ true → c < 128
second_quote b c h = grind (arith, nat_tests)

undoubled_after : (n : ℕ) (front text : List ℕ) → length text ≤ n → IsUtf8 (front ++ text) → IsUtf8 (front ++ undoubled text)
undoubled_after n front [] h u = u
undoubled_after n front (b ∷ []) h u = u
undoubled_after zero front (b ∷ c ∷ more) h u = absurd (omega arith)
undoubled_after (suc n) front (b ∷ c ∷ more) h u =
    let moved : IsUtf8 ((front ++ b ∷ []) ++ c ∷ more) = subst IsUtf8 (sym (append_assoc front (b ∷ []) (c ∷ more))) u in
    elim ((b == 34) && (c == 34)) as (λ v. ((b == 34) && (c == 34)) ≡ v → IsUtf8 (front ++ cond v (b ∷ undoubled more) (b ∷ undoubled (c ∷ more)))) [
      | true ↦ λ e.
          let parts = split_ascii (front ++ b ∷ []) more c (second_quote b c e) moved in
          subst IsUtf8 (append_assoc front (b ∷ []) (undoubled more)) (undoubled_after n (front ++ b ∷ []) more (omega arith) (IsUtf8-append (front ++ b ∷ []) more parts.0 parts.1))
      | false ↦ λ e. subst IsUtf8 (append_assoc front (b ∷ []) (undoubled (c ∷ more))) (undoubled_after n (front ++ b ∷ []) (c ∷ more) (omega arith) moved)
    ] refl

pub undoubled_utf8 : (text : List ℕ) → IsUtf8 text → IsUtf8 (undoubled text)
undoubled_utf8 text u = undoubled_after (length text) [] text (omega arith) u
