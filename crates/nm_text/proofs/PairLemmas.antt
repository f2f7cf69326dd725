-- The first pair of a text, and what is left after it; a quoted string, and what it says.
-- For the proofs of `pair_len`, `quoted_len` and `unquoted`.
use Rattle.std.proofs.Common.{◌≡◌, ℕ, ◌+◌, ◌<◌, ◌≤◌, Bool, true, false, cond, ◌==◌, List, [], ◌∷◌, ◌++◌, length, take, drop, get_or, refl, sym, ap, subst, ◌∙◌, arith, append_assoc}
use Rattle.std.specs.Prelude.{IsUtf8}
use Rattle.std.specs.List.{flat_map}
use Rattle.std.proofs.lemmas.Bool.{eqb-true, eqb-false}
use Rattle.std.proofs.lemmas.List.{append-nil, length-take-le, take-append-drop}
use Rattle.nm_text.specs.Cuts.{len_through}
use Rattle.nm_text.specs.QuotedStrings.{is_special, pair_more, pairs_of, quoted_len, unquoted, unquoted_pair}
use Rattle.nm_text.specs.CutLaws.{cut-cons, cut-nil}
use Rattle.nm_text.specs.Utf8Laws.{drop_ascii}

-- the first pair of a text, by how many bytes more than its first it takes
pair_of : (b : ℕ) (text : List ℕ) (v : Bool) → (b == 92) ≡ v → pairs_of (b ∷ text) ≡ (b ∷ take (cond v 1 0) text) ∷ pairs_of (drop (cond v 1 0) text)
pair_of b text v e = cut-cons pair_more b text ∙ ap (λ x. (b ∷ take (cond x 1 0) text) ∷ pairs_of (drop (cond x 1 0) text)) e

pub pair_byte : (text : List ℕ) → 0 < length text → (get_or text 0 0 ≡ 92 → ⊥) → pairs_of text ≡ take 1 text ∷ pairs_of (drop 1 text)
pair_byte [] h n = absurd (omega arith)
pair_byte (b ∷ text) h n =
    elim (b == 92) as (λ v. (b == 92) ≡ v → pairs_of (b ∷ text) ≡ take 1 (b ∷ text) ∷ pairs_of (drop 1 (b ∷ text))) [
      | true ↦ λ e. absurd (n (eqb-true b 92 e))
      | false ↦ λ e. pair_of b text false e
    ] refl

pub pair_last : (text : List ℕ) → length text ≡ 1 → pairs_of text ≡ take 1 text ∷ pairs_of (drop 1 text)
pair_last [] h = absurd (omega arith)
pair_last (b ∷ []) h =
    elim (b == 92) as (λ v. (b == 92) ≡ v → pairs_of (b ∷ []) ≡ take 1 (b ∷ []) ∷ pairs_of (drop 1 (b ∷ []))) [
      | true ↦ λ e. pair_of b [] true e
      | false ↦ λ e. pair_of b [] false e
    ] refl
pair_last (b ∷ c ∷ text) h = absurd (omega arith)

pub pair_escaped : (text : List ℕ) → 1 < length text → get_or text 0 0 ≡ 92 → pairs_of text ≡ take 2 text ∷ pairs_of (drop 2 text)
pair_escaped [] h e = absurd (omega arith)
pair_escaped (b ∷ []) h e = absurd (omega arith)
pair_escaped (b ∷ c ∷ text) h e =
    elim (b == 92) as (λ v. (b == 92) ≡ v → pairs_of (b ∷ c ∷ text) ≡ take 2 (b ∷ c ∷ text) ∷ pairs_of (drop 2 (b ∷ c ∷ text))) [
      | true ↦ λ f. pair_of b (c ∷ text) true f
      | false ↦ λ f. absurd (eqb-false b 92 f e)
    ] refl

pub quoted-nil : quoted_len [] ≡ 0
quoted-nil = ap (len_through (is_special 34)) (cut-nil pair_more)

-- the first pair closes the quoted text, or it is one of it
pub quoted_stop : (text : List ℕ) (n : ℕ) → pairs_of text ≡ take n text ∷ pairs_of (drop n text) → n ≤ length text → is_special 34 (take n text) ≡ true → quoted_len text ≡ n
quoted_stop text n e within sign =
    ap (len_through (is_special 34)) e ∙ ap (λ v. cond v (length (take n text)) (length (take n text) + quoted_len (drop n text))) sign ∙ length-take-le n text within

pub quoted_on : (text : List ℕ) (n : ℕ) → pairs_of text ≡ take n text ∷ pairs_of (drop n text) → n ≤ length text → is_special 34 (take n text) ≡ false → quoted_len text ≡ n + quoted_len (drop n text)
quoted_on text n e within sign =
    ap (len_through (is_special 34)) e ∙ ap (λ v. cond v (length (take n text)) (length (take n text) + quoted_len (drop n text))) sign ∙ ap (λ k. k + quoted_len (drop n text)) (length-take-le n text within)

pub quoted_end : (text left : List ℕ) → (length left == 0) ≡ true → quoted_len text + length left ≡ quoted_len left + length text → length text ≡ quoted_len text
quoted_end text [] e sum = let none : quoted_len [] ≡ 0 = quoted-nil in omega arith
quoted_end text (b ∷ left) e sum = absurd (let no : length (b ∷ left) ≡ 0 = eqb-true (length (b ∷ left)) 0 e in omega arith)

pub unquoted_turn : (before after pair left rest : List ℕ) (n : ℕ) → pairs_of left ≡ take n left ∷ pairs_of (drop n left) → pair ≡ take n left → rest ≡ drop n left → after ≡ before ++ unquoted_pair pair → after ++ unquoted rest ≡ before ++ unquoted left
unquoted_turn before after pair left rest n e f b a =
    rw (a, f, b) (append_assoc before (unquoted_pair (take n left)) (unquoted (drop n left)) ∙ ap (λ x. before ++ x) (sym (ap (flat_map unquoted_pair) e)))

pub unquoted_end : (text left : List ℕ) → (length left == 0) ≡ true → text ++ unquoted left ≡ text
unquoted_end text [] e = ap (λ x. text ++ flat_map unquoted_pair x) (cut-nil pair_more) ∙ append-nil text
unquoted_end text (b ∷ left) e = absurd (let no : length (b ∷ left) ≡ 0 = eqb-true (length (b ∷ left)) 0 e in omega arith)

-- a pair begins with an ASCII sign
pair_is : (left : List ℕ) (b c : ℕ) (more : List ℕ) (rest : List (List ℕ)) → pairs_of left ≡ (b ∷ c ∷ more) ∷ rest → b < 128
pair_is [] b c more rest e = absurd (let no : [] ≡ (b ∷ c ∷ more) ∷ rest = sym (cut-nil pair_more) ∙ e in cc)
pair_is (x ∷ xs) b c more rest e =
    elim (x == 92) as (λ v. (x == 92) ≡ v → b < 128) [
      | true ↦ λ h.
          let first : (x ∷ take (pair_more x xs) xs) ∷ pairs_of (drop (pair_more x xs) xs) ≡ (b ∷ c ∷ more) ∷ rest = sym (cut-cons pair_more x xs) ∙ e in
          let same : x ≡ b = cc in
          let sign : x ≡ 92 = eqb-true x 92 h in
          omega arith
      | false ↦ λ h.
          let first : (x ∷ take (pair_more x xs) xs) ∷ pairs_of (drop (pair_more x xs) xs) ≡ (b ∷ c ∷ more) ∷ rest = sym (cut-cons pair_more x xs) ∙ e in
          let none : take (pair_more x xs) xs ≡ [] = ap (λ v. take (cond v 1 0) xs) h in
          absurd (cc)
    ] refl

kept_utf8 : (before pair rest : List ℕ) → ((b c : ℕ) (more : List ℕ) → pair ≡ b ∷ c ∷ more → b < 128) → IsUtf8 (before ++ (pair ++ rest)) → IsUtf8 ((before ++ unquoted_pair pair) ++ rest)
kept_utf8 before [] rest small u = subst IsUtf8 (sym (append_assoc before [] rest)) u
kept_utf8 before (b ∷ []) rest small u =
    elim (b == 34) as (λ v. (b == 34) ≡ v → IsUtf8 ((before ++ cond v [] (b ∷ [])) ++ rest)) [
      | true ↦ λ e. subst IsUtf8 (sym (append_assoc before [] rest)) (drop_ascii before rest b (let sign : b ≡ 34 = eqb-true b 34 e in omega arith) u)
      | false ↦ λ e. subst IsUtf8 (sym (append_assoc before (b ∷ []) rest)) u
    ] refl
kept_utf8 before (b ∷ c ∷ more) rest small u =
    subst IsUtf8 (sym (append_assoc before (c ∷ more) rest)) (drop_ascii before ((c ∷ more) ++ rest) b (small b c more refl) u)

-- only ASCII signs are taken out
pub unquoted_utf8 : (before after pair left rest : List ℕ) (n : ℕ) → pairs_of left ≡ take n left ∷ pairs_of (drop n left) → pair ≡ take n left → rest ≡ drop n left → after ≡ before ++ unquoted_pair pair → IsUtf8 (before ++ left) → IsUtf8 (after ++ rest)
unquoted_utf8 before after pair left rest n e f b a u =
    let whole : left ≡ pair ++ rest = sym (take-append-drop n left) ∙ ap (λ x. x ++ drop n left) (sym f) ∙ ap (λ x. pair ++ x) (sym b) in
    subst IsUtf8 (ap (λ x. x ++ rest) (sym a)) (kept_utf8 before pair rest (λ x y more s. pair_is left x y more (pairs_of (drop n left)) (e ∙ ap (λ z. z ∷ pairs_of (drop n left)) (sym f ∙ s))) (subst IsUtf8 (ap (λ x. before ++ x) whole) u))

pub said_all : (said left : List ℕ) → (length left == 0) ≡ true → said ++ left ≡ said
said_all said [] e = append-nil said
said_all said (b ∷ left) e = absurd (let no : length (b ∷ left) ≡ 0 = eqb-true (length (b ∷ left)) 0 e in omega arith)
