-- A turn of the loop over the lexemes: what is shown so far, and what is left, is all, and is text.
-- For the proof of `plain`.
use Rattle.std.proofs.Common.{◌≡◌, ℕ, zero, suc, ◌<◌, true, false, cond, ◌==◌, List, [], ◌∷◌, ◌++◌, length, take, drop, refl, sym, ap, subst, ◌∙◌, arith, lit<, append_assoc}
use Rattle.std.specs.Prelude.{IsUtf8}
use Rattle.std.specs.List.{flat_map}
use Rattle.std.proofs.lemmas.Bool.{eqb-true}
use Rattle.std.proofs.lemmas.List.{append-nil, take-append-drop}
use Rattle.std.proofs.lemmas.Str.{IsUtf8-append, IsUtf8-from_ascii}
use Rattle.std.proofs.lemmas.Str.Ascii.{IsAscii-cons, IsAscii-nil}
use Rattle.nm_header.specs.Comments.{is_comment, lexeme_more, lexemes_of, plain_of, shown}
use Rattle.nm_text.specs.CutLaws.{cut-nil}
use Rattle.nm_text.specs.Utf8Laws.{split_ascii}

pub plain_turn : (before after lexeme left behind : List ℕ) (n : ℕ) → lexemes_of left ≡ take n left ∷ lexemes_of (drop n left) → lexeme ≡ take n left → behind ≡ drop n left → after ≡ before ++ shown lexeme → after ++ plain_of behind ≡ before ++ plain_of left
plain_turn before after lexeme left behind n e f b a =
    rw (a, f, b) (append_assoc before (shown (take n left)) (plain_of (drop n left)) ∙ ap (λ x. before ++ x) (sym (ap (flat_map shown) e)))

pub plain_end : (text left : List ℕ) → (length left == 0) ≡ true → text ++ plain_of left ≡ text
plain_end text [] e = ap (λ x. text ++ flat_map shown x) (cut-nil lexeme_more) ∙ append-nil text
plain_end text (b ∷ left) e = absurd (let no : length (b ∷ left) ≡ 0 = eqb-true (length (b ∷ left)) 0 e in omega arith)

-- its first byte tells whether a lexeme is a comment
comment_front : (left : List ℕ) (n : ℕ) → 0 < n → is_comment (take n left) ≡ is_comment left
comment_front left zero h = absurd (omega arith)
comment_front [] (suc n) h = refl
comment_front (b ∷ left) (suc n) h = refl

one_space : IsUtf8 (32 ∷ [])
one_space = IsUtf8-from_ascii (32 ∷ []) (IsAscii-cons 32 [] (lit< tt) IsAscii-nil)

apart : (before left : List ℕ) → is_comment left ≡ true → IsUtf8 (before ++ left) → IsUtf8 before × IsUtf8 (drop 1 left)
apart before [] e u = absurd (cc)
apart before (b ∷ left) e u = split_ascii before left b (let same : b ≡ 40 = eqb-true b 40 e in omega arith) u

pub plain_utf8 : (before after lexeme left behind : List ℕ) (n : ℕ) → 0 < n → lexeme ≡ take n left → behind ≡ drop n left → after ≡ before ++ shown lexeme → (is_comment left ≡ true → IsUtf8 (drop 1 left) → IsUtf8 (drop n left)) → IsUtf8 (before ++ left) → IsUtf8 (after ++ behind)
plain_utf8 before after lexeme left behind n some f b a comment u =
    let kind : is_comment lexeme ≡ is_comment left = ap is_comment f ∙ comment_front left n some in
    elim (is_comment left) as (λ v. is_comment left ≡ v → IsUtf8 (after ++ behind)) [
      | true ↦ λ e.
          let parts = apart before left e u in
          let text : before ++ shown lexeme ≡ before ++ 32 ∷ [] = ap (λ v. before ++ cond v (32 ∷ []) lexeme) (kind ∙ e) in
          subst IsUtf8 (ap (λ x. x ++ drop n left) (sym (a ∙ text)) ∙ ap (λ x. after ++ x) (sym b)) (IsUtf8-append (before ++ 32 ∷ []) (drop n left) (IsUtf8-append before (32 ∷ []) parts.0 one_space) (comment e parts.1))
      | false ↦ λ e.
          let text : before ++ shown lexeme ≡ before ++ take n left = ap (λ v. before ++ cond v (32 ∷ []) lexeme) (kind ∙ e) ∙ ap (λ x. before ++ x) f in
          let same : before ++ left ≡ after ++ behind = ap (λ x. before ++ x) (sym (take-append-drop n left)) ∙ sym (append_assoc before (take n left) (drop n left)) ∙ ap (λ x. x ++ drop n left) (sym (a ∙ text)) ∙ ap (λ x. after ++ x) (sym b) in
          subst IsUtf8 same u
    ] refl
