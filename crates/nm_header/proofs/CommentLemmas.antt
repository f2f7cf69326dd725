-- The first pair and the first lexeme of a text, and what is left after them.
-- For the proofs of `comment_len` and `lexeme_len`.
use Rattle.std.proofs.Common.{◌≡◌, ℕ, suc, ◌+◌, ◌-◌, ◌<◌, ◌≤◌, true, false, cond, ◌==◌, List, [], ◌∷◌, ◌++◌, length, take, drop, get_or, refl, sym, ap, subst, ◌∙◌, arith, min, lit<, length-drop, length-take, length-append, append_assoc}
use Rattle.std.proofs.lemmas.Bool.{eqb-true}
use Rattle.std.specs.Prelude.{IsUtf8}
use Rattle.std.proofs.lemmas.List.{drop_at, drop_min, length-take-le, take-append-drop}
use Rattle.nm_header.specs.Comments.{comment_len, depth_after, lexeme_more, lexemes_of}
use Rattle.nm_text.specs.QuotedStrings.{is_special, pair_more, pairs_of, quoted_len}
use Rattle.nm_header.proofs.DepthLemmas.{comment_is, depth_through, neq, neq-eqb, special_is}
use Rattle.nm_text.specs.CutLaws.{cut-cons, cut-nil}
use Rattle.nm_text.specs.Utf8Laws.{split_ascii}

pub depth-nil : (depth : ℕ) → depth_through depth (pairs_of []) ≡ 0
depth-nil depth = ap (depth_through depth) (cut-nil pair_more)

pub depth_stop : (depth : ℕ) (text : List ℕ) (n : ℕ) → pairs_of text ≡ take n text ∷ pairs_of (drop n text) → n ≤ length text → (depth_after depth (take n text) == 0) ≡ true → depth_through depth (pairs_of text) ≡ n
depth_stop depth text n e within zero_left =
    ap (depth_through depth) e ∙ ap (λ v. cond v (length (take n text)) (length (take n text) + depth_through (depth_after depth (take n text)) (pairs_of (drop n text)))) zero_left ∙ length-take-le n text within

pub depth_on : (depth : ℕ) (text : List ℕ) (n : ℕ) → pairs_of text ≡ take n text ∷ pairs_of (drop n text) → n ≤ length text → (depth_after depth (take n text) == 0) ≡ false → depth_through depth (pairs_of text) ≡ n + depth_through (depth_after depth (take n text)) (pairs_of (drop n text))
depth_on depth text n e within some_left =
    ap (depth_through depth) e ∙ ap (λ v. cond v (length (take n text)) (length (take n text) + depth_through (depth_after depth (take n text)) (pairs_of (drop n text)))) some_left ∙ ap (λ k. k + depth_through (depth_after depth (take n text)) (pairs_of (drop n text))) (length-take-le n text within)

-- where nothing is left, the text goes on to its end
pub comment_end : (text left : List ℕ) (depth : ℕ) → (length left == 0) ≡ true → comment_len text + length left ≡ depth_through depth (pairs_of left) + length text → length text ≡ comment_len text
comment_end text [] depth e sum = let none : depth_through depth (pairs_of []) ≡ 0 = depth-nil depth in omega arith
comment_end text (b ∷ left) depth e sum = absurd (let no : length (b ∷ left) ≡ 0 = eqb-true (length (b ∷ left)) 0 e in omega arith)

pub comment_begin : (text : List ℕ) → comment_len text + length text ≡ depth_through 1 (pairs_of text) + length text
comment_begin text = ap (λ k. k + length text) (comment_is 1 (pairs_of text) (lit< tt))

-- one pair more
pub comment_sum : (text left pair behind : List ℕ) (n depth next : ℕ) → pair ≡ take n left → behind ≡ drop n left → pairs_of left ≡ take n left ∷ pairs_of (drop n left) → n ≤ length left → next ≡ depth_after depth pair → (next ≡ 0 → ⊥) → comment_len text + length left ≡ depth_through depth (pairs_of left) + length text → comment_len text + length behind ≡ depth_through next (pairs_of behind) + length text
comment_sum text left pair behind n depth next f b first within is some sum =
    let now : next ≡ depth_after depth (take n left) = is ∙ ap (depth_after depth) f in
    let go : (depth_after depth (take n left) == 0) ≡ false = sym (ap (λ d. d == 0) now) ∙ neq-eqb next some in
    let step : depth_through depth (pairs_of left) ≡ n + depth_through (depth_after depth (take n left)) (pairs_of (drop n left)) = depth_on depth left n first within go in
    let same : depth_through next (pairs_of behind) ≡ depth_through (depth_after depth (take n left)) (pairs_of (drop n left)) = ap (λ d. depth_through d (pairs_of behind)) now ∙ ap (λ x. depth_through (depth_after depth (take n left)) (pairs_of x)) b in
    let long : length behind ≡ length left - n = ap length b ∙ length-drop n left in
    omega arith

pub depth_rise : (depth : ℕ) (pair : List ℕ) → depth_after depth pair ≤ depth + 1
depth_rise depth pair =
    elim (is_special 41 pair) as (λ v. cond v (depth - 1) (cond (is_special 40 pair) (depth + 1) depth) ≤ depth + 1) [
      | true ↦ omega arith
      | false ↦ elim (is_special 40 pair) as (λ v. cond v (depth + 1) depth ≤ depth + 1) [ true ↦ omega arith | false ↦ omega arith ]
    ]

-- only a `)` ends the last open comment
pub closed_by : (depth : ℕ) (pair : List ℕ) → 0 < depth → depth_after depth pair ≡ 0 → pair ≡ 41 ∷ []
closed_by depth pair h e =
    elim (is_special 41 pair) as (λ v. is_special 41 pair ≡ v → cond v (depth - 1) (cond (is_special 40 pair) (depth + 1) depth) ≡ 0 → pair ≡ 41 ∷ []) [
      | true ↦ λ s k. special_is 41 pair s
      | false ↦ λ s. elim (is_special 40 pair) as (λ v. cond v (depth + 1) depth ≡ 0 → pair ≡ 41 ∷ []) [ true ↦ λ k. absurd (omega arith) | false ↦ λ k. absurd (omega arith) ]
    ] refl e

-- what follows that `)` is text
pub after_close : (text xs left pair behind : List ℕ) (n : ℕ) → text ≡ xs ++ left → pair ≡ take n left → behind ≡ drop n left → pair ≡ 41 ∷ [] → IsUtf8 text → IsUtf8 (drop (length text - length behind) text)
after_close text xs left pair behind n e f b special u =
    let whole : left ≡ 41 ∷ behind = sym (take-append-drop n left) ∙ ap (λ x. x ++ drop n left) (sym f ∙ special) ∙ ap (λ x. 41 ∷ x) (sym b) in
    let parts : text ≡ xs ++ 41 ∷ behind = e ∙ ap (λ x. xs ++ x) whole in
    let apart : text ≡ (xs ++ 41 ∷ []) ++ behind = parts ∙ sym (append_assoc xs (41 ∷ []) behind) in
    let long : length text ≡ length (xs ++ 41 ∷ []) + length behind = ap length apart ∙ length-append (xs ++ 41 ∷ []) behind in
    let n_is : length (xs ++ 41 ∷ []) ≡ length text - length behind = omega arith in
    let rest : drop (length text - length behind) text ≡ behind = ap (drop (length text - length behind)) apart ∙ drop_at (xs ++ 41 ∷ []) behind (length text - length behind) n_is in
    subst IsUtf8 (sym rest) (split_ascii xs behind 41 (lit< tt) (subst IsUtf8 parts u)).1

pub front_more : (text xs left pair behind : List ℕ) (n : ℕ) → text ≡ xs ++ left → pair ≡ take n left → behind ≡ drop n left → text ≡ (xs ++ pair) ++ behind
front_more text xs left pair behind n e f b =
    rw (f, b) (e ∙ ap (λ x. xs ++ x) (sym (take-append-drop n left)) ∙ sym (append_assoc xs (take n left) (drop n left)))

-- the first lexeme of a text
lexeme_of : (b : ℕ) (text : List ℕ) (n : ℕ) → lexeme_more b text ≡ n → lexemes_of (b ∷ text) ≡ take (1 + n) (b ∷ text) ∷ lexemes_of (drop (1 + n) (b ∷ text))
lexeme_of b text n e =
    let one : 1 + n ≡ suc n = omega arith in
    cut-cons lexeme_more b text ∙ ap (λ k. (b ∷ take k text) ∷ lexemes_of (drop k text)) e ∙ ap (λ k. take k (b ∷ text) ∷ lexemes_of (drop k (b ∷ text))) (sym one)

pub lexeme_comment : (text behind : List ℕ) (n : ℕ) → 0 < length text → get_or text 0 0 ≡ 40 → behind ≡ drop 1 text → n ≡ comment_len behind → lexemes_of text ≡ take (1 + n) text ∷ lexemes_of (drop (1 + n) text)
lexeme_comment [] behind n h e r k = absurd (omega arith)
lexeme_comment (b ∷ text) behind n h e r k = lexeme_of b text n (ap (λ x. lexeme_more x text) e ∙ ap comment_len (sym r) ∙ sym k)

pub lexeme_quoted : (text behind : List ℕ) (n : ℕ) → 0 < length text → get_or text 0 0 ≡ 34 → behind ≡ drop 1 text → n ≡ quoted_len behind → lexemes_of text ≡ take (1 + n) text ∷ lexemes_of (drop (1 + n) text)
lexeme_quoted [] behind n h e r k = absurd (omega arith)
lexeme_quoted (b ∷ text) behind n h e r k = lexeme_of b text n (ap (λ x. lexeme_more x text) e ∙ ap quoted_len (sym r) ∙ sym k)

pub lexeme_pair : (text : List ℕ) (n : ℕ) → 0 < length text → (get_or text 0 0 ≡ 40 → ⊥) → (get_or text 0 0 ≡ 34 → ⊥) → pairs_of text ≡ take n text ∷ pairs_of (drop n text) → n ≤ length text → lexemes_of text ≡ take n text ∷ lexemes_of (drop n text)
lexeme_pair [] n h no_comment no_quote first within = absurd (omega arith)
lexeme_pair (b ∷ text) n h no_comment no_quote first within =
    let m : ℕ = pair_more b text in
    let both : (b ∷ take m text) ∷ pairs_of (drop m text) ≡ take n (b ∷ text) ∷ pairs_of (drop n (b ∷ text)) = sym (cut-cons pair_more b text) ∙ first in
    let same : b ∷ take m text ≡ take n (b ∷ text) = cc in
    let long : length (b ∷ take m text) ≡ n = ap length same ∙ length-take-le n (b ∷ text) within in
    let short : length (take m text) ≡ min m (length text) = length-take m text in
    let size : n ≡ suc (min m (length text)) = omega arith in
    let rest : drop n (b ∷ text) ≡ drop m text = ap (λ k. drop k (b ∷ text)) size ∙ drop_min m text in
    let more : lexeme_more b text ≡ m = ap (λ v. cond v (comment_len text) (cond (b == 34) (quoted_len text) (pair_more b text))) (neq b 40 no_comment) ∙ ap (λ v. cond v (quoted_len text) (pair_more b text)) (neq b 34 no_quote) in
    cut-cons lexeme_more b text ∙ ap (λ k. (b ∷ take k text) ∷ lexemes_of (drop k text)) more ∙ ap (λ x. x ∷ lexemes_of (drop m text)) same ∙ ap (λ x. take n (b ∷ text) ∷ lexemes_of x) (sym rest)
