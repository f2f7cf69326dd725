-- The first lexeme of a text, and the lexemes before a special.
-- For the proofs of `mailbox_lexeme_len` and `stop_len`.
use Rattle.std.proofs.Common.{◌≡◌, ℕ, zero, suc, ◌+◌, ◌-◌, ◌<◌, ◌≤◌, Bool, true, false, cond, not, ◌||◌, ◌==◌, List, [], ◌∷◌, ◌++◌, length, take, drop, get_or, refl, sym, ap, subst, ◌∙◌, arith, min, length-take, length-append, append_assoc}
use Rattle.std.specs.List.{before_first, concat, list_any, position_or_len}
use Rattle.std.proofs.lemmas.Bool.{eqb-true, or_parts}
use Rattle.std.proofs.lemmas.List.{append-nil, drop_at, drop_min, length-take-le, take_at, take_min, take-append-drop}
use Rattle.std.proofs.lemmas.List.Folds.{concat-append, list_any-append}
use Rattle.nm_text.specs.QuotedStrings.{pair_more, pairs_of, quoted_len}
use Rattle.nm_header.specs.Mailboxes.{StopsAt, begins_with_any, lexemes_before, mailbox_lexeme_more, mailbox_lexemes_of}
use Rattle.nm_text.specs.CutLaws.{cut-cons, cut-nil}
use Rattle.nm_header.proofs.DepthLemmas.{neq}
use Rattle.nm_text.specs.Cuts.{is_byte}

first_of : (b : ℕ) (text : List ℕ) (n : ℕ) → mailbox_lexeme_more b text ≡ n → mailbox_lexemes_of (b ∷ text) ≡ take (1 + n) (b ∷ text) ∷ mailbox_lexemes_of (drop (1 + n) (b ∷ text))
first_of b text n e =
    let one : 1 + n ≡ suc n = omega arith in
    cut-cons mailbox_lexeme_more b text ∙ ap (λ k. (b ∷ take k text) ∷ mailbox_lexemes_of (drop k text)) e ∙ ap (λ k. take k (b ∷ text) ∷ mailbox_lexemes_of (drop k (b ∷ text))) (sym one)

pub first_quoted : (text behind : List ℕ) (n : ℕ) → 0 < length text → get_or text 0 0 ≡ 34 → behind ≡ drop 1 text → n ≡ quoted_len behind → mailbox_lexemes_of text ≡ take (1 + n) text ∷ mailbox_lexemes_of (drop (1 + n) text)
first_quoted [] behind n h e r k = absurd (omega arith)
first_quoted (b ∷ text) behind n h e r k = first_of b text n (ap (λ x. mailbox_lexeme_more x text) e ∙ ap quoted_len (sym r) ∙ sym k)

pub first_angle : (text behind : List ℕ) (n : ℕ) → 0 < length text → get_or text 0 0 ≡ 60 → behind ≡ drop 1 text → n ≡ min (position_or_len (is_byte 62) behind + 1) (length behind) → mailbox_lexemes_of text ≡ take (1 + n) text ∷ mailbox_lexemes_of (drop (1 + n) text)
first_angle [] behind n h e r k = absurd (omega arith)
first_angle (b ∷ text) behind n h e r k =
    let m : ℕ = position_or_len (is_byte 62) text + 1 in
    let size : n ≡ min m (length text) = k ∙ ap (λ x. min (position_or_len (is_byte 62) x + 1) (length x)) r in
    let one : 1 + n ≡ suc n = omega arith in
    cut-cons mailbox_lexeme_more b text ∙ ap (λ x. (b ∷ take (mailbox_lexeme_more x text) text) ∷ mailbox_lexemes_of (drop (mailbox_lexeme_more x text) text)) e ∙ ap (λ x. (b ∷ x) ∷ mailbox_lexemes_of (drop m text)) (sym (take_min m text)) ∙ ap (λ x. (b ∷ take (min m (length text)) text) ∷ mailbox_lexemes_of x) (sym (drop_min m text)) ∙ ap (λ k. (b ∷ take k text) ∷ mailbox_lexemes_of (drop k text)) (sym size) ∙ ap (λ k. take k (b ∷ text) ∷ mailbox_lexemes_of (drop k (b ∷ text))) (sym one)

pub first_pair : (text : List ℕ) (n : ℕ) → 0 < length text → (get_or text 0 0 ≡ 34 → ⊥) → (get_or text 0 0 ≡ 60 → ⊥) → pairs_of text ≡ take n text ∷ pairs_of (drop n text) → n ≤ length text → mailbox_lexemes_of text ≡ take n text ∷ mailbox_lexemes_of (drop n text)
first_pair [] n h no_quote no_angle first within = absurd (omega arith)
first_pair (b ∷ text) n h no_quote no_angle first within =
    let m : ℕ = pair_more b text in
    let both : (b ∷ take m text) ∷ pairs_of (drop m text) ≡ take n (b ∷ text) ∷ pairs_of (drop n (b ∷ text)) = sym (cut-cons pair_more b text) ∙ first in
    let same : b ∷ take m text ≡ take n (b ∷ text) = cc in
    let long : length (b ∷ take m text) ≡ n = ap length same ∙ length-take-le n (b ∷ text) within in
    let short : length (take m text) ≡ min m (length text) = length-take m text in
    let size : n ≡ suc (min m (length text)) = omega arith in
    let rest : drop n (b ∷ text) ≡ drop m text = ap (λ k. drop k (b ∷ text)) size ∙ drop_min m text in
    let more : mailbox_lexeme_more b text ≡ m = ap (λ v. cond v (quoted_len text) (cond (b == 60) (position_or_len (is_byte 62) text + 1) (pair_more b text))) (neq b 34 no_quote) ∙ ap (λ v. cond v (position_or_len (is_byte 62) text + 1) (pair_more b text)) (neq b 60 no_angle) in
    cut-cons mailbox_lexeme_more b text ∙ ap (λ k. (b ∷ take k text) ∷ mailbox_lexemes_of (drop k text)) more ∙ ap (λ x. x ∷ mailbox_lexemes_of (drop m text)) same ∙ ap (λ x. take n (b ∷ text) ∷ mailbox_lexemes_of x) (sym rest)

-- ---- the lexemes before a special
pub before_first-no : (p : List ℕ → Bool) (x : List ℕ) (xs : List (List ℕ)) → p x ≡ false → before_first p (x ∷ xs) ≡ x ∷ before_first p xs
before_first-no p x xs e =
    let one : 1 + position_or_len p xs ≡ suc (position_or_len p xs) = omega arith in
    ap (λ v. take (cond (not v) (1 + position_or_len p xs) 0) (x ∷ xs)) e ∙ ap (λ k. take k (x ∷ xs)) one

-- items of which none passes, up to one that does or to the end
pub before_is : (p : List ℕ → Bool) (before rest : List (List ℕ)) → list_any p before ≡ false → position_or_len p rest ≡ 0 → before_first p (before ++ rest) ≡ before
before_is p [] rest none stop = ap (λ k. take k rest) stop
before_is p (x ∷ before) rest none stop =
    before_first-no p x (before ++ rest) (or_parts (p x) (list_any p before) none).0 ∙ ap (λ l. x ∷ l) (before_is p before rest (or_parts (p x) (list_any p before) none).1 stop)

-- what is passed so far
pub record GoneTo (specials text left : List ℕ) (before : List (List ℕ)) : Type 0 where
  pub lexemes : mailbox_lexemes_of text ≡ before ++ mailbox_lexemes_of left
  pub bytes : concat before ++ left ≡ text
  pub none : list_any (begins_with_any specials) before ≡ false

pub gone_begin : (specials text : List ℕ) → GoneTo specials text text []
gone_begin specials text = record { lexemes = refl; bytes = refl; none = refl }

begins_front : (specials left : List ℕ) (n : ℕ) → 0 < n → begins_with_any specials (take n left) ≡ begins_with_any specials left
begins_front specials left zero h = absurd (omega arith)
begins_front specials [] (suc n) h = refl
begins_front specials (b ∷ left) (suc n) h = refl

pub gone_turn : (specials text left behind : List ℕ) (before : List (List ℕ)) (n : ℕ) → GoneTo specials text left before → mailbox_lexemes_of left ≡ take n left ∷ mailbox_lexemes_of (drop n left) → 0 < n → begins_with_any specials left ≡ false → behind ≡ drop n left → GoneTo specials text behind (before ++ take n left ∷ [])
gone_turn specials text left behind before n g first some plain b =
    let lexeme : List ℕ = take n left in
    record {
      lexemes = g.lexemes ∙ ap (λ x. before ++ x) first ∙ sym (append_assoc before (lexeme ∷ []) (mailbox_lexemes_of (drop n left))) ∙ ap (λ x. (before ++ lexeme ∷ []) ++ mailbox_lexemes_of x) (sym b);
      bytes = ap (λ x. x ++ behind) (concat-append before (lexeme ∷ []) ∙ ap (λ x. concat before ++ x) (append-nil lexeme)) ∙ append_assoc (concat before) lexeme behind ∙ ap (λ x. concat before ++ (lexeme ++ x)) b ∙ ap (λ x. concat before ++ x) (take-append-drop n left) ∙ g.bytes;
      none = list_any-append (begins_with_any specials) before (lexeme ∷ []) ∙ ap (λ v. v || (begins_with_any specials lexeme || false)) g.none ∙ ap (λ v. v || false) (begins_front specials left n some ∙ plain);
    }

-- where it stops, at a special or at the end
gone_stop : (specials text left : List ℕ) (before : List (List ℕ)) → GoneTo specials text left before → length left ≤ length text → position_or_len (begins_with_any specials) (mailbox_lexemes_of left) ≡ 0 → (0 < length left → begins_with_any specials left ≡ true) → StopsAt specials text (length text - length left)
gone_stop specials text left before g within stops special =
    let is : lexemes_before specials text ≡ before = ap (before_first (begins_with_any specials)) g.lexemes ∙ before_is (begins_with_any specials) before (mailbox_lexemes_of left) g.none stops in
    let long : length text ≡ length (concat before) + length left = ap length (sym g.bytes) ∙ length-append (concat before) left in
    let n : ℕ = length text - length left in
    let size : length (concat before) ≡ n = omega arith in
    let front : take n text ≡ concat before = ap (take n) (sym g.bytes) ∙ take_at (concat before) left n size in
    let back : drop n text ≡ left = ap (drop n) (sym g.bytes) ∙ drop_at (concat before) left n size in
    record {
      bytes = ap concat is ∙ sym front;
      lexemes = g.lexemes ∙ ap (λ x. x ++ mailbox_lexemes_of left) (sym is) ∙ ap (λ x. lexemes_before specials text ++ mailbox_lexemes_of x) (sym back);
      none = ap (list_any (begins_with_any specials)) is ∙ g.none;
      within = omega arith;
      stop = λ h. ap (begins_with_any specials) back ∙ special (omega arith);
    }

pub stop_at : (specials text left : List ℕ) (before : List (List ℕ)) → GoneTo specials text left before → length left ≤ length text → begins_with_any specials left ≡ true → StopsAt specials text (length text - length left)
stop_at specials text [] before g within special = absurd (cc)
stop_at specials text (b ∷ left) before g within special =
    gone_stop specials text (b ∷ left) before g within (ap (position_or_len (begins_with_any specials)) (cut-cons mailbox_lexeme_more b left) ∙ ap (λ v. cond (not v) (1 + position_or_len (begins_with_any specials) (mailbox_lexemes_of (drop (mailbox_lexeme_more b left) left))) 0) special) (λ h. special)

pub stop_end : (specials text left : List ℕ) (before : List (List ℕ)) → GoneTo specials text left before → length left ≤ length text → (length left == 0) ≡ true → StopsAt specials text (length text)
stop_end specials text [] before g within none =
    subst (StopsAt specials text) (let e : length text - 0 ≡ length text = omega arith in e) (gone_stop specials text [] before g within (ap (position_or_len (begins_with_any specials)) (cut-nil mailbox_lexeme_more)) (λ h. absurd (omega arith)))
stop_end specials text (b ∷ left) before g within none = absurd (let no : length (b ∷ left) ≡ 0 = eqb-true (length (b ∷ left)) 0 none in omega arith)
