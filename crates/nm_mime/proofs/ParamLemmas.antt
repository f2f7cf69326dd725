-- Parameters: what was found with what is left to find is all.
-- For the proofs of `add_param`, `name_len` and `params`.
use Rattle.std.proofs.Common.{◌≡◌, ℕ, zero, suc, ◌+◌, ◌-◌, ◌<◌, ◌≤◌, Bool, true, false, cond, not, ◌==◌, List, [], ◌∷◌, ◌++◌, length, drop, ltb, refl, sym, ap, ◌∙◌, arith, append_assoc, length-drop, Some, None}
use Rattle.std.specs.Prelude.{position}
use Rattle.std.proofs.lemmas.List.Sums.{prefix_len-le-length}
use Rattle.std.specs.List.{after_first, position_or_len, prefix_len}
use Rattle.std.proofs.lemmas.List.{append-nil}
use Rattle.std.proofs.lemmas.Bool.{eqb-true, ltb-false}
use Rattle.nm_mime.specs.declared.param_list.Param.{Param}
use Rattle.nm_mime.specs.Params.{after_name, after_param, after_quoted, after_value, ends_name, kept_param, param_from, param_in, params_in, params_of, params_upto, value_in}
use Rattle.nm_base.specs.Bounds.{is_white_space}
use Rattle.nm_text.specs.QuotedStrings.{quoted_len}
use Rattle.nm_text.specs.WhiteSpace.{trimmed_start}
use Rattle.nm_text.specs.Cuts.{begins_with, is_byte}
use Rattle.std.proofs.lemmas.Option.{cond_some}

-- ---- the place that `position` gives
none_of : (b : Bool) (n : ℕ) → cond b (Some n) None ≡ None → b ≡ false
none_of true n e = absurd (cc)
none_of false n e = refl

-- ---- all parameters
pub after_less : (text : List ℕ) → length (after_first (is_byte 59) text) ≤ length text - 1
after_less text =
    let long : length (after_first (is_byte 59) text) ≡ length text - (position_or_len (is_byte 59) text + 1) = length-drop (position_or_len (is_byte 59) text + 1) text in
    omega arith

pub place_some : (p : ℕ → Bool) (text : List ℕ) (at : ℕ) → position p text ≡ Some at → at ≡ position_or_len p text
place_some p text at e = sym (cond_some (ltb (position_or_len p text) (length text)) (position_or_len p text) at e).1

pub place_none : (p : ℕ → Bool) (text : List ℕ) → position p text ≡ None → length text ≡ position_or_len p text
place_none p text e = let long : length text ≤ position_or_len p text = ltb-false (position_or_len p text) (length text) (none_of (ltb (position_or_len p text) (length text)) (position_or_len p text) e) in let most = prefix_len-le-length (λ x. not (p x)) text in omega arith

-- the parameters one by one: the number of them counts for nothing where it is large enough
after_short : (text : List ℕ) → length (after_name text) ≤ length text → length (after_first (is_byte 59) (after_name text)) ≤ length text - 1
after_short text h = let one = after_less (after_name text) in omega arith

value_short : (text : List ℕ) → length (after_value text) ≤ length text
value_short [] = omega arith
value_short (b ∷ more) = let one : length (after_quoted more) ≡ length more - quoted_len more = length-drop (quoted_len more) more in
    elim (b == 34) as (λ v. length (cond v (after_quoted more) (b ∷ more)) ≤ suc (length more)) [ true ↦ omega arith | false ↦ omega arith ]

name_short : (text : List ℕ) → length (after_name text) ≤ length text
name_short [] = omega arith
name_short (b ∷ more) =
    let one = value_short (trimmed_start more) in
    let two : length (trimmed_start more) ≡ length more - prefix_len is_white_space more = length-drop (prefix_len is_white_space more) more in
    elim (b == 61) as (λ v. length (cond v (after_value (trimmed_start more)) (b ∷ more)) ≤ suc (length more)) [ true ↦ omega arith | false ↦ omega arith ]

pub param_short : (text : List ℕ) → length (after_param text) ≤ length text - 1
param_short text =
    let n : ℕ = position_or_len ends_name text in
    let one = name_short (drop n text) in
    let two = after_less (after_name (drop n text)) in
    let three : length (drop n text) ≡ length text - n = length-drop n text in
    omega arith

params_same : (n m : ℕ) (text : List ℕ) → length text ≤ n → length text ≤ m → params_upto n text ≡ params_upto m text
params_same zero zero text h k = refl
params_same zero (suc m) [] h k = params_same zero m [] h (omega arith)
params_same zero (suc m) (b ∷ text) h k = absurd (omega arith)
params_same (suc n) zero [] h k = params_same n zero [] (omega arith) k
params_same (suc n) zero (b ∷ text) h k = absurd (omega arith)
params_same (suc n) (suc m) text h k =
    let less = param_short text in
    ap (λ x. param_in text ++ x) (params_same n m (after_param text) (omega arith) (omega arith))

pub params-nil : params_in [] ≡ []
unfolding params_in
params-nil = refl

pub params-cons : (text : List ℕ) → 0 < length text → params_in text ≡ param_in text ++ params_in (after_param text)
unfolding params_in
params-cons [] h = absurd (omega arith)
params-cons (b ∷ text) h =
    let less = param_short (b ∷ text) in
    ap (λ x. param_in (b ∷ text) ++ x) (params_same (length text) (length (after_param (b ∷ text))) (after_param (b ∷ text)) (omega arith) (omega arith))

pub params_turn : (before found : List Param) (left behind : List ℕ) → 0 < length left → found ≡ before ++ param_in left → behind ≡ after_param left → found ++ params_in behind ≡ before ++ params_in left
params_turn before found left behind h f b =
    ap (λ x. x ++ params_in behind) f ∙ append_assoc before (param_in left) (params_in behind) ∙ ap (λ x. before ++ (param_in left ++ params_in x)) b ∙ ap (λ x. before ++ x) (sym (params-cons left h))

pub params_end : (found : List Param) (left : List ℕ) → (length left == 0) ≡ true → found ≡ found ++ params_in left
params_end found [] e = sym (ap (λ x. found ++ x) params-nil ∙ append-nil found)
params_end found (b ∷ left) e = absurd (let no : length (b ∷ left) ≡ 0 = eqb-true (length (b ∷ left)) 0 e in omega arith)

-- a text begun with the equals sign is that and more
pub named_from : (name text : List ℕ) → begins_with 61 text ≡ true → param_from name text ≡ kept_param name (value_in (trimmed_start (drop 1 text)))
named_from name [] e = absurd (cc)
named_from name (b ∷ more) e = ap (λ v. cond v (kept_param name (value_in (trimmed_start more))) []) e

pub unnamed_from : (name text : List ℕ) → begins_with 61 text ≡ false → param_from name text ≡ []
unnamed_from name [] e = refl
unnamed_from name (b ∷ more) e = ap (λ v. cond v (kept_param name (value_in (trimmed_start more))) []) e

pub named_after : (text : List ℕ) → begins_with 61 text ≡ true → after_name text ≡ after_value (trimmed_start (drop 1 text))
named_after [] e = absurd (cc)
named_after (b ∷ more) e = ap (λ v. cond v (after_value (trimmed_start more)) (b ∷ more)) e

pub unnamed_after : (text : List ℕ) → begins_with 61 text ≡ false → after_name text ≡ text
unnamed_after [] e = refl
unnamed_after (b ∷ more) e = ap (λ v. cond v (after_value (trimmed_start more)) (b ∷ more)) e

pub drop_less : (n : ℕ) (text : List ℕ) → length (drop n text) ≤ length text
drop_less n text = let long : length (drop n text) ≡ length text - n = length-drop n text in omega arith

pub some_left : (left : List ℕ) → (length left == 0) ≡ false → 0 < length left
some_left [] e = absurd (cc)
some_left (b ∷ left) e = omega arith

pub params_begin : (found : List Param) (left text : List ℕ) → found ≡ [] → left ≡ after_first (is_byte 59) text → found ++ params_in left ≡ params_of text
params_begin found left text f l = ap (λ x. x ++ params_in left) f ∙ ap params_in l
