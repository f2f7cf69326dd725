-- Parameters that are written are read again. For the proofs of `unquoted_params_are_read` and `written_params_are_read`.
use Rattle.std.proofs.Common.{◌≡◌, ℕ, ◌+◌, ◌-◌, ◌<◌, Bool, true, false, cond, not, ◌||◌, ◌==◌, List, [], ◌∷◌, ◌++◌, length, map, take, drop, get_or, refl, sym, ap, ◌∙◌, arith, append_assoc, length-append}
use Rattle.std.specs.Char.{to_ascii_lowercase}
use Rattle.std.specs.List.{after_first, before_first, list_all, list_any, position_or_len, prefix_len, suffix_len}
use Rattle.std.proofs.lemmas.Bool.{and_parts, eqb-true, or_parts}
use Rattle.std.proofs.lemmas.List.{drop_at, take_all, take_at}
use Rattle.std.proofs.lemmas.List.Folds.{list_all_at}
use Rattle.std.proofs.lemmas.List.Sums.{suffix_len_is}
use Rattle.nm_base.specs.Bounds.{is_white_space}
use Rattle.nm_text.specs.QuotedStrings.{quoted_len, unquoted}
use Rattle.nm_text.specs.WhiteSpace.{trimmed, trimmed_end}
use Rattle.nm_mime.specs.Laws.{is_name_byte, is_quoted_byte, is_writable, written_params}
use Rattle.nm_mime.specs.Params.{after_name, after_param, after_quoted, ends_name, kept_param, param_from, param_in, params_in, params_of, quoted_text}
use Rattle.nm_mime.specs.declared.param_list.Param.{Param}
use Rattle.nm_mime.proofs.ParamLemmas.{params-cons, params-nil}
use Rattle.nm_mime.proofs.QuotedLemmas.{quoted-byte, quoted-close, unquoted-byte, unquoted-close, unquoted-nil}
use Rattle.nm_text.specs.Cuts.{is_byte}

-- the first item that passes comes after those that don't
pub first_at : (p : ℕ → Bool) (front : List ℕ) (b : ℕ) (rest : List ℕ) → list_any p front ≡ false → p b ≡ true → position_or_len p (front ++ b ∷ rest) ≡ length front
first_at p [] b rest e passes = ap (λ v. cond (not v) (1 + position_or_len p rest) 0) passes
first_at p (x ∷ front) b rest e passes =
    let both = or_parts (p x) (list_any p front) e in
    let next : position_or_len p (front ++ b ∷ rest) ≡ length front = first_at p front b rest both.1 passes in
    ap (λ v. cond (not v) (1 + position_or_len p (front ++ b ∷ rest)) 0) both.0 ∙ (let more : 1 + position_or_len p (front ++ b ∷ rest) ≡ length (x ∷ front) = omega arith in more)

-- ---- names
four : (a b c d : Bool) → not (a || b || c || not d) ≡ true → (a ≡ false) × (b ≡ false) × (c ≡ false) × (d ≡ true)
four true b c d e = absurd (cc)
four false true c d e = absurd (cc)
four false false true d e = absurd (cc)
four false false false false e = absurd (cc)
four false false false true e = (refl, refl, refl, refl)

name_byte : (b : ℕ) → is_name_byte b ≡ true → (is_white_space b ≡ false) × (ends_name b ≡ false) × (is_byte 42 b ≡ false) × ((to_ascii_lowercase b == b) ≡ true)
name_byte b e = four (is_white_space b) (ends_name b) (is_byte 42 b) (to_ascii_lowercase b == b) e

pub no_end : (name : List ℕ) → list_all is_name_byte name ≡ true → list_any ends_name name ≡ false
no_end [] e = refl
no_end (b ∷ name) e =
    let both = and_parts (is_name_byte b) (list_all is_name_byte name) e in
    let first = name_byte b both.0 in
    ap (λ v. v || list_any ends_name name) first.1 ∙ no_end name both.1

no_star : (name : List ℕ) → list_all is_name_byte name ≡ true → list_any (is_byte 42) name ≡ false
no_star [] e = refl
no_star (b ∷ name) e =
    let both = and_parts (is_name_byte b) (list_all is_name_byte name) e in
    let first = name_byte b both.0 in
    ap (λ v. v || list_any (is_byte 42) name) first.2 ∙ no_star name both.1

lower_same : (name : List ℕ) → list_all is_name_byte name ≡ true → map to_ascii_lowercase name ≡ name
lower_same [] e = refl
lower_same (b ∷ name) e =
    let both = and_parts (is_name_byte b) (list_all is_name_byte name) e in
    let first = name_byte b both.0 in
    ap (λ c. c ∷ map to_ascii_lowercase name) (eqb-true (to_ascii_lowercase b) b first.3) ∙ ap (λ l. b ∷ l) (lower_same name both.1)

no_space_front : (name : List ℕ) → list_all is_name_byte name ≡ true → prefix_len is_white_space name ≡ 0
no_space_front [] e = refl
no_space_front (b ∷ name) e =
    let both = and_parts (is_name_byte b) (list_all is_name_byte name) e in
    let first = name_byte b both.0 in
    ap (λ v. cond v (1 + prefix_len is_white_space name) 0) first.0

white_in_no_name : (b : ℕ) → is_white_space b ≡ true → is_name_byte b ≡ false
white_in_no_name b e = ap (λ v. not (v || ends_name b || is_byte 42 b || not (to_ascii_lowercase b == b))) e

trimmed_name : (name : List ℕ) → list_all is_name_byte name ≡ true → trimmed_end name ≡ name
trimmed_name name e =
    let last : ℕ = get_or name (length name - 1) 0 in
    let none : 0 < length name → is_white_space last ≡ false = λ h. elim (is_white_space last) as (λ v. is_white_space last ≡ v → v ≡ false) [
      | true ↦ λ white. absurd (let no : list_all is_name_byte name ≡ false = list_all_at is_name_byte name (length name - 1) 0 (omega arith) (white_in_no_name last white) in let never : true ≡ false = sym e ∙ no in cc)
      | false ↦ λ black. refl
    ] refl in
    let suffix : suffix_len is_white_space name ≡ length name - length name = suffix_len_is is_white_space name (length name) 0 (omega arith) (λ k h g. absurd (omega arith)) none in
    let kept : length name - suffix_len is_white_space name ≡ length name = omega arith in
    ap (λ n. take n name) kept ∙ take_all (length name) name (omega arith)

blank_trimmed : (name : List ℕ) → list_all is_name_byte name ≡ true → trimmed (32 ∷ name) ≡ name
blank_trimmed name e = ap (λ n. trimmed_end (drop (1 + n) (32 ∷ name))) (no_space_front name e) ∙ trimmed_name name e

abbrev made : List ℕ → List ℕ → Param
made name value = record { name = name; value = value }

pub kept : (name value : List ℕ) → list_all is_name_byte name ≡ true → kept_param (32 ∷ name) value ≡ made name value ∷ []
kept name value e =
    ap (λ v. cond v [] (made (map to_ascii_lowercase (trimmed (32 ∷ name))) value ∷ [])) (no_star name e) ∙ ap (λ n. made n value ∷ []) (ap (map to_ascii_lowercase) (blank_trimmed name e) ∙ lower_same name e)

-- ---- values
two : (a b : Bool) → not (a || b) ≡ true → (a ≡ false) × (b ≡ false)
two true b e = absurd (cc)
two false true e = absurd (cc)
two false false e = (refl, refl)

-- how far the value's string goes, and what it says
value_len : (value rest : List ℕ) → list_all is_quoted_byte value ≡ true → quoted_len (value ++ 34 ∷ rest) ≡ length value + 1
value_len [] rest e = quoted-close rest
value_len (b ∷ value) rest e =
    let both = and_parts (is_quoted_byte b) (list_all is_quoted_byte value) e in
    let no = two (b == 34) (b == 92) both.0 in
    quoted-byte b (value ++ 34 ∷ rest) no.0 no.1 ∙ (let next : quoted_len (value ++ 34 ∷ rest) ≡ length value + 1 = value_len value rest both.1 in let sum : 1 + quoted_len (value ++ 34 ∷ rest) ≡ length (b ∷ value) + 1 = omega arith in sum)

unquoted_value : (value : List ℕ) → list_all is_quoted_byte value ≡ true → unquoted (value ++ 34 ∷ []) ≡ value
unquoted_value [] e = unquoted-close [] ∙ unquoted-nil
unquoted_value (b ∷ value) e =
    let both = and_parts (is_quoted_byte b) (list_all is_quoted_byte value) e in
    let no = two (b == 34) (b == 92) both.0 in
    unquoted-byte b (value ++ 34 ∷ []) no.0 no.1 ∙ ap (λ l. b ∷ l) (unquoted_value value both.1)

pub value_said : (value rest : List ℕ) → list_all is_quoted_byte value ≡ true → (quoted_text (value ++ 34 ∷ rest) ≡ value) × (after_quoted (value ++ 34 ∷ rest) ≡ rest)
value_said value rest e =
    let n : ℕ = quoted_len (value ++ 34 ∷ rest) in
    let long : length (value ++ 34 ∷ []) ≡ length value + 1 = length-append value (34 ∷ []) in
    let end : length (value ++ 34 ∷ []) ≡ n = long ∙ sym (value_len value rest e) in
    let parts : value ++ 34 ∷ rest ≡ (value ++ 34 ∷ []) ++ rest = sym (append_assoc value (34 ∷ []) rest) in (
      ap unquoted (ap (take n) parts ∙ take_at (value ++ 34 ∷ []) rest n end) ∙ unquoted_value value e,
      ap (drop n) parts ∙ drop_at (value ++ 34 ∷ []) rest n end,
    )

-- ---- one parameter after the other
pub params-written : (params : List Param) → list_all is_writable params ≡ true → params_of (written_params params) ≡ params
params-written [] e = params-nil
params-written (param ∷ params) e =
    let name : List ℕ = param.name in
    let value : List ℕ = param.value in
    let rest : List ℕ = written_params params in
    let said : List ℕ = 34 ∷ (value ++ 34 ∷ rest) in
    let text : List ℕ = (32 ∷ name) ++ 61 ∷ said in
    let both = and_parts (is_writable param) (list_all is_writable params) e in
    let parts = and_parts (list_all is_name_byte name) (list_all is_quoted_byte value) both.0 in
    let at : position_or_len ends_name text ≡ length (32 ∷ name) = first_at ends_name (32 ∷ name) 61 said (no_end name parts.0) refl in
    let front : before_first ends_name text ≡ 32 ∷ name = ap (λ n. take n text) at ∙ take_at (32 ∷ name) (61 ∷ said) (length (32 ∷ name)) refl in
    let back : drop (position_or_len ends_name text) text ≡ 61 ∷ said = ap (λ n. drop n text) at ∙ drop_at (32 ∷ name) (61 ∷ said) (length (32 ∷ name)) refl in
    let v = value_said value rest parts.1 in
    let one : param_in text ≡ param ∷ [] = ap (λ x. param_from x (drop (position_or_len ends_name text) text)) front ∙ ap (param_from (32 ∷ name)) back ∙ ap (kept_param (32 ∷ name)) v.0 ∙ kept name value parts.0 in
    let more : after_param text ≡ after_first (is_byte 59) rest = ap (λ x. after_first (is_byte 59) (after_name x)) back ∙ ap (after_first (is_byte 59)) v.1 in
    params-cons text (omega arith) ∙ ap (λ x. x ++ params_in (after_param text)) one ∙ ap (λ x. param ∷ params_in x) more ∙ ap (λ l. param ∷ l) (params-written params both.1)
