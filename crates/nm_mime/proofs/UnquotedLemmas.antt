-- Parameters that are written, in quotes or as they are, are read again. For the proof of `unquoted_params_are_read`.
use Rattle.std.proofs.Common.{◌≡◌, ℕ, ◌+◌, Bool, true, false, cond, not, ◌&&◌, ◌||◌, ◌==◌, List, [], ◌∷◌, ◌++◌, length, map, take, drop, refl, sym, ap, ◌∙◌, arith, append_assoc, length-append}
use Rattle.std.specs.List.{after_first, before_first, list_all, list_any, position_or_len, prefix_len}
use Rattle.std.proofs.lemmas.Bool.{and_parts, or_from, or_parts}
use Rattle.std.proofs.lemmas.List.{append-nil, drop_all, drop_at, take_at}
use Rattle.std.proofs.lemmas.List.Folds.{list_any-append}
use Rattle.nm_base.specs.Bounds.{is_white_space}
use Rattle.nm_text.specs.Cuts.{is_byte}
use Rattle.nm_text.specs.WhiteSpace.{trimmed_start}
use Rattle.nm_mime.specs.Laws.{is_name_byte, is_quoted_byte}
use Rattle.nm_mime.specs.Params.{after_name, after_param, after_quoted, after_value, ends_name, ends_value, kept_param, param_from, param_in, params_in, params_of, quoted_text, value_in}
use Rattle.nm_mime.specs.WrittenParams.{WrittenParam, begins_white, is_unquoted, is_value, is_written, params_as_written, written_value}
use Rattle.nm_mime.proofs.ParamLemmas.{params-cons, params-nil}
use Rattle.nm_mime.proofs.WrittenLemmas.{first_at, kept, no_end, value_said}

-- nothing is there, or first a byte that passes
abbrev begins : (ℕ → Bool) → List ℕ → Bool
begins p [] = true
begins p (b ∷ rest) = p b

none_at : (p : ℕ → Bool) (front : List ℕ) → list_any p front ≡ false → position_or_len p front ≡ length front
none_at p [] e = refl
none_at p (x ∷ front) e =
    let both = or_parts (p x) (list_any p front) e in
    ap (λ v. cond (not v) (1 + position_or_len p front) 0) both.0 ∙ (let next : position_or_len p front ≡ length front = none_at p front both.1 in let more : 1 + position_or_len p front ≡ length (x ∷ front) = omega arith in more)

front_at : (p : ℕ → Bool) (front rest : List ℕ) → list_any p front ≡ false → begins p rest ≡ true → position_or_len p (front ++ rest) ≡ length front
front_at p front [] e passes = ap (position_or_len p) (append-nil front) ∙ none_at p front e
front_at p front (b ∷ rest) e passes = first_at p front b rest e passes

-- what comes after the first byte that passes
after_at : (p : ℕ → Bool) (front : List ℕ) (b : ℕ) (rest : List ℕ) → list_any p front ≡ false → p b ≡ true → after_first p (front ++ b ∷ rest) ≡ rest
after_at p front b rest e passes =
    let long : length (front ++ b ∷ []) ≡ length front + 1 = length-append front (b ∷ []) in
    ap (λ n. drop (n + 1) (front ++ b ∷ rest)) (first_at p front b rest e passes) ∙ ap (drop (length front + 1)) (sym (append_assoc front (b ∷ []) rest)) ∙ drop_at (front ++ b ∷ []) rest (length front + 1) long

none_after : (p : ℕ → Bool) (front : List ℕ) → list_any p front ≡ false → after_first p front ≡ []
none_after p front e = let at : position_or_len p front ≡ length front = none_at p front e in drop_all (position_or_len p front + 1) front (omega arith)

-- ---- values as they are
not_so : (b : Bool) → not b ≡ true → b ≡ false
not_so true e = absurd (cc)
not_so false e = refl

no_stop : (value : List ℕ) → list_all (λ v. not (ends_value v)) value ≡ true → (list_any ends_value value ≡ false) × (list_any (is_byte 59) value ≡ false)
no_stop [] e = (refl, refl)
no_stop (b ∷ value) e =
    let both = and_parts (not (ends_value b)) (list_all (λ v. not (ends_value v)) value) e in
    let first : ends_value b ≡ false = not_so (ends_value b) both.0 in
    let more = no_stop value both.1 in
    (or_from (ends_value b) (list_any ends_value value) first more.0, or_from (b == 59) (list_any (is_byte 59) value) (or_parts (b == 59) (is_white_space b) first).0 more.1)

value_is : (value rest : List ℕ) → is_unquoted value ≡ true → begins ends_value rest ≡ true → (value_in (trimmed_start (value ++ rest)) ≡ value) × (after_value (trimmed_start (value ++ rest)) ≡ value ++ rest)
value_is [] rest e ends = absurd (cc)
value_is (b ∷ value) rest e ends =
    let text : List ℕ = b ∷ (value ++ rest) in
    let both = and_parts (not (b == 34)) (list_all (λ v. not (ends_value v)) (b ∷ value)) e in
    let quote : (b == 34) ≡ false = not_so (b == 34) both.0 in
    let free = no_stop (b ∷ value) both.1 in
    let black : is_white_space b ≡ false = (or_parts (b == 59) (is_white_space b) (or_parts (ends_value b) (list_any ends_value value) free.0).0).1 in
    let start : trimmed_start text ≡ text = ap (λ v. drop (cond v (1 + prefix_len is_white_space (value ++ rest)) 0) text) black in
    let at : position_or_len ends_value text ≡ length (b ∷ value) = front_at ends_value (b ∷ value) rest free.0 ends in (
      ap value_in start ∙ ap (λ v. cond v (quoted_text (value ++ rest)) (before_first ends_value text)) quote ∙ ap (λ n. take n text) at ∙ take_at (b ∷ value) rest (length (b ∷ value)) refl,
      ap after_value start ∙ ap (λ v. cond v (after_quoted (value ++ rest)) text) quote,
    )

after_ends : (after : List ℕ) (more : List WrittenParam) → begins_white after ≡ true → begins ends_value (after ++ params_as_written more) ≡ true
after_ends [] [] e = refl
after_ends [] (written ∷ more) e = refl
after_ends (b ∷ after) more e = elim (b == 59) as (λ v. (v || is_white_space b) ≡ true) [ true ↦ refl | false ↦ e ]

-- what is said is the value, and only bytes that are no `;` come before the rest
abbrev IsSaid : List ℕ → List ℕ → List ℕ → Type 0
IsSaid said value rest = (value_in (trimmed_start said) ≡ value) × (front : List ℕ) × (after_value (trimmed_start said) ≡ front ++ rest) × (list_any (is_byte 59) front ≡ false)

said_by : (is_quoted : Bool) (value after : List ℕ) (more : List WrittenParam) → cond is_quoted (list_all is_quoted_byte value) (is_unquoted value && begins_white after) ≡ true → list_any (is_byte 59) after ≡ false
    → IsSaid (written_value is_quoted value ++ (after ++ params_as_written more)) value (params_as_written more)
said_by true value after more e none =
    let rest : List ℕ = after ++ params_as_written more in
    let parts : written_value true value ++ rest ≡ 34 ∷ (value ++ 34 ∷ rest) = ap (λ l. 34 ∷ l) (append_assoc value (34 ∷ []) rest) in
    let v = value_said value rest e in
    (ap (λ l. value_in (trimmed_start l)) parts ∙ v.0, after, ap (λ l. after_value (trimmed_start l)) parts ∙ v.1, none)
said_by false value after more e none =
    let both = and_parts (is_unquoted value) (begins_white after) e in
    let v = value_is value (after ++ params_as_written more) both.0 (after_ends after more both.1) in
    (v.0, value ++ after, v.1 ∙ sym (append_assoc value after (params_as_written more)), list_any-append (is_byte 59) value after ∙ or_from (list_any (is_byte 59) value) (list_any (is_byte 59) after) (no_unquoted value both.0) none)
  where
    no_unquoted : (value : List ℕ) → is_unquoted value ≡ true → list_any (is_byte 59) value ≡ false
    no_unquoted [] e = refl
    no_unquoted (b ∷ value) e = (no_stop (b ∷ value) (and_parts (not (b == 34)) (list_all (λ v. not (ends_value v)) (b ∷ value)) e).1).1

-- ---- one parameter after the other
pub read-written : (all : List WrittenParam) (front : List ℕ) → list_any (is_byte 59) front ≡ false → list_all is_written all ≡ true → params_of (front ++ params_as_written all) ≡ map (λ one. one.param) all
read-written [] front none e = ap params_of (append-nil front) ∙ ap params_in (none_after (is_byte 59) front none) ∙ params-nil
read-written (written ∷ more) front none e =
    let name : List ℕ = written.param.name in
    let value : List ℕ = written.param.value in
    let rest : List ℕ = params_as_written more in
    let said : List ℕ = written_value written.is_quoted value ++ (written.after ++ rest) in
    let text : List ℕ = (32 ∷ name) ++ 61 ∷ said in
    let both = and_parts (is_written written) (list_all is_written more) e in
    let parts = and_parts (list_all is_name_byte name) (is_value written && not (list_any (is_byte 59) written.after)) both.0 in
    let ends = and_parts (is_value written) (not (list_any (is_byte 59) written.after)) parts.1 in
    let at : position_or_len ends_name text ≡ length (32 ∷ name) = first_at ends_name (32 ∷ name) 61 said (no_end name parts.0) refl in
    let before : before_first ends_name text ≡ 32 ∷ name = ap (λ n. take n text) at ∙ take_at (32 ∷ name) (61 ∷ said) (length (32 ∷ name)) refl in
    let back : drop (position_or_len ends_name text) text ≡ 61 ∷ said = ap (λ n. drop n text) at ∙ drop_at (32 ∷ name) (61 ∷ said) (length (32 ∷ name)) refl in
    let s = said_by written.is_quoted value written.after more ends.0 (not_so (list_any (is_byte 59) written.after) ends.1) in
    let one : param_in text ≡ written.param ∷ [] = ap (λ x. param_from x (drop (position_or_len ends_name text) text)) before ∙ ap (param_from (32 ∷ name)) back ∙ ap (kept_param (32 ∷ name)) s.0 ∙ kept name value parts.0 in
    let after : after_param text ≡ after_first (is_byte 59) (s.1 ++ rest) = ap (λ x. after_first (is_byte 59) (after_name x)) back ∙ ap (after_first (is_byte 59)) s.2 in
    ap params_in (after_at (is_byte 59) front 59 text none refl) ∙ params-cons text (omega arith) ∙ ap (λ x. x ++ params_in (after_param text)) one ∙ ap (λ x. written.param ∷ params_in x) after ∙ ap (λ l. written.param ∷ l) (read-written more s.1 s.3 both.1)
