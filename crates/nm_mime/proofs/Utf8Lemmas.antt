-- The pieces of a text are text: it is cut at ASCII signs, and only ASCII signs are taken out or changed.
-- For the proofs of `add_named`, `add_param`, `named_value` and others.
use Rattle.std.proofs.Common.{◌≡◌, ℕ, zero, suc, ◌+◌, ◌-◌, ◌<◌, ◌≤◌, Bool, true, false, cond, not, ◌==◌, List, [], ◌∷◌, ◌++◌, length, take, drop, get_or, reverse, ltb, refl, sym, ap, subst, ◌∙◌, arith, append_assoc}
use Rattle.std.specs.Prelude.{IsUtf8}
use Rattle.std.specs.List.{after_first, before_first, position_or_len, prefix_len, suffix_len}
use Rattle.std.proofs.lemmas.Bool.{eqb-true, ltb-false, ltb-true, not-false}
use Rattle.std.proofs.lemmas.Bool.Decides.{nat_tests}
use Rattle.std.proofs.lemmas.List.{drop_all, get_or-reverse, length-reverse, take_all}
use Rattle.std.proofs.lemmas.List.Sums.{prefix_len_passes, prefix_len_stops, suffix_len-le-length}
use Rattle.std.proofs.lemmas.Str.{IsCharBoundary-after_ascii, IsCharBoundary-before_ascii, IsUtf8-append, IsUtf8-drop, IsUtf8-from_ascii, IsUtf8-nil, IsUtf8-take}
use Rattle.std.proofs.lemmas.Str.Ascii.{IsAscii-cons, IsAscii-nil}
use Rattle.nm_base.specs.Bounds.{is_white_space}
use Rattle.nm_text.specs.QuotedStrings.{quoted_len}
use Rattle.nm_text.specs.WhiteSpace.{trimmed, trimmed_end, trimmed_start}
use Rattle.nm_mime.specs.Params.{after_name, after_param, after_quoted, after_value, ends_name, ends_value}
use Rattle.nm_mime.proofs.QuotedLemmas.{quoted-byte, quoted-close, quoted-last, quoted-nil, quoted-pair}
use Rattle.nm_text.specs.Cuts.{begins_with, is_byte}
use Rattle.nm_text.specs.Utf8Laws.{split_ascii}

-- ---- cut at the first ASCII sign
module _ (p : ℕ → Bool) (ascii : (b : ℕ) → p b ≡ true → b < 128) where
  sign_small : (text : List ℕ) → position_or_len p text < length text → get_or text (position_or_len p text) 0 < 128
  sign_small text h = ascii (get_or text (position_or_len p text) 0) (not-false (p (get_or text (position_or_len p text) 0)) (prefix_len_stops (λ b. not (p b)) text 0 h))

  pub before_utf8 : (text : List ℕ) → IsUtf8 text → IsUtf8 (before_first p text)
  before_utf8 text u =
      let n : ℕ = position_or_len p text in
      elim (ltb n (length text)) as (λ v. ltb n (length text) ≡ v → IsUtf8 (take n text)) [
        | true ↦ λ h. let inside = ltb-true n (length text) h in IsUtf8-take text n u (IsCharBoundary-before_ascii text n inside (sign_small text inside))
        | false ↦ λ h. subst IsUtf8 (sym (take_all n text (ltb-false n (length text) h))) u
      ] refl

  pub from_utf8 : (text : List ℕ) → IsUtf8 text → IsUtf8 (drop (position_or_len p text) text)
  from_utf8 text u =
      let n : ℕ = position_or_len p text in
      elim (ltb n (length text)) as (λ v. ltb n (length text) ≡ v → IsUtf8 (drop n text)) [
        | true ↦ λ h. let inside = ltb-true n (length text) h in IsUtf8-drop text n u (IsCharBoundary-before_ascii text n inside (sign_small text inside))
        | false ↦ λ h. subst IsUtf8 (sym (drop_all n text (ltb-false n (length text) h))) IsUtf8-nil
      ] refl

  pub after_utf8 : (text : List ℕ) → IsUtf8 text → IsUtf8 (after_first p text)
  after_utf8 text u =
      let n : ℕ = position_or_len p text in
      elim (ltb n (length text)) as (λ v. ltb n (length text) ≡ v → IsUtf8 (drop (n + 1) text)) [
        | true ↦ λ h. let inside = ltb-true n (length text) h in IsUtf8-drop text (n + 1) u (IsCharBoundary-after_ascii text n u inside (sign_small text inside))
        | false ↦ λ h. let past = ltb-false n (length text) h in subst IsUtf8 (sym (drop_all (n + 1) text (omega arith))) IsUtf8-nil
      ] refl

name_end_small : (b : ℕ) → ends_name b ≡ true → b < 128
name_end_small b e = grind (arith, nat_tests)

semicolon_small : (b : ℕ) → is_byte 59 b ≡ true → b < 128
semicolon_small b e = let same : b ≡ 59 = eqb-true b 59 e in omega arith

space_small : (b : ℕ) → is_white_space b ≡ true → b < 128
space_small b e = grind (arith, nat_tests)

value_end_small : (b : ℕ) → ends_value b ≡ true → b < 128
value_end_small b e = grind (arith, nat_tests)

pub name_utf8 : (text : List ℕ) → IsUtf8 text → IsUtf8 (before_first ends_name text)
name_utf8 text u = before_utf8 ends_name name_end_small text u

pub rest_utf8 : (text : List ℕ) → IsUtf8 text → IsUtf8 (drop (position_or_len ends_name text) text)
rest_utf8 text u = from_utf8 ends_name name_end_small text u

pub semicolon_utf8 : (text : List ℕ) → IsUtf8 text → IsUtf8 (after_first (is_byte 59) text)
semicolon_utf8 text u = after_utf8 (is_byte 59) semicolon_small text u

-- ---- white space taken off
pub tail_utf8 : (b : ℕ) (more : List ℕ) → b < 128 → IsUtf8 (b ∷ more) → IsUtf8 more
tail_utf8 b more small u = (split_ascii [] more b small u).1

pub space_utf8 : (text : List ℕ) → IsUtf8 text → IsUtf8 (trimmed_start text)
space_utf8 [] u = u
space_utf8 (b ∷ more) u =
    let n : ℕ = prefix_len is_white_space more in
    let one : 1 + n ≡ suc n = omega arith in
    elim (is_white_space b) as (λ v. is_white_space b ≡ v → IsUtf8 (drop (cond v (1 + n) 0) (b ∷ more))) [
      | true ↦ λ h. subst (λ k. IsUtf8 (drop k (b ∷ more))) (sym one) (space_utf8 more (tail_utf8 b more (space_small b h) u))
      | false ↦ λ h. u
    ] refl

end_utf8 : (text : List ℕ) → IsUtf8 text → IsUtf8 (trimmed_end text)
end_utf8 text u =
    let s : ℕ = suffix_len is_white_space text in
    let k : ℕ = length text - s in
    let most = suffix_len-le-length is_white_space text in
    elim (ltb 0 s) as (λ v. ltb 0 s ≡ v → IsUtf8 (take k text)) [
      | true ↦ λ h.
          let some = ltb-true 0 s h in
          let long : length (reverse text) ≡ length text = length-reverse text in
          let back : get_or (reverse text) (s - 1) 0 ≡ get_or text (length text - 1 - (s - 1)) 0 = get_or-reverse text (s - 1) 0 (omega arith) in
          let at : length text - 1 - (s - 1) ≡ k = omega arith in
          let white : is_white_space (get_or text k 0) ≡ true = ap is_white_space (sym (back ∙ ap (λ i. get_or text i 0) at)) ∙ prefix_len_passes is_white_space (reverse text) (s - 1) 0 (omega arith) in
          IsUtf8-take text k u (IsCharBoundary-before_ascii text k (omega arith) (space_small (get_or text k 0) white))
      | false ↦ λ h. let none = ltb-false 0 s h in subst IsUtf8 (sym (take_all k text (omega arith))) u
    ] refl

pub trimmed_utf8 : (text : List ℕ) → IsUtf8 text → IsUtf8 (trimmed text)
trimmed_utf8 text u = end_utf8 (trimmed_start text) (space_utf8 text u)

-- ---- quoted strings
one_utf8 : (b : ℕ) → b < 128 → IsUtf8 (b ∷ [])
one_utf8 b small = IsUtf8-from_ascii (b ∷ []) (IsAscii-cons b [] small IsAscii-nil)

abbrev IsCutText : ℕ → Type 0
IsCutText n = (front text : List ℕ) → length text ≤ n → IsUtf8 (front ++ text) → IsUtf8 (front ++ take (quoted_len text) text) × IsUtf8 (drop (quoted_len text) text)

pair_cut : (n : ℕ) → IsCutText n → (front more : List ℕ) (b : ℕ) → length (b ∷ more) ≤ suc n → b ≡ 92 → IsUtf8 (front ++ b ∷ more) → IsUtf8 (front ++ take (quoted_len (b ∷ more)) (b ∷ more)) × IsUtf8 (drop (quoted_len (b ∷ more)) (b ∷ more))
pair_cut n shorter front [] b h sign u =
    let k : quoted_len (b ∷ []) ≡ 1 = ap (λ x. quoted_len (x ∷ [])) sign ∙ quoted-last in
    subst (λ j. IsUtf8 (front ++ take j (b ∷ [])) × IsUtf8 (drop j (b ∷ []))) (sym k) (u, IsUtf8-nil)
pair_cut n shorter front (c ∷ more) b h sign u =
    let two : 2 + quoted_len more ≡ suc (suc (quoted_len more)) = omega arith in
    let k : quoted_len (b ∷ c ∷ more) ≡ suc (suc (quoted_len more)) = ap (λ x. quoted_len (x ∷ c ∷ more)) sign ∙ quoted-pair c more ∙ two in
    let rest = shorter (front ++ b ∷ c ∷ []) more (omega arith) (subst IsUtf8 (sym (append_assoc front (b ∷ c ∷ []) more)) u) in
    subst (λ j. IsUtf8 (front ++ take j (b ∷ c ∷ more)) × IsUtf8 (drop j (b ∷ c ∷ more))) (sym k) (subst IsUtf8 (append_assoc front (b ∷ c ∷ []) (take (quoted_len more) more)) rest.0, rest.1)

quoted_cut : (n : ℕ) (front text : List ℕ) → length text ≤ n → IsUtf8 (front ++ text) → IsUtf8 (front ++ take (quoted_len text) text) × IsUtf8 (drop (quoted_len text) text)
quoted_cut n front [] h u = (
  subst (λ k. IsUtf8 (front ++ take k [])) (sym quoted-nil) u,
  subst (λ k. IsUtf8 (drop k [])) (sym quoted-nil) IsUtf8-nil,
)
quoted_cut zero front (b ∷ more) h u = absurd (omega arith)
quoted_cut (suc n) front (b ∷ more) h u =
    let on : (k : ℕ) → quoted_len (b ∷ more) ≡ k → IsUtf8 (front ++ take k (b ∷ more)) × IsUtf8 (drop k (b ∷ more)) → IsUtf8 (front ++ take (quoted_len (b ∷ more)) (b ∷ more)) × IsUtf8 (drop (quoted_len (b ∷ more)) (b ∷ more)) =
    λ k e both. subst (λ j. IsUtf8 (front ++ take j (b ∷ more)) × IsUtf8 (drop j (b ∷ more))) (sym e) both in
    elim (b == 34) as (λ v. (b == 34) ≡ v → IsUtf8 (front ++ take (quoted_len (b ∷ more)) (b ∷ more)) × IsUtf8 (drop (quoted_len (b ∷ more)) (b ∷ more))) [
      | true ↦ λ e.
          let sign : b ≡ 34 = eqb-true b 34 e in
          let parts = split_ascii front more b (omega arith) u in
          on 1 (ap (λ x. quoted_len (x ∷ more)) sign ∙ quoted-close more) (IsUtf8-append front (b ∷ []) parts.0 (one_utf8 b (omega arith)), parts.1)
      | false ↦ λ quote. elim (b == 92) as (λ v. (b == 92) ≡ v → IsUtf8 (front ++ take (quoted_len (b ∷ more)) (b ∷ more)) × IsUtf8 (drop (quoted_len (b ∷ more)) (b ∷ more))) [
        | true ↦ λ e. pair_cut n (λ f t l v. quoted_cut n f t l v) front more b h (eqb-true b 92 e) u
        | false ↦ λ pair.
            let one : 1 + quoted_len more ≡ suc (quoted_len more) = omega arith in
            let rest = quoted_cut n (front ++ b ∷ []) more (omega arith) (subst IsUtf8 (sym (append_assoc front (b ∷ []) more)) u) in
            on (suc (quoted_len more)) (quoted-byte b more quote pair ∙ one) (subst IsUtf8 (append_assoc front (b ∷ []) (take (quoted_len more) more)) rest.0, rest.1)
      ] refl
    ] refl

-- what is up to the end of a quoted string is text
pub front_utf8 : (text : List ℕ) → IsUtf8 text → IsUtf8 (take (quoted_len text) text)
front_utf8 text u = (quoted_cut (length text) [] text (omega arith) u).0

-- and so is what comes after it
back_utf8 : (text : List ℕ) → IsUtf8 text → IsUtf8 (drop (quoted_len text) text)
back_utf8 text u = (quoted_cut (length text) [] text (omega arith) u).1

-- ---- values
pub run_utf8 : (text : List ℕ) → IsUtf8 text → IsUtf8 (before_first ends_value text)
run_utf8 text u = before_utf8 ends_value value_end_small text u

after_value_utf8 : (text : List ℕ) → IsUtf8 text → IsUtf8 (after_value text)
after_value_utf8 [] u = u
after_value_utf8 (b ∷ more) u =
    elim (b == 34) as (λ v. (b == 34) ≡ v → IsUtf8 (cond v (after_quoted more) (b ∷ more))) [
      | true ↦ λ e. let sign : b ≡ 34 = eqb-true b 34 e in back_utf8 more (tail_utf8 b more (omega arith) u)
      | false ↦ λ e. u
    ] refl

pub after_name_utf8 : (text : List ℕ) → IsUtf8 text → IsUtf8 (after_name text)
after_name_utf8 [] u = u
after_name_utf8 (b ∷ more) u =
    elim (b == 61) as (λ v. (b == 61) ≡ v → IsUtf8 (cond v (after_value (trimmed_start more)) (b ∷ more))) [
      | true ↦ λ e. let sign : b ≡ 61 = eqb-true b 61 e in after_value_utf8 (trimmed_start more) (space_utf8 more (tail_utf8 b more (omega arith) u))
      | false ↦ λ e. u
    ] refl

-- what comes after a parameter of a text is text
pub param_utf8 : (text : List ℕ) → IsUtf8 text → IsUtf8 (after_param text)
param_utf8 text u = semicolon_utf8 (after_name (drop (position_or_len ends_name text) text)) (after_name_utf8 (drop (position_or_len ends_name text) text) (rest_utf8 text u))

-- and so is what comes after its sign and white space
pub sign_utf8 : (text : List ℕ) → begins_with 61 text ≡ true → IsUtf8 text → IsUtf8 (trimmed_start (take (length text - 1) (drop 1 text)))
sign_utf8 [] e u = absurd (cc)
sign_utf8 (b ∷ more) e u =
    let sign : b ≡ 61 = eqb-true b 61 e in
    let all : take (length (b ∷ more) - 1) more ≡ more = take_all (length (b ∷ more) - 1) more (omega arith) in
    subst (λ x. IsUtf8 (trimmed_start x)) (sym all) (space_utf8 more (tail_utf8 b more (omega arith) u))

-- and what comes after the `"` of a quoted string
pub quote_utf8 : (text : List ℕ) → begins_with 34 text ≡ true → IsUtf8 text → IsUtf8 (take (length text - 1) (drop 1 text))
quote_utf8 [] e u = absurd (cc)
quote_utf8 (b ∷ more) e u =
    let sign : b ≡ 34 = eqb-true b 34 e in
    let all : take (length (b ∷ more) - 1) more ≡ more = take_all (length (b ∷ more) - 1) more (omega arith) in
    subst IsUtf8 (sym all) (tail_utf8 b more (omega arith) u)
