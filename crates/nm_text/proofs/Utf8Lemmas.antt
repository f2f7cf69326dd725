-- Text stays text where ASCII characters are taken out of it, or where it is cut at one.
-- For the proofs of `lowercase` and `without_white_space`.
use Rattle.std.proofs.Common.{◌≡◌, ℕ, ◌+◌, ◌<◌, Bool, true, false, cond, not, List, [], ◌∷◌, ◌++◌, map, ltb, refl, sym, ap, subst, ◌∙◌, arith, filter, append_assoc}
use Rattle.std.specs.Prelude.{IsUtf8}
use Rattle.std.specs.Char.{to_ascii_lowercase}
use Rattle.std.proofs.lemmas.Str.{IsUtf8-append}
use Rattle.std.proofs.lemmas.Str.{IsUtf8-from_ascii}
use Rattle.std.proofs.lemmas.Str.Ascii.{IsAscii-cons, IsAscii-nil, lowercase_ascii, lowercase_is}
use Rattle.std.proofs.lemmas.Bool.{ltb-false, ltb-true, not-false}
use Rattle.std.proofs.lemmas.Bool.Decides.{nat_tests}
use Rattle.nm_base.specs.Bounds.{is_white_space}
use Rattle.nm_text.specs.WhiteSpace.{without_white_space}
use Rattle.nm_text.specs.Utf8Laws.{drop_ascii, split_ascii}

filter_after : (p : ℕ → Bool) → ((b : ℕ) → p b ≡ false → b < 128) → (front bs : List ℕ) → IsUtf8 (front ++ bs) → IsUtf8 (front ++ filter p bs)
filter_after p ascii front [] u = u
filter_after p ascii front (b ∷ bs) u =
    elim (p b) as (λ v. p b ≡ v → IsUtf8 (front ++ cond v (b ∷ filter p bs) (filter p bs))) [
      | true ↦ λ e. subst IsUtf8 (append_assoc front (b ∷ []) (filter p bs)) (filter_after p ascii (front ++ b ∷ []) bs (subst IsUtf8 (sym (append_assoc front (b ∷ []) bs)) u))
      | false ↦ λ e. filter_after p ascii front bs (drop_ascii front bs b (ascii b e) u)
    ] refl

-- a filter that takes out ASCII characters alone
IsUtf8-filter : (p : ℕ → Bool) (bs : List ℕ) → ((b : ℕ) → p b ≡ false → b < 128) → IsUtf8 bs → IsUtf8 (filter p bs)
IsUtf8-filter p bs ascii u = filter_after p ascii [] bs u

white_space_is_ascii : (b : ℕ) → is_white_space b ≡ true → b < 128
white_space_is_ascii b e = grind (arith, nat_tests)

pub without_white_space_utf8 : (bs : List ℕ) → IsUtf8 bs → IsUtf8 (without_white_space bs)
without_white_space_utf8 bs u = IsUtf8-filter (λ b. not (is_white_space b)) bs (λ b e. white_space_is_ascii b (not-false (is_white_space b) e)) u

-- letters in lower case: only ASCII letters change, and into ASCII letters
lower_after : (front text : List ℕ) → IsUtf8 (front ++ text) → IsUtf8 (front ++ map to_ascii_lowercase text)
lower_after front [] u = u
lower_after front (b ∷ text) u =
    let c : ℕ = to_ascii_lowercase b in
    elim (ltb b 128) as (λ v. ltb b 128 ≡ v → IsUtf8 (front ++ c ∷ map to_ascii_lowercase text)) [
      | true ↦ λ h.
          let small = ltb-true b 128 h in
          let parts = split_ascii front text b small u in
          let one : IsUtf8 (c ∷ []) = IsUtf8-from_ascii (c ∷ []) (IsAscii-cons c [] (lowercase_ascii b small) IsAscii-nil) in
          let changed : IsUtf8 ((front ++ c ∷ []) ++ text) = IsUtf8-append (front ++ c ∷ []) text (IsUtf8-append front (c ∷ []) parts.0 one) parts.1 in
          subst IsUtf8 (append_assoc front (c ∷ []) (map to_ascii_lowercase text)) (lower_after (front ++ c ∷ []) text changed)
      | false ↦ λ h.
          let large = ltb-false b 128 h in
          let same : c ≡ b = (lowercase_is b).2 (omega arith) in
          let kept : IsUtf8 ((front ++ c ∷ []) ++ text) = subst IsUtf8 (ap (λ x. front ++ x ∷ text) (sym same) ∙ sym (append_assoc front (c ∷ []) text)) u in
          subst IsUtf8 (append_assoc front (c ∷ []) (map to_ascii_lowercase text)) (lower_after (front ++ c ∷ []) text kept)
    ] refl

pub lower_utf8 : (text : List ℕ) → IsUtf8 text → IsUtf8 (map to_ascii_lowercase text)
lower_utf8 text u = lower_after [] text u
