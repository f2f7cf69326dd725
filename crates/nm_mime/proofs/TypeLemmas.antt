-- The characters of a type are ASCII, and so text. For the proof of `read`.
use Rattle.std.proofs.Common.{◌≡◌, ℕ, suc, ◌+◌, ◌≤◌, Bool, true, false, cond, not, ◌&&◌, ◌||◌, ◌==◌, List, [], ◌∷◌, map, take, refl, sym, ap, subst, ◌∙◌, leb, arith}
use Rattle.std.specs.Prelude.{IsUtf8}
use Rattle.std.specs.Char.{to_ascii_lowercase}
use Rattle.std.specs.List.{before_first, position_or_len}
use Rattle.std.specs.Str.{IsAscii}
use Rattle.std.proofs.lemmas.Bool.{leb-true}
use Rattle.std.proofs.lemmas.Str.{IsUtf8-from_ascii}
use Rattle.std.proofs.lemmas.Str.Ascii.{IsAscii-cons, IsAscii-map, IsAscii-nil, lowercase_ascii}
use Rattle.nm_text.specs.WhiteSpace.{trimmed_start}
use Rattle.nm_mime.specs.Types.{ends_type, run_of}

small_of : (a b c : Bool) → (not (a && b) || c) ≡ false → b ≡ true
small_of true true c e = refl
small_of true false c e = absurd (cc)
small_of false b c e = absurd (cc)

pub type_ascii : (text : List ℕ) → IsAscii (before_first ends_type text)
type_ascii [] = IsAscii-nil
type_ascii (b ∷ text) =
    let k : ℕ = position_or_len ends_type text in
    let one : 1 + k ≡ suc k = omega arith in
    elim (ends_type b) as (λ v. ends_type b ≡ v → IsAscii (take (cond (not v) (1 + k) 0) (b ∷ text))) [
      | true ↦ λ e. IsAscii-nil
      | false ↦ λ e.
          let most : b ≤ 126 = leb-true b 126 (small_of (leb 33 b) (leb b 126) (b == 59) e) in
          subst (λ n. IsAscii (take n (b ∷ text))) (sym one) (IsAscii-cons b (before_first ends_type text) (omega arith) (type_ascii text))
    ] refl

pub kind_utf8 : (text run kind : List ℕ) → run ≡ run_of text → kind ≡ map to_ascii_lowercase run → IsUtf8 kind
kind_utf8 text run kind r k =
    subst IsUtf8 (sym (k ∙ ap (map to_ascii_lowercase) r)) (IsUtf8-from_ascii _ (IsAscii-map to_ascii_lowercase (run_of text) lowercase_ascii (type_ascii (trimmed_start text))))
