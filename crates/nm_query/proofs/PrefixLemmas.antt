-- A text that begins with another one may be cut after it. For the proof of `after`.
use Rattle.std.proofs.Common.{◌≡◌, ℕ, ◌≤◌, Bool, true, List, ◌++◌, length, take, drop, refl, sym, ap, subst, ◌∙◌, arith, length-append}
use Rattle.std.specs.Prelude.{IsUtf8}
use Rattle.std.specs.Str.{IsCharBoundary}
use Rattle.std.proofs.lemmas.Bool.Decides.{Decides-eqb}
use Rattle.std.proofs.lemmas.List.{take_at}
use Rattle.std.proofs.lemmas.Slice.Eq.{starts_is}
use Rattle.std.proofs.lemmas.Str.{IsCharBoundary-from_take}
use Rattle.nm_query.specs.Prefixes.{begins}

pub begins-cut : (front text : List ℕ) → IsUtf8 front → IsUtf8 text → begins front text ≡ true → IsCharBoundary text (length front)
begins-cut front text f u h =
    let same : text ≡ front ++ drop (length front) text = (starts_is Decides-eqb text front true (sym h)).0 refl in
    let long : length front ≤ length text = omega (arith, ap length same, length-append front (drop (length front) text)) in
    IsCharBoundary-from_take text (length front) u long (subst IsUtf8 (sym (ap (take (length front)) same ∙ take_at front (drop (length front) text) (length front) refl)) f)

-- a test of the bytes of two texts is one of the texts
pub begins-tested : (front text fronts texts : List ℕ) (result : Bool) → result ≡ begins fronts texts → fronts ≡ front → texts ≡ text → result ≡ true → begins front text ≡ true
begins-tested front text fronts texts result test same_front same_text h =
    sym (ap (λ x. begins x texts) same_front ∙ ap (begins front) same_text) ∙ (sym test ∙ h)
