-- A text cut at an ASCII character, and one that is taken out. For proofs alone: those of `nm_header`, `nm_mime`, `nm_query` and `nm_dump` too.
use Rattle.std.proofs.Common.{◌≡◌, ℕ, ◌+◌, ◌<◌, List, ◌∷◌, ◌++◌, length, take, drop, get_or, refl, sym, ap, subst, ◌∙◌, arith, length-append}
use Rattle.std.specs.Prelude.{IsUtf8}
use Rattle.std.proofs.lemmas.List.{take_at, drop_at, drop-drop, get_or_at}
use Rattle.std.proofs.lemmas.Str.{IsUtf8-append, IsUtf8-take, IsUtf8-drop, IsCharBoundary-before_ascii, IsCharBoundary-after_ascii}

-- what comes before an ASCII character is text, and what comes after it
pub split_ascii : (xs ys : List ℕ) (b : ℕ) → b < 128 → IsUtf8 (xs ++ b ∷ ys) → IsUtf8 xs × IsUtf8 ys
split_ascii xs ys b small u =
    let at : get_or (xs ++ b ∷ ys) (length xs) 0 ≡ b = get_or_at xs b ys 0 (length xs) refl in
    let low : get_or (xs ++ b ∷ ys) (length xs) 0 < 128 = omega arith in
    let inside : length xs < length (xs ++ b ∷ ys) = simp length-append (omega arith) in
    let front : IsUtf8 (take (length xs) (xs ++ b ∷ ys)) = IsUtf8-take (xs ++ b ∷ ys) (length xs) u (IsCharBoundary-before_ascii (xs ++ b ∷ ys) (length xs) inside low) in
    let back : IsUtf8 (drop (length xs + 1) (xs ++ b ∷ ys)) = IsUtf8-drop (xs ++ b ∷ ys) (length xs + 1) u (IsCharBoundary-after_ascii (xs ++ b ∷ ys) (length xs) u inside low) in
    let rest : drop (length xs + 1) (xs ++ b ∷ ys) ≡ ys = sym (drop-drop 1 (length xs) (xs ++ b ∷ ys)) ∙ ap (drop 1) (drop_at xs (b ∷ ys) (length xs) refl) in
    (subst IsUtf8 (take_at xs (b ∷ ys) (length xs) refl) front, subst IsUtf8 rest back)

-- an ASCII character taken out
pub drop_ascii : (xs ys : List ℕ) (b : ℕ) → b < 128 → IsUtf8 (xs ++ b ∷ ys) → IsUtf8 (xs ++ ys)
drop_ascii xs ys b small u = let parts = split_ascii xs ys b small u in IsUtf8-append xs ys parts.0 parts.1
