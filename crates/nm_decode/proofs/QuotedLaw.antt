-- Quoted-printable reads back. For the proof of `quoted_printable_reads_back`.
use Rattle.std.proofs.Common.{◌≡◌, ℕ, suc, ◌+◌, ◌-◌, ◌*◌, ◌/◌, ◌%◌, ◌<◌, Bool, true, false, ◌&&◌, List, [], ◌∷◌, ◌++◌, take, length, get_or, refl, sym, ap, ◌∙◌, cond, eqb, arith, append_assoc}
use Rattle.std.specs.List.{flat_map, onto_first, suffix_len}
use Rattle.std.proofs.lemmas.List.{length-append, get_or_at, take_at}
use Rattle.std.proofs.lemmas.List.Sums.{suffix_len_is}
use Rattle.std.proofs.lemmas.Bool.Decides.{nat_tests}
use Rattle.nm_base.specs.Bounds.{is_white_space}
use Rattle.nm_text.specs.Lines.{lines_of}
use Rattle.nm_text.specs.WhiteSpace.{trimmed_end}
use Rattle.nm_decode.specs.Bytes.{hex_byte, hex_value, is_hex}
use Rattle.nm_decode.specs.Laws.{IsUnencodedTest, hex_digit, quoted_byte, quoted_line}
use Rattle.nm_text.specs.Cuts.{ends_with}
use Rattle.nm_decode.specs.QuotedPrintable.{line_bytes, quoted_of, unescaped}
use Rattle.nm_decode.proofs.Escapes.{unescaped-plain}

-- hex digits
pub digit-hex : (n : ℕ) → n < 16 → is_hex (hex_digit n) ≡ true
digit-hex n h = grind (arith, nat_tests)

digit-value : (n : ℕ) → n < 16 → hex_value (hex_digit n) ≡ n
digit-value n h = grind (arith, nat_tests)

digit-white : (n : ℕ) → n < 16 → eqb (hex_digit n) 10 ≡ false
digit-white n h = grind (arith, nat_tests)

byte-back : (b : ℕ) → b < 256 → hex_byte (hex_digit (b / 16)) (hex_digit (b % 16)) ≡ b
byte-back b h =
    let x : b / 16 < 16 = omega arith in
    let y : b % 16 < 16 = omega arith in
    ap (λ i. i * 16 + hex_value (hex_digit (b % 16))) (digit-value (b / 16) x) ∙ ap (λ i. b / 16 * 16 + i) (digit-value (b % 16) y) ∙ omega arith

escaped-byte : (h l b : ℕ) (rest bytes : List ℕ) → is_hex h ≡ true → is_hex l ≡ true → hex_byte h l ≡ b → unescaped rest ≡ bytes → unescaped (61 ∷ h ∷ l ∷ rest) ≡ b ∷ bytes
escaped-byte h l b rest bytes p q e f =
    ap (λ t. cond (t && is_hex l) (hex_byte h l ∷ unescaped rest) (61 ∷ unescaped (h ∷ l ∷ rest))) p
    ∙ ap (λ t. cond t (hex_byte h l ∷ unescaped rest) (61 ∷ unescaped (h ∷ l ∷ rest))) q
    ∙ ap (λ x. x ∷ unescaped rest) e ∙ ap (λ xs. b ∷ xs) f

back-step : (plain : ℕ → Bool) (b : ℕ) (rest bytes : List ℕ) (t : Bool) → IsUnencodedTest plain → plain b ≡ t → b < 256 → unescaped rest ≡ bytes → unescaped (quoted_byte plain b ++ rest) ≡ b ∷ bytes
back-step plain b rest bytes true k e h f =
    let p : eqb b 61 ≡ false = grind (arith, nat_tests, (k b e).0) in
    rw e (unescaped-plain b rest p ∙ ap (λ xs. b ∷ xs) f)
back-step plain b rest bytes false k e h f =
    let x : b / 16 < 16 = omega arith in
    let y : b % 16 < 16 = omega arith in
    rw e (escaped-byte (hex_digit (b / 16)) (hex_digit (b % 16)) b rest bytes (digit-hex (b / 16) x) (digit-hex (b % 16) y) (byte-back b h) f)

pub unescaped-back : (plain : ℕ → Bool) (bytes : List ℕ) → IsUnencodedTest plain → ((i : ℕ) → get_or bytes i 0 < 256) → unescaped (quoted_line plain bytes) ≡ bytes
unescaped-back plain [] k h = refl
unescaped-back plain (b ∷ bytes) k h = back-step plain b (quoted_line plain bytes) bytes (plain b) k refl (h 0) (unescaped-back plain bytes k (λ i. h (suc i)))

-- no line ends among the bytes
abbrev OneLine : List ℕ → Type 0
OneLine [] = Unit {0}
OneLine (b ∷ bytes) = (eqb b 10 ≡ false) × OneLine bytes

line-step : (plain : ℕ → Bool) (b : ℕ) (rest : List ℕ) (t : Bool) → IsUnencodedTest plain → plain b ≡ t → b < 256 → OneLine rest → OneLine (quoted_byte plain b ++ rest)
line-step plain b rest true k e h f =
    let p : eqb b 10 ≡ false = grind (arith, nat_tests, (k b e).1) in
    rw e (p, f)
line-step plain b rest false k e h f =
    let x : b / 16 < 16 = omega arith in
    let y : b % 16 < 16 = omega arith in
    rw e (refl, (digit-white (b / 16) x, (digit-white (b % 16) y, f)))

one-line : (plain : ℕ → Bool) (bytes : List ℕ) → IsUnencodedTest plain → ((i : ℕ) → get_or bytes i 0 < 256) → OneLine (quoted_line plain bytes)
one-line plain [] k h = tt
one-line plain (b ∷ bytes) k h = line-step plain b (quoted_line plain bytes) (plain b) k refl (h 0) (one-line plain bytes k (λ i. h (suc i)))

lines-step : (b : ℕ) (line rest : List ℕ) (more : List (List ℕ)) → eqb b 10 ≡ false → lines_of rest ≡ line ∷ more → lines_of (b ∷ rest) ≡ (b ∷ line) ∷ more
lines-step b line rest more e f = rw e (ap (onto_first b) f)

line-ended : (xs rest : List ℕ) → OneLine xs → lines_of (xs ++ 10 ∷ rest) ≡ (xs ++ 10 ∷ []) ∷ lines_of rest
line-ended [] rest h = refl
line-ended (b ∷ xs) rest h = lines-step b (xs ++ 10 ∷ []) (xs ++ 10 ∷ rest) (lines_of rest) h.0 (line-ended xs rest h.1)

push-equals : (xs : List ℕ) → OneLine xs → OneLine (xs ++ 61 ∷ [])
push-equals [] h = (refl, tt)
push-equals (b ∷ xs) h = (h.0, push-equals xs h.1)

-- a soft break at the end of a line
joined : (xs rest : List ℕ) → xs ++ 61 ∷ 10 ∷ rest ≡ (xs ++ 61 ∷ []) ++ 10 ∷ rest
joined xs rest = sym (append_assoc xs (61 ∷ []) (10 ∷ rest))

length-pushed : (xs : List ℕ) → length (xs ++ 61 ∷ []) ≡ length xs + 1
length-pushed xs = length-append xs (61 ∷ [])

soft-suffix : (xs : List ℕ) → suffix_len is_white_space (xs ++ 61 ∷ 10 ∷ []) ≡ length (xs ++ 61 ∷ 10 ∷ []) - (length xs + 1)
soft-suffix xs =
    let line = xs ++ 61 ∷ 10 ∷ [] in
    let len : length line ≡ length xs + 2 = length-append xs (61 ∷ 10 ∷ []) in
    let e : get_or line (length xs) 0 ≡ 61 = get_or_at xs 61 (10 ∷ []) 0 (length xs) refl in
    let f : get_or line (length xs + 1) 0 ≡ 10 = ap (λ ys. get_or ys (length xs + 1) 0) (joined xs []) ∙ get_or_at (xs ++ 61 ∷ []) 10 [] 0 (length xs + 1) (length-pushed xs) in
    suffix_len_is is_white_space line (length xs + 1) 0 (omega arith)
    (λ k l m. let q : k ≡ length xs + 1 = omega arith in ap (λ i. is_white_space (get_or line i 0)) q ∙ ap is_white_space f)
    (λ _. let q : length xs + 1 - 1 ≡ length xs = omega arith in ap (λ i. is_white_space (get_or line i 0)) q ∙ ap is_white_space e)

soft-trimmed : (xs : List ℕ) → trimmed_end (xs ++ 61 ∷ 10 ∷ []) ≡ xs ++ 61 ∷ []
soft-trimmed xs =
    let line = xs ++ 61 ∷ 10 ∷ [] in
    let len : length line ≡ length xs + 2 = length-append xs (61 ∷ 10 ∷ []) in
    let n : length line - (length line - (length xs + 1)) ≡ length xs + 1 = omega arith in
    ap (λ i. take (length line - i) line) (soft-suffix xs) ∙ ap (λ i. take i line) n
    ∙ ap (take (length xs + 1)) (joined xs []) ∙ take_at (xs ++ 61 ∷ []) (10 ∷ []) (length xs + 1) (length-pushed xs)

ends-pushed : (xs : List ℕ) → ends_with 61 (xs ++ 61 ∷ []) ≡ true
ends-pushed xs =
    let n : length (xs ++ 61 ∷ []) - 1 ≡ length xs = omega (arith, length-pushed xs) in
    let e : get_or (xs ++ 61 ∷ []) (length (xs ++ 61 ∷ []) - 1) 0 ≡ 61 = ap (λ i. get_or (xs ++ 61 ∷ []) i 0) n ∙ get_or_at xs 61 [] 0 (length xs) refl in
    grind (arith, nat_tests, length-pushed xs)

soft-content : (xs tail : List ℕ) → cond (ends_with 61 (xs ++ 61 ∷ [])) (unescaped (take (length (xs ++ 61 ∷ []) - 1) (xs ++ 61 ∷ []))) tail ≡ unescaped xs
soft-content xs tail =
    let n : length (xs ++ 61 ∷ []) - 1 ≡ length xs = omega (arith, length-pushed xs) in
    ap (λ t. cond t (unescaped (take (length (xs ++ 61 ∷ []) - 1) (xs ++ 61 ∷ []))) tail) (ends-pushed xs)
    ∙ ap (λ i. unescaped (take i (xs ++ 61 ∷ []))) n ∙ ap unescaped (take_at xs (61 ∷ []) (length xs) refl)

soft-line : (xs : List ℕ) → line_bytes (xs ++ 61 ∷ 10 ∷ []) ≡ unescaped xs
soft-line xs =
    let line = xs ++ 61 ∷ 10 ∷ [] in
    let tail = cond (ends_with 10 line) (10 ∷ []) [] in
    ap (λ content. cond (ends_with 61 content) (unescaped (take (length content - 1) content)) (unescaped content ++ tail)) (soft-trimmed xs)
    ∙ soft-content xs (unescaped (xs ++ 61 ∷ []) ++ tail)

pub soft_break : (plain : ℕ → Bool) (first rest : List ℕ) → IsUnencodedTest plain → ((i : ℕ) → get_or first i 0 < 256)
    → quoted_of (quoted_line plain first ++ 61 ∷ 10 ∷ rest) ≡ first ++ quoted_of rest
soft_break plain first rest k h =
    let q = quoted_line plain first in
    ap quoted_of (joined q rest)
    ∙ ap (flat_map line_bytes) (line-ended (q ++ 61 ∷ []) rest (push-equals q (one-line plain first k h)))
    ∙ ap (λ line. line_bytes line ++ quoted_of rest) (sym (joined q []))
    ∙ ap (λ xs. xs ++ quoted_of rest) (soft-line q ∙ unescaped-back plain first k h)
