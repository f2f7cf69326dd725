-- What is shown of a text in UTF-8 is in UTF-8. For the proofs of `bare_subject` and `shown`.
use Rattle.std.proofs.Common.{◌≡◌, ◌==◌, ◌||◌, ℕ, zero, suc, ◌<◌, ◌≤◌, Bool, true, false, nat_lt, cond, if◌then◌else◌, List, [], ◌∷◌, length, take, drop, map, get_or, codes, IsUtf8, inl, inr, refl, sym, ap, ap₂, ◌∙◌, subst, arith, append-nil, eqb-true, le-ltb, ne_eqb, lit<, one-add, ◌+◌}
use Rattle.std.proofs.lemmas.Bool.{and_parts, cases_lt, or_cases}
use Rattle.std.proofs.lemmas.List.{map-append}
use Rattle.std.proofs.lemmas.Slice.Eq.{bytes_eq-Decides}
use Rattle.std.proofs.lemmas.Str.{encode_ascii, inside_one, IsCharBoundary-after_ascii, IsUtf8-append, IsUtf8-drop, IsUtf8-encode, IsUtf8-nil}
use Rattle.std.specs.Char.{to_ascii_lowercase}
use Rattle.std.specs.List.{prefix_len, AllByRecursion}
use lib.Utf8.{encode, encodes, low_scalar, scalar, scalars}
use Rattle.nm_model_answer.specs.Summary.{after_reply, bare_subject, is_reply, shown, shown_byte, without_replies}
use Rattle.nm_base.specs.Bounds.{is_white_space}
use Rattle.nm_text.specs.WhiteSpace.{trimmed_start}

-- ---- control characters as spaces

high_same : (byte : ℕ) → 128 ≤ byte → shown_byte byte ≡ byte
high_same byte high = ap (λ test. if test then 32 else byte) (ap₂ (λ a b. a || b) (le-ltb byte 32 (omega (arith, high))) (ne_eqb byte 127 (λ same. omega (arith, high, same))))

shown_low : (byte : ℕ) → byte < 128 → shown_byte byte < 128
shown_low byte low = by (nat_lt byte 32 || byte == 127) where
  by : (test : Bool) → (if test then 32 else byte) < 128
  by true = omega arith
  by false = low

all_high : (xs : List ℕ) → ((k : ℕ) → k < length xs → 128 ≤ get_or xs k 0) → shown xs ≡ xs
all_high [] high = refl
all_high (x ∷ xs) high = ap₂ (λ byte bytes. byte ∷ bytes) (high_same x (high 0 (omega arith))) (all_high xs (λ k below. high (suc k) (omega arith)))

one_char : (c : ℕ) → scalar c ≡ true → IsUtf8 (shown (encode c))
one_char c ok = elim (cases_lt c 128) [
  | inl small ↦
      let low = shown_low c small in
      subst IsUtf8 (encode_ascii (shown_byte c) low ∙ sym (ap shown (encode_ascii c small))) (IsUtf8-encode (shown_byte c) (low_scalar (shown_byte c) (omega (arith, low))))
  | inr big ↦
      let high : (k : ℕ) → k < length (encode c) → 128 ≤ get_or (encode c) k 0 = λ k below. elim (cases_lt (get_or (encode c) k 0) 128) [
        | inl low ↦ absurd (omega (arith, inside_one c [] (encode c) k (sym (append-nil (encode c))) below low))
        | inr h ↦ h
      ] in
      subst IsUtf8 (sym (all_high (encode c) high)) (IsUtf8-encode c ok)
]

all_chars : (cs : List ℕ) → scalars cs ≡ true → IsUtf8 (shown (encodes cs))
all_chars [] e = IsUtf8-nil
all_chars (c ∷ cs) e =
    let parts = and_parts (scalar c) (scalars cs) e in
    subst IsUtf8 (sym (map-append shown_byte (encode c) (encodes cs))) (IsUtf8-append (shown (encode c)) (shown (encodes cs)) (one_char c parts.0) (all_chars cs parts.1))

pub shown_utf8 : (text : List ℕ) → IsUtf8 text → IsUtf8 (shown text)
shown_utf8 text u = subst (λ bytes. IsUtf8 (shown bytes)) u.1.1 (all_chars u.0 u.1.0)

-- ---- after marks

after_low : (x : ℕ) (xs : List ℕ) → x < 128 → IsUtf8 (x ∷ xs) → IsUtf8 xs
after_low x xs low u = IsUtf8-drop (x ∷ xs) 1 u (IsCharBoundary-after_ascii (x ∷ xs) 0 u (omega arith) low)

white_low : (b : ℕ) → is_white_space b ≡ true → b < 128
white_low b is = elim (or_cases (b == 32 || b == 9 || b == 13) (b == 10) is) [
  | inl more ↦ elim (or_cases (b == 32 || b == 9) (b == 13) more) [
    | inl most ↦ elim (or_cases (b == 32) (b == 9) most) [ inl e ↦ omega (arith, eqb-true b 32 e) | inr e ↦ omega (arith, eqb-true b 9 e) ]
    | inr e ↦ omega (arith, eqb-true b 13 e)
  ]
  | inr e ↦ omega (arith, eqb-true b 10 e)
]

-- the rest after the white space at the front
trimmed_utf8 : (text : List ℕ) → IsUtf8 text → IsUtf8 (trimmed_start text)
trimmed_utf8 [] u = u
trimmed_utf8 (x ∷ xs) u = by (is_white_space x) (λ is. trimmed_utf8 xs (after_low x xs (white_low x is) u)) refl where
  by : (white : Bool) → (is_white_space x ≡ true → IsUtf8 (trimmed_start xs)) → is_white_space x ≡ white → IsUtf8 (drop (cond white (1 + prefix_len is_white_space xs) 0) (x ∷ xs))
  by true rest is = subst (λ n. IsUtf8 (drop n (x ∷ xs))) (sym (one-add (prefix_len is_white_space xs))) (rest is)
  by false rest is = u

-- a mark is of ASCII
lower_high : (c : ℕ) → 128 ≤ c → to_ascii_lowercase c ≡ c
lower_high c high = ap₂ (λ (a b : Bool). cond a c (cond b (c + 32) c)) (le-ltb c 65 (omega (arith, high))) (le-ltb c 91 (omega (arith, high)))

letter_low : (c k : ℕ) → to_ascii_lowercase c ≡ k → k < 128 → c < 128
letter_low c k is low = elim (cases_lt c 128) [ inl small ↦ small | inr big ↦ absurd (omega (arith, big, lower_high c big, is, low)) ]

behind_low : (text : List ℕ) (marks : List ℕ) → AllByRecursion (λ k. k < 128) marks → map to_ascii_lowercase (take (length marks) text) ≡ marks → IsUtf8 text → IsUtf8 (drop (length marks) text)
behind_low text [] low same u = u
behind_low [] (k ∷ marks) low same u = absurd (cc)
behind_low (x ∷ xs) (k ∷ marks) low same u =
    behind_low xs marks low.1 (ap (drop 1) same) (after_low x xs (letter_low x k (ap (λ bytes. get_or bytes 0 0) same) low.0) u)

reply_utf8 : (text : List ℕ) → is_reply text ≡ true → IsUtf8 text → IsUtf8 (after_reply text)
reply_utf8 text is u =
    let front = take 3 (trimmed_start text) in
    let same = (bytes_eq-Decides (map to_ascii_lowercase front) (map to_ascii_lowercase (codes "re:"))).0 is in
    trimmed_utf8 (drop 3 (trimmed_start text)) (behind_low (trimmed_start text) (codes "re:") (lit< tt, (lit< tt, (lit< tt, tt))) same (trimmed_utf8 text u))

without_utf8 : (n : ℕ) (text : List ℕ) → IsUtf8 text → IsUtf8 (without_replies n text)
unfolding without_replies
without_utf8 zero text u = u
without_utf8 (suc n) text u = by (is_reply text) (λ is. without_utf8 n (after_reply text) (reply_utf8 text is u)) refl where
  by : (reply : Bool) → (is_reply text ≡ true → IsUtf8 (without_replies n (after_reply text))) → is_reply text ≡ reply → IsUtf8 (if reply then without_replies n (after_reply text) else text)
  by true rest is = rest is
  by false rest is = u

pub bare_utf8 : (text : List ℕ) → IsUtf8 text → IsUtf8 (bare_subject text)
bare_utf8 text u = without_utf8 (length text) text u
